-- Sets made and removed.
use Rattle.std.proofs.Common.{◌≡◌, ℕ, ◌+◌, Bool, true, false, cond, ◌&&◌, eqb, ltb, ◌⊎◌, List, get_or, is_some, Some, None, Option, sym, refl, ap, ◌∙◌, ap₂, inl, inr, arith}
use mathlib.Core.Path.{fun_ext}
use Rattle.std.proofs.lemmas.Bool.Decides.{nat_tests, eqb_tells}
use Rattle.std.specs.Map.{update}
use Rattle.std.specs.List.{slice_get}
use Rattle.std.specs.Option.{option_map, option_flatten}
use Rattle.conversion.specs.declared.bindings.DeviceBinding.{DeviceBinding}
use Rattle.device.specs.declared.records.Descriptor as kept
use Rattle.device.specs.Stored.{described}
use Rattle.device.specs.Meaning.{LiveSet}
use Rattle.device.specs.Calls.{outside}
use Rattle.segments.specs.Places.{changed_at}
use Rattle.segments.specs.Segments.{length_at}
use Rattle.rows.specs.declared.slots.Slot.{Slot}
use Rattle.rows.specs.declared.table.Table.{Table}
use Rattle.rows.specs.declared.bindings.Bindings.{Bindings}
use Rattle.rows.specs.declared.holdings.Holdings.{Holdings}
use Rattle.rows.specs.declared.holdings.SetRow.{SetRow}
use Rattle.rows.specs.declared.pools.PoolRow.{PoolRow}
use Rattle.rows.specs.Pools.{live_pool}
use Rattle.rows.specs.Bindings.{start_of}
use Rattle.rows.specs.Lists.{list_of}
use Rattle.rows.specs.Tables.{slot, slot_at, row_of}
use Rattle.rows.specs.Holdings.{HeldSet, is_of_pool, layout_in, layouts_of, pool_in, pools_of, bindings_at, set_at, held_in, held_total, found_by, no_bindings}
use Rattle.rows.proofs.Meant.{found_clear, found_kept, found_used}
use Rattle.counting.specs.declared.counting.CountingDevice.{CountingDevice}
use Rattle.counting.specs.Steps.{in_pool_at, SameRest, Removed, AllRemoved}
use Rattle.counting.specs.Counting.{stored, sets_of, Records, elements, written_in, live_of, live_in}
use Rattle.rows.proofs.Truths.{eqb_turned}
use Rattle.counting.proofs.Made.{slot_here, slot_apart}

-- a record cleared, or not, and what it says
pub none_described : (b : Bool) (o : Option kept.Descriptor) → option_map described (cond b None o) ≡ cond b None (option_map described o)
none_described true o = refl
none_described false o = refl

-- the descriptors of a set in a row, by the records of that row
written_same : (r s : Records) (i : ℕ) (bs : List DeviceBinding) → ((m : ℕ) → stored s i m ≡ stored r i m) → written_in s i bs ≡ written_in r i bs
written_same r s i bs e = fun_ext (λ b. fun_ext (λ j. ap (λ x. cond (ltb j (elements (slice_get bs b))) x None) (e (start_of bs b + j))))

pub live_same : (f : ℕ → Option HeldSet) (r s : Records) (i : ℕ) → ((m : ℕ) → stored s i m ≡ stored r i m) → live_in f s i ≡ live_in f r i
live_same f r s i e = by (f i)
  where
    by : (o : Option HeldSet) → option_map (live_of s i) o ≡ option_map (live_of r i) o
    by None = refl
    by (Some x) = ap {B = Option LiveSet} (λ w. Some (record { pool = x.pool; bindings = x.bindings; written = w })) (written_same r s i x.bindings e)

-- a row of sets changed
pub held_here : (bindings : List Bindings) (t t' : Table SetRow 1024) (i : ℕ) (o : Option (Slot SetRow)) → slot_at t' ≡ update eqb (slot_at t) i o → held_in bindings t' i ≡ option_map (λ s. record { pool = s.value.pool; bindings = list_of (get_or bindings s.value.layout no_bindings) }) o
held_here bindings t t' i o rows = ap (option_map (λ s. record { pool = s.value.pool; bindings = list_of (get_or bindings s.value.layout no_bindings) })) (slot_here (slot_at t) (slot_at t') i o rows)

pub held_apart : (bindings : List Bindings) (t t' : Table SetRow 1024) (i k : ℕ) (o : Option (Slot SetRow)) → slot_at t' ≡ update eqb (slot_at t) i o → (k ≡ i → ⊥) → held_in bindings t' k ≡ held_in bindings t k
held_apart bindings t t' i k o rows ne = ap (option_map (λ s. record { pool = s.value.pool; bindings = list_of (get_or bindings s.value.layout no_bindings) })) (slot_apart (slot_at t) (slot_at t') i k o rows ne)

-- as many records as descriptors, in every row
pub sized_changed : (bindings : List Bindings) (t t' : Table SetRow 1024) (r s : Records) (i n : ℕ) (o : Option (Slot SetRow))
    → slot_at t' ≡ update eqb (slot_at t) i o → length_at s ≡ changed_at (length_at r) i n
    → n ≡ held_total (option_map (λ s. record { pool = s.value.pool; bindings = list_of (get_or bindings s.value.layout no_bindings) }) o)
    → ((k : ℕ) → length_at r k ≡ held_total (held_in bindings t k)) → (k : ℕ) → length_at s k ≡ held_total (held_in bindings t' k)
sized_changed bindings t t' r s i n o rows lengths here each k = ap (λ f. f k) lengths ∙ by (eqb_tells k i)
  where
    by : ((eqb k i ≡ true) × (k ≡ i)) ⊎ ((eqb k i ≡ false) × (k ≡ i → ⊥)) → changed_at (length_at r) i n k ≡ held_total (held_in bindings t' k)
    by (inl (b, e)) = rw b (here ∙ (sym (ap held_total (held_here bindings t t' i o rows)) ∙ ap (λ q. held_total (held_in bindings t' q)) (sym e)))
    by (inr (b, ne)) = rw b (each k ∙ sym (ap held_total (held_apart bindings t t' i k o rows ne)))

-- one row more of those that a test clears
module _ {Y : Type 0} (none : Y) (f g : ℕ → Y) (b : ℕ → Bool) (row : ℕ) (so_far : (k : ℕ) → f k ≡ cond (ltb k row && b k) none (g k)) where
  further : (k : ℕ) → (k ≡ row → ⊥) → ltb k (row + 1) ≡ ltb k row
  further k ne = grind (arith, nat_tests)

  here : ltb row (row + 1) ≡ true
  here = grind (arith, nat_tests)

  pub row_cleared : (h : ℕ → Y) → ((k : ℕ) → h k ≡ cond (eqb k row) none (f k)) → b row ≡ true → (k : ℕ) → h k ≡ cond (ltb k (row + 1) && b k) none (g k)
  row_cleared h now taken k = now k ∙ by (eqb_tells k row)
    where
      by : ((eqb k row ≡ true) × (k ≡ row)) ⊎ ((eqb k row ≡ false) × (k ≡ row → ⊥)) → cond (eqb k row) none (f k) ≡ cond (ltb k (row + 1) && b k) none (g k)
      by (inl (q, e)) = rw (q, e, here, taken) refl
      by (inr (q, ne)) = rw (q, further k ne) (so_far k)

  pub row_kept : b row ≡ false → (k : ℕ) → f k ≡ cond (ltb k (row + 1) && b k) none (g k)
  row_kept left k = so_far k ∙ by (eqb_tells k row)
    where
      before : ltb row row ≡ false
      before = grind (arith, nat_tests)

      by : ((eqb k row ≡ true) × (k ≡ row)) ⊎ ((eqb k row ≡ false) × (k ≡ row → ⊥)) → cond (ltb k row && b k) none (g k) ≡ cond (ltb k (row + 1) && b k) none (g k)
      by (inl (q, e)) = rw (e, here, before, left) refl
      by (inr (q, ne)) = rw (further k ne) refl

-- the sets of a pool removed from the rows before one
abbrev pub Through : CountingDevice → ℕ → ℕ → CountingDevice → Type 0
Through d p row e =
    SameRest d e × (e.mark ≡ d.mark)
    × ((k : ℕ) → slot_at e.holdings.sets k ≡ cond (ltb k row && in_pool_at d p k) None (slot_at d.holdings.sets k))
    × ((k m : ℕ) → stored e.records k m ≡ cond (ltb k row && in_pool_at d p k) None (stored d.records k m))

module _ (d : CountingDevice) (p row : ℕ) (e : CountingDevice) (so_far : Through d p row e) where
  untouched : slot_at e.holdings.sets row ≡ slot_at d.holdings.sets row
  untouched = let b : ltb row row ≡ false = grind (arith, nat_tests) in so_far.2 row ∙ rw b refl

  pub asked : in_pool_at e p row ≡ in_pool_at d p row
  asked = ap (is_of_pool p) untouched

  pub through_cleared : (f : CountingDevice) → Removed e row f → true ≡ in_pool_at e p row → Through d p (row + 1) f
  through_cleared f gone taken = (
    record {
      layouts = gone.rest.layouts ∙ so_far.0.layouts;
      bindings = gone.rest.bindings ∙ so_far.0.bindings;
      pools = gone.rest.pools ∙ so_far.0.pools;
      last = gone.rest.last ∙ so_far.0.last;
      size = gone.rest.size ∙ so_far.0.size;
    },
    gone.mark ∙ so_far.1,
    row_cleared None (slot_at e.holdings.sets) (slot_at d.holdings.sets) (in_pool_at d p) row so_far.2 (slot_at f.holdings.sets) (λ k. ap (λ s. s k) gone.sets ∙ ap (λ x. cond x None (slot_at e.holdings.sets k)) (eqb_turned row k)) (sym asked ∙ sym taken),
    λ k m. row_cleared None (λ k. stored e.records k m) (λ k. stored d.records k m) (in_pool_at d p) row (λ k. so_far.3 k m) (λ k. stored f.records k m) (λ k. gone.elements k m) (sym asked ∙ sym taken) k,
  )

  pub through_kept : false ≡ in_pool_at e p row → Through d p (row + 1) e
  through_kept left = (
    so_far.0,
    so_far.1,
    row_kept None (slot_at e.holdings.sets) (slot_at d.holdings.sets) (in_pool_at d p) row so_far.2 (sym asked ∙ sym left),
    λ k m. row_kept None (λ k. stored e.records k m) (λ k. stored d.records k m) (in_pool_at d p) row (λ k. so_far.3 k m) (sym asked ∙ sym left) k,
  )

-- a set removed, by its handle
pub freed_sets : (d : CountingDevice) (i h : ℕ) (e : CountingDevice) → row_of d.holdings.sets h ≡ Some i → Removed d i e → sets_of e.holdings e.records ≡ update eqb (sets_of d.holdings d.records) h None
freed_sets d i h e row gone = found_clear d.holdings.sets e.holdings.sets i h (live_in (set_at d.holdings) d.records) (live_in (set_at e.holdings) e.records) row gone.sets others
  where
    others : (r : ℕ) → (r ≡ i → ⊥) → live_in (set_at e.holdings) e.records r ≡ live_in (set_at d.holdings) d.records r
    others r ne =
        let apart : eqb r i ≡ false = grind (arith, nat_tests) in
        ap (λ bs. option_map (live_of e.records r) (held_in bs e.holdings.sets r)) gone.rest.bindings
        ∙ (ap (option_map (live_of e.records r)) (held_apart d.holdings.bindings d.holdings.sets e.holdings.sets i r None gone.sets ne)
        ∙ live_same (set_at d.holdings) d.records e.records r (λ m. gone.elements r m ∙ ap (λ b. cond b None (stored d.records r m)) apart))

-- all sets of a pool removed
pub outside_sets : (d : CountingDevice) (p : ℕ) (e : CountingDevice) → AllRemoved d p e → sets_of e.holdings e.records ≡ (λ h. outside p (sets_of d.holdings d.records h))
outside_sets d p e gone = found_kept d.holdings.sets e.holdings.sets (live_in (set_at e.holdings) e.records) each ∙ fun_ext (λ h. at (row_of d.holdings.sets h))
  where
    held : List Bindings → Option (Slot SetRow) → Option HeldSet
    held bs o = option_map (λ s. record { pool = s.value.pool; bindings = list_of (get_or bs s.value.layout no_bindings) }) o

    is_out : (k : ℕ) (o : Option (Slot SetRow)) → is_of_pool p o ≡ true → None ≡ outside p (option_map (live_of d.records k) (held d.holdings.bindings o))
    is_out k None q = refl
    is_out k (Some s) q = sym (ap (λ b. cond {A = Option LiveSet} b None (Some (live_of d.records k (record { pool = s.value.pool; bindings = list_of (get_or d.holdings.bindings s.value.layout no_bindings) })))) q)

    is_in : (k : ℕ) (o : Option (Slot SetRow)) → is_of_pool p o ≡ false → option_map (live_of d.records k) (held d.holdings.bindings o) ≡ outside p (option_map (live_of d.records k) (held d.holdings.bindings o))
    is_in k None q = refl
    is_in k (Some s) q = sym (ap (λ b. cond {A = Option LiveSet} b None (Some (live_of d.records k (record { pool = s.value.pool; bindings = list_of (get_or d.holdings.bindings s.value.layout no_bindings) })))) q)

    live : (k : ℕ) (b : Bool) → in_pool_at d p k ≡ b → live_in (set_at e.holdings) e.records k ≡ outside p (live_in (set_at d.holdings) d.records k)
    live k true q =
        ap (λ o. option_map (live_of e.records k) (held e.holdings.bindings o)) (gone.sets k ∙ ap (λ b. cond b None (slot_at d.holdings.sets k)) q) ∙ is_out k (slot_at d.holdings.sets k) q
    live k false q =
        ap (λ o. option_map (live_of e.records k) (held e.holdings.bindings o)) (gone.sets k ∙ ap (λ b. cond b None (slot_at d.holdings.sets k)) q)
        ∙ (ap (λ bs. option_map (live_of e.records k) (held bs (slot_at d.holdings.sets k))) gone.rest.bindings
        ∙ (live_same (set_at d.holdings) d.records e.records k (λ m. gone.elements k m ∙ ap (λ b. cond b None (stored d.records k m)) q)
        ∙ is_in k (slot_at d.holdings.sets k) q))

    each : (r : ℕ) → (slot_at e.holdings.sets r ≡ slot_at d.holdings.sets r) ⊎ ((slot_at e.holdings.sets r ≡ None) × (live_in (set_at e.holdings) e.records r ≡ None))
    each r = by (in_pool_at d p r) refl
      where
        by : (b : Bool) → in_pool_at d p r ≡ b → (slot_at e.holdings.sets r ≡ slot_at d.holdings.sets r) ⊎ ((slot_at e.holdings.sets r ≡ None) × (live_in (set_at e.holdings) e.records r ≡ None))
        by true q = let none = gone.sets r ∙ ap (λ b. cond b None (slot_at d.holdings.sets r)) q in inr (none, ap (λ o. option_map (live_of e.records r) (option_map (λ s. record { pool = s.value.pool; bindings = list_of (get_or e.holdings.bindings s.value.layout no_bindings) }) o)) none)
        by false q = inl (gone.sets r ∙ ap (λ b. cond b None (slot_at d.holdings.sets r)) q)

    at : (o : Option ℕ) → option_flatten (option_map (live_in (set_at e.holdings) e.records) o) ≡ outside p (option_flatten (option_map (live_in (set_at d.holdings) d.records) o))
    at None = refl
    at (Some k) = live k (in_pool_at d p k) refl

-- what else is held
pub same_layouts : (d e : CountingDevice) → SameRest d e → layouts_of e.holdings ≡ layouts_of d.holdings
same_layouts d e same = ap₂ (λ bs t. found_by (row_of t) (layout_in bs t)) same.bindings same.layouts

pub same_pools : (d e : CountingDevice) → SameRest d e → pools_of e.holdings ≡ pools_of d.holdings
same_pools d e same = ap (λ t. found_by (row_of t) (pool_in t)) same.pools

-- a pool that lives
pub pool_lives : (d : Holdings) (p i : ℕ) → row_of d.pools p ≡ Some i → is_some (pools_of d p) ≡ true
pool_lives d p i row = ap (λ o. is_some (option_flatten (option_map (pool_in d.pools) o))) row ∙ by (slot_at d.pools i) refl
  where
    by : (o : Option (Slot PoolRow)) → slot_at d.pools i ≡ o → is_some (option_map (λ s. live_pool s.value) o) ≡ true
    by None e = found_used d.pools p i row e
    by (Some s) e = refl

-- a set that lives, by its row
pub set_lives : (d : CountingDevice) (h i : ℕ) (x : SetRow) → row_of d.holdings.sets h ≡ Some i → slot_at d.holdings.sets i ≡ Some (slot h x) → sets_of d.holdings d.records h ≡ Some (live_of d.records i (record { pool = x.pool; bindings = bindings_at d.holdings x.layout }))
set_lives d h i x row here = ap (λ o. option_flatten (option_map (live_in (set_at d.holdings) d.records) o)) row ∙ ap (λ o. option_map (live_of d.records i) (option_map (λ s. record { pool = s.value.pool; bindings = list_of (get_or d.holdings.bindings s.value.layout no_bindings) }) o)) here

pub no_set : (d : CountingDevice) (h : ℕ) → row_of d.holdings.sets h ≡ None → sets_of d.holdings d.records h ≡ None
no_set d h row = ap (λ o. option_flatten (option_map (live_in (set_at d.holdings) d.records) o)) row
