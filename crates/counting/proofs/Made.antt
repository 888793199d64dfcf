-- What is held once something is made, or gone.
use Rattle.std.proofs.Common.{◌≡◌, ℕ, ◌<◌, Bool, true, cond, eqb, List, length, get_or, set, Some, None, Option, sym, ap, ◌∙◌, get_or-set_other, get_or-set_same}
use Rattle.std.proofs.lemmas.Map.{update_here, update_apart}
use Rattle.std.specs.Map.{update}
use Rattle.std.specs.Option.{option_map}
use Rattle.rows.specs.declared.table.Table.{Table}
use Rattle.rows.specs.declared.bindings.Bindings.{Bindings}
use Rattle.rows.specs.declared.pools.PoolRow.{PoolRow}
use Rattle.rows.specs.Lists.{list_of}
use Rattle.rows.specs.Pools.{live_pool}
use Rattle.rows.specs.Tables.{slot, slot_at, row_of, can_put, changed}
use Rattle.rows.specs.Holdings.{found_by, no_bindings, layout_in, pool_in}
use Rattle.rows.proofs.Meant.{found_put, found_clear, found_change}

-- what a table has after a put that could be made
pub put_rows : {T : Type 0} {n : ℕ} (t t' : Table T n) (i h : ℕ) (x : T) (r : Bool) → r ≡ can_put t i h → true ≡ can_put t i h → slot_at t' ≡ cond r (update eqb (slot_at t) i (Some (slot h x))) (slot_at t) → slot_at t' ≡ update eqb (slot_at t) i (Some (slot h x))
put_rows t t' i h x r answer can rows = rows ∙ ap (λ b. cond b (update eqb (slot_at t) i (Some (slot h x))) (slot_at t)) (answer ∙ sym can)

pub slot_here : {X : Type 0} (f g : ℕ → Option X) (i : ℕ) (o : Option X) → g ≡ update eqb f i o → g i ≡ o
slot_here f g i o e = ap (λ s. s i) e ∙ update_here f i o

pub slot_apart : {X : Type 0} (f g : ℕ → Option X) (i k : ℕ) (o : Option X) → g ≡ update eqb f i o → (k ≡ i → ⊥) → g k ≡ f k
slot_apart f g i k o e ne = ap (λ s. s k) e ∙ update_apart f i o k ne

-- a layout made
pub layouts_put : (bindings : List Bindings) (t t' : Table ℕ 64) (j h flags : ℕ) (b : Bindings) → j < length bindings → true ≡ can_put t j h → slot_at t' ≡ update eqb (slot_at t) j (Some (slot h flags))
    → found_by (row_of t') (layout_in (set bindings j b) t') ≡ update eqb (found_by (row_of t) (layout_in bindings t)) h (Some (record { bindings = list_of b; flags = flags }))
layouts_put bindings t t' j h flags b lt can rows = found_put t t' j h flags (layout_in bindings t) (layout_in (set bindings j b) t') (record { bindings = list_of b; flags = flags }) can rows here others
  where
    here : layout_in (set bindings j b) t' j ≡ Some (record { bindings = list_of b; flags = flags })
    here = ap (option_map (λ s. record { bindings = list_of (get_or (set bindings j b) j no_bindings); flags = s.value })) (slot_here (slot_at t) (slot_at t') j (Some (slot h flags)) rows) ∙ ap (λ x. Some (record { bindings = list_of x; flags = flags })) (get_or-set_same bindings j b no_bindings lt)

    others : (r : ℕ) → (r ≡ j → ⊥) → layout_in (set bindings j b) t' r ≡ layout_in bindings t r
    others r ne = ap (option_map (λ s. record { bindings = list_of (get_or (set bindings j b) r no_bindings); flags = s.value })) (slot_apart (slot_at t) (slot_at t') j r (Some (slot h flags)) rows ne) ∙ ap (λ x. option_map (λ s. record { bindings = list_of x; flags = s.value }) (slot_at t r)) (get_or-set_other bindings j r b no_bindings ne)

-- a layout gone
pub layouts_clear : (bindings : List Bindings) (t t' : Table ℕ 64) (j h : ℕ) → row_of t h ≡ Some j → slot_at t' ≡ update eqb (slot_at t) j None → found_by (row_of t') (layout_in bindings t') ≡ update eqb (found_by (row_of t) (layout_in bindings t)) h None
layouts_clear bindings t t' j h row rows = found_clear t t' j h (layout_in bindings t) (layout_in bindings t') row rows others
  where
    others : (r : ℕ) → (r ≡ j → ⊥) → layout_in bindings t' r ≡ layout_in bindings t r
    others r ne = ap (option_map (λ s. record { bindings = list_of (get_or bindings r no_bindings); flags = s.value })) (slot_apart (slot_at t) (slot_at t') j r None rows ne)

-- a pool made, gone, and changed
pub pools_put : (t t' : Table PoolRow 128) (i h : ℕ) (x : PoolRow) → true ≡ can_put t i h → slot_at t' ≡ update eqb (slot_at t) i (Some (slot h x)) → found_by (row_of t') (pool_in t') ≡ update eqb (found_by (row_of t) (pool_in t)) h (Some (live_pool x))
pools_put t t' i h x can rows =
    found_put t t' i h x (pool_in t) (pool_in t') (live_pool x) can rows (ap (option_map (λ s. live_pool s.value)) (slot_here (slot_at t) (slot_at t') i (Some (slot h x)) rows)) (λ r ne. ap (option_map (λ s. live_pool s.value)) (slot_apart (slot_at t) (slot_at t') i r (Some (slot h x)) rows ne))

pub pools_clear : (t t' : Table PoolRow 128) (i h : ℕ) → row_of t h ≡ Some i → slot_at t' ≡ update eqb (slot_at t) i None → found_by (row_of t') (pool_in t') ≡ update eqb (found_by (row_of t) (pool_in t)) h None
pools_clear t t' i h row rows = found_clear t t' i h (pool_in t) (pool_in t') row rows (λ r ne. ap (option_map (λ s. live_pool s.value)) (slot_apart (slot_at t) (slot_at t') i r None rows ne))

pub pools_change : (t t' : Table PoolRow 128) (i h : ℕ) (x y : PoolRow) → row_of t h ≡ Some i → slot_at t i ≡ Some (slot h x) → slot_at t' ≡ changed (slot_at t) i y → found_by (row_of t') (pool_in t') ≡ update eqb (found_by (row_of t) (pool_in t)) h (Some (live_pool y))
pools_change t t' i h x y row here rows =
    let there : slot_at t' i ≡ Some (slot h y) = slot_here (slot_at t) (slot_at t') i (option_map (λ s. slot s.handle y) (slot_at t i)) rows ∙ ap (option_map (λ s. slot s.handle y)) here in
    found_change t t' i h y (pool_in t) (pool_in t') row rows (λ r ne. ap (option_map (λ s. live_pool s.value)) (slot_apart (slot_at t) (slot_at t') i r (option_map (λ s. slot s.handle y) (slot_at t i)) rows ne))
    ∙ ap (λ o. update eqb (found_by (row_of t) (pool_in t)) h (option_map (λ s. live_pool s.value) o)) there
