-- Making a set.
use Rattle.std.proofs.Common.{◌≡◌, ℕ, ◌+◌, ◌^◌, ◌<◌, Bool, true, false, cond, not, ◌&&◌, ◌||◌, eqb, ltb, leb, get_or, ℤ, is_some, Some, None, Ok, Err, Option, Result, sym, refl, ap, ◌∙◌, ap₂, arith}
use mathlib.Core.Path.{fun_ext}
use Rattle.std.proofs.lemmas.Bool.Decides.{nat_tests}
use Rattle.std.specs.Map.{update}
use Rattle.std.specs.List.{list_any}
use Rattle.std.specs.Option.{option_map, option_flatten}
use Rattle.conversion.specs.Kinds.{kinds}
use Rattle.conversion.specs.Counts.{counts_by, count_of}
use Rattle.conversion.specs.declared.kinds.Kind.{Kind}
use Rattle.conversion.specs.declared.kinds.Kind.TheVariants.{Sampler, SampledImage, StorageImage, UniformBuffer, UniformBufferDynamic, StorageBuffer, StorageBufferDynamic, AccelerationStructure}
use Rattle.conversion.specs.declared.counts.DescriptorCounts.{DescriptorCounts}
use Rattle.conversion.proofs.Numbers.{by_kind}
use Rattle.conversion.proofs.Sums.{count_of-counts_by}
use Rattle.device.specs.Meaning.{State, LivePool, LiveLayout, LiveSet, sum_below, in_pool, live_sets, in_use, exhausted, unfit, after_bind, binding_counts, remembering}
use Rattle.conversion.specs.declared.results.DeviceCall.TheVariants.{Set}
use Rattle.device.specs.declared.faults.DeviceFault.{DeviceFault}
use Rattle.device.specs.Results.{no_host_memory, no_device_memory, out_of_pool, answered}
use Rattle.device.specs.Calls.{SetMade, unless_invalid, set_answer, invalid_set, sets_mark, bindings_in, remembered}
use Rattle.device.proofs.Below.{below_same}
use Rattle.segments.specs.Segments.{size}
use Rattle.rows.specs.declared.table.Table.{Table}
use Rattle.rows.specs.declared.pools.PoolRow.{PoolRow}
use Rattle.rows.specs.declared.holdings.Holdings.{Holdings}
use Rattle.rows.specs.Bindings.{kind_count, at_most, total_of}
use Rattle.rows.specs.Lists.{list_of}
use Rattle.rows.specs.Pools.{live_pool}
use Rattle.rows.specs.Tables.{slot, slot_at, row_of, unused_row, changed}
use Rattle.rows.specs.Holdings.{HeldSet, found_by, layout_in, layouts_of, pool_in, pools_of, bindings_at, set_at, in_row, sets_in, used_in, full_at, total_at, no_bindings}
use Rattle.rows.proofs.Meant.{found_sum}
use Rattle.counting.specs.declared.counting.CountingDevice.{CountingDevice}
use Rattle.counting.specs.Steps.{Marked}
use Rattle.counting.specs.Counting.{sets_of, live_of, live_in, meaning_of, fixed_set}
use Rattle.rows.proofs.Truths.{or_both}
use Rattle.counting.proofs.Made.{pools_change}

-- what stands under the handles of a pool and of a layout
pub pool_is : (d : Holdings) (p i : ℕ) (x : PoolRow) → row_of d.pools p ≡ Some i → slot_at d.pools i ≡ Some (slot p x) → pools_of d p ≡ Some (live_pool x)
pool_is d p i x row here = ap (λ o. option_flatten (option_map (pool_in d.pools) o)) row ∙ ap (option_map (λ s. live_pool s.value)) here

pub layout_is : (d : Holdings) (l j flags : ℕ) → row_of d.layouts l ≡ Some j → slot_at d.layouts j ≡ Some (slot l flags) → layouts_of d l ≡ Some (record { bindings = bindings_at d j; flags = flags })
layout_is d l j flags row here = ap (λ o. option_flatten (option_map (layout_in d.bindings d.layouts) o)) row ∙ ap (option_map (λ s. record { bindings = list_of (get_or d.bindings j no_bindings); flags = s.value })) here

-- what rows have is what live sets have
module _ (d : CountingDevice) (word : d.last < 18446744073709551616) (p : ℕ) (f : LiveSet → ℕ) (g : HeldSet → ℕ) (same : (i : ℕ) (s : HeldSet) → f (live_of d.records i s) ≡ g s) where
  by_row : (i : ℕ) (o : Option HeldSet) → in_pool p f (option_map (live_of d.records i) o) ≡ in_row p g o
  by_row i None = refl
  by_row i (Some s) = ap (λ n. cond (eqb s.pool p) n 0) (same i s)

  pub figures : sum_below (2 ^ 64) (λ h. in_pool p f ((meaning_of d).sets h)) ≡ sum_below 1024 (λ i. in_row p g (set_at d.holdings i))
  figures =
      found_sum d.holdings.sets (live_in (set_at d.holdings) d.records) (in_pool p f) refl (2 ^ 64) (λ i e. ap (λ o. option_map (live_of d.records i) (option_map (λ s. record { pool = s.value.pool; bindings = list_of (get_or d.holdings.bindings s.value.layout no_bindings) }) o)) e) (λ i h e. let le = d.sets i h e in omega arith) 1024
      ∙ below_same 1024 (λ i. in_pool p f (live_in (set_at d.holdings) d.records i)) (λ i. in_row p g (set_at d.holdings i)) (λ i. by_row i (set_at d.holdings i))

pub full_is : (d : CountingDevice) (p j : ℕ) (pool : LivePool) → d.last < 18446744073709551616 → exhausted (meaning_of d) p pool (binding_counts (bindings_at d.holdings j)) ≡ full_at d.holdings p pool j
full_is d p j pool word =
    let sets : live_sets (meaning_of d) p ≡ sets_in d.holdings p = figures d word p (λ x. 1) (λ x. 1) (λ i s. refl) in
    ap₂ ◌||◌ (ap (leb pool.most) sets) (ap (λ t. list_any t kinds) (fun_ext each))
  where
    each : (k : Kind) → ltb (count_of pool.sizes k) (in_use (meaning_of d) p k + count_of (binding_counts (bindings_at d.holdings j)) k) ≡ ltb (count_of pool.sizes k) (used_in d.holdings p k + kind_count k (bindings_at d.holdings j))
    each k = ap₂ (λ a b. ltb (count_of pool.sizes k) (a + b)) (figures d word p (λ x. count_of (binding_counts x.bindings) k) (λ s. kind_count k s.bindings) (λ i s. count_of-counts_by (λ k. kind_count k s.bindings) k)) (count_of-counts_by (λ k. kind_count k (bindings_at d.holdings j)) k)

-- in a pool that is not full, counts fit their size
each_false : (f : Kind → Bool) → list_any f kinds ≡ false → (k : Kind) → f k ≡ false
each_false f e =
    let e0 = or_both (f Sampler) _ e in
    let e1 = or_both (f SampledImage) _ e0.1 in
    let e2 = or_both (f StorageImage) _ e1.1 in
    let e3 = or_both (f UniformBuffer) _ e2.1 in
    let e4 = or_both (f UniformBufferDynamic) _ e3.1 in
    let e5 = or_both (f StorageBuffer) _ e4.1 in
    let e6 = or_both (f StorageBufferDynamic) _ e5.1 in
    let e7 = or_both (f AccelerationStructure) _ e6.1 in
    by_kind (λ k. f k ≡ false) e0.0 e1.0 e2.0 e3.0 e4.0 e5.0 e6.0 e7.0

pub exact_counts : (d : Holdings) (p j : ℕ) (pool : LivePool) → full_at d p pool j ≡ false → counts_by (λ k. at_most (kind_count k (bindings_at d j)) (count_of pool.sizes k)) ≡ binding_counts (bindings_at d j)
exact_counts d p j pool room = ap counts_by (fun_ext each)
  where
    each : (k : Kind) → at_most (kind_count k (bindings_at d j)) (count_of pool.sizes k) ≡ kind_count k (bindings_at d j)
    each k =
        let fits = each_false (λ k. ltb (count_of pool.sizes k) (used_in d p k + kind_count k (bindings_at d j))) (or_both (leb pool.most (sets_in d p)) (list_any (λ k. ltb (count_of pool.sizes k) (used_in d p k + kind_count k (bindings_at d j))) kinds) room).1 k in
        grind (arith, nat_tests)

-- the answer, where pool and layout live
module _ (m : State) (p l : ℕ) (pool : LivePool) (layout : LiveLayout) (is_pool : m.pools p ≡ Some pool) (is_layout : m.layouts l ≡ Some layout) where
  pub answer_is : set_answer m p l ≡ unless_invalid (unfit pool layout) (cond (exhausted m p pool (binding_counts layout.bindings)) (Err out_of_pool) (m.set_fixed p l))
  answer_is = rw (is_pool, is_layout) refl

  pub invalid_is : invalid_set (m.pools p) (m.layouts l) ≡ unfit pool layout
  invalid_is = rw (is_pool, is_layout) refl

-- obstacles set no mark
pub unmarked : (d : CountingDevice) (n : ℕ) (e : ℤ) → fixed_set d n ≡ Err e → sets_mark (Err e) ≡ false
unmarked d n e q = by (is_some (unused_row d.holdings.sets)) (ltb d.last 18446744073709551615) (ltb (size d.records) (sum_below 1024 (total_at d.holdings) + n)) refl refl refl
  where
    host : ◌≡◌ {A = Result ℕ ℤ} (Err no_host_memory) (Err e) → sets_mark (Err e) ≡ false
    host w = ap sets_mark (sym w)

    device : ◌≡◌ {A = Result ℕ ℤ} (Err no_device_memory) (Err e) → sets_mark (Err e) ≡ false
    device w = ap sets_mark (sym w)

    none : ◌≡◌ {A = Result ℕ ℤ} (Ok (d.last + 1)) (Err e) → sets_mark (Err e) ≡ false
    none w = absurd (let z : ◌≡◌ {A = ℕ} 0 1 = cc in omega arith)

    by : (f a b : Bool) → is_some (unused_row d.holdings.sets) ≡ f → ltb d.last 18446744073709551615 ≡ a → ltb (size d.records) (sum_below 1024 (total_at d.holdings) + n) ≡ b → sets_mark (Err e) ≡ false
    by false a b w x y = host (rw w at q)
    by true false b w x y = host (rw (w, x) at q)
    by true true true w x y = device (rw (w, x, y) at q)
    by true true false w x y = none (rw (w, x, y) at q)

pub or_none : (b : Bool) → b ≡ (b || false || false)
or_none true = refl
or_none false = refl

pub or_last : (b : Bool) → true ≡ (b || false || true)
or_last true = refl
or_last false = refl

-- a set asked of a live pool for a live layout that goes with it
module _ (d : CountingDevice) (word : d.last < 18446744073709551616) (p l : ℕ) (x : PoolRow) (i j flags : ℕ)
    (in_pool_lem : (row_of d.holdings.pools p ≡ Some i) × (slot_at d.holdings.pools i ≡ Some (slot p x)))
    (of_layout : (row_of d.holdings.layouts l ≡ Some j) × (slot_at d.holdings.layouts j ≡ Some (slot l flags)))
    (fit : false ≡ (after_bind flags && not x.updatable)) where
  pub pool_there : pools_of d.holdings p ≡ Some (live_pool x)
  pool_there = pool_is d.holdings p i x in_pool_lem.0 in_pool_lem.1

  layout_there : layouts_of d.holdings l ≡ Some (record { bindings = bindings_at d.holdings j; flags = flags })
  layout_there = layout_is d.holdings l j flags of_layout.0 of_layout.1

  pub bindings_there : bindings_in (layouts_of d.holdings l) ≡ bindings_at d.holdings j
  bindings_there = ap bindings_in layout_there

  pub valid_set : invalid_set (pools_of d.holdings p) (layouts_of d.holdings l) ≡ false
  valid_set = invalid_is (meaning_of d) p l (live_pool x) (record { bindings = bindings_at d.holdings j; flags = flags }) pool_there layout_there ∙ sym fit

  answered_by : (b : Bool) → full_at d.holdings p (live_pool x) j ≡ b → set_answer (meaning_of d) p l ≡ cond b (Err out_of_pool) (fixed_set d (total_of (bindings_in (layouts_of d.holdings l))))
  answered_by b full =
      answer_is (meaning_of d) p l (live_pool x) (record { bindings = bindings_at d.holdings j; flags = flags }) pool_there layout_there
      ∙ ap₂ (λ a f. unless_invalid a (cond f (Err out_of_pool) (fixed_set d (total_of (bindings_in (layouts_of d.holdings l)))))) (sym fit) (full_is d p j (live_pool x) word ∙ full)

  pub answer_full : full_at d.holdings p (live_pool x) j ≡ true → set_answer (meaning_of d) p l ≡ Err out_of_pool
  answer_full full = answered_by true full

  pub answer_fixed : full_at d.holdings p (live_pool x) j ≡ false → set_answer (meaning_of d) p l ≡ fixed_set d (total_of (bindings_at d.holdings j))
  answer_fixed room = answered_by false room ∙ ap (λ bs. fixed_set d (total_of bs)) bindings_there

  -- the pool remembers the counts of its sets
  pub remembers : (y : PoolRow) (k : DescriptorCounts) (t : Table PoolRow 128) → full_at d.holdings p (live_pool x) j ≡ false → k ≡ counts_by (λ k. at_most (kind_count k (bindings_at d.holdings j)) (count_of x.sizes k)) → live_pool y ≡ remembering (live_pool x) k → slot_at t ≡ changed (slot_at d.holdings.pools) i y
      → found_by (row_of t) (pool_in t) ≡ update eqb (pools_of d.holdings) p (remembered (bindings_in (layouts_of d.holdings l)) (pools_of d.holdings p))
  remembers y k t room counts row rows =
      pools_change d.holdings.pools t i p x y in_pool_lem.0 in_pool_lem.1 rows
      ∙ ap (λ o. update eqb (pools_of d.holdings) p o)
      (ap Some (row ∙ ap (remembering (live_pool x)) (counts ∙ exact_counts d.holdings p j (live_pool x) room))
      ∙ sym (ap₂ remembered bindings_there pool_there))

-- a set that was refused, and the mark set
pub refused_set : (d e : CountingDevice) (p l : ℕ) (a : ℤ) (f : DeviceFault) → Marked d e → f ≡ record { call = Set; result = a } → set_answer (meaning_of d) p l ≡ Err a → true ≡ (d.mark || invalid_set (pools_of d.holdings p) (layouts_of d.holdings l) || sets_mark (Err a)) → SetMade (meaning_of d) p l (Err f) (meaning_of e)
refused_set d e p l a f marked fault answer mark =
    record {
      answer = ap Err fault ∙ ap (answered Set) (sym answer);
      layouts = ap layouts_of marked.holdings;
      pools = ap pools_of marked.holdings;
      sets = ap₂ sets_of marked.holdings marked.records;
      mark = marked.mark ∙ (mark ∙ ap (λ r. d.mark || invalid_set (pools_of d.holdings p) (layouts_of d.holdings l) || sets_mark r) (sym answer));
    }
