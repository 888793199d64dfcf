-- Proofs: what stays true of the rows as they change. They stand here for Fairly.
use Rattle.std.specs.Prelude.{◌≡◌, ℕ, ◌+◌, ◌<◌, ◌≤◌, Bool, true, false, cond, not, ltb, ◌⊎◌, List, ℤ, is_some, Some, None, Ok, Err, Option, Result, ◌==◌, ◌≢◌, nat_eq, nat_lt, slice_index_or, slice_set, refl}
use Rattle.std.proofs.Common.{arith, sym, ap, ◌∙◌, inl, inr, get_or-set_other}
use Rattle.std.proofs.Math.Decide.{dec_lt}
use Rattle.std.proofs.Math.Path.{fun_ext}
use Rattle.std.proofs.lemmas.List.{get_or_past}
use Rattle.std.proofs.lemmas.Bool.Decides.{nat_tests}
use Rattle.std.specs.Map.{update}
use Rattle.std.specs.Option.{option_map}
use Rattle.device.specs.Results.{no_host_memory}
use Rattle.rows.specs.declared.slots.Slot.{Slot}
use Rattle.rows.specs.declared.table.Table.{Table}
use Rattle.rows.specs.declared.bindings.Bindings.{Bindings}
use Rattle.rows.specs.declared.holdings.Holdings.{Holdings}
use Rattle.rows.specs.declared.holdings.SetRow.{SetRow}
use Rattle.rows.specs.Slots.{first_row, is_handle}
use Rattle.rows.specs.Lists.{list_of}
use Rattle.rows.specs.Tables.{slot, slot_at, row_of, unused_row, can_put, changed}
use Rattle.rows.specs.Holdings.{HeldSet, names, held_in, is_named, is_free_layout_row, free_layout_row, no_bindings}
use Rattle.rows.proofs.Truths.{met_at, clash, and_both, nothing, none_there}
use Rattle.rows.proofs.Found.{row_some, row_none, change_handle}
use Rattle.rows.proofs.Meant.{found_has}
use Rattle.counting.specs.declared.counting.CountingDevice.{CountingDevice}
use Rattle.counting.specs.Given.{Given}
use Rattle.counting.specs.Counting.{next_handle, in_row}

-- handles that were given
module _ {T : Type 0} {n : ℕ} (t t' : Table T n) where
  pub given_later : {last last' : ℕ} → last ≤ last' → Given last t → Given last' t
  given_later le g i h e = let a = g i h e in omega arith

  pub given_put : {last : ℕ} (i h : ℕ) (x : T) → h ≤ last → slot_at t' ≡ update nat_eq (slot_at t) i (Some (slot h x)) → Given last t → Given last t'
  given_put {last = last} i h x le rows g k q e = by (met_at k i) (ap (λ s. is_handle q (s k)) (sym rows) ∙ e)
    where
      by : (((i == k) ≡ true) × (k ≡ i)) ⊎ (((i == k) ≡ false) × (k ≢ i)) → is_handle q (update nat_eq (slot_at t) i (Some (slot h x)) k) ≡ true → q ≤ last
      by (inl (b, s)) f = let here : nat_eq h q ≡ true = rw b at f in let same : h ≡ q = grind (arith, nat_tests) in omega arith
      by (inr (b, s)) f = g k q (rw b at f)

  pub given_clear : {last : ℕ} (i : ℕ) → slot_at t' ≡ update nat_eq (slot_at t) i None → Given last t → Given last t'
  given_clear {last = last} i rows g k q e = by (met_at k i) (ap (λ s. is_handle q (s k)) (sym rows) ∙ e)
    where
      by : (((i == k) ≡ true) × (k ≡ i)) ⊎ (((i == k) ≡ false) × (k ≢ i)) → is_handle q (update nat_eq (slot_at t) i None k) ≡ true → q ≤ last
      by (inl (b, s)) f = let no : ◌≡◌ {A = Bool} false true = rw b at f in clash refl (sym no)
      by (inr (b, s)) f = g k q (rw b at f)

  pub given_change : {last : ℕ} (i : ℕ) (x : T) → slot_at t' ≡ changed (slot_at t) i x → Given last t → Given last t'
  given_change i x rows g k q e = g k q (sym (change_handle (slot_at t) i x q k) ∙ (ap (λ s. is_handle q (s k)) (sym rows) ∙ e))

-- a handle past the last one stands nowhere
pub not_given : {T : Type 0} {n : ℕ} (t : Table T n) (last h : ℕ) → Given last t → last < h → row_of t h ≡ None
not_given t last h g lt = by (row_of t h) refl
  where
    by : (o : Option ℕ) → row_of t h ≡ o → o ≡ None
    by None e = refl
    by (Some i) e = let le = g i h (found_has t h i e).0 in absurd (omega arith)

is_not : (a : Bool) → not a ≡ true → a ≡ false
is_not true e = clash refl (sym e)
is_not false e = refl

-- the first unused row is one
pub unused_is : {T : Type 0} {n : ℕ} (t : Table T n) (i : ℕ) → unused_row t ≡ Some i → (slot_at t i ≡ None) × (i < n)
unused_is {n = n} t i e = let s = row_some (λ k. not (is_some (slot_at t k))) n i e in (nothing (slot_at t i) s.0, s.1)

-- and something can be put there
pub can_put_lem : {T : Type 0} {n : ℕ} (t : Table T n) (i h : ℕ) → i < n → slot_at t i ≡ None → row_of t h ≡ None → true ≡ can_put t i h
can_put_lem {n = n} t i h lt unused fresh = let b : ltb i n ≡ true = grind (arith, nat_tests) in rw (b, unused, fresh) refl

-- what the first free row of layouts is
module _ (d : Holdings) (j : ℕ) (free : free_layout_row d ≡ Some j) where
  told : (is_free_layout_row d j ≡ true) × (j < 64)
  told = row_some (is_free_layout_row d) 64 j free

  pub free_below : j < 64
  free_below = told.1

  pub free_unused : slot_at d.layouts j ≡ None
  free_unused = nothing (slot_at d.layouts j) (and_both (not (is_some (slot_at d.layouts j))) (not (is_named d j)) told.0).0

  unnamed : is_named d j ≡ false
  unnamed = is_not (is_named d j) (and_both (not (is_some (slot_at d.layouts j))) (not (is_named d j)) told.0).1

  other_layout : (i : ℕ) → names j (slot_at d.sets i) ≡ false
  other_layout i = elim (dec_lt i 1024) [
    | yes lt ↦ row_none (λ k. names j (slot_at d.sets k)) 1024 (none_there (first_row (λ k. names j (slot_at d.sets k)) 1024) unnamed) i lt
    | no le ↦ ap (names j) (get_or_past d.sets.rows i None (omega (arith, d.sets.whole)))
  ]

  -- no set has its bindings there
  pub held_same : (b : Bindings) → held_in (slice_set d.bindings j b) d.sets ≡ held_in d.bindings d.sets
  held_same b = fun_ext (λ i. by i (slot_at d.sets i) refl (other_layout i))
    where
      held : List Bindings → Option (Slot SetRow) → Option HeldSet
      held bs o = option_map (λ s. record { pool = s.value.pool; bindings = list_of (slice_index_or bs s.value.layout no_bindings) }) o

      by : (i : ℕ) (o : Option (Slot SetRow)) → slot_at d.sets i ≡ o → names j (slot_at d.sets i) ≡ false → held (slice_set d.bindings j b) (slot_at d.sets i) ≡ held d.bindings (slot_at d.sets i)
      by i None e n = rw e refl
      by i (Some s) e n =
          let ne : (s.value.layout ≢ j) = λ q. clash (let t : nat_eq s.value.layout j ≡ true = grind (arith, nat_tests) in t) (ap (names j) (sym e) ∙ n) in
          rw e (ap (λ x. Some (record { pool = s.value.pool; bindings = list_of x })) (get_or-set_other d.bindings j s.value.layout b no_bindings ne))

-- the next handle
pub next_is : (d : CountingDevice) (h : ℕ) → next_handle d ≡ Ok h → (h ≡ d.last + 1) × (h < 18446744073709551616)
next_is d h e = by (nat_lt d.last 18446744073709551615) refl e
  where
    by : (b : Bool) → nat_lt d.last 18446744073709551615 ≡ b → cond b (Ok (d.last + 1)) (Err no_host_memory) ≡ Ok h → (h ≡ d.last + 1) × (h < 18446744073709551616)
    by true q e = let same : d.last + 1 ≡ h = cc in let lt : d.last < 18446744073709551615 = grind (arith, nat_tests) in (sym same, omega arith)
    by false q e = absurd (let z : ◌≡◌ {A = ℕ} 0 1 = cc in omega arith)

pub in_row_lem : (b : Bool) (r : Result ℕ ℤ) (h : ℕ) → in_row b r ≡ Ok h → r ≡ Ok h
in_row_lem true r h e = e
in_row_lem false r h e = absurd (let z : ◌≡◌ {A = ℕ} 0 1 = cc in omega arith)

pub same_number : (a b : ℕ) → a ≡ b → (a == b) ≡ true
same_number a b e = grind (arith, nat_tests)
