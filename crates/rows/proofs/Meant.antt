-- What stands under handles, by what stands in rows.
use Rattle.std.proofs.Common.{◌≡◌, ℕ, zero, suc, ◌+◌, ◌<◌, Bool, true, false, cond, eqb, ◌⊎◌, is_some, Some, None, Option, sym, refl, ap, ◌∙◌, subst, inl, inr, add-one, arith}
use mathlib.Core.Path.{fun_ext}
use Rattle.std.proofs.lemmas.Bool.Decides.{nat_tests}
use Rattle.std.specs.Map.{update}
use Rattle.std.specs.Option.{option_map, option_flatten, option_or}
use Rattle.device.specs.Meaning.{sum_below}
use Rattle.device.proofs.Below.{below_same, below_none, below_start, below_next, below_put}
use Rattle.rows.specs.declared.slots.Slot.{Slot}
use Rattle.rows.specs.declared.table.Table.{Table}
use Rattle.rows.specs.Slots.{first_row, is_handle}
use Rattle.rows.specs.Tables.{slot, slot_at, row_of, can_put, changed}
use Rattle.rows.specs.Holdings.{found_by}
use Rattle.rows.proofs.Truths.{met_at, clash}
use Rattle.rows.proofs.Found.{is_shared, row_some, row_none, row_zero, row_suc, no_row, row_found, put_found, put_below, put_unused, put_fresh, clear_found, change_found}

-- what a handle finds has it
pub found_has : {T : Type 0} {n : ℕ} (t : Table T n) (h i : ℕ) → row_of t h ≡ Some i → (is_handle h (slot_at t i) ≡ true) × (i < n)
found_has {n = n} t h i e = row_some (λ k. is_handle h (slot_at t k)) n i e

-- what has a handle is used
used : {T : Type 0} (h : ℕ) (o : Option (Slot T)) → is_handle h o ≡ true → is_some o ≡ true
used h None e = clash e refl
used h (Some s) e = refl

-- one row has one handle
pub one_handle : {T : Type 0} (h k : ℕ) (o : Option (Slot T)) → is_handle h o ≡ true → is_handle k o ≡ true → h ≡ k
one_handle h k None p q = clash p refl
one_handle h k (Some s) p q = grind (arith, nat_tests)

has_slot : {T : Type 0} (h : ℕ) (s : Slot T) → is_handle h (Some s) ≡ true → Some s ≡ Some (slot h s.value)
has_slot h s e = let same : s.handle ≡ h = grind (arith, nat_tests) in ap (λ k. Some (slot k s.value)) same

pub found_slot : {T : Type 0} {n : ℕ} (t : Table T n) (h i : ℕ) (s : Slot T) → row_of t h ≡ Some i → slot_at t i ≡ Some s → slot_at t i ≡ Some (slot h s.value)
found_slot t h i s r e = e ∙ has_slot h s (ap (is_handle h) (sym e) ∙ (found_has t h i r).0)

pub found_used : {T R : Type 0} {n : ℕ} (t : Table T n) (h i : ℕ) → row_of t h ≡ Some i → slot_at t i ≡ None → R
found_used t h i r e = clash (found_has t h i r).0 (ap (is_handle h) e)

module _ {T X : Type 0} {n : ℕ} where
  -- a row with a value put into it
  pub found_put : (t t' : Table T n) (i h : ℕ) (x : T) (at at' : ℕ → Option X) (y : X)
      → true ≡ can_put t i h → slot_at t' ≡ update eqb (slot_at t) i (Some (slot h x)) → at' i ≡ Some y → ((r : ℕ) → (r ≡ i → ⊥) → at' r ≡ at r)
      → found_by (row_of t') at' ≡ update eqb (found_by (row_of t) at) h (Some y)
  found_put t t' i h x at at' y can rows here others = fun_ext (λ q. ap (λ f. option_flatten (option_map at' (f q))) moved ∙ by q (met_at q h) (row_of t q) refl)
    where
      moved : row_of t' ≡ update eqb (row_of t) h (Some i)
      moved = ap (λ s. λ q. first_row (λ k. is_handle q (s k)) n) rows ∙ put_found (slot_at t) n i h x (put_below t i h can) (put_unused t i h can) (put_fresh t i h can) t.differ

      by : (q : ℕ) → ((eqb h q ≡ true) × (q ≡ h)) ⊎ ((eqb h q ≡ false) × (q ≡ h → ⊥)) → (o : Option ℕ) → row_of t q ≡ o → option_flatten (option_map at' (update eqb (row_of t) h (Some i) q)) ≡ update eqb (found_by (row_of t) at) h (Some y) q
      by q (inl (b, e)) o r = rw b here
      by q (inr (b, e)) None r = rw (b, r) refl
      by q (inr (b, e)) (Some k) r =
          let apart : (k ≡ i → ⊥) = λ same. clash (used q (slot_at t i) (subst (λ j. is_handle q (slot_at t j) ≡ true) same (found_has t q k r).0)) (ap is_some (put_unused t i h can)) in
          rw (b, r) (others k apart)

  -- rows cleared: those that are not have what they had
  pub found_kept : (t t' : Table T n) (at : ℕ → Option X) → ((r : ℕ) → (slot_at t' r ≡ slot_at t r) ⊎ ((slot_at t' r ≡ None) × (at r ≡ None))) → found_by (row_of t') at ≡ found_by (row_of t) at
  found_kept t t' at each = fun_ext (λ q. by q (row_of t q) refl)
    where
      fewer : (q k : ℕ) → is_handle q (slot_at t k) ≡ false → is_handle q (slot_at t' k) ≡ false
      fewer q k e = elim (each k) [ inl s ↦ ap (is_handle q) s ∙ e | inr s ↦ ap (is_handle q) s.0 ]

      by : (q : ℕ) (o : Option ℕ) → row_of t q ≡ o → option_flatten (option_map at (row_of t' q)) ≡ option_flatten (option_map at o)
      by q None r = ap (λ o. option_flatten (option_map at o)) (no_row (λ k. is_handle q (slot_at t' k)) n (λ k lt. fewer q k (row_none (λ k. is_handle q (slot_at t k)) n r k lt)))
      by q (Some i) r =
          let there = found_has t q i r in
          elim (each i) [
            | inl s ↦ ap (λ o. option_flatten (option_map at o)) (row_found (slot_at t') n i q t'.differ there.1 (ap (is_handle q) s ∙ there.0))
            | inr s ↦ gone q i there s.0 s.1 (row_of t' q) refl
          ]
        where
          gone : (q i : ℕ) → (is_handle q (slot_at t i) ≡ true) × (i < n) → slot_at t' i ≡ None → at i ≡ None → (o : Option ℕ) → row_of t' q ≡ o → option_flatten (option_map at o) ≡ at i
          gone q i there p a None r = sym a
          gone q i there p a (Some k) r =
              let now = found_has t' q k r in
              elim (each k) [
                | inl s ↦
                    let same : k ≡ i = t.differ k i (is_shared q (slot_at t k) (slot_at t i) (ap (is_handle q) (sym s) ∙ now.0) there.0) in
                    ap at same
                | inr s ↦ clash now.0 (ap (is_handle q) s.0)
              ]

  -- one row cleared
  pub found_clear : (t t' : Table T n) (i h : ℕ) (at at' : ℕ → Option X)
      → row_of t h ≡ Some i → slot_at t' ≡ update eqb (slot_at t) i None → ((r : ℕ) → (r ≡ i → ⊥) → at' r ≡ at r)
      → found_by (row_of t') at' ≡ update eqb (found_by (row_of t) at) h None
  found_clear t t' i h at at' row rows others = fun_ext (λ q. ap (λ f. option_flatten (option_map at' (f q))) moved ∙ by q (met_at q h) (row_of t q) refl)
    where
      there : (is_handle h (slot_at t i) ≡ true) × (i < n)
      there = found_has t h i row

      moved : row_of t' ≡ update eqb (row_of t) h None
      moved = ap (λ s. λ q. first_row (λ k. is_handle q (s k)) n) rows ∙ clear_found (slot_at t) i n h t.differ there.0

      by : (q : ℕ) → ((eqb h q ≡ true) × (q ≡ h)) ⊎ ((eqb h q ≡ false) × (q ≡ h → ⊥)) → (o : Option ℕ) → row_of t q ≡ o → option_flatten (option_map at' (update eqb (row_of t) h None q)) ≡ update eqb (found_by (row_of t) at) h None q
      by q (inl (b, e)) o r = rw b refl
      by q (inr (b, e)) None r = rw (b, r) refl
      by q (inr (b, e)) (Some k) r =
          let apart : (k ≡ i → ⊥) = λ same. e (one_handle q h (slot_at t i) (subst (λ j. is_handle q (slot_at t j) ≡ true) same (found_has t q k r).0) there.0) in
          rw (b, r) (others k apart)

  -- one row's value changed
  pub found_change : (t t' : Table T n) (i h : ℕ) (x : T) (at at' : ℕ → Option X)
      → row_of t h ≡ Some i → slot_at t' ≡ changed (slot_at t) i x → ((r : ℕ) → (r ≡ i → ⊥) → at' r ≡ at r)
      → found_by (row_of t') at' ≡ update eqb (found_by (row_of t) at) h (at' i)
  found_change t t' i h x at at' row rows others = fun_ext (λ q. ap (λ f. option_flatten (option_map at' (f q))) moved ∙ by q (met_at q h) (row_of t q) refl)
    where
      moved : row_of t' ≡ row_of t
      moved = ap (λ s. λ q. first_row (λ k. is_handle q (s k)) n) rows ∙ change_found (slot_at t) i x n

      by : (q : ℕ) → ((eqb h q ≡ true) × (q ≡ h)) ⊎ ((eqb h q ≡ false) × (q ≡ h → ⊥)) → (o : Option ℕ) → row_of t q ≡ o → option_flatten (option_map at' (row_of t q)) ≡ update eqb (found_by (row_of t) at) h (at' i) q
      by q (inl (b, e)) o r = rw (b, e, row) refl
      by q (inr (b, e)) None r = rw (b, r) refl
      by q (inr (b, e)) (Some k) r =
          let apart : (k ≡ i → ⊥) = λ same. e (one_handle q h (slot_at t i) (subst (λ j. is_handle q (slot_at t j) ≡ true) same (found_has t q k r).0) (found_has t h i row).0) in
          rw (b, r) (others k apart)

  -- what handles find adds up to what rows have
  module _ (t : Table T n) (at : ℕ → Option X) (value : Option X → ℕ) (nothing : value None ≡ 0) (m : ℕ) (unused : (i : ℕ) → slot_at t i ≡ None → at i ≡ None) (below : (i h : ℕ) → is_handle h (slot_at t i) ≡ true → h < m) where
    abbrev up_to : ℕ → ℕ → Option ℕ
    up_to k h = first_row (λ i. is_handle h (slot_at t i)) k

    abbrev held : ℕ → ℕ → Option X
    held k = found_by (up_to k) at

    next_unused : (k : ℕ) → slot_at t k ≡ None → (h : ℕ) → held (suc k) h ≡ held k h
    next_unused k e h =
        let no : is_handle h (slot_at t k) ≡ false = ap (is_handle h) e in
        ap (λ o. option_flatten (option_map at o)) (row_suc (λ i. is_handle h (slot_at t i)) k ∙ ap (λ b. option_or (up_to k h) (cond b (Some k) None)) no ∙ or_none (up_to k h))
      where
        or_none : (o : Option ℕ) → option_or o None ≡ o
        or_none None = refl
        or_none (Some i) = refl

    none_before : (k : ℕ) (s : Slot T) → slot_at t k ≡ Some s → up_to k s.handle ≡ None
    none_before k s e =
        no_row (λ i. is_handle s.handle (slot_at t i)) k (λ i lt. by i lt (is_handle s.handle (slot_at t i)) refl)
      where
        here : is_handle s.handle (slot_at t k) ≡ true
        here = ap (is_handle s.handle) e ∙ grind (arith, nat_tests)

        by : (i : ℕ) → i < k → (b : Bool) → is_handle s.handle (slot_at t i) ≡ b → b ≡ false
        by i lt false p = refl
        by i lt true p = let same = t.differ i k (is_shared s.handle (slot_at t i) (slot_at t k) p here) in absurd (omega arith)

    next_used : (k : ℕ) (s : Slot T) → slot_at t k ≡ Some s → (h : ℕ) → held (suc k) h ≡ update eqb (held k) s.handle (at k) h
    next_used k s e h = ap (λ o. option_flatten (option_map at o)) (row_suc (λ i. is_handle h (slot_at t i)) k) ∙ by (met_at h s.handle)
      where
        by : ((eqb s.handle h ≡ true) × (h ≡ s.handle)) ⊎ ((eqb s.handle h ≡ false) × (h ≡ s.handle → ⊥)) → option_flatten (option_map at (option_or (up_to k h) (cond (is_handle h (slot_at t k)) (Some k) None))) ≡ update eqb (held k) s.handle (at k) h
        by (inl (b, q)) =
            let none : up_to k h ≡ None = ap (up_to k) q ∙ none_before k s e in
            let yes : is_handle h (slot_at t k) ≡ true = ap (is_handle h) e ∙ grind (arith, nat_tests) in
            rw (b, none, yes) refl
        by (inr (b, q)) =
            let no : is_handle h (slot_at t k) ≡ false = ap (is_handle h) e ∙ grind (arith, nat_tests) in
            rw (b, no) (or_none (up_to k h))
          where
            or_none : (o : Option ℕ) → option_flatten (option_map at (option_or o None)) ≡ option_flatten (option_map at o)
            or_none None = refl
            or_none (Some i) = refl

    pub found_sum : (k : ℕ) → sum_below m (λ h. value (held k h)) ≡ sum_below k (λ i. value (at i))
    found_sum zero =
        below_none m (λ h. value (held 0 h)) (λ h. ap (λ o. value (option_flatten (option_map at o))) (row_zero (λ i. is_handle h (slot_at t i))) ∙ nothing)
        ∙ sym (below_start (λ i. value (at i)))
    found_sum (suc k) = by (slot_at t k) refl (found_sum k) (below_next k (λ i. value (at i)))
      where
        by : (o : Option (Slot T)) → slot_at t k ≡ o → sum_below m (λ h. value (held k h)) ≡ sum_below k (λ i. value (at i)) → sum_below (k + 1) (λ i. value (at i)) ≡ value (at k) + sum_below k (λ i. value (at i)) → sum_below m (λ h. value (held (suc k) h)) ≡ sum_below (suc k) (λ i. value (at i))
        by None e more next =
            let zero_here : value (at k) ≡ 0 = ap value (unused k e) ∙ nothing in
            let now = below_same m (λ h. value (held (suc k) h)) (λ h. value (held k h)) (λ h. ap value (next_unused k e h)) in
            let step = ap (λ j. sum_below j (λ i. value (at i))) (add-one k) in
            omega (arith, zero_here, now, more, next, step)
        by (Some s) e more next =
            let has : is_handle s.handle (slot_at t k) ≡ true = ap (is_handle s.handle) e ∙ grind (arith, nat_tests) in
            let now = below_same m (λ h. value (held (suc k) h)) (λ h. value (update eqb (held k) s.handle (at k) h)) (λ h. ap value (next_used k s e h)) in
            let put = below_put value (held k) s.handle (at k) m (below k s.handle has) in
            let none : value (held k s.handle) ≡ 0 = ap (λ o. value (option_flatten (option_map at o))) (none_before k s e) ∙ nothing in
            let step = ap (λ j. sum_below j (λ i. value (at i))) (add-one k) in
            omega (arith, now, put, none, more, next, step)
