-- Descriptors put into a segment, one after the other.
use Rattle.std.proofs.Common.{◌≡◌, ℕ, ◌+◌, ◌-◌, Bool, true, false, cond, ◌&&◌, eqb, ltb, leb, ◌⊎◌, is_some, Some, None, Option, sym, refl, ap, ◌∙◌, subst, ap₂, inl, inr, arith}
use Rattle.std.proofs.lemmas.Bool.Decides.{nat_tests, eqb_tells}
use Rattle.std.specs.Option.{option_or}
use Rattle.conversion.specs.Kinds.{kind_of_type}
use Rattle.device.specs.Meaning.{Descriptor}
use Rattle.device.specs.declared.records.Write.{Write}
use Rattle.device.specs.Writes.{Lists, descriptor_of}
use Rattle.segments.specs.Segments.{length_at}
use Rattle.counting.specs.Counting.{stored, Records}
use Rattle.counting.specs.Steps.{PutAt, descriptor_for, Filled}

module _ (r : Records) (row start : ℕ) (w : Write) (j : ℕ) (l : Lists) where
  -- the record for descriptor j
  at_last : descriptor_for row start w j l row (start + j) ≡ None
  at_last = let b : ltb (start + j) (start + j) ≡ false = grind (arith, nat_tests) in rw (b, and_none (eqb row row) (leb start (start + j))) refl
    where
      and_none : (a b : Bool) → (a && b && false) ≡ false
      and_none true true = refl
      and_none true false = refl
      and_none false b = refl

  at_next : descriptor_for row start w (j + 1) l row (start + j) ≡ descriptor_of l w j (kind_of_type w.descriptor_type)
  at_next =
      let a : eqb row row ≡ true = grind (arith, nat_tests) in
      let b : leb start (start + j) ≡ true = grind (arith, nat_tests) in
      let c : ltb (start + j) (start + (j + 1)) ≡ true = grind (arith, nat_tests) in
      let e : start + j - start ≡ j = omega arith in
      rw (a, b, c, e) refl

  -- and the others
  elsewhere : (k m : ℕ) → ((eqb k row ≡ true) × (k ≡ row)) ⊎ ((eqb k row ≡ false) × (k ≡ row → ⊥)) → (m ≡ start + j → ⊥) → descriptor_for row start w (j + 1) l k m ≡ descriptor_for row start w j l k m
  elsewhere k m (inl (b, e)) ne = let t : ltb m (start + (j + 1)) ≡ ltb m (start + j) = grind (arith, nat_tests) in rw t refl
  elsewhere k m (inr (b, e)) ne = rw b refl

  other_row : (k m : ℕ) → (k ≡ row → ⊥) → descriptor_for row start w (j + 1) l k m ≡ descriptor_for row start w j l k m
  other_row k m ne = let b : eqb k row ≡ false = grind (arith, nat_tests) in rw b refl

  -- what is chosen there
  chosen : (o e : Option Descriptor) (b : Bool) → cond (is_some o && b && true && true) o (cond b (option_or None e) e) ≡ cond b (option_or o e) e
  chosen None e true = refl
  chosen None e false = refl
  chosen (Some x) e true = refl
  chosen (Some x) e false = refl

  kept : (o : Option Descriptor) (a b : Bool) (e : Option Descriptor) → cond (is_some o && a && b && false) o e ≡ e
  kept None a b e = refl
  kept (Some x) true true e = refl
  kept (Some x) true false e = refl
  kept (Some x) false b e = refl

  kept_row : (o : Option Descriptor) (a b : Bool) (e : Option Descriptor) → cond (is_some o && a && false && b) o e ≡ e
  kept_row None a b e = refl
  kept_row (Some x) true b e = refl
  kept_row (Some x) false b e = refl

  abbrev o : Option Descriptor
  o = descriptor_of l w j (kind_of_type w.descriptor_type)

  -- what one record holds before and after
  abbrev Step : ℕ → ℕ → Type 0
  Step k m =
      cond (is_some o && ltb (start + j) (length_at r row) && eqb k row && eqb m (start + j)) o (cond (ltb m (length_at r k)) (option_or (descriptor_for row start w j l k m) (stored r k m)) (stored r k m))
      ≡ cond (ltb m (length_at r k)) (option_or (descriptor_for row start w (j + 1) l k m) (stored r k m)) (stored r k m)

  here : Step row (start + j)
  here =
      let a : eqb row row ≡ true = grind (arith, nat_tests) in
      let b : eqb (start + j) (start + j) ≡ true = grind (arith, nat_tests) in
      let e = stored r row (start + j) in
      let n = ltb (start + j) (length_at r row) in
      ap₂ (λ x y. cond (is_some o && n && x && y) o (cond n (option_or (descriptor_for row start w j l row (start + j)) e) e)) a b
      ∙ (ap (λ x. cond (is_some o && n && true && true) o (cond n (option_or x e) e)) at_last
      ∙ (chosen o e n
      ∙ sym (ap (λ x. cond n (option_or x e) e) at_next)))

  by_cases : (k m : ℕ) → ((eqb k row ≡ true) × (k ≡ row)) ⊎ ((eqb k row ≡ false) × (k ≡ row → ⊥)) → ((eqb m (start + j) ≡ true) × (m ≡ start + j)) ⊎ ((eqb m (start + j) ≡ false) × (m ≡ start + j → ⊥)) → Step k m
  by_cases k m (inl (p, e)) (inl (q, f)) = subst (λ x. Step x m) (sym e) (subst (Step row) (sym f) here)
  by_cases k m (inr (p, ne)) b =
      ap (λ x. cond (is_some o && ltb (start + j) (length_at r row) && x && eqb m (start + j)) o (cond (ltb m (length_at r k)) (option_or (descriptor_for row start w j l k m) (stored r k m)) (stored r k m))) p
      ∙ (kept_row o (ltb (start + j) (length_at r row)) (eqb m (start + j)) (cond (ltb m (length_at r k)) (option_or (descriptor_for row start w j l k m) (stored r k m)) (stored r k m))
      ∙ sym (ap (λ x. cond (ltb m (length_at r k)) (option_or x (stored r k m)) (stored r k m)) (other_row k m ne)))
  by_cases k m (inl (p, e)) (inr (q, nf)) =
      ap (λ x. cond (is_some o && ltb (start + j) (length_at r row) && eqb k row && x) o (cond (ltb m (length_at r k)) (option_or (descriptor_for row start w j l k m) (stored r k m)) (stored r k m))) q
      ∙ (kept o (ltb (start + j) (length_at r row)) (eqb k row) (cond (ltb m (length_at r k)) (option_or (descriptor_for row start w j l k m) (stored r k m)) (stored r k m))
      ∙ sym (ap (λ x. cond (ltb m (length_at r k)) (option_or x (stored r k m)) (stored r k m)) (elsewhere k m (inl (p, e)) nf)))

  pub filled_more : (s t : Records) → Filled r row start w j l s → PutAt s row (start + j) (descriptor_of l w j (kind_of_type w.descriptor_type)) t → Filled r row start w (j + 1) l t
  filled_more s t so_far put =
      record {
        lengths = put.lengths ∙ so_far.lengths;
        size = put.size ∙ so_far.size;
        elements = λ k m.
            put.elements k m
            ∙ (ap₂ (λ n e. cond (is_some o && ltb (start + j) n && eqb k row && eqb m (start + j)) o e) (ap (λ f. f row) so_far.lengths) (so_far.elements k m)
            ∙ by_cases k m (eqb_tells k row) (eqb_tells m (start + j)));
      }
