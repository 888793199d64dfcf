-- What a table finds under a handle, as its rows change.
use Rattle.std.proofs.Common.{◌≡◌, ℕ, zero, suc, ◌+◌, ◌<◌, Bool, true, false, cond, not, eqb, ltb, ◌⊎◌, List, [], ◌∷◌, ◌++◌, length, get_or, set, is_some, Some, None, Option, sym, refl, ap, ◌∙◌, subst, inl, inr, arith, length-set, get_or-set_other, get_or-set_same, take}
use native.Mathlib.Decide.{dec_lt}
use mathlib.Core.Path.{fun_ext}
use Rattle.std.proofs.lemmas.List.{get_or_past, take_all}
use Rattle.std.proofs.lemmas.List.Folds.{find-append}
use Rattle.std.specs.List.{position_from, list_any, find, range_with_len}
use Rattle.std.proofs.lemmas.Iterator.Adapters.{position_from-zero}
use Rattle.std.proofs.lemmas.Bool.Decides.{nat_tests, eqb_tells}
use Rattle.std.specs.Map.{update}
use Rattle.std.specs.Option.{option_or, option_map}
use Rattle.conversion.proofs.Searches.{first_some, first_none, first_position, all_false}
use Rattle.rows.specs.declared.slots.Slot.{Slot}
use Rattle.rows.specs.Slots.{first_row, is_handle, share}
use Rattle.rows.proofs.Truths.{met_at, and_three, nothing}
use Rattle.rows.specs.declared.table.Table.{Table}
use Rattle.rows.specs.Tables.{slot, slot_at, row_of, can_put, changed}

-- what a search finds is there
pub row_some : (f : ℕ → Bool) (n i : ℕ) → first_row f n ≡ Some i → (f i ≡ true) × (i < n)
unfolding first_row
row_some f n i e = first_some f n i e

pub row_none : (f : ℕ → Bool) (n : ℕ) → first_row f n ≡ None → (i : ℕ) → i < n → f i ≡ false
unfolding first_row
row_none f n e i lt = first_none f n e i lt

pub no_row : (f : ℕ → Bool) (n : ℕ) → ((i : ℕ) → i < n → f i ≡ false) → first_row f n ≡ None
unfolding first_row
no_row f n e = all_false f n e

-- a search from its beginning, row by row
pub row_zero : (f : ℕ → Bool) → first_row f 0 ≡ None
unfolding first_row
row_zero f = refl

pub row_suc : (f : ℕ → Bool) (n : ℕ) → first_row f (suc n) ≡ option_or (first_row f n) (cond (f n) (Some n) None)
unfolding first_row
row_suc f n = refl

-- whether an element passes
pub any-row : {X : Type 0} (p : X → Bool) (xs : List X) (d : X) (n : ℕ) → length xs ≡ n → list_any p xs ≡ is_some (first_row (λ i. p (get_or xs i d)) n)
unfolding first_row
any-row p xs d n e = from 0 xs ∙ ap is_some (sym (position_from-zero p xs) ∙ first_position p xs d n e)
  where
    from : (k : ℕ) (ys : List _) → list_any p ys ≡ is_some (position_from p k ys)
    from k [] = refl
    from k (y ∷ ys) = let more = from (k + 1) ys in grind arith

-- the first number that passes
range-suc : (a n k : ℕ) → a + n ≡ k → range_with_len a (suc n) ≡ range_with_len a n ++ k ∷ []
range-suc a zero k e = let same : a ≡ k = omega arith in ap (λ i. i ∷ []) same
range-suc a (suc n) k e = ap (λ ks. a ∷ ks) (range-suc (a + 1) n k (omega arith))

pub find-range : (p : ℕ → Bool) (n : ℕ) → find p (range_with_len 0 n) ≡ first_row p n
unfolding first_row
find-range p zero = refl
find-range p (suc n) = ap (find p) (range-suc 0 n n (omega arith)) ∙ (find-append p (range_with_len 0 n) (n ∷ []) ∙ ap (λ o. option_or o (cond (p n) (Some n) None)) (find-range p n))

-- equal tests, equal searches
pub row_same : (f g : ℕ → Bool) (n : ℕ) → ((i : ℕ) → f i ≡ g i) → first_row f n ≡ first_row g n
row_same f g n e = ap (λ t. first_row t n) (fun_ext e)

-- a row that is set
pub set_is : {X : Type 0} (rows : List (Option X)) (i : ℕ) (x : Option X) → i < length rows → (λ k. get_or (set rows i x) k None) ≡ update eqb (λ k. get_or rows k None) i x
set_is rows i x lt = fun_ext (λ k. by k (met_at k i))
  where
    by : (k : ℕ) → ((eqb i k ≡ true) × (k ≡ i)) ⊎ ((eqb i k ≡ false) × (k ≡ i → ⊥)) → get_or (set rows i x) k None ≡ update eqb (λ j. get_or rows j None) i x k
    by k (inl (b, e)) = rw (b, e) (get_or-set_same rows i x None lt)
    by k (inr (b, ne)) = rw b (get_or-set_other rows i k x None ne)

pub set_whole : {X : Type 0} (rows : List X) (i n : ℕ) (x : X) → length rows ≡ n → length (set rows i x) ≡ n
set_whole rows i n x e = length-set rows i x ∙ e

-- below the end of a list, what stands past it does not matter
pub get_or_either : {X : Type 0} (xs : List X) (i : ℕ) (d e : X) → i < length xs → get_or xs i d ≡ get_or xs i e
get_or_either [] i d e lt = absurd (omega arith)
get_or_either (x ∷ xs) zero d e lt = refl
get_or_either (x ∷ xs) (suc i) d e lt = get_or_either xs i d e (omega arith)

module _ {T : Type 0} where
  pub is_shared : (h : ℕ) (a b : Option (Slot T)) → is_handle h a ≡ true → is_handle h b ≡ true → share a b ≡ true
  is_shared h None b p q = cc
  is_shared h (Some s) None p q = cc
  is_shared h (Some s) (Some t) p q = grind (arith, nat_tests)

  shared_handle : (a b : Option (Slot T)) → share a b ≡ true → (h : ℕ) × (is_handle h a ≡ true) × (is_handle h b ≡ true)
  shared_handle None b e = let z : ◌≡◌ {A = ℕ} 0 1 = cc in absurd (omega arith)
  shared_handle (Some s) b e = (s.handle, grind (arith, nat_tests), e)

  -- rows by their numbers
  module _ (rows : ℕ → Option (Slot T)) where
    abbrev Apart : Type 0
    Apart = (i j : ℕ) → share (rows i) (rows j) ≡ true → i ≡ j

    abbrev found : ℕ → ℕ → Option ℕ
    found n h = first_row (λ i. is_handle h (rows i)) n

  -- equal rows
  pub same_apart : {a b : ℕ → Option (Slot T)} → a ≡ b → Apart b → Apart a
  same_apart e apart = subst Apart (sym e) apart

  -- a row whose value is changed
  pub changed_is : (rows : List (Option (Slot T))) (i : ℕ) (x : T) (d y : Option (Slot T)) → i < length rows → y ≡ option_map (λ s. slot s.handle x) (get_or rows i d) → (λ k. get_or (set rows i y) k None) ≡ changed (λ k. get_or rows k None) i x
  changed_is rows i x d y lt e = set_is rows i y lt ∙ ap (update eqb (λ k. get_or rows k None) i) (e ∙ ap (option_map (λ s. slot s.handle x)) (get_or_either rows i d None lt))

  -- the row that has a handle is found by it
  pub row_found : (rows : ℕ → Option (Slot T)) (n i h : ℕ) → Apart rows → i < n → is_handle h (rows i) ≡ true → found rows n h ≡ Some i
  row_found rows n i h apart lt e = by (found rows n h) refl
    where
      by : (o : Option ℕ) → found rows n h ≡ o → o ≡ Some i
      by None p = let no : is_handle h (rows i) ≡ false = row_none (λ k. is_handle h (rows k)) n p i lt in let z : ◌≡◌ {A = ℕ} 0 1 = cc in absurd (omega arith)
      by (Some j) p = let there = row_some (λ k. is_handle h (rows k)) n j p in ap Some (apart j i (is_shared h (rows j) (rows i) there.0 e))

  -- a row that is put, with a handle that stands in no row
  module _ (rows : ℕ → Option (Slot T)) (n i h : ℕ) (x : T) (lt : i < n) (unused : rows i ≡ None) (fresh : (k : ℕ) → is_handle h (rows k) ≡ false) where
    at_put : (k a : ℕ) → is_handle k (update eqb rows i (Some (slot h x)) a) ≡ true → ((a ≡ i) × (h ≡ k)) ⊎ (is_handle k (rows a) ≡ true)
    at_put k a e = by (met_at a i) (eqb_tells h k)
      where
        by : ((eqb i a ≡ true) × (a ≡ i)) ⊎ ((eqb i a ≡ false) × (a ≡ i → ⊥)) → ((eqb h k ≡ true) × (h ≡ k)) ⊎ ((eqb h k ≡ false) × (h ≡ k → ⊥)) → ((a ≡ i) × (h ≡ k)) ⊎ (is_handle k (rows a) ≡ true)
        by (inl (p, p')) (inl (q, q')) = inl (p', q')
        by (inl (p, p')) (inr (q, q')) = let z : ◌≡◌ {A = Bool} true false = sym (rw p at e) ∙ q in absurd (let y : ◌≡◌ {A = ℕ} 0 1 = cc in omega arith)
        by (inr (p, p')) _ = inr (rw p at e)

    not_fresh : {R : Type 0} (k a : ℕ) → h ≡ k → is_handle k (rows a) ≡ true → R
    not_fresh k a p e = let q : is_handle k (rows a) ≡ false = ap (λ y. is_handle y (rows a)) (sym p) ∙ fresh a in absurd (let y : ◌≡◌ {A = ℕ} 0 1 = cc in omega arith)

    pub put_apart : Apart rows → Apart (update eqb rows i (Some (slot h x)))
    put_apart apart a b e =
        let s = shared_handle (update eqb rows i (Some (slot h x)) a) (update eqb rows i (Some (slot h x)) b) e in
        by s.0 (at_put s.0 a s.1) (at_put s.0 b s.2)
      where
        by : (k : ℕ) → ((a ≡ i) × (h ≡ k)) ⊎ (is_handle k (rows a) ≡ true) → ((b ≡ i) × (h ≡ k)) ⊎ (is_handle k (rows b) ≡ true) → a ≡ b
        by k (inl p) (inl q) = p.0 ∙ sym q.0
        by k (inl p) (inr q) = not_fresh k b p.1 q
        by k (inr p) (inl q) = not_fresh k a q.1 p
        by k (inr p) (inr q) = apart a b (is_shared k (rows a) (rows b) p q)

    pub put_found : Apart rows → (λ q. found (update eqb rows i (Some (slot h x))) n q) ≡ update eqb (λ q. found rows n q) h (Some i)
    put_found apart = fun_ext (λ q. by q (met_at q h))
      where
        same : (q : ℕ) → (q ≡ h → ⊥) → (k : ℕ) → ((eqb i k ≡ true) × (k ≡ i)) ⊎ ((eqb i k ≡ false) × (k ≡ i → ⊥)) → ((eqb h q ≡ true) × (h ≡ q)) ⊎ ((eqb h q ≡ false) × (h ≡ q → ⊥)) → is_handle q (update eqb rows i (Some (slot h x)) k) ≡ is_handle q (rows k)
        same q ne k (inl (p, p')) (inl (r, r')) = absurd (ne (sym r'))
        same q ne k (inl (p, p')) (inr (r, r')) = rw (p, p', unused) r
        same q ne k (inr (p, p')) _ = rw p refl

        by : (q : ℕ) → ((eqb h q ≡ true) × (q ≡ h)) ⊎ ((eqb h q ≡ false) × (q ≡ h → ⊥)) → found (update eqb rows i (Some (slot h x))) n q ≡ update eqb (λ q. found rows n q) h (Some i) q
        by q (inl (b, e)) =
            let here : is_handle q (update eqb rows i (Some (slot h x)) i) ≡ true = grind (arith, nat_tests) in
            rw b (row_found (update eqb rows i (Some (slot h x))) n i q (put_apart apart) lt here)
        by q (inr (b, ne)) = rw b (row_same (λ k. is_handle q (update eqb rows i (Some (slot h x)) k)) (λ k. is_handle q (rows k)) n (λ k. same q ne k (met_at k i) (eqb_tells h q)))

  -- a row that is cleared
  module _ (rows : ℕ → Option (Slot T)) (i : ℕ) where
    at_cleared : (k a : ℕ) → is_handle k (update eqb rows i None a) ≡ true → (a ≡ i → ⊥) × (is_handle k (rows a) ≡ true)
    at_cleared k a e = by (met_at a i)
      where
        by : ((eqb i a ≡ true) × (a ≡ i)) ⊎ ((eqb i a ≡ false) × (a ≡ i → ⊥)) → (a ≡ i → ⊥) × (is_handle k (rows a) ≡ true)
        by (inl (p, p')) = let q : ◌≡◌ {A = Bool} false true = rw p at e in absurd (let y : ◌≡◌ {A = ℕ} 0 1 = cc in omega arith)
        by (inr (p, p')) = (p', rw p at e)

    pub clear_found : (n h : ℕ) → Apart rows → is_handle h (rows i) ≡ true → (λ q. found (update eqb rows i None) n q) ≡ update eqb (λ q. found rows n q) h None
    clear_found n h apart here = fun_ext (λ q. by q (met_at q h))
      where
        none : (k : ℕ) → is_handle h (update eqb rows i None k) ≡ false
        none k = at (is_handle h (update eqb rows i None k)) refl
          where
            at : (b : Bool) → is_handle h (update eqb rows i None k) ≡ b → b ≡ false
            at true e = let m = at_cleared h k e in absurd (m.0 (apart k i (is_shared h (rows k) (rows i) m.1 here)))
            at false e = refl

        same : (q : ℕ) → (q ≡ h → ⊥) → (k : ℕ) → is_handle q (update eqb rows i None k) ≡ is_handle q (rows k)
        same q ne k = at (met_at k i) (rows k) refl
          where
            at : ((eqb i k ≡ true) × (k ≡ i)) ⊎ ((eqb i k ≡ false) × (k ≡ i → ⊥)) → (o : Option (Slot T)) → rows k ≡ o → is_handle q (update eqb rows i None k) ≡ is_handle q o
            at (inr (p, p')) o e = rw (p, e) refl
            at (inl (p, p')) None e = rw p refl
            at (inl (p, p')) (Some s) e = let w : is_handle h (Some s) ≡ true = ap (is_handle h) (sym e ∙ ap rows p') ∙ here in rw p (grind (arith, nat_tests))

        by : (q : ℕ) → ((eqb h q ≡ true) × (q ≡ h)) ⊎ ((eqb h q ≡ false) × (q ≡ h → ⊥)) → found (update eqb rows i None) n q ≡ update eqb (λ q. found rows n q) h None q
        by q (inl (b, e)) = rw (b, e) (no_row (λ k. is_handle h (update eqb rows i None k)) n (λ k l. none k))
        by q (inr (b, ne)) = rw b (row_same (λ k. is_handle q (update eqb rows i None k)) (λ k. is_handle q (rows k)) n (same q ne))

  -- a row whose value is changed has its handle still
  pub change_handle : (rows : ℕ → Option (Slot T)) (i : ℕ) (x : T) (h k : ℕ) → is_handle h (changed rows i x k) ≡ is_handle h (rows k)
  change_handle rows i x h k = by (met_at k i) (rows i) refl
    where
      by : ((eqb i k ≡ true) × (k ≡ i)) ⊎ ((eqb i k ≡ false) × (k ≡ i → ⊥)) → (o : Option (Slot T)) → rows i ≡ o → is_handle h (changed rows i x k) ≡ is_handle h (rows k)
      by (inr (p, p')) o e = rw p refl
      by (inl (p, p')) None e = rw (p, p', e) refl
      by (inl (p, p')) (Some s) e = rw (p, p', e) refl

  pub change_found : (rows : ℕ → Option (Slot T)) (i : ℕ) (x : T) (n : ℕ) → found (changed rows i x) n ≡ found rows n
  change_found rows i x n = fun_ext (λ q. row_same (λ k. is_handle q (changed rows i x k)) (λ k. is_handle q (rows k)) n (change_handle rows i x q))

  pub change_apart : (rows : ℕ → Option (Slot T)) (i : ℕ) (x : T) → Apart rows → Apart (changed rows i x)
  change_apart rows i x apart a b e =
      let s = shared_handle (changed rows i x a) (changed rows i x b) e in
      apart a b (is_shared s.0 (rows a) (rows b) (sym (change_handle rows i x s.0 a) ∙ s.1) (sym (change_handle rows i x s.0 b) ∙ s.2))

-- all rows, as the first n
pub all_rows : {T : Type 0} {n : ℕ} (t : Table T n) → take n t.rows ≡ t.rows
all_rows {n = n} t = take_all n t.rows (omega (arith, t.whole))

-- what a row that can be put tells
module _ {T : Type 0} {n : ℕ} (t : Table T n) (i h : ℕ) (can : true ≡ can_put t i h) where
  told : (ltb i n ≡ true) × (not (is_some (slot_at t i)) ≡ true) × (not (is_some (row_of t h)) ≡ true)
  told = and_three (ltb i n) (not (is_some (slot_at t i))) (not (is_some (row_of t h))) (sym can)

  pub put_below : i < n
  put_below = let b = told.0 in grind (arith, nat_tests)

  pub put_unused : slot_at t i ≡ None
  put_unused = nothing (slot_at t i) told.1

  pub put_fresh : (k : ℕ) → is_handle h (slot_at t k) ≡ false
  put_fresh k = elim (dec_lt k n) [
    | yes lt ↦ row_none (λ j. is_handle h (slot_at t j)) n (nothing (row_of t h) told.2) k lt
    | no le ↦ ap (is_handle h) (get_or_past t.rows k None (omega (arith, t.whole)))
  ]
