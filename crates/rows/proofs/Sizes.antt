-- The sizes of a valid pool: each type stands once.
use Rattle.std.proofs.Common.{◌≡◌, ℕ, zero, suc, ◌<◌, ◌≤◌, Bool, true, false, cond, ◌||◌, eqb, List, [], ◌∷◌, ◌++◌, length, get_or, take, sum_by, Some, None, Option, sym, refl, ap, ◌∙◌, arith}
use Rattle.std.proofs.lemmas.List.Sums.{sum_by-cons, sum_by_push}
use Rattle.std.proofs.lemmas.List.{take_all}
use Rattle.std.proofs.lemmas.List.Folds.{find-append}
use Rattle.std.proofs.Math.Seq.{take-suc}
use borrow.Author.Tests.{eqb-true}
use Rattle.std.specs.List.{find}
use Rattle.std.specs.Option.{option_or}
use Rattle.conversion.specs.Lists.{first}
use Rattle.conversion.specs.Kinds.{type_number}
use Rattle.conversion.specs.declared.kinds.Kind.{Kind}
use Rattle.conversion.proofs.Searches.{first_none}
use Rattle.rows.proofs.Truths.{none_there}
use Rattle.device.specs.Meaning.{size_of}
use Rattle.device.specs.Calls.{has_type, unknown_type, no_size, invalid_size_at, invalid_sizes}
use Rattle.device.specs.declared.records.PoolSize.{PoolSize}

no_size_lem : (k : Kind) (ss : List PoolSize) → has_type (type_number k) ss ≡ false → size_of k ss ≡ 0
no_size_lem k [] e = refl
no_size_lem k (s ∷ ss) e = by (eqb s.descriptor_type (type_number k)) refl e (no_size_lem k ss)
  where
    f : PoolSize → ℕ
    f x = cond (eqb x.descriptor_type (type_number k)) x.count 0

    by : (b : Bool) → eqb s.descriptor_type (type_number k) ≡ b → (b || has_type (type_number k) ss) ≡ false → (has_type (type_number k) ss ≡ false → size_of k ss ≡ 0) → size_of k (s ∷ ss) ≡ 0
    by true q e more = let z : ◌≡◌ {A = ℕ} 0 1 = cc in absurd (omega arith)
    by false q e more = let none : f s ≡ 0 = ap (λ b. cond b s.count 0) q in sum_by-cons f s ss ∙ omega (arith, none, more e)

last_of : (a b c : Bool) → (a || (b || c)) ≡ false → c ≡ false
last_of false false c e = e
last_of true b c e = let z : ◌≡◌ {A = ℕ} 0 1 = cc in absurd (omega arith)
last_of false true c e = let z : ◌≡◌ {A = ℕ} 0 1 = cc in absurd (omega arith)

-- nor is one found
none_found : (t : ℕ) (ss : List PoolSize) → has_type t ss ≡ false → find (λ s. eqb s.descriptor_type t) ss ≡ None
none_found t [] e = refl
none_found t (s ∷ ss) e = let more = none_found t ss in grind arith

-- how many the size of a kind has, if there is one
abbrev pub counted : Option PoolSize → ℕ
counted None = 0
counted (Some s) = s.count

module _ (p : PoolSize → Bool) (xs : List PoolSize) (s : PoolSize) where
  abbrev in_size : PoolSize → ℕ
  in_size x = cond (p x) x.count 0

  -- a size that is the first to pass, and one that does not pass
  more_here : p s ≡ true → sum_by in_size xs ≡ 0 → find p xs ≡ None → sum_by in_size (xs ++ s ∷ []) ≡ counted (find p (xs ++ s ∷ []))
  more_here q none first =
      let one : in_size s ≡ s.count = ap (λ b. cond b s.count 0) q in
      let here : find p (xs ++ s ∷ []) ≡ Some s = find-append p xs (s ∷ []) ∙ rw (first, q) refl in
      let more = sum_by_push in_size xs s in
      omega (arith, more, one, none) ∙ sym (ap counted here)

  more_there : p s ≡ false → sum_by in_size xs ≡ counted (find p xs) → sum_by in_size (xs ++ s ∷ []) ≡ counted (find p (xs ++ s ∷ []))
  more_there q same =
      let one : in_size s ≡ 0 = ap (λ b. cond b s.count 0) q in
      let there : find p (xs ++ s ∷ []) ≡ find p xs = find-append p xs (s ∷ []) ∙ (rw q (or_none (find p xs))) in
      let more = sum_by_push in_size xs s in
      omega (arith, more, one, same) ∙ sym (ap counted there)
    where
      or_none : (o : Option PoolSize) → option_or o None ≡ o
      or_none None = refl
      or_none (Some x) = refl

module _ (k : Kind) (ss : List PoolSize) (valid : invalid_sizes ss ≡ false) where
  -- before a size of a kind there is none of it
  alone : (i : ℕ) → i < length ss → (get_or ss i no_size).descriptor_type ≡ type_number k → has_type (type_number k) (take i ss) ≡ false
  alone i lt q =
      let s = get_or ss i no_size in
      let ok = first_none (invalid_size_at ss) (length ss) (none_there (first (invalid_size_at ss) (length ss)) valid) i lt in
      ap (λ t. has_type t (take i ss)) (sym q) ∙ last_of (eqb s.count 0) (unknown_type s.descriptor_type) (has_type s.descriptor_type (take i ss)) ok

  abbrev is_size : PoolSize → Bool
  is_size s = eqb s.descriptor_type (type_number k)

  up_to : (n : ℕ) → n ≤ length ss → size_of k (take n ss) ≡ counted (find is_size (take n ss))
  up_to zero le = refl
  up_to (suc n) le = rw (take-suc ss n no_size (omega arith)) (by (is_size (get_or ss n no_size)) refl (up_to n (omega arith)))
    where
      by : (b : Bool) → is_size (get_or ss n no_size) ≡ b → size_of k (take n ss) ≡ counted (find is_size (take n ss)) → size_of k (take n ss ++ get_or ss n no_size ∷ []) ≡ counted (find is_size (take n ss ++ get_or ss n no_size ∷ []))
      by true q same =
          let apart = alone n (omega arith) (eqb-true (get_or ss n no_size).descriptor_type (type_number k) q) in
          more_here is_size (take n ss) (get_or ss n no_size) q (no_size_lem k (take n ss) apart) (none_found (type_number k) (take n ss) apart)
      by false q same = more_there is_size (take n ss) (get_or ss n no_size) q same

  -- so it is found by its type
  pub size_found : size_of k ss ≡ counted (find is_size ss)
  size_found =
      let all = take_all (length ss) ss (omega arith) in
      ap (size_of k) (sym all) ∙ (up_to (length ss) (omega arith) ∙ ap (λ s. counted (find is_size s)) all)
