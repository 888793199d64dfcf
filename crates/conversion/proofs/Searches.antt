-- What a search for the first number finds, and how it goes on.
use Rattle.std.proofs.Common.{◌≡◌, ℕ, zero, suc, ◌+◌, ◌<◌, Bool, true, false, cond, List, length, get_or, Some, None, Option, refl, sym, ap, ◌∙◌, subst, inl, inr, le_of_suc-le-suc, eq-or-lt_of_le, add-one, arith}
use native.Mathlib.Decide.{dec_lt}
use Rattle.std.specs.Option.{option_or}
use Rattle.std.specs.List.{position, position_or_len}
use Rattle.std.proofs.lemmas.List.Sums.{fails_before_first, passes_at_first}
use Rattle.std.proofs.lemmas.Bool.{lt-ltb, le-ltb}
use Rattle.conversion.specs.Lists.{first}

-- none so far, and not here
pub first_next : (f : ℕ → Bool) (i : ℕ) → first f i ≡ None → f i ≡ false → first f (i + 1) ≡ None
first_next f i e x = rw (add-one i, e, x)

-- none so far, and here
pub first_at : (f : ℕ → Bool) (i n : ℕ) → i < n → first f i ≡ None → f i ≡ true → first f n ≡ Some i
first_at f i zero h e x = absurd (omega (arith, h))
first_at f i (suc n) h e x =
    let P : ℕ → Type 0 = λ k. first f (suc k) ≡ Some i in
    elim (eq-or-lt_of_le (le_of_suc-le-suc h)) [ inl q ↦ subst P q (rw (e, x)) | inr q ↦ rw (first_at f i n q e x) ]

both_none : (o : Option ℕ) (b : Bool) (n : ℕ) → option_or o (cond b (Some n) None) ≡ None → (o ≡ None) × (b ≡ false)
both_none None true n e = let z : ◌≡◌ {A = ℕ} 0 1 = cc in absurd (omega arith)
both_none None false n e = (refl, refl)
both_none (Some x) b n e = let z : ◌≡◌ {A = ℕ} 0 1 = cc in absurd (omega arith)

-- a search that finds none: the test fails at each number
pub first_none : (f : ℕ → Bool) (n : ℕ) → first f n ≡ None → (i : ℕ) → i < n → f i ≡ false
first_none f zero e i h = absurd (omega (arith, h))
first_none f (suc n) e i h =
    let p = both_none (first f n) (f n) n e in
    elim (eq-or-lt_of_le (le_of_suc-le-suc h)) [ inl q ↦ ap f q ∙ p.1 | inr q ↦ first_none f n p.0 i q ]

-- and back
pub all_false : (f : ℕ → Bool) (n : ℕ) → ((i : ℕ) → i < n → f i ≡ false) → first f n ≡ None
all_false f zero g = refl
all_false f (suc n) g = rw (all_false f n (λ i h. g i (omega (arith, h))), g n (omega arith))

-- what a search finds passes
pub first_some : (f : ℕ → Bool) (n i : ℕ) → first f n ≡ Some i → (f i ≡ true) × (i < n)
first_some f zero i e = let z : ◌≡◌ {A = ℕ} 0 1 = cc in absurd (omega arith)
first_some f (suc n) i e = by (first f n) (f n) refl refl e (first_some f n i)
  where
    by : (o : Option ℕ) (b : Bool) → first f n ≡ o → f n ≡ b → option_or o (cond b (Some n) None) ≡ Some i → (first f n ≡ Some i → (f i ≡ true) × (i < n)) → (f i ≡ true) × (i < suc n)
    by None true p q e more = let same : n ≡ i = cc in (ap f (sym same) ∙ q, omega arith)
    by None false p q e more = let z : ◌≡◌ {A = ℕ} 0 1 = cc in absurd (omega arith)
    by (Some k) b p q e more = let m = more (p ∙ e) in (m.0, omega (arith, m.1))

-- the first element of a list that passes stands at the first number at which it does
pub first_position : {X : Type 0} (p : X → Bool) (xs : List X) (d : X) (n : ℕ) → length xs ≡ n → position p xs ≡ first (λ i. p (get_or xs i d)) n
first_position p xs d n e =
    let at = position_or_len p xs in
    let test = λ (i : ℕ). p (get_or xs i d) in
    elim (dec_lt at (length xs)) [
      | yes lt ↦ ap (λ b. cond b (Some at) None) (lt-ltb at (length xs) lt) ∙ sym (first_at test at n (omega arith) (all_false test at (λ k l. fails_before_first p xs k d l)) (passes_at_first p xs d lt))
      | no le ↦ ap (λ b. cond b (Some at) None) (le-ltb at (length xs) (omega arith)) ∙ sym (all_false test n (λ k l. fails_before_first p xs k d (omega arith)))
    ]
