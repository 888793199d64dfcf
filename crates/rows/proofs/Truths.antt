-- Tests by their values.
use Rattle.std.proofs.Common.{◌≡◌, ℕ, Bool, true, false, not, ◌&&◌, ◌||◌, ◌⊎◌, eqb, is_some, Some, None, Option, sym, refl, inl, inr, arith}
use Rattle.std.proofs.lemmas.Bool.Decides.{nat_tests, eqb_tells}

-- a test has one value
pub clash : {R : Type 0} {b : Bool} → b ≡ true → b ≡ false → R
clash p q = absurd (let z : ◌≡◌ {A = ℕ} 0 1 = cc in omega arith)

pub and_false : (b : Bool) → (b && false) ≡ false
and_false true = refl
and_false false = refl

pub and_true : (b : Bool) → (b && true) ≡ b
and_true true = refl
and_true false = refl

pub or_false : (b : Bool) → b ≡ (b || false)
or_false true = refl
or_false false = refl

-- what a test with several parts tells
pub and_both : (a b : Bool) → (a && b) ≡ true → (a ≡ true) × (b ≡ true)
and_both true true e = (refl, refl)
and_both true false e = clash refl (sym e)
and_both false b e = clash refl (sym e)

pub and_three : (a b c : Bool) → (a && b && c) ≡ true → (a ≡ true) × (b ≡ true) × (c ≡ true)
and_three true true true e = (refl, refl, refl)
and_three false b c e = clash refl (sym e)
and_three true false c e = clash refl (sym e)
and_three true true false e = clash refl (sym e)

pub or_both : (a b : Bool) → (a || b) ≡ false → (a ≡ false) × (b ≡ false)
or_both false b e = (refl, e)
or_both true b e = clash refl e

-- what is not there
pub nothing : {X : Type 0} (o : Option X) → not (is_some o) ≡ true → o ≡ None
nothing None e = refl
nothing (Some x) e = clash refl (sym e)

pub none_there : {X : Type 0} (o : Option X) → is_some o ≡ false → o ≡ None
none_there None e = refl
none_there (Some x) e = clash refl e

-- an index at which a function is updated, or another
pub met_at : (k i : ℕ) → ((eqb i k ≡ true) × (k ≡ i)) ⊎ ((eqb i k ≡ false) × (k ≡ i → ⊥))
met_at k i = by (eqb_tells i k)
  where
    by : ((eqb i k ≡ true) × (i ≡ k)) ⊎ ((eqb i k ≡ false) × (i ≡ k → ⊥)) → ((eqb i k ≡ true) × (k ≡ i)) ⊎ ((eqb i k ≡ false) × (k ≡ i → ⊥))
    by (inl (b, e)) = inl (b, sym e)
    by (inr (b, ne)) = inr (b, λ e. ne (sym e))

pub eqb_turned : (a b : ℕ) → eqb a b ≡ eqb b a
eqb_turned a b = by (eqb_tells a b)
  where
    by : ((eqb a b ≡ true) × (a ≡ b)) ⊎ ((eqb a b ≡ false) × (a ≡ b → ⊥)) → eqb a b ≡ eqb b a
    by (inl (p, e)) = grind (arith, nat_tests)
    by (inr (p, ne)) = grind (arith, nat_tests)
