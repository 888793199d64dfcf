-- Sums over the handles below a bound.
use Rattle.std.proofs.Common.{◌≡◌, ℕ, zero, suc, ◌+◌, ◌<◌, ◌≤◌, eqb, List, length, get_or, take, sum_by, Option, refl, ap₂, add-one, arith}
use Rattle.std.specs.Map.{update}
use Rattle.std.proofs.lemmas.List.Sums.{sum_by_more}
use Rattle.std.proofs.lemmas.Bool.Decides.{nat_tests}
use Rattle.device.specs.Meaning.{sum_below}

-- equal terms, equal sums
pub below_same : (n : ℕ) (f g : ℕ → ℕ) → ((h : ℕ) → f h ≡ g h) → sum_below n f ≡ sum_below n g
unfolding sum_below
below_same zero f g e = refl
below_same (suc n) f g e = ap₂ ◌+◌ (e n) (below_same n f g e)

-- a sum from its beginning, number by number
pub below_start : (f : ℕ → ℕ) → sum_below 0 f ≡ 0
unfolding sum_below
below_start f = refl

pub below_next : (n : ℕ) (f : ℕ → ℕ) → sum_below (n + 1) f ≡ f n + sum_below n f
unfolding sum_below
below_next n f = rw (add-one n) refl

pub below_none : (n : ℕ) (f : ℕ → ℕ) → ((h : ℕ) → f h ≡ 0) → sum_below n f ≡ 0
unfolding sum_below
below_none zero f e = refl
below_none (suc n) f e = omega (arith, e n, below_none n f e)

-- a sum over the first elements of a list, by their places
pub sum_by-take : {X : Type 0} (f : X → ℕ) (xs : List X) (d : X) (n : ℕ) → n ≤ length xs → sum_by f (take n xs) ≡ sum_below n (λ i. f (get_or xs i d))
unfolding sum_below
sum_by-take f xs d zero l = refl
sum_by-take f xs d (suc n) l =
    let more = sum_by_more f xs n d (omega arith) in
    let e = add-one n in
    omega (arith, rw e at more, sum_by-take f xs d n (omega arith))

-- one term changed, at or past the bound and below it
module _ {X : Type 0} (value : Option X → ℕ) (held : ℕ → Option X) (h : ℕ) (w : Option X) where
  below_past : (n : ℕ) → n ≤ h → sum_below n (λ q. value (update eqb held h w q)) ≡ sum_below n (λ q. value (held q))
  unfolding sum_below
  below_past zero l = refl
  below_past (suc n) l = let more = below_past n (omega (arith, l)) in grind (arith, nat_tests)

  pub below_put : (n : ℕ) → h < n → sum_below n (λ q. value (update eqb held h w q)) + value (held h) ≡ sum_below n (λ q. value (held q)) + value w
  unfolding sum_below
  below_put zero l = absurd (omega (arith, l))
  below_put (suc n) l = let more = below_put n in let past = below_past n in grind (arith, nat_tests)
