-- Where segments begin, and how that changes with a length.
use Rattle.std.proofs.Common.{◌≡◌, ℕ, zero, suc, ◌+◌, ◌<◌, ◌≤◌, refl, inl, inr, eq-or-lt_of_le, arith}
use Rattle.std.proofs.lemmas.Bool.Decides.{nat_tests}
use Rattle.device.specs.Meaning.{sum_below}
use Rattle.segments.specs.Places.{changed_at}

module _ (f : ℕ → ℕ) where
  -- a segment begins no earlier than one before it
  pub sum_up_to : (k n : ℕ) → k ≤ n → sum_below k f ≤ sum_below n f
  unfolding sum_below
  sum_up_to k zero l = let e : k ≡ 0 = omega arith in rw e (omega arith)
  sum_up_to k (suc n) l = elim (eq-or-lt_of_le l) [ inl e ↦ rw e (omega arith) | inr lt ↦ omega (arith, sum_up_to k n (omega arith)) ]

  -- a segment ends before any later one begins
  pub sum_within : (k n : ℕ) → k < n → sum_below k f + f k ≤ sum_below n f
  unfolding sum_below
  sum_within k zero l = absurd (omega arith)
  sum_within k (suc n) l = let more = sum_within k n in grind arith

-- one term changed, at or past the bound and below it
module _ (f : ℕ → ℕ) (i v : ℕ) where
  pub sum_before : (n : ℕ) → n ≤ i → sum_below n (changed_at f i v) ≡ sum_below n f
  unfolding sum_below
  sum_before zero l = refl
  sum_before (suc n) l = let more = sum_before n (omega arith) in grind (arith, nat_tests)

  pub sum_behind : (n : ℕ) → i < n → sum_below n (changed_at f i v) + f i ≡ sum_below n f + v
  unfolding sum_below
  sum_behind zero l = absurd (omega arith)
  sum_behind (suc n) l = let more = sum_behind n in let past = sum_before n in grind (arith, nat_tests)
