-- Searches. Assumes nothing.
use Rattle.std.specs.Prelude.{ℕ, zero, suc, Bool, cond, Some, None, Option}
use Rattle.std.specs.Option.{option_or}

-- the first number below n at which the test holds
abbrev pub first : (ℕ → Bool) → ℕ → Option ℕ
first f zero = None
first f (suc n) = option_or (first f n) (cond (f n) (Some n) None)
