-- Records that are moved within their list. Assumes nothing.
use Rattle.std.specs.Prelude.{◌≡◌, ℕ, ◌+◌, ◌<◌, ◌≤◌, List, None, Option, slice_index_or}

module _ {T : Type 0} where
  -- those from `start` to `end` stand `by` places higher, and the gap is clear; what stood behind them is of no account
  pub record Raised (xs : List (Option T)) (start end by : ℕ) (ys : List (Option T)) : Type 0 where
    pub before : (k : ℕ) → k < start → slice_index_or ys k None ≡ slice_index_or xs k None
    pub gap : (k : ℕ) → start ≤ k → k < start + by → slice_index_or ys k None ≡ None
    pub behind : (k : ℕ) → start ≤ k → k < end → slice_index_or ys (k + by) None ≡ slice_index_or xs k None

  -- those from `start + by` to `end` stand `by` places lower
  pub record Lowered (xs : List (Option T)) (start end by : ℕ) (ys : List (Option T)) : Type 0 where
    pub before : (k : ℕ) → k < start → slice_index_or ys k None ≡ slice_index_or xs k None
    pub behind : (k : ℕ) → start ≤ k → k + by < end → slice_index_or ys k None ≡ slice_index_or xs (k + by) None
