-- Where segments stand, by their lengths. Assumes nothing.
use Rattle.std.specs.Prelude.{ℕ, ◌+◌, cond, List, None, Option, ◌==◌, nat_lt, slice_index, slice_index_or}
use Rattle.device.specs.Meaning.{sum_below}

-- how long segment i is; past the last there is none
abbrev pub length_in : List ℕ → ℕ → ℕ
length_in lengths i = slice_index lengths i

-- where it begins: after all segments before it
abbrev pub start_in : List ℕ → ℕ → ℕ
start_in lengths i = sum_below i (length_in lengths)

-- element j of segment i; nothing past its end
abbrev pub element_in : {T : Type 0} → List ℕ → List (Option T) → ℕ → ℕ → Option T
element_in lengths records i j = cond (nat_lt j (length_in lengths i)) (slice_index_or records (start_in lengths i + j) None) None

-- lengths with that of segment i changed
abbrev pub changed_at : (ℕ → ℕ) → ℕ → ℕ → ℕ → ℕ
changed_at f i n k = cond (k == i) n (f k)
