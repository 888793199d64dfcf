-- What segments hold, and what each call changes. Assumes nothing.
use Rattle.std.specs.Prelude.{◌≡◌, ℕ, ◌+◌, Bool, cond, ◌&&◌, Some, None, vec_items, vec_len, Option, ◌==◌, nat_le, nat_lt}
use Rattle.segments.specs.Places.{length_in, start_in, element_in, changed_at}
use Rattle.segments.specs.declared.Segments.{Segments}

module _ {T : Type 0} {S : ℕ} where
  -- how long segment i is; one that is not there has length 0
  abbrev pub length_at : Segments T S → ℕ → ℕ
  length_at s i = length_in s.lengths i

  -- where it begins in the list
  abbrev pub start_at : Segments T S → ℕ → ℕ
  start_at s i = start_in s.lengths i

  -- element j of segment i; nothing past its end
  abbrev pub element : Segments T S → ℕ → ℕ → Option T
  element s i j = element_in s.lengths (vec_items s.records) i j

  -- how many records all segments have
  abbrev pub used : Segments T S → ℕ
  used s = start_at s S

  -- how many they may have in all
  abbrev pub size : Segments T S → ℕ
  size s = vec_len s.records

  -- newly made: all segments are empty
  pub record Empty (records : ℕ) (s : Segments T S) : Type 0 where
    pub lengths : length_at s ≡ (λ i. 0)
    pub size : size s ≡ records
    pub elements : (i j : ℕ) → element s i j ≡ None

  -- element j of segment i is written, if it is there
  pub record Written (s : Segments T S) (i j : ℕ) (x : T) (r : Bool) (t : Segments T S) : Type 0 where
    pub answer : r ≡ nat_lt j (length_at s i)
    pub lengths : length_at t ≡ length_at s
    pub size : size t ≡ size s
    pub elements : (k m : ℕ) → element t k m ≡ cond (r && k == i && m == j) (Some x) (element s k m)

  -- whether segment i can be made: it is one of the segments, it is empty, and there is room
  abbrev pub can_make : Segments T S → ℕ → ℕ → Bool
  can_make s i n = nat_lt i S && length_at s i == 0 && nat_le (used s + n) (size s)

  -- segment i is made, with nothing in its elements, if it can be
  pub record Made (s : Segments T S) (i n : ℕ) (r : Bool) (t : Segments T S) : Type 0 where
    pub answer : r ≡ can_make s i n
    pub lengths : length_at t ≡ cond r (changed_at (length_at s) i n) (length_at s)
    pub size : size t ≡ size s
    pub elements : (k m : ℕ) → element t k m ≡ cond (r && k == i) None (element s k m)

  -- segment i is empty then
  pub record Cleared (s : Segments T S) (i : ℕ) (t : Segments T S) : Type 0 where
    pub lengths : length_at t ≡ changed_at (length_at s) i 0
    pub size : size t ≡ size s
    pub elements : (k m : ℕ) → element t k m ≡ cond (k == i) None (element s k m)
