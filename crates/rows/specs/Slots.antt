-- Rows, each unused or with a handle and what it names. Assumes nothing.
use Rattle.std.specs.Prelude.{◌≡◌, ℕ, Bool, true, false, List, Some, None, Option, ◌==◌, slice_index_or}
use Rattle.conversion.specs.Lists.{first}
use Rattle.rows.specs.declared.slots.Slot.{Slot}

-- the first of n rows at which a test holds
unfoldable pub first_row : (ℕ → Bool) → ℕ → Option ℕ
first_row f n = first f n

module _ {T : Type 0} where
  -- whether a row has that handle
  abbrev pub is_handle : ℕ → Option (Slot T) → Bool
  is_handle h None = false
  is_handle h (Some s) = s.handle == h

  -- whether two rows have the same handle
  abbrev pub share : Option (Slot T) → Option (Slot T) → Bool
  share None b = false
  share (Some s) b = is_handle s.handle b

  -- no handle stands in two rows
  abbrev pub Differ : List (Option (Slot T)) → Type 0
  Differ rows = (i j : ℕ) → share (slice_index_or rows i None) (slice_index_or rows j None) ≡ true → i ≡ j
