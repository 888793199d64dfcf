-- A table by its rows and by its handles. Assumes nothing.
use Rattle.std.specs.Prelude.{ℕ, Bool, not, ◌&&◌, is_some, Some, None, Option, nat_eq, nat_lt, slice_index_or}
use Rattle.std.specs.Map.{update}
use Rattle.std.specs.Option.{option_map}
use Rattle.device.specs.Meaning.{sum_below}
use Rattle.rows.specs.declared.slots.Slot.{Slot}
use Rattle.rows.specs.declared.table.Table.{Table}
use Rattle.rows.specs.Slots.{first_row, is_handle}

-- one for a row that is used
abbrev pub one_if_used : {T : Type 0} → Option (Slot T) → ℕ
one_if_used None = 0
one_if_used (Some s) = 1

module _ {T : Type 0} {n : ℕ} where
  -- what stands in row i; past the last row, nothing
  abbrev pub slot_at : Table T n → ℕ → Option (Slot T)
  slot_at t i = slice_index_or t.rows i None

  -- the row of a handle
  abbrev pub row_of : Table T n → ℕ → Option ℕ
  row_of t h = first_row (λ i. is_handle h (slot_at t i)) n

  -- the first row that is not used
  abbrev pub unused_row : Table T n → Option ℕ
  unused_row t = first_row (λ i. not (is_some (slot_at t i))) n

  -- how many rows are used
  abbrev pub used_rows : Table T n → ℕ
  used_rows t = sum_below n (λ i. one_if_used (slot_at t i))

  -- whether a handle can be put into row i: the row is there and not used, and no row has the handle
  abbrev pub can_put : Table T n → ℕ → ℕ → Bool
  can_put t i h = nat_lt i n && not (is_some (slot_at t i)) && not (is_some (row_of t h))

module _ {T : Type 0} where
  -- a used row by its parts
  abbrev pub slot : ℕ → T → Slot T
  slot h x = record { handle = h; value = x }

  -- rows with another value in row i, if it is used
  abbrev pub changed : (ℕ → Option (Slot T)) → ℕ → T → ℕ → Option (Slot T)
  changed rows i x = update nat_eq rows i (option_map (λ s. slot s.handle x) (rows i))
