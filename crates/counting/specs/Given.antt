-- Handles that were given. Assumes nothing.
use Rattle.std.specs.Prelude.{◌≡◌, ℕ, ◌≤◌, true}
use Rattle.rows.specs.declared.table.Table.{Table}
use Rattle.rows.specs.Slots.{is_handle}
use Rattle.rows.specs.Tables.{slot_at}

-- every handle in a table was given, so it is not past the last one
abbrev pub Given : {T : Type 0} {n : ℕ} → ℕ → Table T n → Type 0
Given last t = (i h : ℕ) → is_handle h (slot_at t i) ≡ true → h ≤ last
