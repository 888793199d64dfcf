-- A device that was just opened.
use Rattle.std.proofs.Common.{◌≡◌, ℕ, zero, suc, get_or, replicate, None, Option, refl, ap, ◌∙◌}
use Rattle.std.specs.Option.{option_map, option_flatten}
use Rattle.rows.specs.declared.table.Table.{Table}
use Rattle.rows.specs.Slots.{is_handle}
use Rattle.rows.specs.Tables.{slot_at, row_of}
use Rattle.rows.specs.Holdings.{found_by}
use Rattle.rows.proofs.Found.{no_row}
use Rattle.counting.specs.Given.{Given}
use Rattle.rows.proofs.Truths.{clash}

nowhere : {X : Type 0} (n i : ℕ) → get_or {A = Option X} (replicate n None) i None ≡ None
nowhere zero i = refl
nowhere (suc n) zero = refl
nowhere (suc n) (suc i) = nowhere n i

module _ {T : Type 0} {n : ℕ} (t : Table T n) (new : t.rows ≡ replicate n None) where
  pub empty_row : (i : ℕ) → slot_at t i ≡ None
  empty_row i = ap (λ rows. get_or rows i None) new ∙ nowhere n i

  pub empty_given : Given 0 t
  empty_given i h e = clash e (ap (is_handle h) (empty_row i))

  pub empty_found : {X : Type 0} (at : ℕ → Option X) (h : ℕ) → found_by (row_of t) at h ≡ None
  empty_found at h = ap (λ o. option_flatten (option_map at o)) (no_row (λ i. is_handle h (slot_at t i)) n (λ i lt. ap (is_handle h) (empty_row i)))
