-- A set put into its row, with records for its descriptors.
use Rattle.std.proofs.Common.{◌≡◌, ℕ, ◌+◌, ◌<◌, Bool, true, false, cond, ◌&&◌, eqb, ltb, leb, List, get_or, ℤ, is_some, Some, None, Ok, Err, Option, Result, sym, refl, ap, ◌∙◌, arith}
use mathlib.Core.Path.{fun_ext}
use Rattle.std.proofs.lemmas.Bool.Decides.{nat_tests}
use Rattle.std.specs.Map.{update}
use Rattle.std.specs.List.{slice_get}
use Rattle.std.specs.Option.{option_map}
use Rattle.conversion.specs.declared.bindings.DeviceBinding.{DeviceBinding}
use Rattle.device.specs.Meaning.{LiveSet, sum_below}
use Rattle.device.specs.Stored.{described}
use Rattle.device.specs.Results.{no_device_memory}
use Rattle.device.specs.Calls.{new_set}
use Rattle.segments.specs.Places.{changed_at}
use Rattle.segments.specs.Segments.{length_at, element, used, size, can_make, Made}
use Rattle.rows.specs.declared.table.Table.{Table}
use Rattle.rows.specs.declared.holdings.SetRow.{SetRow}
use Rattle.rows.specs.Bindings.{start_of, total_of}
use Rattle.rows.specs.Lists.{list_of}
use Rattle.rows.specs.Tables.{slot, slot_at, row_of, unused_row, can_put}
use Rattle.rows.specs.Holdings.{bindings_at, held_in, held_total, set_at, total_at, found_by, no_bindings}
use Rattle.rows.proofs.Meant.{found_put}
use Rattle.counting.specs.declared.counting.CountingDevice.{CountingDevice}
use Rattle.counting.specs.declared.calls.Place.{Place}
use Rattle.counting.specs.Given.{Given}
use Rattle.counting.specs.Counting.{stored, Records, elements, written_in, live_of, live_in, sets_of, next_handle, in_records, fixed_set}
use Rattle.counting.specs.Counting as c
use Rattle.counting.specs.Steps.{SetPlaced}
use Rattle.counting.proofs.Fixed.{used_is}
use Rattle.counting.specs.Kept.{given_later, given_put, not_given, can_put_lem, unused_is, next_is, in_row_lem}
use Rattle.counting.proofs.Made.{put_rows}
use Rattle.counting.proofs.Places.{none_described, held_here, held_apart, live_same, sized_changed}

-- what a handle that is fixed for a set tells
pub in_records_lem : (d : CountingDevice) (n h : ℕ) (r : Result ℕ ℤ) → in_records d n r ≡ Ok h → (r ≡ Ok h) × (ltb (size d.records) (sum_below 1024 (total_at d.holdings) + n) ≡ false)
in_records_lem d n h (Err e) q = absurd (let z : ◌≡◌ {A = ℕ} 0 1 = cc in omega arith)
in_records_lem d n h (Ok k) q = by (ltb (size d.records) (sum_below 1024 (total_at d.holdings) + n)) refl q
  where
    by : (b : Bool) → ltb (size d.records) (sum_below 1024 (total_at d.holdings) + n) ≡ b → cond {A = Result ℕ ℤ} b (Err no_device_memory) (Ok k) ≡ Ok h → (◌≡◌ {A = Result ℕ ℤ} (Ok k) (Ok h)) × (b ≡ false)
    by true w q = absurd (let z : ◌≡◌ {A = ℕ} 0 1 = cc in omega arith)
    by false w q = (q, refl)

module _ (d : CountingDevice) (n : ℕ) (p : Place) (placed : SetPlaced d n p) where
  told : (c.in_row (is_some (unused_row d.holdings.sets)) (next_handle d) ≡ Ok p.handle) × (ltb (size d.records) (sum_below 1024 (total_at d.holdings) + n) ≡ false)
  told = in_records_lem d n p.handle (c.in_row (is_some (unused_row d.holdings.sets)) (next_handle d)) placed.fixed

  pub placed_next : (p.handle ≡ d.last + 1) × (p.handle < 18446744073709551616)
  placed_next = next_is d p.handle (in_row_lem (is_some (unused_row d.holdings.sets)) (next_handle d) p.handle told.0)

  unused : (slot_at d.holdings.sets p.row ≡ None) × (p.row < 1024)
  unused = unused_is d.holdings.sets p.row placed.row

  pub placed_can : true ≡ can_put d.holdings.sets p.row p.handle
  placed_can = let next = placed_next.0 in can_put_lem d.holdings.sets p.row p.handle unused.1 unused.0 (not_given d.holdings.sets d.last p.handle d.sets (omega arith))

  pub placed_room : true ≡ can_make d.records p.row n
  placed_room =
      let below : ltb p.row 1024 ≡ true = (let lt = unused.1 in grind (arith, nat_tests)) in
      let empty : length_at d.records p.row ≡ 0 = d.sized p.row ∙ ap (λ o. held_total (option_map (λ s. record { pool = s.value.pool; bindings = list_of (get_or d.holdings.bindings s.value.layout no_bindings) }) o)) unused.0 in
      let none : eqb (length_at d.records p.row) 0 ≡ true = grind (arith, nat_tests) in
      let u = used_is d in
      let t = told.1 in
      let fits : leb (used d.records + n) (size d.records) ≡ true = grind (arith, nat_tests) in
      rw (below, none, fits) refl

  module _ (q j : ℕ) (t : Table SetRow 1024) (r : Bool) (answer : r ≡ can_put d.holdings.sets p.row p.handle) (rows : slot_at t ≡ cond r (update eqb (slot_at d.holdings.sets) p.row (Some (slot p.handle (record { pool = q; layout = j })))) (slot_at d.holdings.sets))
      (s : Records) (b : Bool) (made : Made d.records p.row n b s) (total : n ≡ total_of (bindings_at d.holdings j)) where
    after : slot_at t ≡ update eqb (slot_at d.holdings.sets) p.row (Some (slot p.handle (record { pool = q; layout = j })))
    after = put_rows d.holdings.sets t p.row p.handle (record { pool = q; layout = j }) r answer placed_can rows

    is_made : b ≡ true
    is_made = made.answer ∙ sym placed_room

    lengths : length_at s ≡ changed_at (length_at d.records) p.row n
    lengths = made.lengths ∙ ap (λ x. cond x (changed_at (length_at d.records) p.row n) (length_at d.records)) is_made

    contents : (k m : ℕ) → stored s k m ≡ cond (eqb k p.row) None (stored d.records k m)
    contents k m = ap (option_map described) (made.elements k m) ∙ (none_described (b && eqb k p.row) (element d.records k m) ∙ ap (λ x. cond (x && eqb k p.row) None (stored d.records k m)) is_made)

    pub placed_given : Given p.handle t
    placed_given = let next = placed_next.0 in given_put d.holdings.sets t p.row p.handle (record { pool = q; layout = j }) (omega arith) after (given_later d.holdings.sets t (omega arith) d.sets)

    pub placed_sized : (k : ℕ) → length_at s k ≡ held_total (held_in d.holdings.bindings t k)
    placed_sized = sized_changed d.holdings.bindings d.holdings.sets t d.records s p.row n (Some (slot p.handle (record { pool = q; layout = j }))) after lengths total d.sized

    nothing_there : (bs : List DeviceBinding) → written_in s p.row bs ≡ (λ x y. None)
    nothing_there bs = fun_ext (λ x. fun_ext (λ y. by x y (ltb y (elements (slice_get bs x)))))
      where
        here : eqb p.row p.row ≡ true
        here = grind (arith, nat_tests)

        by : (x y : ℕ) (b : Bool) → cond b (stored s p.row (start_of bs x + y)) None ≡ None
        by x y true = contents p.row (start_of bs x + y) ∙ ap (λ b. cond b None (stored d.records p.row (start_of bs x + y))) here
        by x y false = refl

    pub placed_sets : found_by (row_of t) (live_in (held_in d.holdings.bindings t) s) ≡ update eqb (sets_of d.holdings d.records) p.handle (Some (new_set q (bindings_at d.holdings j)))
    placed_sets = found_put d.holdings.sets t p.row p.handle (record { pool = q; layout = j }) (live_in (set_at d.holdings) d.records) (live_in (held_in d.holdings.bindings t) s) (new_set q (bindings_at d.holdings j)) placed_can after here others
      where
        here : live_in (held_in d.holdings.bindings t) s p.row ≡ Some (new_set q (bindings_at d.holdings j))
        here =
            ap (option_map (live_of s p.row)) (held_here d.holdings.bindings d.holdings.sets t p.row (Some (slot p.handle (record { pool = q; layout = j }))) after)
            ∙ ap {B = Option LiveSet} (λ w. Some (record { pool = q; bindings = bindings_at d.holdings j; written = w })) (nothing_there (bindings_at d.holdings j))

        others : (k : ℕ) → (k ≡ p.row → ⊥) → live_in (held_in d.holdings.bindings t) s k ≡ live_in (set_at d.holdings) d.records k
        others k ne =
            let apart : eqb k p.row ≡ false = grind (arith, nat_tests) in
            ap (option_map (live_of s k)) (held_apart d.holdings.bindings d.holdings.sets t p.row k (Some (slot p.handle (record { pool = q; layout = j }))) after ne)
            ∙ live_same (set_at d.holdings) d.records s k (λ m. contents k m ∙ ap (λ x. cond x None (stored d.records k m)) apart)
