-- Making a layout.
use Rattle.std.proofs.Common.{◌≡◌, ℕ, ◌+◌, ◌<◌, Bool, true, false, cond, ◌&&◌, eqb, leb, List, length, set, is_some, Some, Ok, ap, ◌∙◌, arith}
use Rattle.std.specs.Map.{update}
use Rattle.conversion.specs.declared.bindings.DeviceBinding.{DeviceBinding}
use Rattle.device.specs.Calls.{invalid_layout, layout_answer}
use Rattle.rows.specs.declared.table.Table.{Table}
use Rattle.rows.specs.Tables.{slot, slot_at, row_of, can_put}
use Rattle.rows.specs.Holdings.{free_layout_row, found_by, layout_in, layouts_of, held_in, set_at}
use Rattle.counting.specs.declared.counting.CountingDevice.{CountingDevice}
use Rattle.counting.specs.declared.calls.LayoutPlace.{LayoutPlace}
use Rattle.counting.specs.Counting.{meaning_of, next_handle}
use Rattle.counting.specs.Given.{Given}
use Rattle.counting.specs.Steps.{LayoutPlaced}
use Rattle.counting.proofs.Made.{put_rows, layouts_put}
use Rattle.counting.specs.Kept.{given_later, given_put, held_same, not_given, can_put_lem, free_below, free_unused, next_is, in_row_lem}

module _ (d : CountingDevice) (bs : List DeviceBinding) (p : LayoutPlace) (placed : LayoutPlaced d bs p) where
  pub placed_next : (p.place.handle ≡ d.last + 1) × (p.place.handle < 18446744073709551616)
  placed_next = next_is d p.place.handle (in_row_lem (leb (length bs) 32 && is_some (free_layout_row d.holdings)) (next_handle d) p.place.handle placed.fixed)

  pub placed_can : true ≡ can_put d.holdings.layouts p.place.row p.place.handle
  placed_can =
      let next = placed_next.0 in
      can_put_lem d.holdings.layouts p.place.row p.place.handle (free_below d.holdings p.place.row placed.row) (free_unused d.holdings p.place.row placed.row) (not_given d.holdings.layouts d.last p.place.handle d.layouts (omega arith))

  pub placed_answer : (flags : ℕ) → invalid_layout bs ≡ false → layout_answer (meaning_of d) bs flags ≡ Ok p.place.handle
  placed_answer flags valid = rw valid placed.fixed

  module _ (flags : ℕ) (t : Table ℕ 64) (r : Bool) (answer : r ≡ can_put d.holdings.layouts p.place.row p.place.handle) (rows : slot_at t ≡ cond r (update eqb (slot_at d.holdings.layouts) p.place.row (Some (slot p.place.handle flags))) (slot_at d.holdings.layouts)) where
    after : slot_at t ≡ update eqb (slot_at d.holdings.layouts) p.place.row (Some (slot p.place.handle flags))
    after = put_rows d.holdings.layouts t p.place.row p.place.handle flags r answer placed_can rows

    -- the handles in all tables have been given
    pub placed_given : Given p.place.handle t × (Given p.place.handle d.holdings.pools × Given p.place.handle d.holdings.sets)
    placed_given =
        let next = placed_next.0 in (
          given_put d.holdings.layouts t p.place.row p.place.handle flags (omega arith) after (given_later d.holdings.layouts t (omega arith) d.layouts),
          (given_later d.holdings.pools d.holdings.pools (omega arith) d.pools, given_later d.holdings.sets d.holdings.sets (omega arith) d.sets),
        )

    -- and the layout is held
    pub placed_held : found_by (row_of t) (layout_in (set d.holdings.bindings p.place.row p.bindings) t) ≡ update eqb (layouts_of d.holdings) p.place.handle (Some (record { bindings = bs; flags = flags }))
    placed_held =
        let below = free_below d.holdings p.place.row placed.row in
        layouts_put d.holdings.bindings d.holdings.layouts t p.place.row p.place.handle flags p.bindings (omega (arith, below, d.holdings.whole)) placed_can after
        ∙ ap (λ l. update eqb (layouts_of d.holdings) p.place.handle (Some (record { bindings = l; flags = flags }))) placed.list

  -- sets keep their bindings
  pub placed_sets : held_in (set d.holdings.bindings p.place.row p.bindings) d.holdings.sets ≡ set_at d.holdings
  placed_sets = held_same d.holdings p.place.row placed.row p.bindings
