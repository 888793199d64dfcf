-- Making a pool.
use Rattle.std.proofs.Common.{◌≡◌, ℕ, ◌+◌, ◌<◌, Bool, true, false, cond, eqb, List, is_some, Some, None, Ok, refl, arith}
use Rattle.std.specs.Map.{update}
use Rattle.device.specs.declared.records.PoolSize.{PoolSize}
use Rattle.device.specs.Calls.{invalid_pool, pool_answer}
use Rattle.rows.specs.declared.table.Table.{Table}
use Rattle.rows.specs.declared.pools.PoolRow.{PoolRow}
use Rattle.rows.specs.Pools.{live_pool}
use Rattle.rows.specs.Tables.{slot, slot_at, row_of, unused_row, can_put}
use Rattle.rows.specs.Holdings.{found_by, pool_in, pools_of}
use Rattle.counting.specs.declared.counting.CountingDevice.{CountingDevice}
use Rattle.counting.specs.declared.calls.Place.{Place}
use Rattle.counting.specs.Given.{Given}
use Rattle.counting.specs.Counting.{meaning_of, next_handle}
use Rattle.counting.specs.Steps.{PoolPlaced}
use Rattle.counting.specs.Kept.{given_later, given_put, not_given, can_put_lem, unused_is, next_is, in_row_lem}
use Rattle.counting.proofs.Made.{put_rows, pools_put}

-- what a row that was made says
pub made_row : {X : Type 0} (b : Bool) (x y : X) → Some x ≡ cond b None (Some y) → (b ≡ false) × (x ≡ y)
made_row true x y e = absurd (let z : ◌≡◌ {A = ℕ} 0 1 = cc in omega arith)
made_row false x y e = (refl, cc)

module _ (d : CountingDevice) (p : Place) (placed : PoolPlaced d p) where
  pub placed_next : (p.handle ≡ d.last + 1) × (p.handle < 18446744073709551616)
  placed_next = next_is d p.handle (in_row_lem (is_some (unused_row d.holdings.pools)) (next_handle d) p.handle placed.fixed)

  pub placed_can : true ≡ can_put d.holdings.pools p.row p.handle
  placed_can =
      let next = placed_next.0 in
      let unused = unused_is d.holdings.pools p.row placed.row in
      can_put_lem d.holdings.pools p.row p.handle unused.1 unused.0 (not_given d.holdings.pools d.last p.handle d.pools (omega arith))

  pub placed_answer : (most : ℕ) (sizes : List PoolSize) (flags : ℕ) → invalid_pool most sizes ≡ false → pool_answer (meaning_of d) most sizes flags ≡ Ok p.handle
  placed_answer most sizes flags valid = rw valid placed.fixed

  module _ (x : PoolRow) (t : Table PoolRow 128) (r : Bool) (answer : r ≡ can_put d.holdings.pools p.row p.handle) (rows : slot_at t ≡ cond r (update eqb (slot_at d.holdings.pools) p.row (Some (slot p.handle x))) (slot_at d.holdings.pools)) where
    after : slot_at t ≡ update eqb (slot_at d.holdings.pools) p.row (Some (slot p.handle x))
    after = put_rows d.holdings.pools t p.row p.handle x r answer placed_can rows

    pub placed_given : Given p.handle d.holdings.layouts × Given p.handle t × Given p.handle d.holdings.sets
    placed_given =
        let next = placed_next.0 in (
          given_later d.holdings.layouts d.holdings.layouts (omega arith) d.layouts,
          given_put d.holdings.pools t p.row p.handle x (omega arith) after (given_later d.holdings.pools t (omega arith) d.pools),
          given_later d.holdings.sets d.holdings.sets (omega arith) d.sets,
        )

    pub placed_held : found_by (row_of t) (pool_in t) ≡ update eqb (pools_of d.holdings) p.handle (Some (live_pool x))
    placed_held = pools_put d.holdings.pools t p.row p.handle x placed_can after
