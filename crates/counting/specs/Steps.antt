-- The steps that calls of the counting device are made of. Assumes nothing.
use Rattle.std.specs.Prelude.{◌≡◌, ℕ, ◌+◌, ◌-◌, Bool, true, cond, ◌&&◌, ◌||◌, List, [], ◌∷◌, is_some, Some, None, Ok, Option, ◌==◌, nat_eq, nat_le, nat_lt}
use Rattle.std.specs.Map.{update}
use Rattle.std.specs.Option.{option_or}
use Rattle.conversion.specs.declared.bindings.DeviceBinding.{DeviceBinding}
use Rattle.rows.specs.Lists.{list_of}
use Rattle.conversion.specs.Kinds.{kind_of_type}
use Rattle.device.specs.Meaning.{Descriptor}
use Rattle.device.specs.declared.records.Write.{Write}
use Rattle.device.specs.Writes.{Lists, descriptor_of, after_writes, some_invalid}
use Rattle.segments.specs.Segments.{length_at, size}
use Rattle.rows.specs.Tables.{slot_at, unused_row}
use Rattle.rows.specs.Holdings.{is_of_pool, free_layout_row}
use Rattle.counting.specs.declared.counting.CountingDevice.{CountingDevice}
use Rattle.counting.specs.declared.calls.Place.{Place}
use Rattle.counting.specs.declared.calls.LayoutPlace.{LayoutPlace}
use Rattle.counting.specs.Counting.{stored, Records, sets_of, fixed_layout, fixed_pool, fixed_set}

-- the mark set, and nothing else changed
pub record Marked (d e : CountingDevice) : Type 0 where
  pub holdings : e.holdings ≡ d.holdings
  pub records : e.records ≡ d.records
  pub last : e.last ≡ d.last
  pub mark : e.mark ≡ true

-- where a layout goes, if nothing stands in its way
pub record LayoutPlaced (d : CountingDevice) (bs : List DeviceBinding) (p : LayoutPlace) : Type 0 where
  pub fixed : fixed_layout d bs ≡ Ok p.place.handle
  pub row : free_layout_row d.holdings ≡ Some p.place.row
  pub list : list_of p.bindings ≡ bs

-- where a pool goes
pub record PoolPlaced (d : CountingDevice) (p : Place) : Type 0 where
  pub fixed : fixed_pool d ≡ Ok p.handle
  pub row : unused_row d.holdings.pools ≡ Some p.row

-- where a set with n descriptors goes
pub record SetPlaced (d : CountingDevice) (n : ℕ) (p : Place) : Type 0 where
  pub fixed : fixed_set d n ≡ Ok p.handle
  pub row : unused_row d.holdings.sets ≡ Some p.row

-- whether the set in a row lives in the pool
abbrev pub in_pool_at : CountingDevice → ℕ → ℕ → Bool
in_pool_at d p i = is_of_pool p (slot_at d.holdings.sets i)

-- all but the sets, their records and the mark
pub record SameRest (d e : CountingDevice) : Type 0 where
  pub layouts : e.holdings.layouts ≡ d.holdings.layouts
  pub bindings : e.holdings.bindings ≡ d.holdings.bindings
  pub pools : e.holdings.pools ≡ d.holdings.pools
  pub last : e.last ≡ d.last
  pub size : size e.records ≡ size d.records

-- the set in a row removed, with its descriptors
pub record Removed (d : CountingDevice) (i : ℕ) (e : CountingDevice) : Type 0 where
  pub rest : SameRest d e
  pub mark : e.mark ≡ d.mark
  pub sets : slot_at e.holdings.sets ≡ update nat_eq (slot_at d.holdings.sets) i None
  pub elements : (k m : ℕ) → stored e.records k m ≡ cond (k == i) None (stored d.records k m)

-- all sets of a pool removed
pub record AllRemoved (d : CountingDevice) (p : ℕ) (e : CountingDevice) : Type 0 where
  pub rest : SameRest d e
  pub mark : e.mark ≡ d.mark
  pub sets : (k : ℕ) → slot_at e.holdings.sets k ≡ cond (in_pool_at d p k) None (slot_at d.holdings.sets k)
  pub elements : (k m : ℕ) → stored e.records k m ≡ cond (in_pool_at d p k) None (stored d.records k m)

-- a descriptor put into a record, if there is one and the segment is that long
pub record PutAt (r : Records) (row at : ℕ) (o : Option Descriptor) (s : Records) : Type 0 where
  pub lengths : length_at s ≡ length_at r
  pub size : size s ≡ size r
  pub elements : (k m : ℕ) → stored s k m ≡ cond (is_some o && nat_lt at (length_at r row) && k == row && m == at) o (stored r k m)

-- the descriptor that the first n of a write have for a record, where one goes there
abbrev pub descriptor_for : ℕ → ℕ → Write → ℕ → Lists → ℕ → ℕ → Option Descriptor
descriptor_for row start w n l k m = cond (k == row && nat_le start m && nat_lt m (start + n)) (descriptor_of l w (m - start) (kind_of_type w.descriptor_type)) None

-- the first n descriptors of a write put into a segment, as far as it is long
pub record Filled (r : Records) (row start : ℕ) (w : Write) (n : ℕ) (l : Lists) (s : Records) : Type 0 where
  pub lengths : length_at s ≡ length_at r
  pub size : size s ≡ size r
  pub elements : (k m : ℕ) → stored s k m ≡ cond (nat_lt m (length_at r k)) (option_or (descriptor_for row start w n l k m) (stored r k m)) (stored r k m)

-- one write done, or the mark set
pub record Applied (d : CountingDevice) (w : Write) (l : Lists) (e : CountingDevice) : Type 0 where
  pub holdings : e.holdings ≡ d.holdings
  pub last : e.last ≡ d.last
  pub size : size e.records ≡ size d.records
  pub sets : sets_of e.holdings e.records ≡ after_writes l (w ∷ []) (sets_of d.holdings d.records)
  pub mark : e.mark ≡ (d.mark || some_invalid l (w ∷ []) (sets_of d.holdings d.records))
