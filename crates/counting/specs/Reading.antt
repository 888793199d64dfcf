-- A new device, and what is read back from one. Assumes nothing.
use Rattle.std.specs.Prelude.{◌≡◌, ℕ, Some, None, Option}
use Rattle.device.specs.Meaning.{State, Descriptor, LiveSet, sum_below}
use Rattle.device.specs.Calls.{Empty}
use Rattle.segments.specs.Segments.{size}
use Rattle.counting.specs.declared.counting.CountingDevice.{CountingDevice}
use Rattle.rows.specs.Tables.{used_rows}
use Rattle.rows.specs.Holdings.{total_at}
use Rattle.counting.specs.declared.reading.Tally.{Tally}
use Rattle.counting.specs.Counting.{meaning_of}

-- a device that was opened: empty, with room for n descriptors, and no handle given
pub record Opened (n : ℕ) (d : CountingDevice) : Type 0 where
  pub empty : Empty (meaning_of d)
  pub size : size d.records ≡ n
  pub last : d.last ≡ 0

-- what a set holds in an element, if it lives
abbrev pub held_by : Option LiveSet → ℕ → ℕ → Option Descriptor
held_by None b j = None
held_by (Some s) b j = s.written b j

-- what is read back
abbrev pub read_back : State → ℕ → ℕ → ℕ → Option Descriptor
read_back m h b j = held_by (m.sets h) b j

-- how much is held
abbrev pub tally_of : CountingDevice → Tally
tally_of d =
    record {
      layouts = used_rows d.holdings.layouts;
      pools = used_rows d.holdings.pools;
      sets = used_rows d.holdings.sets;
      descriptors = sum_below 1024 (total_at d.holdings);
    }
