-- What the counting device means. Assumes nothing.
use Rattle.std.specs.Prelude.{◌≡◌, ℕ, ◌+◌, Bool, cond, ◌&&◌, List, length, ℤ, is_some, Some, None, Ok, Err, Option, Result, nat_le, nat_lt}
use Rattle.std.specs.List.{slice_get}
use Rattle.std.specs.Option.{option_map}
use Rattle.conversion.specs.declared.bindings.DeviceBinding.{DeviceBinding}
use Rattle.device.specs.declared.records.Descriptor as kept
use Rattle.device.specs.Meaning.{State, LiveSet, Descriptor, sum_below}
use Rattle.device.specs.Stored.{described}
use Rattle.device.specs.Results.{no_host_memory, no_device_memory}
use Rattle.device.specs.Calls.{bindings_in, layout_answer, pool_answer, set_answer}
use Rattle.device.specs.Requests.{Request, create_layout, destroy_layout, create_pool, destroy_pool, allocate_set, free_set, update_sets}
use Rattle.segments.specs.declared.Segments.{Segments}
use Rattle.segments.specs.Segments.{element, size}
use Rattle.rows.specs.declared.holdings.Holdings.{Holdings}
use Rattle.rows.specs.Bindings.{total_of, start_of}
use Rattle.rows.specs.Tables.{row_of, unused_row}
use Rattle.rows.specs.Holdings.{HeldSet, found_by, layouts_of, pools_of, set_at, total_at, free_layout_row}
use Rattle.counting.specs.declared.counting.CountingDevice.{CountingDevice}

-- the records: one segment for each row of sets
abbrev pub Records : Type 0
Records = Segments kept.Descriptor 1024

-- what a record says
abbrev pub stored : Records → ℕ → ℕ → Option Descriptor
stored r i m = option_map described (element r i m)

-- how many elements a binding has; one that is not there has none
abbrev pub elements : Option DeviceBinding → ℕ
elements None = 0
elements (Some b) = b.count

-- what stands in an element of the set in a row: its record, after those of the bindings before
abbrev pub written_in : Records → ℕ → List DeviceBinding → ℕ → ℕ → Option Descriptor
written_in r i bs b j = cond (nat_lt j (elements (slice_get bs b))) (stored r i (start_of bs b + j)) None

-- a live set: what its row says, and what its records hold
abbrev pub live_of : Records → ℕ → HeldSet → LiveSet
live_of r i s = record { pool = s.pool; bindings = s.bindings; written = written_in r i s.bindings }

abbrev pub live_in : (ℕ → Option HeldSet) → Records → ℕ → Option LiveSet
live_in held r i = option_map (live_of r i) (held i)

-- the live sets by their handles
abbrev pub sets_of : Holdings → Records → ℕ → Option LiveSet
sets_of d r = found_by (row_of d.sets) (live_in (set_at d) r)

-- the next handle, until 64 bits end
abbrev pub next_handle : CountingDevice → Result ℕ ℤ
next_handle d = cond (nat_lt d.last 18446744073709551615) (Ok (d.last + 1)) (Err no_host_memory)

-- the handle if a row is free
abbrev pub in_row : Bool → Result ℕ ℤ → Result ℕ ℤ
in_row free r = cond free r (Err no_host_memory)

-- the handle if the records hold that many descriptors more
abbrev pub in_records : CountingDevice → ℕ → Result ℕ ℤ → Result ℕ ℤ
in_records d n (Err e) = Err e
in_records d n (Ok h) = cond (nat_lt (size d.records) (sum_below 1024 (total_at d.holdings) + n)) (Err no_device_memory) (Ok h)

-- what is fixed for a layout with these bindings, for a pool, and for a set with so many descriptors
abbrev pub fixed_layout : CountingDevice → List DeviceBinding → Result ℕ ℤ
fixed_layout d bs = in_row (nat_le (length bs) 32 && is_some (free_layout_row d.holdings)) (next_handle d)

abbrev pub fixed_pool : CountingDevice → Result ℕ ℤ
fixed_pool d = in_row (is_some (unused_row d.holdings.pools)) (next_handle d)

abbrev pub fixed_set : CountingDevice → ℕ → Result ℕ ℤ
fixed_set d n = in_records d n (in_row (is_some (unused_row d.holdings.sets)) (next_handle d))

-- what the counting device holds, and what it answers to each making call
abbrev pub meaning_of : CountingDevice → State
meaning_of d =
    record {
      layouts = layouts_of d.holdings;
      pools = pools_of d.holdings;
      sets = sets_of d.holdings d.records;
      mark = d.mark;
      layout_fixed = λ bs flags. fixed_layout d bs;
      pool_fixed = λ most sizes flags. fixed_pool d;
      set_fixed = λ p l. fixed_set d (total_of (bindings_in (layouts_of d.holdings l)));
    }

-- the last handle after an answer
abbrev pub last_after : ℕ → Result ℕ ℤ → ℕ
last_after last (Ok h) = h
last_after last (Err e) = last

-- the last handle after a call
abbrev pub last_then : CountingDevice → Request → ℕ
last_then d (create_layout bs flags) = last_after d.last (layout_answer (meaning_of d) bs flags)
last_then d (destroy_layout l) = d.last
last_then d (create_pool most sizes flags) = last_after d.last (pool_answer (meaning_of d) most sizes flags)
last_then d (destroy_pool p) = d.last
last_then d (allocate_set p l) = last_after d.last (set_answer (meaning_of d) p l)
last_then d (free_set p s) = d.last
last_then d (update_sets ws l) = d.last

-- a call moves the handles on by what it gives, and not else
abbrev pub Counted : CountingDevice → Request → CountingDevice → Type 0
Counted d q e = e.last ≡ last_then d q
