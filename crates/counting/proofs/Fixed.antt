-- What is fixed, by what the code looks at.
use Rattle.std.proofs.Common.{◌≡◌, ℕ, ℤ, Result, ◌+◌, ◌-◌, ◌<◌, ◌≤◌, true, false, ltb, Some, Ok, Err, refl, arith}
use Rattle.std.proofs.lemmas.Bool.Decides.{nat_tests}
use Rattle.device.specs.Meaning.{sum_below}
use Rattle.conversion.specs.declared.results.DeviceCall.{DeviceCall}
use Rattle.device.specs.declared.faults.DeviceFault.{DeviceFault}
use Rattle.device.specs.Results.{no_device_memory, answered}
use Rattle.device.proofs.Below.{below_same}
use Rattle.segments.specs.Segments.{length_at, used, size}
use Rattle.rows.specs.Tables.{unused_row}
use Rattle.rows.specs.Holdings.{total_at}
use Rattle.counting.specs.declared.counting.CountingDevice.{CountingDevice}
use Rattle.counting.specs.Counting.{next_handle, fixed_set}

-- what is used is what live sets have
pub used_is : (d : CountingDevice) → used d.records ≡ sum_below 1024 (total_at d.holdings)
used_is d = below_same 1024 (length_at d.records) (total_at d.holdings) d.sized

module _ (d : CountingDevice) (n row h : ℕ) (free : unused_row d.holdings.sets ≡ Some row) (next : next_handle d ≡ Ok h) where
  pub set_fixed_lem : used d.records ≤ size d.records → n ≤ size d.records - used d.records → fixed_set d n ≡ Ok h
  set_fixed_lem within room =
      let u = used_is d in
      let b : ltb (size d.records) (sum_below 1024 (total_at d.holdings) + n) ≡ false = grind (arith, nat_tests) in
      rw (free, next, b) refl

  pub set_refused : used d.records ≤ size d.records → size d.records - used d.records < n → fixed_set d n ≡ Err no_device_memory
  set_refused within none =
      let u = used_is d in
      let b : ltb (size d.records) (sum_below 1024 (total_at d.holdings) + n) ≡ true = grind (arith, nat_tests) in
      rw (free, next, b) refl

-- a handle that is answered is what was fixed
pub answered_ok : (c : DeviceCall) (r : Result ℕ ℤ) (h : ℕ) → answered c r ≡ Ok h → r ≡ Ok h
answered_ok c (Ok k) h e = cc
answered_ok c (Err n) h e = cc

-- and a refusal names the obstacle that was
pub answered_err : (c : DeviceCall) (r : Result ℕ ℤ) (f : DeviceFault) → answered c r ≡ Err f → r ≡ Err f.result
answered_err c (Ok k) f e = cc
answered_err c (Err n) f e = cc
