-- Vulkan's result numbers, and faults by their numbers. A negative number −(n + 1) is written negsuc n. Assumes nothing.
use Rattle.std.specs.Prelude.{ℕ, Bool, false, ℤ, pos, negsuc, Ok, Err, Result, ◌==◌}
use Rattle.conversion.specs.Results.{error_of, refusal_number}
use Rattle.conversion.specs.declared.faults.FaultReport.{FaultReport}
use Rattle.conversion.specs.declared.faults.Layer.TheVariants as layer
use Rattle.conversion.specs.declared.results.DeviceCall.{DeviceCall}
use Rattle.device.specs.declared.faults.DeviceFault.{DeviceFault}

-- −1: out of host memory
abbrev pub no_host_memory : ℤ
no_host_memory = negsuc 0

-- −2: out of device memory
abbrev pub no_device_memory : ℤ
no_device_memory = negsuc 1

-- −4: the device is lost
abbrev pub lost : ℤ
lost = negsuc 3

-- −12: the pool is fragmented
abbrev pub fragmented_pool : ℤ
fragmented_pool = negsuc 11

-- −13: unknown, and what an invalid call answers
abbrev pub unknown : ℤ
unknown = negsuc 12

-- −1000069000: the pool is exhausted
abbrev pub out_of_pool : ℤ
out_of_pool = negsuc 1000068999

-- −1000161000: memory is fragmented
abbrev pub fragmentation : ℤ
fragmentation = negsuc 1000160999

-- whether two result numbers are the same
abbrev pub is_result : ℤ → ℤ → Bool
is_result (pos m) (pos n) = m == n
is_result (pos m) (negsuc n) = false
is_result (negsuc m) (pos n) = false
is_result (negsuc m) (negsuc n) = m == n

-- the answer to a making call, from what is fixed for it: a handle, or an obstacle
abbrev pub answered : DeviceCall → Result ℕ ℤ → Result ℕ DeviceFault
answered c (Ok h) = Ok h
answered c (Err e) = Err (record { call = c; result = e })

-- a device's fault in numbers: refusal 13 or 14, of layer 3, naming no entry
abbrev pub device_report : DeviceFault → FaultReport
device_report f = record { number = refusal_number (error_of f.call f.result); layer = layer.Device; entry = 0 }
