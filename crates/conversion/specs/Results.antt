-- What result numbers mean. Assumes nothing.
use Rattle.std.specs.Prelude.{ℕ, cond, ℤ, pos, negsuc, ◌==◌}
use Rattle.conversion.specs.declared.results.DeviceCall.{DeviceCall}
use Rattle.conversion.specs.declared.results.DeviceCall.TheVariants as call
use Rattle.conversion.specs.declared.results.DeviceError.{DeviceError}
use Rattle.conversion.specs.declared.results.DeviceError.TheVariants.{OutOfMemory, Unexpected}

-- the number of each call
abbrev pub call_number : DeviceCall → ℕ
call_number call.Layout = 1
call_number call.Pool = 2
call_number call.Set = 3

-- the number of each refusal
abbrev pub refusal_number : DeviceError → ℕ
refusal_number OutOfMemory = 13
refusal_number Unexpected = 14

-- −1 and −2 say that memory is short; a negative number −(n + 1) is written negsuc n
abbrev pub plain_error : ℤ → DeviceError
plain_error (pos n) = Unexpected
plain_error (negsuc n) = cond (n == 0) OutOfMemory (cond (n == 1) OutOfMemory Unexpected)

-- of a pool −1000161000, fragmented memory, says so too
abbrev pub pool_error : ℤ → DeviceError
pool_error (pos n) = Unexpected
pool_error (negsuc n) = cond (n == 1000160999) OutOfMemory (plain_error (negsuc n))

-- what a result number of a call means
abbrev pub error_of : DeviceCall → ℤ → DeviceError
error_of call.Layout e = plain_error e
error_of call.Pool e = pool_error e
error_of call.Set e = plain_error e
