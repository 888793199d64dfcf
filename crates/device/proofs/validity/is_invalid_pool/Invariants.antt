use Rattle.std.proofs.Common.{◌≡◌, None}
use Rattle.conversion.specs.Lists.{first}
use Rattle.device.specs.Calls.{invalid_size_at}
use Rattle.device.proofs.validity.is_invalid_pool.Given as goal

abbrev pub invariant-loop-i : goal.invariant-loop-i
invariant-loop-i l = first (invalid_size_at l.sizes) l.i ≡ None
