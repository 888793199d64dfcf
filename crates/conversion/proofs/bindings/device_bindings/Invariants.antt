use Rattle.std.proofs.Common.{◌≡◌, ◌-◌, ◌++◌, length, take, replicate}
use Rattle.conversion.specs.Layouts.{device_bindings, no_binding}
use Rattle.conversion.proofs.bindings.device_bindings.Given as goal

abbrev pub invariant-loop-i : goal.invariant-loop-i
invariant-loop-i l =
    (l.rows ≡ device_bindings l.partially_bound (take l.i l.entries) ++ replicate (32 - l.i) no_binding)
    × (length l.rows ≡ 32)
