use Rattle.device.specs.Writes.{lists_in}
use Rattle.counting.specs.Steps.{Filled}
use Rattle.counting.proofs.sets.fill.Given as goal

abbrev pub invariant-loop-j : goal.invariant-loop-j
invariant-loop-j l = Filled l.initial.segments l.row l.start l.write l.j (lists_in l.records) l.segments
