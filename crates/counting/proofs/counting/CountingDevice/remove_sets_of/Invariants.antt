use Rattle.counting.proofs.Places.{Through}
use Rattle.counting.proofs.counting.CountingDevice.remove_sets_of.Given as goal

abbrev pub invariant-loop-row : goal.invariant-loop-row
invariant-loop-row l = Through l.initial.self l.pool l.row l.self
