use Rattle.segments.proofs.Placed.{none_long, none_used}
use Rattle.segments.proofs.Segments.new.Goals as goal

pub invariant_of-result : goal.invariant_of-result
invariant_of-result g c = record { all = none_long g.row.S; fits = none_used g.row.S _ }
