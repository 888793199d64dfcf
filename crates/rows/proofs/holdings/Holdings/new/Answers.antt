use Rattle.rows.proofs.Figures.{no_list}
use Rattle.rows.proofs.holdings.Holdings.new.Goals as goal

pub returns-clause-bindings : goal.returns-clause-bindings
returns-clause-bindings c j = no_list _ 64 j c.default.ensures
