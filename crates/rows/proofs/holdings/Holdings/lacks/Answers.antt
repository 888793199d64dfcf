use Rattle.std.proofs.Common.{arith}
use Rattle.rows.proofs.Totals.{kind_small, used_in_small}
use Rattle.rows.proofs.holdings.Holdings.lacks.Goals as goal

pub overflow_add-result : goal.overflow_add-result
overflow_add-result c = omega (arith, used_in_small c.args.self.now c.args.handle c.args.kind, kind_small c.args.self.now c.args.kind c.args.layout)
