use Rattle.std.proofs.Common.{None, arith}
use Rattle.rows.proofs.Found.{set_is}
use Rattle.rows.proofs.table.Table.clear.Goals as goal

pub returns-then-i : goal.returns-then-i
returns-then-i g c = set_is c.args.self.now.rows c.args.i None (omega arith)
