use Rattle.std.proofs.Common.{arith}
use Rattle.rows.proofs.Found.{changed_is, set_whole, change_apart, same_apart}
use Rattle.rows.specs.Tables.{slot_at}
use Rattle.rows.proofs.table.Table.change.Goals as goal

pub invariant_of-self : goal.invariant_of-self
invariant_of-self g c =
    let t = c.args.self.now in
    let i = c.args.i in
    let y = c.with_value.result in
    record {
      whole = set_whole t.rows i g.row.N y t.whole;
      differ = same_apart (changed_is t.rows i c.args.value c.index-self-i.result y (omega arith) c.with_value.ensures) (change_apart (slot_at t) i c.args.value t.differ);
    }

pub returns-then-i : goal.returns-then-i
returns-then-i g c = changed_is c.args.self.now.rows c.args.i c.args.value c.index-self-i.result c.with_value.result (omega arith) c.with_value.ensures
