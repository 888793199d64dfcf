use Rattle.std.proofs.Common.{Some, arith}
use Rattle.rows.proofs.Found.{set_is, set_whole, put_apart, put_below, put_unused, put_fresh, same_apart}
use Rattle.rows.specs.Tables.{slot, slot_at}
use Rattle.rows.proofs.table.Table.put.Goals as goal

pub invariant_of-self : goal.invariant_of-self
invariant_of-self g c =
    let t = c.args.self.now in
    let i = c.args.i in
    let h = c.args.handle in
    let can = c.if-not-can_put.ensures in
    record {
      whole = set_whole t.rows i g.row.N (Some (slot h c.args.value)) t.whole;
      differ = same_apart (set_is t.rows i (Some (slot h c.args.value)) (omega (arith, t.whole, put_below t i h can))) (put_apart (slot_at t) g.row.N i h c.args.value (put_below t i h can) (put_unused t i h can) (put_fresh t i h can) t.differ);
    }

pub returns : goal.returns
returns g c = record { answer = c.if-not-can_put.ensures; rows = set_is c.args.self.now.rows c.args.i (Some (slot c.args.handle c.args.value)) (omega (arith, c.args.self.now.whole, put_below c.args.self.now c.args.i c.args.handle c.if-not-can_put.ensures)) }
