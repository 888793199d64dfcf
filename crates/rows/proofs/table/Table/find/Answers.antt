use Rattle.std.proofs.Common.{sym, ◌∙◌}
use Rattle.rows.proofs.Meant.{found_slot, found_used}
use Rattle.rows.proofs.table.Table.find.Goals as goal

pub returns-in_err-slot : goal.returns-in_err-slot
returns-in_err-slot g c = found_used c.args.self.now c.args.handle c.in_ok-row.row (sym c.row_of.ensures ∙ c.in_ok-row.was) (sym c.slot.ensures ∙ c.in_err-slot.was)

pub returns : goal.returns
returns g c =
    let r = sym c.row_of.ensures ∙ c.in_ok-row.was in
    (r, found_slot c.args.self.now c.args.handle c.in_ok-row.row c.in_ok-slot.slot r (sym c.slot.ensures ∙ c.in_ok-slot.was))
