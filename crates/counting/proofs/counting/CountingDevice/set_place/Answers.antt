use Rattle.std.proofs.Common.{Err, sym, ap, ◌∙◌, arith}
use Rattle.conversion.specs.declared.results.DeviceCall.TheVariants.{Set}
use Rattle.device.specs.Results.{answered}
use Rattle.counting.specs.Counting.{next_handle}
use Rattle.counting.proofs.Fixed.{set_fixed_lem, set_refused, answered_ok}
use Rattle.counting.proofs.counting.CountingDevice.set_place.Goals as goal

pub returns-then-total-size : goal.returns-then-total-size
returns-then-total-size c =
    let row = sym c.unused_row.ensures ∙ c.in_ok-row.ensures.ok_part in
    let next = answered_ok Set (next_handle c.args.self.now) c.in_ok-handle.handle (sym c.next_handle.ensures ∙ c.in_ok-handle.was) in
    ap (answered Set) (set_refused c.args.self.now c.args.total c.in_ok-row.row c.in_ok-handle.handle row next c.args.self.now.records.fits (omega (arith, c.size.ensures, c.used.ensures, c.if-total-size.true)))
    ∙ ap Err (sym c.fault-then-total-size.ensures)

pub returns : goal.returns
returns c =
    let row = sym c.unused_row.ensures ∙ c.in_ok-row.ensures.ok_part in
    let next = answered_ok Set (next_handle c.args.self.now) c.in_ok-handle.handle (sym c.next_handle.ensures ∙ c.in_ok-handle.was) in
    record { fixed = set_fixed_lem c.args.self.now c.args.total c.in_ok-row.row c.in_ok-handle.handle row next c.args.self.now.records.fits (omega (arith, c.size.ensures, c.used.ensures, c.if-total-size.false)); row = row }
