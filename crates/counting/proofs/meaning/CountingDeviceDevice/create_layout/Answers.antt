use Rattle.std.proofs.Common.{◌||◌, sym, refl, ap, ◌∙◌, arith, length-set}
use Rattle.conversion.specs.declared.results.DeviceCall.TheVariants.{Layout}
use Rattle.device.specs.Results.{answered}
use Rattle.rows.specs.Tables.{row_of}
use Rattle.rows.specs.Holdings.{found_by, held_total}
use Rattle.counting.specs.Counting.{live_in, last_after}
use Rattle.counting.specs.Kept.{free_below}
use Rattle.rows.proofs.Truths.{or_false}
use Rattle.counting.proofs.Layouts.{placed_next, placed_answer, placed_given, placed_held, placed_sets}
use Rattle.counting.proofs.meaning.CountingDeviceDevice.create_layout.Goals as goal

pub invariant_of-self : goal.invariant_of-self
invariant_of-self c =
    let d = c.args.self.now in
    let given = placed_given d c.args.bindings.now c.in_ok-place.field-0 c.in_ok-place.ensures c.args.flags c.put.new.self c.put.result c.put.ensures.answer c.put.ensures.rows in
    ((d.holdings.whole, tt), (given.0, (given.1.0, (given.1.1, (d.sized, ((placed_next d c.args.bindings.now c.in_ok-place.field-0 c.in_ok-place.ensures).1, tt))))))

pub offset_bounds-self-place : goal.offset_bounds-self-place
offset_bounds-self-place c = let lt = free_below c.args.self.now.holdings c.in_ok-place.field-0.place.row c.in_ok-place.ensures.row in omega (arith, lt)

pub bounds-self-place : goal.bounds-self-place
bounds-self-place c = free_below c.args.self.now.holdings c.in_ok-place.field-0.place.row c.in_ok-place.ensures.row

pub listed : goal.listed
listed c = omega (arith, free_below c.args.self.now.holdings c.in_ok-place.field-0.place.row c.in_ok-place.ensures.row, c.args.self.now.holdings.whole)

pub invariant_of-self-2 : goal.invariant_of-self-2
invariant_of-self-2 c =
    let d = c.args.self.now in
    let p = c.in_ok-place.field-0 in
    let placed = c.in_ok-place.ensures in
    let given = placed_given d c.args.bindings.now p placed c.args.flags c.put.new.self c.put.result c.put.ensures.answer c.put.ensures.rows in (
      (length-set d.holdings.bindings p.place.row p.bindings ∙ d.holdings.whole, tt),
      (given.0, (given.1.0, (given.1.1, ((λ i. d.sized i ∙ ap (λ f. held_total (f i)) (sym (placed_sets d c.args.bindings.now p placed))), ((placed_next d c.args.bindings.now p placed).1, tt))))),
    )

pub returns : goal.returns
returns c =
    let d = c.args.self.now in
    let bs = c.args.bindings.now in
    let p = c.in_ok-place.field-0 in
    let placed = c.in_ok-place.ensures in
    let valid = sym c.if-is_invalid_layout.ensures in
    let answer = placed_answer d bs p placed c.args.flags valid in
    record {
      held =
          record {
            answer = ap (answered Layout) (sym answer);
            layouts = placed_held d bs p placed c.args.flags c.put.new.self c.put.result c.put.ensures.answer c.put.ensures.rows;
            pools = refl;
            sets = ap (λ f. found_by (row_of d.holdings.sets) (live_in f d.records)) (placed_sets d bs p placed);
            mark = or_false d.mark ∙ ap (λ b. d.mark || b) (sym valid);
          };
      one = ap (last_after d.last) (sym answer);
    }
