use Rattle.std.proofs.Common.{◌||◌, eqb, Some, Err, sym, refl, ap, ◌∙◌, ap₂, subst, arith}
use Rattle.std.specs.Map.{update}
use Rattle.std.proofs.lemmas.Result.{err_from_is_err_and}
use Rattle.conversion.specs.declared.results.DeviceCall.TheVariants.{Set}
use Rattle.device.specs.Results.{answered, out_of_pool}
use Rattle.device.specs.Calls.{SetMade, sets_mark, new_set}
use Rattle.counting.specs.Counting.{meaning_of, last_after, fixed_set, sets_of}
use Rattle.counting.specs.Kept.{given_later, given_change}
use Rattle.counting.proofs.Fixed.{answered_err}
use Rattle.counting.proofs.Placed.{placed_next, placed_given, placed_sized, placed_sets}
use Rattle.counting.proofs.Taken.{refused_set, bindings_there, remembers, or_last, or_none, valid_set, answer_full, answer_fixed, unmarked}
use Rattle.counting.proofs.meaning.CountingDeviceDevice.allocate_set.Goals as goal

pub returns-then-is_full : goal.returns-then-is_full
returns-then-is_full c =
    let d = c.args.self.now in
    let p = c.in-Some.p in
    let l = c.in-Some-find.l in
    let pools = c.in-Some.ensures in
    let layouts = c.in-Some-find.ensures in
    let fit = c.if-is_unfit.ensures in
    let answer = answer_full d d.word c.args.pool c.args.layout p.value p.row l.row l.value pools layouts fit (sym c.if-is_full.ensures) in
    let valid = valid_set d d.word c.args.pool c.args.layout p.value p.row l.row l.value pools layouts fit in
    let refused = c.refused-then-is_full in
    record {
      held = refused_set d refused.new.self c.args.pool c.args.layout out_of_pool refused.result refused.ensures.marked refused.ensures.fault answer (or_last d.mark ∙ ap (λ a. d.mark || a || sets_mark (Err out_of_pool)) (sym valid));
      one = refused.ensures.marked.last ∙ ap (last_after d.last) (sym answer);
    }

pub invariant_of-self-3 : goal.invariant_of-self-3
invariant_of-self-3 c =
    let d = c.args.self.now in
    let p = c.in-Some.p in
    let l = c.in-Some-find.l in
    let n = c.total-total.result in
    let place = c.in_ok-place.place in
    let placed = c.in_ok-place.ensures in
    let next = placed_next d n place placed in
    record {
      layouts = given_later d.holdings.layouts d.holdings.layouts (omega (arith, next.0)) d.layouts;
      pools = given_change d.holdings.pools c.change.new.self p.row c.with_set.result c.change.ensures (given_later d.holdings.pools d.holdings.pools (omega (arith, next.0)) d.pools);
      sets = placed_given d n place placed c.args.pool l.row c.put.new.self c.put.result c.put.ensures.answer c.put.ensures.rows c.make.new.self c.make.result c.make.ensures c.total-total.ensures.is;
      sized = placed_sized d n place placed c.args.pool l.row c.put.new.self c.put.result c.put.ensures.answer c.put.ensures.rows c.make.new.self c.make.result c.make.ensures c.total-total.ensures.is;
      word = next.1;
    }

pub returns : goal.returns
returns c =
    let d = c.args.self.now in
    let p = c.in-Some.p in
    let l = c.in-Some-find.l in
    let pools = c.in-Some.ensures in
    let layouts = c.in-Some-find.ensures in
    let fit = c.if-is_unfit.ensures in
    let n = c.total-total.result in
    let place = c.in_ok-place.place in
    let placed = c.in_ok-place.ensures in
    let answer = answer_fixed d d.word c.args.pool c.args.layout p.value p.row l.row l.value pools layouts fit (sym c.if-is_full.ensures) in
    let given = answer ∙ (ap (fixed_set d) (sym c.total-total.ensures.is) ∙ placed.fixed) in
    let valid = valid_set d d.word c.args.pool c.args.layout p.value p.row l.row l.value pools layouts fit in
    let bindings = bindings_there d d.word c.args.pool c.args.layout p.value p.row l.row l.value pools layouts fit in
    record {
      held =
          record {
            answer = ap (answered Set) (sym given);
            layouts = refl;
            pools = remembers d d.word c.args.pool c.args.layout p.value p.row l.row l.value pools layouts fit c.with_set.result c.counts-counts.result c.change.new.self (sym c.if-is_full.ensures) c.counts-counts.ensures c.with_set.ensures c.change.ensures;
            sets =
                placed_sets d n place placed c.args.pool l.row c.put.new.self c.put.result c.put.ensures.answer c.put.ensures.rows c.make.new.self c.make.result c.make.ensures c.total-total.ensures.is
                ∙ ap (λ bs. update eqb (sets_of d.holdings d.records) place.handle (Some (new_set c.args.pool bs))) (sym bindings);
            mark = or_none d.mark ∙ ap₂ (λ a b. d.mark || a || b) (sym valid) (sym (ap sets_mark given));
          };
      one = ap (last_after d.last) (sym given);
    }

pub returns-in_err-place : goal.returns-in_err-place
returns-in_err-place c =
    let d = c.args.self.now in
    let p = c.in-Some.p in
    let l = c.in-Some-find.l in
    let pools = c.in-Some.ensures in
    let layouts = c.in-Some-find.ensures in
    let fit = c.if-is_unfit.ensures in
    let n = c.total-total.result in
    let fault = c.in_err-place.field-0.0 in
    let passed = err_from_is_err_and c.from_residual.result c.from_residual.ensures.1 in
    let answer =
    answer_fixed d d.word c.args.pool c.args.layout p.value p.row l.row l.value pools layouts fit (sym c.if-is_full.ensures)
    ∙ ap (fixed_set d) (sym c.total-total.ensures.is) in
    let valid = valid_set d d.word c.args.pool c.args.layout p.value p.row l.row l.value pools layouts fit in
    let obstacle = answered_err Set (fixed_set d n) fault c.in_err-place.ensures in
    let refused = answer ∙ obstacle in
    let made : SetMade (meaning_of d) c.args.pool c.args.layout (Err fault) (meaning_of d) =
    record {
      answer = sym c.in_err-place.ensures ∙ ap (answered Set) (sym answer);
      layouts = refl;
      pools = refl;
      sets = refl;
      mark = or_none d.mark ∙ ap₂ (λ a b. d.mark || a || b) (sym valid) (sym (ap sets_mark refused ∙ unmarked d n fault.result obstacle));
    } in
    record {
      held = subst (λ r. SetMade (meaning_of d) c.args.pool c.args.layout r (meaning_of d)) (sym (passed.1 ∙ ap Err passed.2)) made;
      one = ap (last_after d.last) (sym refused);
    }
