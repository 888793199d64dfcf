use Rattle.std.proofs.Common.{sym, refl, ap, ◌∙◌, subst}
use Rattle.device.specs.Writes.{lists_in, valid_in, valid_for, valid}
use Rattle.counting.specs.Counting.{sets_of}
use Rattle.counting.specs.Steps.{Filled}
use Rattle.counting.proofs.Applying.{none_changed, marked, unmarked}
use Rattle.counting.proofs.Applied.{valid_is, sets_after}
use Rattle.counting.proofs.Places.{no_set}
use Rattle.counting.proofs.counting.CountingDevice.apply.Goals as goal

pub returns-in_default : goal.returns-in_default
returns-in_default c =
    let d = c.args.self.now in
    let w = c.args.write.now in
    let l = lists_in c.args.records in
    let sets = sets_of d.holdings d.records in
    let invalid = ap (valid_in l w) (no_set d w.set c.in_default.ensures) in
    record { holdings = refl; last = refl; size = refl; sets = none_changed l w sets invalid; mark = marked d.mark (valid l w sets) invalid }

pub returns-then-not-is_valid : goal.returns-then-not-is_valid
returns-then-not-is_valid c =
    let d = c.args.self.now in
    let w = c.args.write.now in
    let l = lists_in c.args.records in
    let sets = sets_of d.holdings d.records in
    let set = c.in-Some.set in
    let is = c.in-Some.ensures in
    let invalid = valid_is d d.records w l set.row set.value is.0 is.1 ∙ (ap (valid_for l w) (sym c.binding-there.ensures) ∙ sym c.if-not-is_valid.ensures) in
    record { holdings = refl; last = refl; size = refl; sets = none_changed l w sets invalid; mark = marked d.mark (valid l w sets) invalid }

pub invariant_of-self-2 : goal.invariant_of-self-2
invariant_of-self-2 c =
    let d = c.args.self.now in
    record { layouts = d.layouts; pools = d.pools; sets = d.sets; sized = λ i. ap (λ f. f i) c.fill.ensures.lengths ∙ d.sized i; word = d.word }

pub returns : goal.returns
returns c =
    let d = c.args.self.now in
    let w = c.args.write.now in
    let l = lists_in c.args.records in
    let set = c.in-Some.set in
    let is = c.in-Some.ensures in
    let ok = c.if-not-is_valid.ensures ∙ ap (valid_for l w) c.binding-there.ensures in
    record { holdings = refl; last = refl; size = c.fill.ensures.size; sets = sets_after d c.fill.new.segments w l set.row set.value is.0 is.1 ok (subst (λ at. Filled d.records set.row at w w.count l c.fill.new.segments) c.start-start.ensures.is c.fill.ensures); mark = unmarked d.mark (valid l w (sets_of d.holdings d.records)) (valid_is d d.records w l set.row set.value is.0 is.1 ∙ sym ok) }
