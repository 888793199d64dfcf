use Rattle.std.proofs.Common.{Ok, ap, ◌∙◌}
use Rattle.conversion.proofs.Judging.{by_order, by_kind, by_total, accepted, judged_as, left_by}
use Rattle.conversion.proofs.Sums.{key_of_lem}
use Rattle.conversion.proofs.checks.check_layout.Goals as goal

pub returns-in_err-check_order : goal.returns-in_err-check_order
returns-in_err-check_order c =
    let q = by_order c.args.entries.now _ c.in_ok-check_length.ensures c.in_err-check_order.ensures in
    let a = left_by c.args.entries.now c.from_residual-in_err-check_order.result _ c.from_residual-in_err-check_order.ensures.1 q in
    record { answer = a.0; judged = a.1 }

pub returns-in_err-check_kinds : goal.returns-in_err-check_kinds
returns-in_err-check_kinds c =
    let q = by_kind c.args.entries.now _ c.in_ok-check_length.ensures c.in_ok-check_order.ensures c.in_err-check_kinds.ensures in
    let a = left_by c.args.entries.now c.from_residual-in_err-check_kinds.result _ c.from_residual-in_err-check_kinds.ensures.1 q in
    record { answer = a.0; judged = a.1 }

pub returns-in_err-counts : goal.returns-in_err-counts
returns-in_err-counts c =
    let q = by_total c.args.entries.now _ c.in_ok-check_length.ensures c.in_ok-check_order.ensures c.in_ok-check_kinds.ensures c.in_err-counts.ensures in
    let a = left_by c.args.entries.now c.from_residual-in_err-counts.result _ c.from_residual-in_err-counts.ensures.1 q in
    record { answer = a.0; judged = a.1 }

pub returns : goal.returns
returns c =
    let es = c.args.entries.now in
    let k = key_of_lem es c.in_ok-counts.counts c.has_array.result c.in_ok-counts.ensures.0 c.has_array.ensures in
    let e = ap Ok k ∙ accepted es c.in_ok-check_length.ensures c.in_ok-check_order.ensures c.in_ok-check_kinds.ensures c.in_ok-counts.ensures.1 in
    record { answer = e; judged = judged_as es _ e }
