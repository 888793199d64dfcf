use Rattle.std.proofs.Common.{◌≡◌, ◌+◌, ◌<◌, ◌≤◌, take, sum_by, ap, arith}
use Rattle.std.specs.Option.{option_map}
use Rattle.std.proofs.lemmas.List.Sums.{sum_by_more}
use Rattle.conversion.specs.Counts.{total}
use Rattle.conversion.specs.Layouts.{overfull, no_entry, entry_count}
use Rattle.conversion.specs.declared.faults.LayoutFault.TheVariants.{TooManyDescriptors}
use Rattle.conversion.proofs.Searches.{first_next, first_at}
use Rattle.conversion.proofs.Sums.{counts_more, counts_total, over, under}
use Rattle.conversion.proofs.checks.count_descriptors.Goals as goal

pub returns-in_default : goal.returns-in_default
returns-in_default c =
    let s = sum_by_more entry_count c.args.entries.now c.loop-i.i no_entry c.loop-i-test.true in
    let big : 4294967295 < sum_by entry_count (take (c.loop-i.i + 1) c.args.entries.now) = omega (arith, c.in_default.ensures, c.count.ensures) in
    ap (option_map TooManyDescriptors) (first_at (overfull c.args.entries.now) c.loop-i.i _ c.loop-i-test.true c.loop-i.invariant.0 (over c.args.entries.now c.loop-i.i big))

pub add_entry-requires : goal.add_entry-requires
add_entry-requires c =
    let t = counts_total (take c.loop-i.i c.args.entries.now) in
    let e = ap total c.loop-i.invariant.1 in
    omega (arith, c.in-Some.ensures.0, c.count.ensures, c.loop-i.invariant.2)

pub loop-i-preserved : goal.loop-i-preserved
loop-i-preserved c =
    let s = sum_by_more entry_count c.args.entries.now c.loop-i.i no_entry c.loop-i-test.true in
    let sum : c.in-Some.sum ≡ sum_by entry_count (take (c.loop-i.i + 1) c.args.entries.now) = omega (arith, c.in-Some.ensures.1, c.count.ensures, c.loop-i.invariant.2) in
    let small : sum_by entry_count (take (c.loop-i.i + 1) c.args.entries.now) ≤ 4294967295 = omega (arith, c.in-Some.ensures.0, c.in-Some.ensures.1) in (
      first_next (overfull c.args.entries.now) c.loop-i.i c.loop-i.invariant.0 (under c.args.entries.now c.loop-i.i small),
      counts_more c.args.entries.now c.loop-i.i no_entry c.loop-i.counts c.add_entry.new.self c.loop-i-test.true c.loop-i.invariant.1 c.add_entry.ensures,
      sum,
    )
