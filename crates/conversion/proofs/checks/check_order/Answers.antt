use Rattle.std.proofs.Common.{◌≡◌, true, ap, arith}
use Rattle.std.proofs.lemmas.Bool.Decides.{nat_tests}
use Rattle.std.specs.Option.{option_map}
use Rattle.conversion.specs.Layouts.{out_of_order}
use Rattle.conversion.specs.declared.faults.LayoutFault.TheVariants.{BindingOrder}
use Rattle.conversion.proofs.Searches.{first_at}
use Rattle.conversion.proofs.checks.check_order.Goals as goal

pub returns-then-is_some_and : goal.returns-then-is_some_and
returns-then-is_some_and c =
    let here : out_of_order c.args.entries.now c.loop-i.i ≡ true = grind (arith, nat_tests) in
    ap (option_map BindingOrder) (first_at (out_of_order c.args.entries.now) c.loop-i.i _ c.loop-i-test.true c.loop-i.invariant.ordered here)
