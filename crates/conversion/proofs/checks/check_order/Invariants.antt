use Rattle.std.proofs.Common.{◌≡◌, ◌-◌, cond, Some, None, get_or, nat_lt}
use Rattle.conversion.specs.Lists.{first}
use Rattle.conversion.specs.Layouts.{out_of_order, no_entry}
use Rattle.conversion.proofs.checks.check_order.Given as goal

abbrev pub invariant-loop-i : goal.invariant-loop-i
invariant-loop-i l = record {
  ordered : first (out_of_order l.entries) l.i ≡ None;
  last : l.before ≡ cond (nat_lt 0 l.i) (Some (get_or l.entries (l.i - 1) no_entry).binding) None;
}
