use Rattle.std.proofs.Common.{◌≡◌, take, None, sum_by}
use Rattle.conversion.specs.Lists.{first}
use Rattle.conversion.specs.Layouts.{overfull, entry_count, counts_of}
use Rattle.conversion.proofs.checks.count_descriptors.Given as goal

abbrev pub invariant-loop-i : goal.invariant-loop-i
invariant-loop-i l =
    (first (overfull l.entries) l.i ≡ None)
    × (l.counts ≡ counts_of (take l.i l.entries))
    × (l.total ≡ sum_by entry_count (take l.i l.entries))
