use Rattle.std.proofs.Common.{None, refl}
use Rattle.counting.specs.Kept.{given_clear}
use Rattle.counting.proofs.Places.{sized_changed}
use Rattle.counting.proofs.counting.CountingDevice.remove_set.Goals as goal

pub invariant_of-self-2 : goal.invariant_of-self-2
invariant_of-self-2 c =
    let d = c.args.self.now in
    record {
      layouts = d.layouts;
      pools = d.pools;
      sets = given_clear d.holdings.sets c.clear.new.self c.args.row c.clear.ensures d.sets;
      sized = sized_changed d.holdings.bindings d.holdings.sets c.clear.new.self d.records c.clear-2.new.self c.args.row 0 None c.clear.ensures c.clear-2.ensures.lengths refl d.sized;
      word = d.word;
    }
