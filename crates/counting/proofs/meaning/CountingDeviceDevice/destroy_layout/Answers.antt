use Rattle.std.proofs.Common.{sym, refl, ◌∙◌}
use Rattle.counting.specs.Kept.{given_clear}
use Rattle.counting.proofs.Made.{layouts_clear}
use Rattle.counting.proofs.meaning.CountingDeviceDevice.destroy_layout.Goals as goal

pub invariant_of-self : goal.invariant_of-self
invariant_of-self c =
    let d = c.args.self.now in
    ((d.holdings.whole, tt), (given_clear d.holdings.layouts c.clear.new.self c.in-Some.row c.clear.ensures d.layouts, (d.pools, (d.sets, (d.sized, (d.word, tt))))))

pub returns-in-Some : goal.returns-in-Some
returns-in-Some c =
    let d = c.args.self.now in
    record {
      held =
          record {
            layouts = layouts_clear d.holdings.bindings d.holdings.layouts c.clear.new.self c.in-Some.row c.args.layout (sym c.row_of.ensures ∙ c.in-Some.is) c.clear.ensures;
            pools = refl;
            sets = refl;
            mark = refl;
          };
      one = refl;
    }
