use Rattle.std.proofs.Common.{cond, eqb, None, sym, ap, ◌∙◌}
use mathlib.Core.Path.{fun_ext}
use Rattle.std.specs.Map.{update}
use Rattle.device.specs.Calls.{outside}
use Rattle.rows.specs.Tables.{row_of}
use Rattle.counting.specs.Counting.{sets_of}
use Rattle.counting.specs.Kept.{given_clear}
use Rattle.counting.proofs.Made.{pools_clear}
use Rattle.counting.proofs.Places.{outside_sets, same_layouts, same_pools, pool_lives}
use Rattle.counting.proofs.meaning.CountingDeviceDevice.destroy_pool.Goals as goal

pub invariant_of-self : goal.invariant_of-self
invariant_of-self c =
    let e = c.remove_sets_of.new.self in
    ((e.holdings.whole, tt), (e.layouts, (given_clear e.holdings.pools c.clear.new.self c.in-Some.row c.clear.ensures e.pools, (e.sets, (e.sized, (e.word, tt))))))

pub returns-in-Some : goal.returns-in-Some
returns-in-Some c =
    let d = c.args.self.now in
    let e = c.remove_sets_of.new.self in
    let p = c.args.pool in
    let gone = c.remove_sets_of.ensures in
    let row = sym c.row_of.ensures ∙ c.in-Some.is in
    let lives = pool_lives d.holdings p c.in-Some.row row in
    record {
      held =
          record {
            layouts = same_layouts d e gone.rest;
            pools = pools_clear e.holdings.pools c.clear.new.self c.in-Some.row p (ap (λ t. row_of t p) gone.rest.pools ∙ row) c.clear.ensures ∙ ap (λ f. update eqb f p None) (same_pools d e gone.rest);
            sets = outside_sets d p e gone ∙ fun_ext (λ h. ap (λ b. cond b (outside p (sets_of d.holdings d.records h)) (sets_of d.holdings d.records h)) (sym lives));
            mark = gone.mark;
          };
      one = gone.rest.last;
    }
