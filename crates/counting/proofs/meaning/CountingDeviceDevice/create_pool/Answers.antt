use Rattle.std.proofs.Common.{◌||◌, eqb, Some, sym, refl, ap, ◌∙◌}
use Rattle.std.specs.Map.{update}
use Rattle.conversion.specs.declared.results.DeviceCall.TheVariants.{Pool}
use Rattle.device.specs.Results.{answered}
use Rattle.device.specs.Calls.{invalid_pool, new_pool}
use Rattle.rows.specs.Pools.{live_pool}
use Rattle.rows.specs.Holdings.{pools_of}
use Rattle.counting.specs.Counting.{last_after}
use Rattle.rows.proofs.Truths.{or_false}
use Rattle.counting.proofs.Pools.{made_row, placed_next, placed_answer, placed_given, placed_held}
use Rattle.counting.proofs.meaning.CountingDeviceDevice.create_pool.Goals as goal

pub invariant_of-self : goal.invariant_of-self
invariant_of-self c =
    let d = c.args.self.now in
    let given = placed_given d c.in_ok-place.place c.in_ok-place.ensures c.in-Some.pool c.put.new.self c.put.result c.put.ensures.answer c.put.ensures.rows in
    ((d.holdings.whole, tt), (given.0, (given.1, (given.2, (d.sized, ((placed_next d c.in_ok-place.place c.in_ok-place.ensures).1, tt))))))

pub returns : goal.returns
returns c =
    let d = c.args.self.now in
    let p = c.in_ok-place.place in
    let placed = c.in_ok-place.ensures in
    let sizes = c.args.sizes.now in
    let is = made_row (invalid_pool c.args.most sizes) (live_pool c.in-Some.pool) (new_pool c.args.most sizes c.args.flags) c.in-Some.ensures in
    let answer = placed_answer d p placed c.args.most sizes c.args.flags is.0 in
    record {
      held =
          record {
            answer = ap (answered Pool) (sym answer);
            layouts = refl;
            pools = placed_held d p placed c.in-Some.pool c.put.new.self c.put.result c.put.ensures.answer c.put.ensures.rows ∙ ap (λ x. update eqb (pools_of d.holdings) p.handle (Some x)) is.1;
            sets = refl;
            mark = or_false d.mark ∙ ap (λ b. d.mark || b) (sym is.0);
          };
      one = ap (last_after d.last) (sym answer);
    }
