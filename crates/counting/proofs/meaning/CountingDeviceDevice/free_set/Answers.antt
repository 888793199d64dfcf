use Rattle.std.proofs.Common.{sym, ap, ◌∙◌}
use Rattle.device.specs.Calls.{lives_in}
use Rattle.counting.specs.Kept.{same_number}
use Rattle.counting.proofs.Places.{freed_sets, same_layouts, same_pools, set_lives}
use Rattle.counting.proofs.meaning.CountingDeviceDevice.free_set.Goals as goal

pub returns-in-Some : goal.returns-in-Some
returns-in-Some c =
    let d = c.args.self.now in
    let e = c.remove_set.new.self in
    let found = c.in-Some.found in
    let is = c.in-Some.ensures in
    let gone = c.remove_set.ensures in
    record {
      held =
          record {
            answer = sym (ap (lives_in c.args.pool) (set_lives d c.args.set found.row found.value is.0 is.1) ∙ same_number found.value.pool c.args.pool c.if-found-pool.true);
            layouts = same_layouts d e gone.rest;
            pools = same_pools d e gone.rest;
            sets = freed_sets d found.row c.args.set e is.0 gone;
            mark = gone.mark;
          };
      one = gone.rest.last;
    }
