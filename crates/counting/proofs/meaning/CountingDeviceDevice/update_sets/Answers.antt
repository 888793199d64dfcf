use Rattle.std.proofs.Common.{◌||◌, sym, ap, ◌∙◌}
use Rattle.std.proofs.lemmas.List.{at_drop_all}
use Rattle.device.specs.Writes.{lists_in, after_writes, some_invalid}
use Rattle.rows.specs.Holdings.{layouts_of, pools_of}
use Rattle.counting.specs.Counting.{sets_of}
use Rattle.counting.proofs.Applying.{sets_more, marks_more, no_writes, no_marks}
use Rattle.counting.proofs.meaning.CountingDeviceDevice.update_sets.Goals as goal

pub loop-write-preserved : goal.loop-write-preserved
loop-write-preserved c =
    let l = lists_in c.args.records in
    let ws = c.args.writes.now in
    let i = c.loop-write.write-index in
    let d = c.loop-write.self in
    let e = c.apply.new.self in
    let done = c.apply.ensures in (
      done.holdings ∙ c.loop-write.invariant.0,
      done.last ∙ c.loop-write.invariant.1,
      c.loop-write.invariant.2 ∙ sets_more l ws i _ c.loop-write-test.true (sets_of d.holdings d.records) (sets_of e.holdings e.records) done.sets,
      c.loop-write.invariant.3 ∙ marks_more l ws i _ c.loop-write-test.true (sets_of d.holdings d.records) (sets_of e.holdings e.records) done.sets d.mark e.mark done.mark,
    )

pub returns : goal.returns
returns c =
    let l = lists_in c.args.records in
    let ws = c.args.writes.now in
    let i = c.loop-write.write-index in
    let e = c.loop-write.self in
    let sets = sets_of e.holdings e.records in
    record {
      held =
          record {
            layouts = ap layouts_of c.loop-write.invariant.0;
            pools = ap pools_of c.loop-write.invariant.0;
            sets = no_writes l sets ∙ sym (c.loop-write.invariant.2 ∙ at_drop_all (λ vs. after_writes l vs sets) ws i c.loop-write-test.false);
            mark = no_marks l sets e.mark ∙ sym (c.loop-write.invariant.3 ∙ at_drop_all (λ vs. e.mark || some_invalid l vs sets) ws i c.loop-write-test.false);
          };
      one = c.loop-write.invariant.1;
    }
