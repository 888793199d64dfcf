use Rattle.std.proofs.Common.{◌+◌, subst}
use Rattle.device.specs.Writes.{lists_in}
use Rattle.counting.specs.Steps.{PutAt}
use Rattle.counting.proofs.Filling.{filled_more}
use Rattle.counting.proofs.sets.fill.Goals as goal

pub loop-j-preserved : goal.loop-j-preserved
loop-j-preserved c =
    filled_more c.args.segments.now c.args.row c.args.start c.args.write.now c.loop-j.j (lists_in c.args.records) c.loop-j.segments c.put.new.segments c.loop-j.invariant
    (subst (λ o. PutAt c.loop-j.segments c.args.row (c.args.start + c.loop-j.j) o c.put.new.segments) c.descriptor.ensures c.put.ensures)
