use Rattle.std.proofs.Common.{◌∙◌, arith}
use Rattle.conversion.proofs.Numbers.{stage_set, stage_clear}
use Rattle.conversion.proofs.stages.map_shader_stage.Goals as goal
use Rattle.conversion.proofs.stages.map_shader_stage.Goals.{then-stages-bit-ne0, else-stages-bit-ne0}

pub loop-bit-preserved : goal.loop-bit-preserved
loop-bit-preserved c =
    elim c.if-stages-bit-ne0.branch [
      | then-stages-bit-ne0 w ↦ w.flags-is ∙ stage_set c.args.stages c.loop-bit.bit c.loop-bit.flags (omega arith) c.loop-bit.invariant w.if-stages-bit-ne0.true
      | else-stages-bit-ne0 w ↦ w.flags-is ∙ stage_clear c.args.stages c.loop-bit.bit c.loop-bit.flags (omega arith) c.loop-bit.invariant w.if-stages-bit-ne0.false
    ]
