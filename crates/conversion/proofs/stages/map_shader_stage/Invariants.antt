use Rattle.std.proofs.Common.{◌≡◌}
use Rattle.conversion.specs.Stages.{stages_below}
use Rattle.conversion.proofs.stages.map_shader_stage.Given as goal

abbrev pub invariant-loop-bit : goal.invariant-loop-bit
invariant-loop-bit l = l.flags ≡ stages_below l.bit l.stages
