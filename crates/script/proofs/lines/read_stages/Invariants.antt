use Rattle.std.proofs.Common.{◌≡◌, ◌+◌, length, drop}
use Rattle.script.specs.Words.{words}
use Rattle.script.specs.Lines.{stages_from}
use Rattle.script.proofs.lines.read_stages.Given as goal

abbrev pub invariant-loop-index : goal.invariant-loop-index
invariant-loop-index l =
    (goal.iterator-loop-index).can_next l.index-iterator
    × (goal.iterator-loop-index).is_finite l.index-iterator
    × (stages_from l.text 4 0 (drop 4 (words l.text)) ≡ stages_from l.text (4 + length l.yielded) l.stages (drop (4 + length l.yielded) (words l.text)))
