use Rattle.device.proofs.Counted.{empty_counts, made_counts, freed_counts, gone_counts}
use Rattle.device.proofs.laws.sets_are_counted.Goals as goal

pub returns : goal.returns
returns c = record { empty = empty_counts; made = made_counts; freed = freed_counts; gone = gone_counts }
