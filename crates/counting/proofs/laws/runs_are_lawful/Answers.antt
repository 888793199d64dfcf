use Rattle.counting.proofs.Running.{handles_once, reads_back}
use Rattle.counting.proofs.laws.runs_are_lawful.Goals as goal

pub returns : goal.returns
returns c = record { handles = handles_once; reading = reads_back }
