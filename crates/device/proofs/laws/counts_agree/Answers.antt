use Rattle.device.proofs.Kindly.{counts_agree}
use Rattle.device.proofs.laws.counts_agree.Goals as goal

pub returns : goal.returns
returns c = counts_agree
