use Rattle.device.proofs.Ordered.{writes_in_order}
use Rattle.device.proofs.laws.writes_are_in_order.Goals as goal

pub returns : goal.returns
returns c = writes_in_order
