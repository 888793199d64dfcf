use Rattle.std.proofs.Common.{◌||◌, eqb, length, is_some, sym, ap}
use Rattle.conversion.proofs.Searches.{first_at}
use Rattle.device.specs.Calls.{invalid_size_at}
use Rattle.device.proofs.validity.is_invalid_pool.Goals as goal

pub returns-then-is_invalid_size : goal.returns-then-is_invalid_size
returns-then-is_invalid_size c =
    let ss = c.args.sizes.now in
    sym (ap (λ o. is_some o || eqb c.args.most 0) (first_at (invalid_size_at ss) c.loop-i.i (length ss) c.loop-i-test.true c.loop-i.invariant (sym c.if-is_invalid_size.ensures)))
