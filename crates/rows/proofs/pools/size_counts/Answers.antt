use Rattle.std.proofs.Common.{rules}
use Rattle.device.specs.Meaning.{size_of}
use Rattle.conversion.proofs.Sums.{counts-by}
use Rattle.rows.proofs.pools.size_counts.Goals as goal

pub returns : goal.returns
returns c = counts-by (λ k. size_of k c.args.sizes.now) c.by.result (λ k. let each = c.by.ensures k in search rules)
