use Rattle.std.proofs.Common.{rules}
use Rattle.conversion.specs.Counts.{count_of}
use Rattle.rows.specs.Bindings.{kind_count, at_most}
use Rattle.rows.specs.Holdings.{bindings_at}
use Rattle.conversion.proofs.Sums.{counts-by}
use Rattle.rows.proofs.holdings.Holdings.counts.Goals as goal

pub returns : goal.returns
returns c = counts-by (λ k. at_most (kind_count k (bindings_at c.args.self.now c.args.layout)) (count_of c.args.most.now k)) c.by.result (λ k. let each = c.by.ensures k in search rules)
