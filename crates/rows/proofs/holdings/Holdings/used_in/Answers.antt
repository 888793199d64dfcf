use Rattle.std.proofs.Common.{◌≡◌, sum_by, ◌∙◌, rules}
use Rattle.std.proofs.iter.runs.Made.{chains}
use Rattle.rows.proofs.Totals.{used, used-rows, used_in_small}
use Rattle.rows.proofs.holdings.Holdings.used_in.Goals as goal

pub sum-requires-clause-fits : goal.sum-requires-clause-fits
sum-requires-clause-fits c =
    let is = used-rows c.args.self.now c.args.pool c.args.kind in
    let small = used_in_small c.args.self.now c.args.pool c.args.kind in
    search (rules, chains)

pub returns : goal.returns
returns c =
    let d = c.args.self.now in
    let is : c.sum.result ≡ sum_by (used d c.args.pool c.args.kind) d.sets.rows = search (rules, chains) in
    is ∙ used-rows d c.args.pool c.args.kind
