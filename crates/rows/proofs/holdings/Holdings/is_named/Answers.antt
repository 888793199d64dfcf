use Rattle.std.proofs.Common.{◌≡◌, None, ◌∙◌, rules, tests}
use Rattle.std.specs.List.{list_any}
use Rattle.std.proofs.lemmas.Iterator.{YieldsList-from_slice}
use Rattle.std.proofs.lemmas.Iterator.Search.{any_from_yields_List}
use Rattle.rows.specs.Holdings.{names}
use Rattle.rows.proofs.Found.{any-row}
use Rattle.rows.proofs.holdings.Holdings.is_named.Goals as goal

pub returns : goal.returns
returns c =
    let rows = c.args.self.now.sets.rows in
    let found : c.any.result ≡ list_any (names c.args.layout) rows = any_from_yields_List (names c.args.layout) _ _ c.any.result c.any.ensures.ran (YieldsList-from_slice rows (cc)) (λ x b q k. search (rules, tests)) in
    found ∙ any-row (names c.args.layout) rows None 1024 c.args.self.now.sets.whole
