use Rattle.std.proofs.Common.{◌≡◌, not, is_some, None, rules, tests, ◌∙◌, arith}
use Rattle.std.proofs.lemmas.Iterator.{YieldsList-from_slice}
use Rattle.std.proofs.lemmas.Iterator.Search.{position_from_yields_List}
use Rattle.std.specs.List.{position}
use Rattle.rows.specs.Slots.{first_row}
use Rattle.conversion.proofs.Searches.{first_position}
use Rattle.rows.proofs.Found.{all_rows}
use Rattle.rows.proofs.table.Table.unused_row.Goals as goal

pub returns : goal.returns
unfolding first_row
returns g c =
    let t = c.args.self.now in
    let found : c.position.result ≡ position (λ o. not (is_some o)) t.rows = position_from_yields_List (λ o. not (is_some o)) _ _ c.position.result c.position.ensures.ran (YieldsList-from_slice t.rows (grind (arith, all_rows t))) (λ x b q k. search (rules, tests)) in
    found ∙ first_position (λ o. not (is_some o)) t.rows None g.row.N t.whole
