use Rattle.std.proofs.Common.{◌≡◌, None, rules, tests, ◌∙◌, arith}
use Rattle.std.proofs.lemmas.Iterator.{YieldsList-from_slice}
use Rattle.std.proofs.lemmas.Iterator.Search.{position_from_yields_List}
use Rattle.std.specs.List.{position}
use Rattle.rows.specs.Slots.{first_row, is_handle}
use Rattle.conversion.proofs.Searches.{first_position}
use Rattle.rows.proofs.Found.{all_rows}
use Rattle.rows.proofs.table.Table.row_of.Goals as goal

pub returns : goal.returns
unfolding first_row
returns g c =
    let t = c.args.self.now in
    let found : c.position.result ≡ position (is_handle c.args.handle) t.rows = position_from_yields_List (is_handle c.args.handle) _ _ c.position.result c.position.ensures.ran (YieldsList-from_slice t.rows (grind (arith, all_rows t))) (λ x b q k. search (rules, tests)) in
    found ∙ first_position (is_handle c.args.handle) t.rows None g.row.N t.whole
