use Rattle.std.proofs.Common.{◌≡◌, cond, is_some, Some, None, Option, filter, length, refl, ◌∙◌, rules, tests, arith}
use Rattle.std.proofs.lemmas.Iterator.{YieldsList-from_slice}
use Rattle.std.proofs.lemmas.Iterator.Consumers.{YieldsList-at, YieldsList-from_filter, count_from_yields_List}
use Rattle.rows.specs.declared.slots.Slot.{Slot}
use Rattle.rows.specs.Tables.{one_if_used}
use Rattle.rows.proofs.Figures.{count-rows}
use Rattle.rows.proofs.Found.{all_rows}
use Rattle.rows.proofs.table.Table.count.Goals as goal

one : {T : Type 0} (o : Option (Slot T)) → cond (is_some o) 1 0 ≡ one_if_used o
one None = refl
one (Some s) = refl

pub returns : goal.returns
returns g c =
    let t = c.args.self.now in
    let road = YieldsList-at c.filter.ensures.source (YieldsList-from_slice t.rows (grind (arith, all_rows t))) in
    let counted : c.count.result ≡ length (filter is_some t.rows) = count_from_yields_List c.filter.result c.count.result c.count.ensures.ran (YieldsList-from_filter _ is_some road c.filter.ensures.closure (λ x b q k. search (rules, tests))) in
    counted ∙ count-rows is_some one_if_used one t.rows None g.row.N t.whole
