use Rattle.std.proofs.Common.{◌≡◌, ℕ, cond, List, Some, None, Option, filter, length, refl, ◌∙◌, rules, tests}
use Rattle.std.proofs.lemmas.Iterator.{YieldsList-from_slice}
use Rattle.std.proofs.lemmas.Iterator.Consumers.{YieldsList-at, YieldsList-from_filter, count_from_yields_List}
use Rattle.rows.specs.declared.slots.Slot.{Slot}
use Rattle.rows.specs.declared.bindings.Bindings.{Bindings}
use Rattle.rows.specs.declared.holdings.SetRow.{SetRow}
use Rattle.rows.specs.Holdings.{is_of_pool, held_of, in_row}
use Rattle.rows.proofs.Figures.{count-rows}
use Rattle.rows.proofs.holdings.Holdings.sets_in.Goals as goal

one : (bs : List Bindings) (p : ℕ) (o : Option (Slot SetRow)) → cond (is_of_pool p o) 1 0 ≡ in_row p (λ s. 1) (held_of bs o)
one bs p None = refl
one bs p (Some s) = refl

pub returns : goal.returns
returns c =
    let d = c.args.self.now in
    let p = c.args.pool in
    let road = YieldsList-at c.filter.ensures.source (YieldsList-from_slice d.sets.rows (cc)) in
    let counted : c.count.result ≡ length (filter (is_of_pool p) d.sets.rows) = count_from_yields_List c.filter.result c.count.result c.count.ensures.ran (YieldsList-from_filter _ (is_of_pool p) road c.filter.ensures.closure (λ x b q k. search (rules, tests))) in
    counted ∙ count-rows (is_of_pool p) (λ o. in_row p (λ s. 1) (held_of d.bindings o)) (one d.bindings p) d.sets.rows None 1024 d.sets.whole
