use Rattle.std.proofs.Common.{◌≡◌, ℕ, Some, None, Option, refl, sym, ◌∙◌, rules, tests}
use Rattle.std.specs.Option.{option_map}
use Rattle.std.proofs.lemmas.Iterator.{YieldsList-from_range}
use Rattle.std.proofs.lemmas.Iterator.Search.{find_from_yields_List}
use Rattle.rows.specs.Holdings.{is_free_layout_row}
use Rattle.rows.proofs.Found.{find-range}
use Rattle.rows.proofs.holdings.Holdings.free_layout_row.Goals as goal

same : (o : Option ℕ) → option_map (λ n. n) o ≡ o
same None = refl
same (Some n) = refl

pub returns : goal.returns
returns c =
    let found = find_from_yields_List (is_free_layout_row c.args.self.now) _ _ c.find.result c.find.ensures.ran (YieldsList-from_range 0 64 64 refl refl) (λ x b q k. search (rules, tests)) in
    sym (same c.find.result) ∙ (found ∙ find-range (is_free_layout_row c.args.self.now) 64)
