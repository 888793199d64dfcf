use Rattle.std.proofs.Common.{◌≡◌, eqb, sym, ap, ◌∙◌, rules, tests}
use Rattle.std.specs.Option.{option_map}
use Rattle.std.proofs.lemmas.Iterator.{YieldsList-from_slice}
use Rattle.std.proofs.lemmas.Iterator.Search.{find_from_yields_List}
use Rattle.conversion.specs.Kinds.{type_number}
use Rattle.rows.proofs.Sizes.{counted, size_found}
use Rattle.rows.proofs.pools.size_of.Goals as goal

pub returns : goal.returns
returns c =
    let ss = c.args.sizes.now in
    let k = c.args.kind in
    let found = find_from_yields_List (λ s. eqb s.descriptor_type (type_number k)) _ _ c.find.result c.find.ensures.ran (YieldsList-from_slice ss (cc)) (λ x b q k. search (rules, tests)) in
    let count : c.map_or.result ≡ counted (option_map (λ s. s.now) c.find.result) = search (rules, tests) in
    count ∙ (ap counted found ∙ sym (size_found k ss c.requires))
