use Rattle.std.proofs.Common.{◌≡◌, ◌+◌, Bool, false, leb, ltb, arith, rules, tests}
use Rattle.std.specs.List.{list_any}
use Rattle.std.proofs.lemmas.Iterator.{YieldsList-from_slice}
use Rattle.std.proofs.lemmas.Iterator.Search.{any_from_yields_List}
use Rattle.std.proofs.lemmas.Bool.Decides.{nat_tests}
use Rattle.conversion.specs.Kinds.{kinds}
use Rattle.conversion.specs.declared.kinds.Kind.{Kind}
use Rattle.conversion.specs.Counts.{count_of}
use Rattle.rows.specs.Bindings.{kind_count}
use Rattle.rows.specs.Holdings.{sets_in, used_in, bindings_at}
use Rattle.rows.proofs.holdings.Holdings.is_full.Goals as goal

pub returns-else-from-sets_in : goal.returns-else-from-sets_in
returns-else-from-sets_in c =
    let d = c.args.self.now in
    let lacks : Kind → Bool = λ k. ltb (count_of c.args.pool.now.sizes k) (used_in d c.args.handle k + kind_count k (bindings_at d c.args.layout)) in
    let found : c.any.result ≡ list_any lacks kinds = any_from_yields_List lacks _ _ c.any.result c.any.ensures.ran (YieldsList-from_slice kinds (cc)) (λ x b q k. search (rules, tests)) in
    let room : leb c.args.pool.now.most (sets_in d c.args.handle) ≡ false = grind (arith, nat_tests) in
    rw room found
