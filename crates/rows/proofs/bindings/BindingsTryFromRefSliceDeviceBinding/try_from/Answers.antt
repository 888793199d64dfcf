use Rattle.std.proofs.Common.{◌≡◌, ◌++◌, length, take, drop, replicate, sum_by, sym, ap, ◌∙◌, rules, arith}
use Rattle.std.proofs.Math.Seq.{take-append_seam}
use Rattle.std.proofs.lemmas.List.{take_all}
use Rattle.std.proofs.iter.runs.Made.{chains}
use Rattle.rows.specs.Bindings.{total_of}
use Rattle.rows.proofs.Figures.{held_to, sum_by-held_to}
use Rattle.rows.proofs.bindings.BindingsTryFromRefSliceDeviceBinding.try_from.Goals as goal

pub invariant_of-result : goal.invariant_of-result
invariant_of-result c =
    let list = c.args.list.now in
    let rest = drop (length list) (replicate 32 c.default-rows.result) in
    let whole : take (length list) list ≡ list = take_all (length list) list (omega arith) in
    let same : c.copy_from_slice.new.self ≡ list = grind (arith, c.copy_from_slice.ensures.after, whole) in
    let front : take (length list) (c.copy_from_slice.new.self ++ rest) ≡ list = ap (λ rows. take (length list) (rows ++ rest)) same ∙ take-append_seam list rest in
    let held : c.sum-total.result ≡ sum_by (held_to 4294967295 (λ b. b.count)) list = search (rules, chains) in
    let all : c.sum-total.result ≡ total_of list = search (rules, chains) in
    record { fits = omega arith; is = all ∙ ap total_of (sym front); small = omega (arith, held, sum_by-held_to 4294967295 (λ b. b.count) list) }
