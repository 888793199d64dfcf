use Rattle.std.proofs.Common.{rules, ◌≡◌, ◌+◌, ◌++◌, ◌∷◌, [], length, Err, Some, None, sym, ap, ◌∙◌, refl, inl, arith}
use Rattle.std.proofs.lemmas.List.{length_push}
use Rattle.std.specs.Option.{ok_or}
use Rattle.script.specs.Lines.{stage_bits, unreadable_at}
use Rattle.script.specs.declared.lines.Expected.TheVariants as expected
use Rattle.script.proofs.Scans.{is_word}
use Rattle.script.proofs.Readings.{counted, numbered_next, none_next, stages_more, stages_odd, stages_end}
use Rattle.script.proofs.lines.read_stages.Goals as goal

pub loop-index-init : goal.loop-index-init
loop-index-init c =
    let l = counted c.args.text.now _ _ _ _ c.of.ensures c.enumerate.ensures.source c.enumerate.ensures.count c.skip-index-items.ensures.source c.skip-index-items.ensures.count c.into_iter-index-iterator.ensures.into_iter_gives in
    ((tt, tt, inl (omega (arith, l))), tt, refl)

pub bytes_of-requires : goal.bytes_of-requires
bytes_of-requires c =
    let n = numbered_next c.args.text.now _ _ _ _ c.of.ensures c.enumerate.ensures.source c.enumerate.ensures.count c.skip-index-items.ensures.source c.skip-index-items.ensures.count c.into_iter-index-iterator.ensures.into_iter_gives c.loop-index.yielded _ c.loop-index.yielded_by c.next.result c.next.new.self c.next.ensures.steps _ c.in-Some.is in
    is_word c.args.text.now (4 + length c.loop-index.yielded) _ n.1

pub returns-in_err-stages : goal.returns-in_err-stages
returns-in_err-stages c =
    let t = c.args.text.now in
    let n = numbered_next t _ _ _ _ c.of.ensures c.enumerate.ensures.source c.enumerate.ensures.count c.skip-index-items.ensures.source c.skip-index-items.ensures.count c.into_iter-index-iterator.ensures.into_iter_gives c.loop-index.yielded _ c.loop-index.yielded_by c.next.result c.next.new.self c.next.ensures.steps _ c.in-Some.is in
    let b : None ≡ stage_bits c.bytes_of.result.now = sym c.in_err-stages.ensures.ok_part ∙ c.stage_bits.ensures in
    let o = c.loop-index.invariant.2 ∙ stages_odd t (4 + length c.loop-index.yielded) c.loop-index.stages c.in-Some.span c.bytes_of.result.now n.1 c.bytes_of.ensures b in
    let e : c.from_residual.result ≡ Err c.in_err-stages.field-0.0 = search rules in
    let u : Err c.in_err-stages.field-0.0 ≡ Err c.at.result = c.in_err-stages.ensures.value ∙ ap (λ o. ok_or o c.at.result) c.in_err-stages.ensures.ok_part in
    e ∙ (u ∙ (ap Err (c.at.ensures ∙ ap (λ i. unreadable_at i expected.Stage) n.0) ∙ sym o))

pub loop-index-preserved : goal.loop-index-preserved
loop-index-preserved c =
    let t = c.args.text.now in
    let n = numbered_next t _ _ _ _ c.of.ensures c.enumerate.ensures.source c.enumerate.ensures.count c.skip-index-items.ensures.source c.skip-index-items.ensures.count c.into_iter-index-iterator.ensures.into_iter_gives c.loop-index.yielded _ c.loop-index.yielded_by c.next.result c.next.new.self c.next.ensures.steps _ c.in-Some.is in
    let b : Some c.in_ok-stages.field-0 ≡ stage_bits c.bytes_of.result.now = sym c.in_ok-stages.ensures.ok_part ∙ c.stage_bits.ensures in
    let l : 4 + length c.loop-index.yielded + 1 ≡ 4 + length (c.loop-index.yielded ++ (c.in-Some.index, c.in-Some.span) ∷ []) = omega (arith, length_push c.loop-index.yielded (c.in-Some.index, c.in-Some.span)) in
    let o = c.loop-index.invariant.2 ∙ stages_more t (4 + length c.loop-index.yielded) c.loop-index.stages c.in-Some.span c.bytes_of.result.now c.in_ok-stages.field-0 n.1 c.bytes_of.ensures b in
    (c.in-Some.ensures.goes.keeps, tt, rw (sym l) o)

pub returns : goal.returns
returns c =
    let t = c.args.text.now in
    let n = none_next t _ _ _ _ c.of.ensures c.enumerate.ensures.source c.enumerate.ensures.count c.skip-index-items.ensures.source c.skip-index-items.ensures.count c.into_iter-index-iterator.ensures.into_iter_gives c.loop-index.yielded _ c.loop-index.yielded_by c.next.result c.next.new.self c.next.ensures.steps c.in-None.is in
    sym (c.loop-index.invariant.2 ∙ stages_end t (4 + length c.loop-index.yielded) c.loop-index.stages n)
