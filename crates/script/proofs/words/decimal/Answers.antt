use Rattle.std.proofs.Common.{◌+◌, ◌*◌, drop, sym, ap, ◌∙◌}
use Rattle.script.specs.Words.{value_from}
use Rattle.script.proofs.Scans.{value_more, too_large}
use Rattle.script.proofs.words.decimal.Goals as goal

pub returns-then-value-gt-MAX_NUMBER : goal.returns-then-value-gt-MAX_NUMBER
returns-then-value-gt-MAX_NUMBER c =
    let w = c.args.word.now in
    let i = c.loop-byte.byte-index in
    too_large w (drop (i + 1) w) (c.loop-byte.value * 10 + c.from.result) c.if-value-gt-MAX_NUMBER.true
    (c.loop-byte.invariant.1 ∙ (value_more w c.loop-byte.value i c.loop-byte-test.true ∙ ap (λ d. value_from (c.loop-byte.value * 10 + d) (drop (i + 1) w)) (sym c.from.ensures)))
