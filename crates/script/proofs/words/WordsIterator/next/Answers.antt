use Rattle.std.proofs.Common.{◌≡◌, ℕ, ◌+◌, List, ◌∙◌, ap, length, arith}
use Rattle.std.specs.List.{prefix_len, position_or_len, slice_range}
use Rattle.script.specs.Words.{is_blank}
use Rattle.script.proofs.Scans.{next_word, no_word}
use Rattle.script.proofs.words.WordsIterator.next.Goals as goal

-- how many bytes of a text stand from a position on before a blank
abbrev left : List ℕ → ℕ → ℕ
left t i = position_or_len is_blank (slice_range t i (length t))

pub returns-then-start-end-clause-steps : goal.returns-then-start-end-clause-steps
returns-then-start-end-clause-steps c =
    let k = c.blank_count.ensures.count ∙ ap (prefix_len is_blank) c.in_ok-rest.ensures.lookup.0.2 in
    let w : c.word_length.result ≡ left c.args.self.now.text.now (c.args.self.now.at + c.blank_count.result) = grind (arith, c.word_length.ensures.count) in
    next_word c.args.self.now.text.now c.args.self.now.at c.blank_count.result c.word_length.result k w (omega (arith, c.if-start-end.true))

pub returns-then-start-end-clause-goes : goal.returns-then-start-end-clause-goes
returns-then-start-end-clause-goes c =
    let k = c.blank_count.ensures.count ∙ ap (prefix_len is_blank) c.in_ok-rest.ensures.lookup.0.2 in
    let w : c.word_length.result ≡ left c.args.self.now.text.now (c.args.self.now.at + c.blank_count.result) = grind (arith, c.word_length.ensures.count) in
    let e = ap length (next_word c.args.self.now.text.now c.args.self.now.at c.blank_count.result c.word_length.result k w (omega (arith, c.if-start-end.true))) in
    record { on = λ h. (tt, tt, omega (arith, e)); keeps = tt; rests = λ h. tt }

pub returns-else-start-end-clause-steps : goal.returns-else-start-end-clause-steps
returns-else-start-end-clause-steps c =
    let k = c.blank_count.ensures.count ∙ ap (prefix_len is_blank) c.in_ok-rest.ensures.lookup.0.2 in
    let w : c.word_length.result ≡ left c.args.self.now.text.now (c.args.self.now.at + c.blank_count.result) = grind (arith, c.word_length.ensures.count) in
    no_word c.args.self.now.text.now c.args.self.now.at c.blank_count.result c.word_length.result k w (omega (arith, c.if-start-end.false))
