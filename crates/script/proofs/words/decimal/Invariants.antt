use Rattle.std.proofs.Common.{◌≡◌, ◌≤◌, drop}
use Rattle.std.specs.Str.{all_ascii_digits}
use Rattle.script.specs.Words.{value_from}
use Rattle.script.proofs.words.decimal.Given as goal

abbrev pub invariant-loop-byte : goal.invariant-loop-byte
invariant-loop-byte l =
    (all_ascii_digits l.word ≡ all_ascii_digits (drop l.byte-index l.word))
    × (value_from 0 l.word ≡ value_from l.value (drop l.byte-index l.word))
    × (l.value ≤ 4294967295)
