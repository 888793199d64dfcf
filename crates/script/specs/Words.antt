-- The words of a text, and the numbers that they write. Assumes nothing.
use Rattle.std.specs.Prelude.{◌≡◌, ℕ, ◌+◌, ◌-◌, ◌*◌, ◌<◌, ◌≤◌, Bool, true, false, cond, ◌&&◌, ◌||◌, List, [], ◌∷◌, length, take, drop, Some, None, Option, ◌==◌, nat_lt, slice_index}
use Rattle.std.specs.Option.{unwrap_or}
use Rattle.std.specs.Str.{all_ascii_digits}
use Rattle.script.specs.declared.words.Span.{Span}
use Rattle.script.specs.declared.words.Words.{Words}

-- a space, a tab or a carriage return
abbrev pub is_blank : ℕ → Bool
is_blank c = c == 32 || (c == 9 || c == 13)

-- a part of a text
abbrev pub span : ℕ → ℕ → Span
span s e = record { start = s; end = e }

-- a word that ends at i, if one is open, before the others
abbrev pub closing : Option ℕ → ℕ → List Span → List Span
closing None i ws = ws
closing (Some s) i ws = span s i ∷ ws

-- the words of a text from position i on, where one may be open since an earlier position
abbrev pub words_from : Option ℕ → ℕ → List ℕ → List Span
words_from o i [] = closing o i []
words_from o i (c ∷ cs) = cond (is_blank c) (closing o i (words_from None (i + 1) cs)) (words_from (Some (unwrap_or o i)) (i + 1) cs)

-- the words of a text: what stands between blanks
abbrev pub words : List ℕ → List Span
words t = words_from None 0 t

-- the words that are still to come
abbrev pub words_left : Words → List Span
words_left s = words_from None s.at (drop s.at s.text.now)

-- the bytes of a part
abbrev pub spelled : List ℕ → Span → List ℕ
spelled t s = take (s.end - s.start) (drop s.start t)

-- A word of a text: a run of bytes that are no blanks, with a blank or the text's end on either side.
pub record Word (t : List ℕ) (s : Span) : Type 0 where
  pub some : s.start < s.end
  pub inside : s.end ≤ length t
  pub solid : (k : ℕ) → s.start ≤ k → k < s.end → is_blank (slice_index t k) ≡ false
  pub before : (k : ℕ) → k + 1 ≡ s.start → is_blank (slice_index t k) ≡ true
  pub after : s.end < length t → is_blank (slice_index t s.end) ≡ true

-- the number that digits write after those that write v
abbrev pub value_from : ℕ → List ℕ → ℕ
value_from v [] = v
value_from v (c ∷ cs) = value_from (v * 10 + (c - 48)) cs

-- the 32-bit number that a word writes in decimal
abbrev pub decimal_of : List ℕ → Option ℕ
decimal_of w = cond (nat_lt 0 (length w) && (all_ascii_digits w && nat_lt (value_from 0 w) 4294967296)) (Some (value_from 0 w)) None
