-- What a line of a script says. Assumes nothing.
use Rattle.std.specs.Prelude.{ℕ, ◌+◌, true, false, cond, List, [], ◌∷◌, drop, Some, None, Ok, Err, codes, Option, Result, ◌==◌, bit_or}
use Rattle.std.specs.Option.{option_map, option_flatten, option_or, ok_or}
use Rattle.std.specs.List.{slice_get, before_first}
use Rattle.std.specs.Str.{bytes_eq}
use Rattle.conversion.specs.declared.kinds.EntryKind.{EntryKind}
use Rattle.conversion.specs.declared.entries.LayoutEntry.{LayoutEntry}
use Rattle.script.specs.Words.{words, spelled, decimal_of}
use Rattle.script.specs.Names.{kind_named, stage_named}
use Rattle.script.specs.declared.words.Span.{Span}
use Rattle.script.specs.declared.lines.Line.{Line}
use Rattle.script.specs.declared.lines.Line.TheVariants.{Blank, Layout, Entry}
use Rattle.script.specs.declared.lines.Expected.{Expected}
use Rattle.script.specs.declared.lines.Expected.TheVariants as expected
use Rattle.script.specs.declared.lines.Unreadable.{Unreadable}

-- a line up to a number sign, which begins a comment
abbrev pub text_of : List ℕ → List ℕ
text_of line = before_first (λ c. c == 35) line

-- word i is none of what was expected
abbrev pub unreadable_at : ℕ → Expected → Unreadable
unreadable_at i e = record { word = i; expected = e }

-- word i can't be read
abbrev pub unreadable : {X : Type 0} → ℕ → Expected → Result X Unreadable
unreadable i e = Err (unreadable_at i e)

-- what word i is read as, or what was expected there
abbrev pub read : {X : Type 0} → (List ℕ → Option X) → List ℕ → ℕ → Expected → Result X Unreadable
read f t i e = ok_or (option_flatten (option_map (λ s. f (spelled t s)) (slice_get (words t) i))) (unreadable_at i e)

abbrev pub number_at : List ℕ → ℕ → Expected → Result ℕ Unreadable
number_at t i e = read decimal_of t i e

abbrev pub kind_at : List ℕ → ℕ → Result EntryKind Unreadable
kind_at t i = read kind_named t i expected.Kind

-- a stage by its name, or stage bits as a number
abbrev pub stage_bits : List ℕ → Option ℕ
stage_bits w = option_or (stage_named w) (decimal_of w)

-- one reading after another, up to the first word that can't be read
abbrev pub and_then : {X Y : Type 0} → Result X Unreadable → (X → Result Y Unreadable) → Result Y Unreadable
and_then (Ok x) f = f x
and_then (Err u) f = Err u

-- the stages of some words, from word i on, with those before
abbrev pub stages_from : List ℕ → ℕ → ℕ → List Span → Result ℕ Unreadable
stages_from t i s [] = Ok s
stages_from t i s (w ∷ ws) = and_then (ok_or (stage_bits (spelled t w)) (unreadable_at i expected.Stage)) (λ b. stages_from t (i + 1) (bit_or s b) ws)

-- entry BINDING KIND ARRAY STAGE..
abbrev pub entry_of : List ℕ → Result LayoutEntry Unreadable
entry_of t =
    and_then (number_at t 1 expected.Binding)
    (λ b. and_then (kind_at t 2)
    (λ k. and_then (number_at t 3 expected.ArraySize)
    (λ a. and_then (stages_from t 4 0 (drop 4 (words t)))
    (λ s. Ok (record { binding = b; kind = k; array = a; stages = s })))))

-- a statement of three words, where no fourth stands
abbrev pub at_end : Option Span → Line → Result Line Unreadable
at_end None l = Ok l
at_end (Some w) l = unreadable 3 expected.LineEnd

-- layout NAME [partially-bound], from its words after the first
abbrev pub layout_of : List ℕ → Option Span → Option Span → Option Span → Result Line Unreadable
layout_of t None p e = unreadable 1 expected.Name
layout_of t (Some n) None e = Ok (Layout n false)
layout_of t (Some n) (Some p) e = cond (bytes_eq (spelled t p) (codes "partially-bound")) (at_end e (Layout n true)) (unreadable 2 expected.PartiallyBound)

-- a text by its first word
abbrev pub statement_of : List ℕ → Option Span → Result Line Unreadable
statement_of t None = Ok Blank
statement_of t (Some w) =
    cond (bytes_eq (spelled t w) (codes "layout")) (layout_of t (slice_get (words t) 1) (slice_get (words t) 2) (slice_get (words t) 3))
    (cond (bytes_eq (spelled t w) (codes "entry")) (and_then (entry_of t) (λ e. Ok (Entry e)))
    (unreadable 0 expected.Statement))

-- what a line says
abbrev pub line_of : List ℕ → Result Line Unreadable
line_of line = statement_of (text_of line) (slice_get (words (text_of line)) 0)
