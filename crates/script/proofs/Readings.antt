-- How the parts of a line make its reading.
use Rattle.std.proofs.Common.{◌≡◌, ℕ, ◌+◌, ◌-◌, ◌<◌, ◌≤◌, List, drop, length, get_or, Some, None, Ok, Option, sym, ap, ◌∙◌, arith}
use lib.Bits.{bit_or}
use Rattle.std.specs.declared.iter.Enumerate.{Enumerate}
use Rattle.std.specs.declared.iter.Skip.{Skip}
use Rattle.std.specs.Iterator.{YieldsFirst, Yields}
use Rattle.std.specs.Iterator.Adapters.{enumerate_steps, enumerate_source, enumerate_count, skip_steps, skip_source, skip_count}
use Rattle.std.specs.List.{slice_get, enumerate_from}
use Rattle.std.specs.Option.{ok_or}
use Rattle.std.proofs.lemmas.Iterator.{YieldsList}
use Rattle.std.proofs.lemmas.Iterator.Adapters.{YieldsList-from_skip}
use Rattle.std.proofs.lemmas.Iterator.Consumers.{YieldsList-at, YieldsList-from_enumerate, YieldsList-from_first, YieldsList-turn, YieldsList-end}
use Rattle.std.proofs.lemmas.List.{length-drop, get_or-drop, at_drop_all}
use Rattle.std.proofs.lemmas.List.FromFn.{length-enumerate_from, get_or-enumerate_from}
use Rattle.std.proofs.lemmas.Option.{slice_get-get_or}
use Rattle.script.specs.Words.{words, words_left, spelled}
use Rattle.script.specs.Lines.{unreadable, stage_bits, and_then, stages_from}
use Rattle.script.specs.declared.words.Span.{Span}
use Rattle.script.specs.declared.words.Words.{Words}
use Rattle.script.specs.declared.lines.Expected.TheVariants as expected
use Rattle.script.proofs.Scans.{few_words, nth_more}

-- the loop over the words from the fifth on, with their places
module _ (t : List ℕ) (w : Words) (e : Enumerate Words) (s i : Skip (Enumerate Words)) (left : words_left w ≡ words t) (source : enumerate_source e ≡ w) (count : enumerate_count e ≡ 0) (skipped : skip_source s ≡ e) (number : skip_count s ≡ 4) (same : i ≡ s) where
  abbrev numbered : List (ℕ × Span)
  numbered = drop 4 (enumerate_from 0 (words t))

  abbrev steps : Skip (Enumerate Words) → Option (ℕ × Span) → Skip (Enumerate Words) → Type 0
  steps = skip_steps (enumerate_steps (YieldsFirst words_left))

  yields : YieldsList steps (λ p. (p.0, p.1)) i numbered
  yields =
      YieldsList-at same (YieldsList-from_skip 4 (YieldsList-at skipped (YieldsList-from_enumerate (YieldsList-at source (YieldsList-from_first (λ x. x) words_left (words t) left)) count)) number)

  length-numbered : length numbered ≡ length (words t) - 4
  length-numbered = length-drop 4 (enumerate_from 0 (words t)) ∙ ap (λ n. n - 4) (length-enumerate_from 0 (words t))

  -- its count fits
  pub counted : enumerate_count (skip_source i) + length (words_left (enumerate_source (skip_source i))) ≤ length t
  counted = rw (same, skipped, source, left, count) (omega (arith, few_words t))

  module _ (seen : List (ℕ × Span)) (at : Skip (Enumerate Words)) (so_far : Yields steps i seen at) (r : Option (ℕ × Span)) (after : Skip (Enumerate Words)) (step : steps at r after) where
    -- the next, and its place
    pub numbered_next : (x : ℕ × Span) → r ≡ Some x → (x.0 ≡ 4 + length seen) × (Some x.1 ≡ slice_get (words t) (4 + length seen))
    numbered_next x is =
        let h = YieldsList-turn yields seen at so_far r after x is step in
        let l : 4 + length seen < length (words t) = omega (arith, h.0, length-numbered) in
        let e : (x.0, x.1) ≡ (0 + (4 + length seen), get_or (words t) (4 + length seen) x.1) = h.1 ∙ (get_or-drop 4 (enumerate_from 0 (words t)) (length seen) (x.0, x.1) ∙ get_or-enumerate_from 0 (words t) (4 + length seen) (x.0, x.1) l) in
        (ap (λ p. p.0) e ∙ omega arith, ap (λ p. Some p.1) e ∙ sym (slice_get-get_or (words t) (4 + length seen) x.1 l))

    pub none_next : r ≡ None → length (words t) ≤ 4 + length seen
    none_next is = let h = YieldsList-end yields seen at so_far r after is step in omega (arith, h.1, length-numbered)

-- stages, word by word
module _ (t : List ℕ) (i s : ℕ) where
  stages_step : (w : Span) → Some w ≡ slice_get (words t) i → stages_from t i s (drop i (words t)) ≡ and_then (ok_or (stage_bits (spelled t w)) (record { word = i; expected = expected.Stage })) (λ b. stages_from t (i + 1) (bit_or s b) (drop (i + 1) (words t)))
  stages_step w h = ap (stages_from t i s) (nth_more (words t) i w h)

  pub stages_more : (w : Span) (v : List ℕ) (b : ℕ) → Some w ≡ slice_get (words t) i → v ≡ spelled t w → Some b ≡ stage_bits v → stages_from t i s (drop i (words t)) ≡ stages_from t (i + 1) (bit_or s b) (drop (i + 1) (words t))
  stages_more w v b h p q =
      stages_step w h ∙ ap (λ o. and_then (ok_or o (record { word = i; expected = expected.Stage })) (λ b. stages_from t (i + 1) (bit_or s b) (drop (i + 1) (words t)))) (sym (q ∙ ap stage_bits p))

  pub stages_odd : (w : Span) (v : List ℕ) → Some w ≡ slice_get (words t) i → v ≡ spelled t w → None ≡ stage_bits v → stages_from t i s (drop i (words t)) ≡ unreadable i expected.Stage
  stages_odd w v h p q =
      stages_step w h ∙ ap (λ o. and_then (ok_or o (record { word = i; expected = expected.Stage })) (λ b. stages_from t (i + 1) (bit_or s b) (drop (i + 1) (words t)))) (sym (q ∙ ap stage_bits p))

  pub stages_end : length (words t) ≤ i → stages_from t i s (drop i (words t)) ≡ Ok s
  stages_end h = at_drop_all (stages_from t i s) (words t) i h
