-- Texts, their words and the numbers that they write, step by step.
use Rattle.std.proofs.Common.{◌≡◌, ℕ, zero, suc, ◌+◌, ◌-◌, ◌*◌, ◌<◌, ◌≤◌, Bool, true, false, not, cond, List, [], ◌∷◌, length, get_or, take, drop, nat_lt, is_some, Some, None, Option, unwrap_or, sym, refl, ap, ap₂, ◌∙◌, subst, inl, inr, arith, MatchOption}
use Rattle.std.specs.List.{All, slice_get, slice_range, prefix_len, position, position_or_len, before_first}
use Rattle.std.proofs.lemmas.List.{drop-drop, length-drop, drop_more, at_drop_all, take_all}
use Rattle.std.proofs.lemmas.Option.{slice_get_within, get_or_from_slice_get}
use Rattle.std.proofs.lemmas.List.Elements.{All-cons}
use Rattle.std.specs.Option.{IfSome}
use Rattle.std.proofs.lemmas.Bool.Decides.{nat_tests, leb_tells}
use Rattle.script.specs.Words.{is_blank, span, closing, words, words_from, Word, value_from, decimal_of}
use Rattle.script.specs.declared.words.Span.{Span}

-- a byte of a word, a blank, and the end
word_byte : (t : List ℕ) (o : Option ℕ) (i : ℕ) → i < length t → is_blank (get_or t i 0) ≡ false → words_from o i (drop i t) ≡ words_from (Some (unwrap_or o i)) (i + 1) (drop (i + 1) t)
word_byte t o i h e = rw (drop_more t i 0 h, e)

word_blank : (t : List ℕ) (o : Option ℕ) (i : ℕ) → i < length t → is_blank (get_or t i 0) ≡ true → words_from o i (drop i t) ≡ closing o i (words_from None (i + 1) (drop (i + 1) t))
word_blank t o i h e = rw (drop_more t i 0 h, e)

word_end : (t : List ℕ) (o : Option ℕ) (i : ℕ) → length t ≤ i → words_from o i (drop i t) ≡ closing o i []
word_end t o i h = at_drop_all (words_from o i) t i h

-- what stands before position i: a word that is open since s, or a blank or the start
pub record Open (t : List ℕ) (s i : ℕ) : Type 0 where
  pub some : s < i
  pub solid : (k : ℕ) → s ≤ k → k < i → is_blank (get_or t k 0) ≡ false
  pub before : (k : ℕ) → k + 1 ≡ s → is_blank (get_or t k 0) ≡ true

abbrev Shut : List ℕ → ℕ → Type 0
Shut t i = (k : ℕ) → k + 1 ≡ i → is_blank (get_or t k 0) ≡ true

module _ (t : List ℕ) where
  -- a byte more of a word, its first or a further one
  here : (i k : ℕ) → is_blank (get_or t i 0) ≡ false → i ≤ k → k < i + 1 → is_blank (get_or t k 0) ≡ false
  here i k b l h = let e : k ≡ i = omega arith in rw e b

  further : (s i k : ℕ) → is_blank (get_or t i 0) ≡ false → Open t s i → s ≤ k → k < i + 1 → is_blank (get_or t k 0) ≡ false
  further s i k b p l h =
      elim (leb_tells i k) [
        | inl m ↦ let le = m.1 in here i k b le h
        | inr m ↦ p.solid k l m.1
      ]

  abbrev Before : Option ℕ → ℕ → Type 0
  Before o i = MatchOption o (Shut t i) (λ s. Open t s i)

  opened : (o : Option ℕ) (i : ℕ) → is_blank (get_or t i 0) ≡ false → Before o i → Open t (unwrap_or o i) (i + 1)
  opened None i b h = record { some = omega arith; solid = λ k. here i k b; before = h }
  opened (Some s) i b h = record { some = omega (arith, h.some); solid = λ k. further s i k b h; before = h.before }

  shut : (i : ℕ) → is_blank (get_or t i 0) ≡ true → Shut t (i + 1)
  shut i b k e = let q : k ≡ i = omega arith in rw q b

  closed : (o : Option ℕ) (i : ℕ) (ws : List Span) → i ≤ length t → (i < length t → is_blank (get_or t i 0) ≡ true) → Before o i → All (Word t) ws → All (Word t) (closing o i ws)
  closed None i ws l b p a = a
  closed (Some s) i ws l b p a = All-cons (Word t) (span s i) ws (record { some = p.some; inside = l; solid = p.solid; before = p.before; after = b }) a

  -- each word of the n bytes from position i on, where one may be open
  each_left : (n : ℕ) (o : Option ℕ) (i : ℕ) → i + n ≡ length t → Before o i → All (Word t) (words_from o i (drop i t))
  each_left zero o i e h = rw (word_end t o i (omega arith)) (closed o i [] (omega arith) (λ l. absurd (omega arith)) h (λ k d l. absurd (omega (arith, l))))
  each_left (suc n) o i e h = by_blank (is_blank (get_or t i 0)) refl (each_left n None (i + 1) (omega arith)) (each_left n (Some (unwrap_or o i)) (i + 1) (omega arith))
    where
      by_blank : (b : Bool) → is_blank (get_or t i 0) ≡ b → (Before None (i + 1) → All (Word t) (words_from None (i + 1) (drop (i + 1) t))) → (Before (Some (unwrap_or o i)) (i + 1) → All (Word t) (words_from (Some (unwrap_or o i)) (i + 1) (drop (i + 1) t))) → All (Word t) (words_from o i (drop i t))
      by_blank true b f g = rw (word_blank t o i (omega arith) b) (closed o i _ (omega arith) (λ l. b) h (f (shut i b)))
      by_blank false b f g = rw (word_byte t o i (omega arith) b) (g (opened o i b h))

each_word : (t : List ℕ) → All (Word t) (words t)
each_word t = each_left t (length t) None 0 (omega arith) (λ k e. absurd (omega arith))

pub is_word : (t : List ℕ) (n : ℕ) (o : Option Span) → o ≡ slice_get (words t) n → IfSome o (Word t)
is_word t n None e = tt
is_word t n (Some w) e = subst (Word t) (get_or_from_slice_get (words t) n w w (sym e)) (each_word t n w (slice_get_within (words t) n w (sym e)))

-- a digit more
pub value_more : (w : List ℕ) (v i : ℕ) → i < length w → value_from v (drop i w) ≡ value_from (v * 10 + (get_or w i 0 - 48)) (drop (i + 1) w)
value_more w v i h = rw (drop_more w i 0 h)

-- more digits write no smaller number
grows : (w : List ℕ) (v : ℕ) → v ≤ value_from v w
grows [] v = omega arith
grows (c ∷ w) v = omega (arith, grows w (v * 10 + (c - 48)))

pub too_large : (w r : List ℕ) (v : ℕ) → 4294967295 < v → value_from 0 w ≡ value_from v r → None ≡ decimal_of w
too_large w r v h e = let g = grows r v in let l : 4294967295 < value_from 0 w = omega arith in grind (arith, nat_tests)

-- there are no more words than bytes
closing_length : (o : Option ℕ) (i n : ℕ) (ws : List Span) → length ws ≤ n → length (closing o i ws) ≤ n + cond (is_some o) 1 0
closing_length None i n ws h = omega (arith, h)
closing_length (Some s) i n ws h = omega (arith, h)

more_words : (t : List ℕ) (o : Option ℕ) (i : ℕ) → length (words_from o i t) ≤ length t + cond (is_some o) 1 0
more_words [] o i = closing_length o i 0 [] (omega arith)
more_words (c ∷ t) o i = by_blank (is_blank c) (more_words t None (i + 1)) (more_words t (Some (unwrap_or o i)) (i + 1))
  where
    by_blank : (b : Bool) → length (words_from None (i + 1) t) ≤ length t + 0 → length (words_from (Some (unwrap_or o i)) (i + 1) t) ≤ length t + 1 → length (cond b (closing o i (words_from None (i + 1) t)) (words_from (Some (unwrap_or o i)) (i + 1) t)) ≤ length (c ∷ t) + cond (is_some o) 1 0
    by_blank true a b = omega (arith, closing_length o i (length t) (words_from None (i + 1) t) (omega (arith, a)))
    by_blank false a b = omega (arith, b)

pub few_words : (t : List ℕ) → length (words t) ≤ length t
few_words t = omega (arith, more_words t None 0)

-- what is found at a place of a list
pub nth_more : {X : Type 0} (xs : List X) (i : ℕ) (x : X) → Some x ≡ slice_get xs i → drop i xs ≡ x ∷ drop (i + 1) xs
nth_more xs i x e =
    drop_more xs i x (slice_get_within xs i x (sym e)) ∙ ap (λ y. y ∷ drop (i + 1) xs) (get_or_from_slice_get xs i x x (sym e))

-- a list up to the first that passes a test, or to its end
up_to_by : {X : Type 0} (xs : List X) (k : ℕ) → (b : Bool) → (b ≡ nat_lt k (length xs)) → take (unwrap_or (cond b (Some k) None) (length xs)) xs ≡ take k xs
up_to_by xs k true e = refl
up_to_by xs k false e = let h : length xs ≤ k = grind (arith, nat_tests) in take_all (length xs) xs (omega arith) ∙ sym (take_all k xs h)

pub up_to_first : {X : Type 0} (p : X → Bool) (xs : List X) → take (unwrap_or (position p xs) (length xs)) xs ≡ before_first p xs
up_to_first p xs = up_to_by xs (position_or_len p xs) (nat_lt (position_or_len p xs) (length xs)) refl

-- one step past what passes a test
more_len : {X : Type 0} (p : X → Bool) (x : X) (xs : List X) → p x ≡ true → prefix_len p (x ∷ xs) ≡ suc (prefix_len p xs)
more_len p x xs e = let n : 1 + prefix_len p xs ≡ suc (prefix_len p xs) = omega arith in rw e n

no_len : {X : Type 0} (p : X → Bool) (x : X) (xs : List X) → p x ≡ false → prefix_len p (x ∷ xs) ≡ 0
no_len p x xs e = rw e refl

-- past the blanks at the start of a text, and past its first word
past_blanks : (t : List ℕ) (i : ℕ) → words_from None i t ≡ words_from None (i + prefix_len is_blank t) (drop (prefix_len is_blank t) t)
past_blanks [] i = refl
past_blanks (c ∷ t) i = by_blank (is_blank c) refl (past_blanks t (i + 1))
  where
    by_blank : (b : Bool) → is_blank c ≡ b → words_from None (i + 1) t ≡ words_from None (i + 1 + prefix_len is_blank t) (drop (prefix_len is_blank t) t) → words_from None i (c ∷ t) ≡ words_from None (i + prefix_len is_blank (c ∷ t)) (drop (prefix_len is_blank (c ∷ t)) (c ∷ t))
    by_blank true e h = let n : prefix_len is_blank (c ∷ t) ≡ suc (prefix_len is_blank t) = more_len is_blank c t e in let m : i + suc (prefix_len is_blank t) ≡ i + 1 + prefix_len is_blank t = omega arith in rw (n, m, e) h
    by_blank false e h = let n : prefix_len is_blank (c ∷ t) ≡ 0 = no_len is_blank c t e in let z : i + 0 ≡ i = omega arith in rw (n, z) refl

past_word : (t : List ℕ) (s i : ℕ) → words_from (Some s) i t ≡ span s (i + position_or_len is_blank t) ∷ words_from None (i + position_or_len is_blank t) (drop (position_or_len is_blank t) t)
past_word [] s i = let z : i + 0 ≡ i = omega arith in rw z refl
past_word (c ∷ t) s i = by_blank (is_blank c) refl (past_word t s (i + 1))
  where
    by_blank : (b : Bool) → is_blank c ≡ b → words_from (Some s) (i + 1) t ≡ span s (i + 1 + position_or_len is_blank t) ∷ words_from None (i + 1 + position_or_len is_blank t) (drop (position_or_len is_blank t) t) → words_from (Some s) i (c ∷ t) ≡ span s (i + position_or_len is_blank (c ∷ t)) ∷ words_from None (i + position_or_len is_blank (c ∷ t)) (drop (position_or_len is_blank (c ∷ t)) (c ∷ t))
    by_blank true e h = let n : position_or_len is_blank (c ∷ t) ≡ 0 = no_len (λ x. not (is_blank x)) c t (ap not e) in let z : i + 0 ≡ i = omega arith in rw (n, z, e) refl
    by_blank false e h = let n : position_or_len is_blank (c ∷ t) ≡ suc (position_or_len is_blank t) = more_len (λ x. not (is_blank x)) c t (ap not e) in let m : i + suc (position_or_len is_blank t) ≡ i + 1 + position_or_len is_blank t = omega arith in rw (n, m, e) h

-- the first word stands where a byte is none
word_here : (t : List ℕ) (i : ℕ) → 0 < position_or_len is_blank t → words_from None i t ≡ span i (i + position_or_len is_blank t) ∷ words_from None (i + position_or_len is_blank t) (drop (position_or_len is_blank t) t)
word_here [] i h = absurd (omega (arith, h))
word_here (c ∷ t) i h = by_blank (is_blank c) refl h
  where
    by_blank : (b : Bool) → is_blank c ≡ b → 0 < position_or_len is_blank (c ∷ t) → words_from None i (c ∷ t) ≡ span i (i + position_or_len is_blank (c ∷ t)) ∷ words_from None (i + position_or_len is_blank (c ∷ t)) (drop (position_or_len is_blank (c ∷ t)) (c ∷ t))
    by_blank true e h = let z : position_or_len is_blank (c ∷ t) ≡ 0 = rw e refl in absurd (omega arith)
    by_blank false e h = let w : words_from None i (c ∷ t) ≡ words_from (Some i) i (c ∷ t) = rw e refl in w ∙ past_word (c ∷ t) i i

-- where no word follows the blanks, nothing does
none_here : (t : List ℕ) → position_or_len is_blank (drop (prefix_len is_blank t) t) ≡ 0 → drop (prefix_len is_blank t) t ≡ []
none_here [] h = refl
none_here (c ∷ t) h = by_blank (is_blank c) refl (none_here t) h
  where
    by_blank : (b : Bool) → is_blank c ≡ b → (position_or_len is_blank (drop (prefix_len is_blank t) t) ≡ 0 → drop (prefix_len is_blank t) t ≡ []) → position_or_len is_blank (drop (prefix_len is_blank (c ∷ t)) (c ∷ t)) ≡ 0 → drop (prefix_len is_blank (c ∷ t)) (c ∷ t) ≡ []
    by_blank true e g h = let n : prefix_len is_blank (c ∷ t) ≡ suc (prefix_len is_blank t) = more_len is_blank c t e in (ap (λ k. drop k (c ∷ t)) n ∙ g (ap (λ k. position_or_len is_blank (drop k (c ∷ t))) (sym n) ∙ h))
    by_blank false e g h = let n : prefix_len is_blank (c ∷ t) ≡ 0 = rw e refl in let m : position_or_len is_blank (c ∷ t) ≡ 1 + position_or_len is_blank t = rw e refl in let z : position_or_len is_blank (c ∷ t) ≡ 0 = ap (λ k. position_or_len is_blank (drop k (c ∷ t))) (sym n) ∙ h in absurd (omega arith)

from_place : (t : List ℕ) (i : ℕ) → slice_range t i (length t) ≡ drop i t
from_place t i = take_all (length t - i) (drop i t) (let l = length-drop i t in omega arith)

-- the next word of a text from position i on: k blanks and n bytes on
module _ (t : List ℕ) (i k n : ℕ) (skipped : k ≡ prefix_len is_blank (slice_range t i (length t))) (taken : n ≡ position_or_len is_blank (slice_range t (i + k) (length t))) where
  blanks : k ≡ prefix_len is_blank (drop i t)
  blanks = skipped ∙ ap (prefix_len is_blank) (from_place t i)

  word : n ≡ position_or_len is_blank (drop (i + k) t)
  word = taken ∙ ap (position_or_len is_blank) (from_place t (i + k))

  onward : drop (prefix_len is_blank (drop i t)) (drop i t) ≡ drop (i + k) t
  onward = rw (sym blanks) (drop-drop k i t)

  to_word : words_from None i (drop i t) ≡ words_from None (i + k) (drop (i + k) t)
  to_word = past_blanks (drop i t) i ∙ ap₂ (λ a b. words_from None (i + a) b) (sym blanks) onward

  pub next_word : 0 < n → words_from None i (drop i t) ≡ span (i + k) (i + k + n) ∷ words_from None (i + k + n) (drop (i + k + n) t)
  next_word h =
      to_word
      ∙ word_here (drop (i + k) t) (i + k) (rw (sym word) h)
      ∙ ap₂ (λ a b. span (i + k) (i + k + a) ∷ words_from None (i + k + a) b) (sym word) (ap (λ a. drop a (drop (i + k) t)) (sym word) ∙ drop-drop n (i + k) t)

  at_end : n ≡ 0 → drop (i + k) t ≡ []
  at_end z = sym onward ∙ none_here (drop i t) (ap (position_or_len is_blank) onward ∙ (sym word ∙ z))

  pub no_word : n ≡ 0 → (words_from None i (drop i t) ≡ []) × (words_from None (i + k + n) (drop (i + k + n) t) ≡ [])
  no_word z =
      let e : drop (i + k) t ≡ [] = at_end z in
      let s : i + k + n ≡ i + k = omega arith in
      (to_word ∙ ap (words_from None (i + k)) e, ap (λ j. words_from None j (drop j t)) s ∙ ap (words_from None (i + k)) e)
