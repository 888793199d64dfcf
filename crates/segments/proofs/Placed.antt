-- What stands in the elements of segments, as records move.
use Rattle.std.proofs.Common.{◌≡◌, ℕ, ◌+◌, ◌<◌, ◌≤◌, Bool, true, false, cond, ◌&&◌, eqb, ltb, List, length, get_or, set, replicate, Some, None, vec_items, vec_len, Option, Vec, refl, ap, ◌∙◌, ap₂, arith, get_or-set_other, get_or-set_same}
use native.Mathlib.Decide.{dec_lt}
use mathlib.Core.Path.{fun_ext}
use lib.ListN.{length-replicate}
use Rattle.std.specs.Vec.{with_items}
use Rattle.std.proofs.lemmas.List.{get_or_past, get_or-replicate, with_items_is}
use Rattle.std.proofs.lemmas.Bool.Decides.{nat_tests}
use Rattle.device.specs.Meaning.{sum_below}
use Rattle.device.proofs.Below.{below_none}
use Rattle.segments.specs.Places.{length_in, start_in, element_in, changed_at}
use Rattle.segments.specs.Moves.{Raised, Lowered}
use Rattle.segments.specs.Segments.{length_at, used, size, can_make}
use Rattle.segments.specs.declared.Segments.{Segments}
use Rattle.segments.proofs.Sums.{sum_within, sum_before, sum_behind}

-- one length changed
length_set_at : (ls : List ℕ) (i n : ℕ) → i < length ls → (k : ℕ) → length_in (set ls i n) k ≡ changed_at (length_in ls) i n k
length_set_at ls i n l k =
    let same = get_or-set_same ls i n 0 l in
    let other = get_or-set_other ls i k n 0 in
    grind (arith, nat_tests)

lengths_set : (ls : List ℕ) (i n : ℕ) → i < length ls → length_in (set ls i n) ≡ changed_at (length_in ls) i n
lengths_set ls i n l = fun_ext (length_set_at ls i n l)

-- a segment that is not empty is one of them
pub there : (ls : List ℕ) (i j : ℕ) → j < length_in ls i → i < length ls
there ls i j l = let past = get_or_past ls i 0 in grind arith

-- the elements, by any lengths
abbrev element_by : {T : Type 0} → (ℕ → ℕ) → List (Option T) → ℕ → ℕ → Option T
element_by f xs k m = cond (ltb m (f k)) (get_or xs (sum_below k f + m) None) None

module _ {T : Type 0} (f : ℕ → ℕ) (s i : ℕ) (inside : i < s) (past : (k : ℕ) → s ≤ k → f k ≡ 0) (xs ys : List (Option T)) where
  -- records before segment i stay where they are
  below : (n : ℕ) → ((k : ℕ) → k < sum_below i f → get_or ys k None ≡ get_or xs k None) → (k m : ℕ) → k < i → m < f k → get_or ys (sum_below k (changed_at f i n) + m) None ≡ get_or xs (sum_below k f + m) None
  below n before k m l b =
      let e = sum_before f i n k (omega arith) in
      let w = sum_within f k i l in
      rw e (before (sum_below k f + m) (omega arith))

  module _ (n : ℕ) (empty : f i ≡ 0) (moved : Raised xs (sum_below i f) (sum_below s f) n ys) where
    raised_gap : (m : ℕ) → m < n → get_or ys (sum_below i (changed_at f i n) + m) None ≡ None
    raised_gap m b = let e = sum_before f i n i (omega arith) in rw e (moved.gap (sum_below i f + m) (omega arith) (omega arith))

    raised_above : (k m : ℕ) → i < k → m < f k → get_or ys (sum_below k (changed_at f i n) + m) None ≡ get_or xs (sum_below k f + m) None
    raised_above k m l b =
        let p = past k in
        let h : k < s = grind arith in
        let w = sum_within f i k l in
        let u = sum_within f k s h in
        let e : sum_below k (changed_at f i n) + m ≡ (sum_below k f + m) + n = omega (arith, sum_behind f i n k l) in
        rw e (moved.behind (sum_below k f + m) (omega arith) (omega arith))

    raised_each : (k m : ℕ) → element_by (changed_at f i n) ys k m ≡ cond (eqb k i) None (element_by f xs k m)
    raised_each k m =
        let b = below n moved.before k m in
        let a = raised_above k m in
        let g = raised_gap m in
        grind (arith, nat_tests)

  module _ (moved : Lowered xs (sum_below i f) (sum_below s f) (f i) ys) where
    lowered_above : (k m : ℕ) → i < k → m < f k → get_or ys (sum_below k (changed_at f i 0) + m) None ≡ get_or xs (sum_below k f + m) None
    lowered_above k m l b =
        let p = past k in
        let h : k < s = grind arith in
        let w = sum_within f i k l in
        let u = sum_within f k s h in
        let v = sum_behind f i 0 k l in
        let e : (sum_below k (changed_at f i 0) + m) + f i ≡ sum_below k f + m = omega arith in
        moved.behind (sum_below k (changed_at f i 0) + m) (omega arith) (omega arith) ∙ ap (λ n. get_or xs n None) e

    lowered_each : (k m : ℕ) → element_by (changed_at f i 0) ys k m ≡ cond (eqb k i) None (element_by f xs k m)
    lowered_each k m =
        let b = below 0 moved.before k m in
        let a = lowered_above k m in
        grind (arith, nat_tests)

module _ (ls : List ℕ) (s i : ℕ) (long : length ls ≡ s) (inside : i < s) where
  -- past the last segment there is none
  ends : (k : ℕ) → s ≤ k → length_in ls k ≡ 0
  ends k l = get_or_past ls k 0 (omega arith)

  pub changed : (n : ℕ) → length_in (set ls i n) ≡ changed_at (length_in ls) i n
  changed n = lengths_set ls i n (omega arith)

  -- what all segments have then
  pub used_after : (n : ℕ) → start_in (set ls i n) s + length_in ls i ≡ start_in ls s + n
  used_after n = let e = ap (sum_below s) (changed n) in omega (arith, sum_behind (length_in ls) i n s inside)

  module _ {T Z : Type 0} (xs : List (Option T)) (v : Vec (Option T) Z) (ys : List (Option T)) (start end : ℕ) (same : xs ≡ vec_items v) (whole : length ys ≡ vec_len v) (at_start : start ≡ start_in ls i) (at_end_lem : end ≡ start_in ls s) where
    pub raised : (n : ℕ) → length_in ls i ≡ 0 → Raised xs start end n ys → (k m : ℕ) → element_in (set ls i n) (vec_items (with_items v ys)) k m ≡ cond (eqb k i) None (element_in ls (vec_items v) k m)
    raised n empty moved k m =
        ap₂ (λ f zs. element_by f zs k m) (changed n) (with_items_is v ys whole)
        ∙ raised_each (length_in ls) s i inside ends (vec_items v) ys n empty (rw (same, at_start, at_end_lem) at moved) k m

    pub lowered : Lowered xs start end (length_in ls i) ys → (k m : ℕ) → element_in (set ls i 0) (vec_items (with_items v ys)) k m ≡ cond (eqb k i) None (element_in ls (vec_items v) k m)
    lowered moved k m =
        ap₂ (λ f zs. element_by f zs k m) (changed 0) (with_items_is v ys whole)
        ∙ lowered_each (length_in ls) s i inside ends (vec_items v) ys (rw (same, at_start, at_end_lem) at moved) k m

-- two elements that are there stand at two places
apart : (f : ℕ → ℕ) (i j k m : ℕ) → j < f i → m < f k → sum_below k f + m ≡ sum_below i f + j → k ≡ i
apart f i j k m a b e =
    let w = sum_within f k i in
    let v = sum_within f i k in
    grind arith

-- what a place that was found says
found : (b : Bool) (p q : ℕ) → Some p ≡ cond b (Some q) None → (true ≡ b) × (p ≡ q)
found true p q e = (refl, cc)
found false p q e = let z : ◌≡◌ {A = ℕ} 0 1 = cc in absurd (omega arith)

written : {T : Type 0} (ls : List ℕ) (xs : List (Option T)) (i j : ℕ) (x : T) → j < length_in ls i → start_in ls i + j < length xs → (k m : ℕ) → element_in ls (set xs (start_in ls i + j) (Some x)) k m ≡ cond (eqb k i && eqb m j) (Some x) (element_in ls xs k m)
written ls xs i j x a l k m =
    let one = apart (length_in ls) i j k m a in
    let same = get_or-set_same xs (start_in ls i + j) (Some x) None l in
    let other = get_or-set_other xs (start_in ls i + j) (start_in ls k + m) (Some x) None in
    grind (arith, nat_tests)

pub written_at : {T : Type 0} (ls : List ℕ) (xs : List (Option T)) (i j p : ℕ) (x : T) → p < length xs → Some p ≡ cond (ltb j (length_in ls i)) (Some (start_in ls i + j)) None
    → (true ≡ ltb j (length_in ls i)) × ((k m : ℕ) → element_in ls (set xs p (Some x)) k m ≡ cond (eqb k i && eqb m j) (Some x) (element_in ls xs k m))
written_at ls xs i j p x l e =
    let f = found (ltb j (length_in ls i)) p (start_in ls i + j) e in
    let a : j < length_in ls i = grind (arith, nat_tests) in
    (f.0, λ k m. ap (λ q. element_in ls (set xs q (Some x)) k m) f.1 ∙ written ls xs i j x a (omega arith) k m)

-- where every segment is empty
abbrev none : ℕ → List ℕ
none s = replicate s 0

pub none_long : (s : ℕ) → length (none s) ≡ s
none_long s = length-replicate {A = ℕ} s 0

none_at : (s k : ℕ) → length_in (none s) k ≡ 0
none_at s k = elim (dec_lt k s) [ yes h ↦ get_or-replicate s k 0 0 h | no h ↦ get_or_past (none s) k 0 (omega (arith, none_long s)) ]

pub none_lengths : (s : ℕ) → length_in (none s) ≡ (λ i. 0)
none_lengths s = fun_ext (none_at s)

pub none_used : (s n : ℕ) → start_in (none s) s ≤ n
none_used s n = omega (arith, ap (sum_below s) (none_lengths s), below_none s (λ i. 0) (λ h. refl))

-- what it says that a segment can be made
pub makeable : {T : Type 0} {S : ℕ} (s : Segments T S) (i n : ℕ) → true ≡ can_make s i n → (i < S) × (length_at s i ≡ 0) × (used s + n ≤ size s)
makeable s i n e = (grind (arith, nat_tests), grind (arith, nat_tests), grind (arith, nat_tests))
