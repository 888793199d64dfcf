-- What rows add up to.
use Rattle.std.proofs.Common.{◌≡◌, ℕ, zero, suc, ◌*◌, ◌≤◌, min, Bool, cond, List, [], length, get_or, filter, replicate, sum_by, sym, refl, ap, ◌∙◌, arith}
use Rattle.std.proofs.lemmas.List.{take_all}
use Rattle.std.proofs.lemmas.List.Sums.{sum_by-le, length-filter}
use Rattle.device.specs.Meaning.{sum_below}
use Rattle.device.proofs.Below.{below_same, sum_by-take}
use Rattle.rows.specs.declared.bindings.Bindings.{Bindings}
use Rattle.rows.specs.Lists.{list_of}
use Rattle.rows.specs.Holdings.{no_bindings}

-- rows that are all without bindings
pub no_list : (b : Bindings) (n j : ℕ) → list_of b ≡ [] → list_of (get_or (replicate n b) j no_bindings) ≡ []
no_list b zero j e = refl
no_list b (suc n) zero e = e
no_list b (suc n) (suc j) e = no_list b n j e

-- a sum over a list, by places
pub sum_by-rows : {X : Type 0} (f : X → ℕ) (xs : List X) (d : X) (n : ℕ) → length xs ≡ n → sum_by f xs ≡ sum_below n (λ i. f (get_or xs i d))
sum_by-rows f xs d n e = ap (sum_by f) (sym (take_all n xs (omega arith))) ∙ sum_by-take f xs d n (omega arith)

-- a count of those that pass, as a sum of ones
pub count-rows : {X : Type 0} (p : X → Bool) (one : X → ℕ) (same : (x : X) → cond (p x) 1 0 ≡ one x) (xs : List X) (d : X) (n : ℕ) → length xs ≡ n → length (filter p xs) ≡ sum_below n (λ i. one (get_or xs i d))
count-rows p one same xs d n e = length-filter p xs ∙ (sum_by-rows (λ x. cond (p x) 1 0) xs d n e ∙ below_same n (λ i. cond (p (get_or xs i d)) 1 0) (λ i. one (get_or xs i d)) (λ i. same (get_or xs i d)))

-- what so many numbers add up to at most, each held to a limit
abbrev pub held_to : {X : Type 0} → ℕ → (X → ℕ) → X → ℕ
held_to m f x = min (f x) m

pub sum_by-held_to : {X : Type 0} (m : ℕ) (f : X → ℕ) (xs : List X) → sum_by (held_to m f) xs ≤ length xs * m
sum_by-held_to m f xs = sum_by-le (held_to m f) m xs (λ k d l. omega arith)
