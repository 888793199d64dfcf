-- The step of a loop that fills rows from the front.
use Rattle.std.proofs.Common.{◌≡◌, ℕ, suc, ◌+◌, ◌-◌, ◌<◌, min, List, [], ◌∷◌, ◌++◌, map, length, get_or, take, set, replicate, sym, ap, ◌∙◌, ap₂, inl, inr, arith}
use lib.ListN.{length-map}
use Rattle.std.proofs.lemmas.List.{set_at, map_more, append_assoc, length-take-le, take_all}
use Rattle.std.proofs.lemmas.Bool.Decides.{leb_tells}

pub row_more : {X Y : Type 0} (f : X → Y) (xs : List X) (d : X) (y : Y) (n i : ℕ) → i < length xs → i < n → set (map f (take i xs) ++ replicate (n - i) y) i (f (get_or xs i d)) ≡ map f (take (i + 1) xs) ++ replicate (n - (i + 1)) y
row_more f xs d y n i h l =
    let e : n - i ≡ suc (n - (i + 1)) = omega arith in
    let k : length (map f (take i xs)) ≡ i = length-map (take i xs) f ∙ length-take-le i xs (omega arith) in
    ap (λ m. set (map f (take i xs) ++ replicate m y) i (f (get_or xs i d))) e
    ∙ (set_at (map f (take i xs)) y (replicate (n - (i + 1)) y) (f (get_or xs i d)) i k
    ∙ (sym (append_assoc (map f (take i xs)) (f (get_or xs i d) ∷ []) (replicate (n - (i + 1)) y))
    ∙ ap (λ q. q ++ replicate (n - (i + 1)) y) (sym (map_more f xs i d h))))

takes : {X : Type 0} (xs : List X) (n i : ℕ) → i ≡ min (length xs) n → take i xs ≡ take n xs
takes xs n i e =
    elim (leb_tells (length xs) n) [
      | inl h ↦ let l = h.1 in take_all i xs (omega arith) ∙ sym (take_all n xs l)
      | inr h ↦ let l = h.1 in let q : i ≡ n = omega arith in ap (λ k. take k xs) q
    ]

-- where the list or the rows end
pub row_end : {X Y : Type 0} (f : X → Y) (xs : List X) (y : Y) (n i : ℕ) → i ≡ min (length xs) n → map f (take i xs) ++ replicate (n - i) y ≡ map f (take n xs) ++ replicate (n - length xs) y
row_end f xs y n i e = ap₂ (λ q m. map f q ++ replicate m y) (takes xs n i e) (omega arith)
