-- How the sets of a pool are counted from call to call.
use Rattle.std.proofs.Common.{◌≡◌, ℕ, ◌+◌, ◌^◌, ◌<◌, Bool, true, false, cond, eqb, is_some, Some, None, Ok, Option, refl, ap, ◌∙◌, arith}
use Rattle.std.proofs.lemmas.Bool.Decides.{nat_tests}
use Rattle.conversion.specs.Counts.{count_of}
use Rattle.conversion.specs.declared.kinds.Kind.{Kind}
use Rattle.device.specs.Meaning.{State, LiveSet, binding_counts, in_pool, sum_below}
use Rattle.device.specs.Calls.{Empty, SetMade, SetFreed, PoolGone, new_set, bindings_in, lives_in, outside}
use Rattle.device.specs.Laws.{EmptyCounts, MadeCounts, FreedCounts, GoneCounts}
use Rattle.device.proofs.Below.{below_same, below_none, below_put}

-- the sum of a figure over the sets of a pool
abbrev in_all : (LiveSet → ℕ) → ℕ → (ℕ → Option LiveSet) → ℕ
in_all f q sets = sum_below (2 ^ 64) (λ h. in_pool q f (sets h))

-- a figure that is 1, or the descriptors of a kind
abbrev of_kind : Kind → LiveSet → ℕ
of_kind k s = count_of (binding_counts s.bindings) k

module _ (f : LiveSet → ℕ) (q : ℕ) where
  none_held : (m : State) → Empty m → in_all f q m.sets ≡ 0
  none_held m e = below_none (2 ^ 64) (λ h. in_pool q f (m.sets h)) (λ h. ap (in_pool q f) (e.sets h))

  one_more : (m n : State) (p l h : ℕ) → h < 2 ^ 64 → m.sets h ≡ None → SetMade m p l (Ok h) n → in_all f q n.sets ≡ in_all f q m.sets + cond (eqb p q) (f (new_set p (bindings_in (m.layouts l)))) 0
  one_more m n p l h b e made =
      let put = below_put (in_pool q f) m.sets h (Some (new_set p (bindings_in (m.layouts l)))) (2 ^ 64) b in
      let zero_there : in_pool q f (m.sets h) ≡ 0 = ap (in_pool q f) e in
      ap (in_all f q) made.sets ∙ omega arith

  lived : (p : ℕ) (s : LiveSet) → true ≡ lives_in p (Some s) → in_pool q f (Some s) ≡ cond (eqb p q) (f s) 0
  lived p s e = grind (arith, nat_tests)

  one_less : (m n : State) (p h : ℕ) (s : LiveSet) → h < 2 ^ 64 → m.sets h ≡ Some s → SetFreed m p h true n → in_all f q n.sets + cond (eqb p q) (f s) 0 ≡ in_all f q m.sets
  one_less m n p h s b e freed =
      let put = below_put (in_pool q f) m.sets h None (2 ^ 64) b in
      let there : in_pool q f (m.sets h) ≡ cond (eqb p q) (f s) 0 = ap (in_pool q f) e ∙ lived p s (freed.answer ∙ ap (lives_in p) e) in
      let after = ap (in_all f q) freed.sets in
      omega arith

  left_out : (p : ℕ) (o : Option LiveSet) → in_pool q f (outside p o) ≡ cond (eqb p q) 0 (in_pool q f o)
  left_out p None = grind (arith, nat_tests)
  left_out p (Some s) = grind (arith, nat_tests)

  all_or_none : (b : Bool) (g : ℕ → ℕ) → sum_below (2 ^ 64) (λ h. cond b 0 (g h)) ≡ cond b 0 (sum_below (2 ^ 64) g)
  all_or_none true g = below_none (2 ^ 64) (λ h. 0) (λ h. refl)
  all_or_none false g = refl

  without : (m n : State) (p : ℕ) → is_some (m.pools p) ≡ true → PoolGone m p n → in_all f q n.sets ≡ cond (eqb p q) 0 (in_all f q m.sets)
  without m n p e gone =
      let here : (h : ℕ) → in_pool q f (cond (is_some (m.pools p)) (outside p (m.sets h)) (m.sets h)) ≡ cond (eqb p q) 0 (in_pool q f (m.sets h)) = λ h. ap (λ b. in_pool q f (cond b (outside p (m.sets h)) (m.sets h))) e ∙ left_out p (m.sets h) in
      ap (in_all f q) gone.sets
      ∙ (below_same (2 ^ 64) (λ h. in_pool q f (cond (is_some (m.pools p)) (outside p (m.sets h)) (m.sets h))) (λ h. cond (eqb p q) 0 (in_pool q f (m.sets h))) here
      ∙ all_or_none (eqb p q) (λ h. in_pool q f (m.sets h)))

pub empty_counts : EmptyCounts
empty_counts m e q k = (none_held (λ s. 1) q m e, none_held (of_kind k) q m e)

pub made_counts : MadeCounts
made_counts m n p l h b e made q k = (one_more (λ s. 1) q m n p l h b e made, one_more (of_kind k) q m n p l h b e made)

pub freed_counts : FreedCounts
freed_counts m n p h s b e freed q k = (one_less (λ s. 1) q m n p h s b e freed, one_less (of_kind k) q m n p h s b e freed)

pub gone_counts : GoneCounts
gone_counts m n p e gone q k = (without (λ s. 1) q m n p e gone, without (of_kind k) q m n p e gone)
