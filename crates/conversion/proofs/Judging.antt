-- The refusals apply exactly to entries that are not well formed.
use Rattle.std.proofs.Common.{◌≡◌, ℕ, zero, suc, ◌+◌, ◌-◌, ◌^◌, ◌<◌, ◌≤◌, false, List, length, get_or, take, IsErrAnd, Some, None, Ok, Err, sum_by, Option, Result, sym, refl, ap, ◌∙◌, subst, inl, inr, le_of_suc-le-suc, eq-or-lt_of_le, arith}
use Rattle.std.specs.Option.{option_map, option_or}
use Rattle.std.proofs.lemmas.Result.{err_from_is_err_and}
use Rattle.std.proofs.lemmas.List.{take_all}
use Rattle.std.proofs.lemmas.List.Sums.{sum_by-take-le}
use Rattle.std.proofs.lemmas.Bool.Decides.{nat_tests}
use Rattle.conversion.specs.Lists.{first}
use Rattle.conversion.specs.Layouts.{no_entry, entry_count, out_of_order, external, overfull, too_many, misordered, with_external, overflowing, layout_refusal, unless_refused, layout_answer, key_of, WellFormed, Judged}
use Rattle.conversion.specs.declared.counts.BucketKey.{BucketKey}
use Rattle.conversion.specs.declared.entries.LayoutEntry.{LayoutEntry}
use Rattle.conversion.specs.declared.faults.LayoutFault.{LayoutFault}
use Rattle.conversion.specs.declared.faults.LayoutFault.TheVariants as fault
use Rattle.conversion.proofs.Searches.{first_none, all_false}
use Rattle.conversion.proofs.Sums.{counts_all, under}

some_none : {X : Type 0} {x : X} → Some x ≡ None → ⊥
some_none e = let z : ◌≡◌ {A = ℕ} 0 1 = cc in omega arith

-- the first of two does not apply, or does
or_skip : {X : Type 0} {a : Option X} (b : Option X) → a ≡ None → option_or a b ≡ b
or_skip b e = rw e

or_take : {X : Type 0} {a : Option X} (b : Option X) {x : X} → a ≡ Some x → option_or a b ≡ Some x
or_take b e = rw e

-- neither of two
or_none : {X : Type 0} (a b : Option X) → option_or a b ≡ None → (a ≡ None) × (b ≡ None)
or_none None b e = (refl, e)
or_none (Some x) b e = absurd (some_none e)

mapped_none : {X Y : Type 0} (f : X → Y) (o : Option X) → option_map f o ≡ None → o ≡ None
mapped_none f None e = refl
mapped_none f (Some x) e = absurd (some_none e)

module _ (es : List LayoutEntry) where
  few : too_many es ≡ None → length es ≤ 32
  few e = grind (arith, nat_tests)

  -- each binding is greater than the one before
  next : misordered es ≡ None → (i : ℕ) → suc i < length es → (get_or es i no_entry).binding < (get_or es (suc i) no_entry).binding
  next e i h =
      let n = mapped_none fault.BindingOrder (first (out_of_order es) (length es)) e in
      let t : out_of_order es (suc i) ≡ false = first_none (out_of_order es) (length es) n (suc i) h in
      let k : suc i - 1 ≡ i = omega arith in
      let t' = rw k at t in
      grind (arith, nat_tests)

  -- so each is greater than all before
  ascending : misordered es ≡ None → (i j : ℕ) → i < j → j < length es → (get_or es i no_entry).binding < (get_or es j no_entry).binding
  ascending e i zero h l = absurd (omega (arith, h))
  ascending e i (suc j) h l =
      let s = next e j l in
      elim (eq-or-lt_of_le (le_of_suc-le-suc h)) [
        | inl q ↦ rw q s
        | inr q ↦ let r = ascending e i j q (omega (arith, l)) in omega arith
      ]

  known : with_external es ≡ None → (i : ℕ) → i < length es → external es i ≡ false
  known e = first_none (external es) (length es) (mapped_none fault.ExternalTexture (first (external es) (length es)) e)

  counted_by : (n : ℕ) → length es ≡ n → overflowing es ≡ None → sum_by entry_count es < 2 ^ 32
  counted_by zero q e = let t : take 0 es ≡ es = take_all 0 es (omega arith) in rw (sym t) (omega arith)
  counted_by (suc n) q e =
      let m = mapped_none fault.TooManyDescriptors (first (overfull es) (length es)) e in
      let f : overfull es n ≡ false = first_none (overfull es) (length es) m n (omega arith) in
      let t : take (suc n) es ≡ es = take_all (suc n) es (omega arith) in
      let s : sum_by entry_count (take (suc n) es) < 2 ^ 32 = grind (arith, nat_tests) in
      rw t at s

  well : too_many es ≡ None → misordered es ≡ None → with_external es ≡ None → overflowing es ≡ None → WellFormed es
  well a b c d = record { few = few a; ascending = ascending b; known = known c; counted = counted_by (length es) refl d }

  ordered : WellFormed es → (i : ℕ) → i < length es → out_of_order es i ≡ false
  ordered w zero l = refl
  ordered w (suc i) l =
      let k : suc i - 1 ≡ i = omega arith in
      let h = w.ascending i (suc i) (omega arith) l in
      rw k (grind (arith, nat_tests))

  none : WellFormed es → layout_refusal es ≡ None
  none w =
      let a : too_many es ≡ None = let h = w.few in grind (arith, nat_tests) in
      let b : first (out_of_order es) (length es) ≡ None = all_false (out_of_order es) (length es) (ordered w) in
      let c : first (external es) (length es) ≡ None = all_false (external es) (length es) w.known in
      let d : first (overfull es) (length es) ≡ None = all_false (overfull es) (length es) (λ i l. under es i (omega (arith, sum_by-take-le entry_count es (i + 1), w.counted))) in
      rw (a, b, c, d)

-- the first refusal judges the entries
judged_by : (es : List LayoutEntry) (o : Option LayoutFault) → layout_refusal es ≡ o → Judged es (unless_refused o (key_of es))
judged_by es None e =
    let p = or_none (too_many es) (option_or (misordered es) (option_or (with_external es) (overflowing es))) e in
    let q = or_none (misordered es) (option_or (with_external es) (overflowing es)) p.1 in
    let r = or_none (with_external es) (overflowing es) q.1 in
    (well es p.0 q.0 r.0 r.1, counts_all es (known es r.0))
judged_by es (Some f) e = λ w. some_none (sym e ∙ none es w)

judged : (es : List LayoutEntry) → Judged es (layout_answer es)
judged es = judged_by es (layout_refusal es) refl

-- what each refusal answers, where those before it do not apply
module _ (es : List LayoutEntry) where
  refused : (f : LayoutFault) → layout_refusal es ≡ Some f → Err f ≡ layout_answer es
  refused f e = ap (λ o. unless_refused o (key_of es)) (sym e)

  pub by_order : (f : LayoutFault) → too_many es ≡ None → misordered es ≡ Some f → Err f ≡ layout_answer es
  by_order f a b = refused f (or_skip (option_or (misordered es) (option_or (with_external es) (overflowing es))) a ∙ or_take (option_or (with_external es) (overflowing es)) b)

  pub by_kind : (f : LayoutFault) → too_many es ≡ None → misordered es ≡ None → with_external es ≡ Some f → Err f ≡ layout_answer es
  by_kind f a b c =
      refused f (or_skip (option_or (misordered es) (option_or (with_external es) (overflowing es))) a ∙ (or_skip (option_or (with_external es) (overflowing es)) b ∙ or_take (overflowing es) c))

  past : too_many es ≡ None → misordered es ≡ None → with_external es ≡ None → layout_refusal es ≡ overflowing es
  past a b c =
      or_skip (option_or (misordered es) (option_or (with_external es) (overflowing es))) a ∙ (or_skip (option_or (with_external es) (overflowing es)) b ∙ or_skip (overflowing es) c)

  pub by_total : (f : LayoutFault) → too_many es ≡ None → misordered es ≡ None → with_external es ≡ None → overflowing es ≡ Some f → Err f ≡ layout_answer es
  by_total f a b c d = refused f (past a b c ∙ d)

  -- and what is answered where none applies
  pub accepted : too_many es ≡ None → misordered es ≡ None → with_external es ≡ None → overflowing es ≡ None → Ok (key_of es) ≡ layout_answer es
  accepted a b c d = ap (λ o. unless_refused o (key_of es)) (sym (past a b c ∙ d))

-- the answer, however it was come by
pub judged_as : (es : List LayoutEntry) (r : Result BucketKey LayoutFault) → r ≡ layout_answer es → Judged es r
judged_as es r e = subst (Judged es) (sym e) (judged es)

-- the exit of a `?`, where the fault is the first refusal
pub left_by : (es : List LayoutEntry) (r : Result BucketKey LayoutFault) (f : LayoutFault) → IsErrAnd r (λ y. y ≡ f) → Err f ≡ layout_answer es → (r ≡ layout_answer es) × Judged es r
left_by es r f b q =
    let p = err_from_is_err_and r b in
    let e : r ≡ layout_answer es = p.1 ∙ (ap Err p.2 ∙ q) in
    (e, judged_as es r e)
