-- How many descriptors bindings have at most, so that sums of them fit.
use Rattle.std.proofs.Common.{◌≡◌, ℕ, ◌^◌, ◌<◌, ◌≤◌, List, [], ◌∷◌, get_or, sum_by, Some, None, Option, arith}
use Rattle.std.proofs.lemmas.List.Sums.{sum_by-cons, sum_by-le}
use Rattle.std.proofs.lemmas.Bool.Decides.{nat_tests}
use Rattle.conversion.specs.declared.kinds.Kind.{Kind}
use Rattle.conversion.specs.declared.bindings.DeviceBinding.{DeviceBinding}
use Rattle.rows.specs.declared.holdings.Holdings.{Holdings}
use Rattle.rows.specs.declared.holdings.SetRow.{SetRow}
use Rattle.rows.specs.declared.slots.Slot.{Slot}
use Rattle.rows.specs.Bindings.{of_kind, kind_count, total_of}
use Rattle.rows.specs.Holdings.{bindings_at, no_bindings, held_of, in_row, used_in}
use Rattle.rows.proofs.Figures.{sum_by-rows}

-- of one kind no more than of all
kind_count-le : (k : Kind) (bs : List DeviceBinding) → kind_count k bs ≤ total_of bs
kind_count-le k [] = omega arith
kind_count-le k (b ∷ bs) =
    let one : of_kind k b ≤ b.count = grind (arith, nat_tests) in
    omega (arith, one, kind_count-le k bs, sum_by-cons (of_kind k) b bs, sum_by-cons (λ x. x.count) b bs)

module _ (d : Holdings) where
  -- by what a row of bindings keeps
  total_small : (j : ℕ) → total_of (bindings_at d j) < 2 ^ 37
  total_small j = let b = get_or d.bindings j no_bindings in omega (arith, b.is, b.small)

  pub kind_small : (k : Kind) (j : ℕ) → kind_count k (bindings_at d j) < 2 ^ 37
  kind_small k j = omega (arith, kind_count-le k (bindings_at d j), total_small j)

  -- what the set in a row has of a kind, if it lives in a pool
  abbrev pub used : ℕ → Kind → Option (Slot SetRow) → ℕ
  used p k o = in_row p (λ s. kind_count k s.bindings) (held_of d.bindings o)

  used_small : (p : ℕ) (k : Kind) (o : Option (Slot SetRow)) → used p k o ≤ 137438953471
  used_small p k None = omega arith
  used_small p k (Some s) = let small = kind_small k s.value.layout in grind (arith, nat_tests)

  pub used-rows : (p : ℕ) (k : Kind) → sum_by (used p k) d.sets.rows ≡ used_in d p k
  used-rows p k = sum_by-rows (used p k) d.sets.rows None 1024 d.sets.whole

  -- 1024 sets have fewer than 2 ^ 47
  pub used_in_small : (p : ℕ) (k : Kind) → used_in d p k < 2 ^ 47
  used_in_small p k = omega (arith, used-rows p k, sum_by-le (used p k) 137438953471 d.sets.rows (λ i o l. used_small p k (get_or d.sets.rows i o)), d.sets.whole)
