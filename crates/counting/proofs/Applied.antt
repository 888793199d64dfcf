-- A valid write, and the sets afterwards.
use Rattle.std.proofs.Common.{◌≡◌, ℕ, ◌+◌, ◌-◌, ◌<◌, ◌≤◌, Bool, true, false, cond, ◌&&◌, eqb, ltb, leb, ◌⊎◌, List, [], ◌∷◌, get_or, is_some, Some, None, Option, sym, refl, ap, ◌∙◌, subst, ap₂, inl, inr, arith}
use mathlib.Core.Path.{fun_ext}
use Rattle.std.proofs.lemmas.Bool.Decides.{nat_tests, eqb_tells, leb_tells}
use Rattle.std.specs.List.{slice_get}
use Rattle.std.specs.Option.{option_map, option_or, option_flatten}
use Rattle.conversion.specs.Kinds.{kind_of_type}
use Rattle.conversion.specs.declared.bindings.DeviceBinding.{DeviceBinding}
use Rattle.device.specs.Meaning.{Descriptor}
use Rattle.device.specs.declared.records.Write.{Write}
use Rattle.device.specs.Meaning.{LiveSet}
use Rattle.device.specs.Writes.{Lists, descriptor_of, valid_for, valid_in, valid, covers, last_to, holding, set_after, after_writes}
use Rattle.segments.specs.Segments.{length_at}
use Rattle.rows.specs.declared.holdings.SetRow.{SetRow}
use Rattle.rows.specs.Bindings.{total_of, start_of}
use Rattle.rows.specs.Lists.{list_of}
use Rattle.rows.specs.Slots.{is_handle}
use Rattle.rows.specs.Tables.{slot, slot_at, row_of}
use Rattle.rows.specs.Holdings.{HeldSet, bindings_at, set_at, held_total, no_bindings}
use Rattle.rows.proofs.Meant.{found_has, one_handle}
use Rattle.counting.specs.declared.counting.CountingDevice.{CountingDevice}
use Rattle.counting.specs.Counting.{stored, Records, elements, written_in, live_of, live_in, sets_of}
use Rattle.counting.specs.Steps.{descriptor_for, Filled}
use Rattle.rows.proofs.Truths.{clash, and_false, and_true}
use Rattle.counting.proofs.Applying.{ends_before, ends_within, valid_room, valid_there}
use Rattle.counting.proofs.Places.{set_lives}

-- the row of a set, with its bindings, and one write to it that is valid there
module _ (r s : Records) (row : ℕ) (bs : List DeviceBinding) (w : Write) (l : Lists) (ok : true ≡ valid_for l w (slice_get bs w.binding)) (long : length_at r row ≡ total_of bs) (filled : Filled r row (start_of bs w.binding) w w.count l s) where
  abbrev for : ℕ → Option Descriptor
  for m = descriptor_for row (start_of bs w.binding) w w.count l row m

  same_row : eqb row row ≡ true
  same_row = grind (arith, nat_tests)

  -- a record of another element
  not_for : (m : ℕ) → (leb (start_of bs w.binding) m ≡ false) ⊎ (ltb m (start_of bs w.binding + w.count) ≡ false) → for m ≡ None
  not_for m (inl e) = rw (same_row, e) refl
  not_for m (inr e) = rw (same_row, e, and_false (leb (start_of bs w.binding) m)) refl

  is_for : (j : ℕ) → j < w.count → for (start_of bs w.binding + j) ≡ descriptor_of l w j (kind_of_type w.descriptor_type)
  is_for j lt =
      let a : leb (start_of bs w.binding) (start_of bs w.binding + j) ≡ true = grind (arith, nat_tests) in
      let b : ltb (start_of bs w.binding + j) (start_of bs w.binding + w.count) ≡ true = grind (arith, nat_tests) in
      let e : start_of bs w.binding + j - start_of bs w.binding ≡ j = omega arith in
      rw (same_row, a, b, e) refl

  some_first : (o e : Option Descriptor) → is_some o ≡ true → option_or o e ≡ o
  some_first None e t = clash t refl
  some_first (Some x) e t = refl

  -- an element that is there: its record, before and after
  element_after : (b j : ℕ) → j < elements (slice_get bs b) → stored s row (start_of bs b + j) ≡ option_or (for (start_of bs b + j)) (stored r row (start_of bs b + j))
  element_after b j lt =
      let within = ends_within bs b in
      let t : ltb (start_of bs b + j) (length_at r row) ≡ true = grind (arith, nat_tests) in
      filled.elements row (start_of bs b + j) ∙ ap (λ x. cond x (option_or (for (start_of bs b + j)) (stored r row (start_of bs b + j))) (stored r row (start_of bs b + j))) t

  inside : (b j : ℕ) → j < elements (slice_get bs b) → ((eqb w.binding b ≡ true) × (w.binding ≡ b)) ⊎ ((eqb w.binding b ≡ false) × (w.binding ≡ b → ⊥)) → ((leb w.count j ≡ true) × (w.count ≤ j)) ⊎ ((leb w.count j ≡ false) × (j < w.count))
      → stored s row (start_of bs b + j) ≡ holding l j (stored r row (start_of bs b + j)) (cond (eqb w.binding b && ltb j w.count) (Some w) None)
  inside b j lt (inl (p, e)) (inr (q, below)) =
      let t : ltb j w.count ≡ true = grind (arith, nat_tests) in
      let here : for (start_of bs b + j) ≡ descriptor_of l w j (kind_of_type w.descriptor_type) = ap (λ x. for (start_of bs x + j)) (sym e) ∙ is_for j below in
      element_after b j lt
      ∙ (ap (λ o. option_or o (stored r row (start_of bs b + j))) here
      ∙ (some_first (descriptor_of l w j (kind_of_type w.descriptor_type)) (stored r row (start_of bs b + j)) (valid_there l w (slice_get bs w.binding) ok j below)
      ∙ ap₂ (λ x y. holding l j (stored r row (start_of bs b + j)) (cond (x && y) (Some w) None)) (sym p) (sym t)))
  inside b j lt (inl (p, e)) (inl (q, past)) =
      let t : ltb j w.count ≡ false = grind (arith, nat_tests) in
      let far : ltb (start_of bs b + j) (start_of bs w.binding + w.count) ≡ false = (let same = ap (start_of bs) e in grind (arith, nat_tests)) in
      element_after b j lt
      ∙ (ap (λ o. option_or o (stored r row (start_of bs b + j))) (not_for (start_of bs b + j) (inr far))
      ∙ ap₂ (λ x y. holding l j (stored r row (start_of bs b + j)) (cond (x && y) (Some w) None)) (sym p) (sym t))
  inside b j lt (inr (p, ne)) count =
      element_after b j lt
      ∙ (ap (λ o. option_or o (stored r row (start_of bs b + j))) (not_for (start_of bs b + j) (apart (leb_tells b w.binding)))
      ∙ ap (λ x. holding l j (stored r row (start_of bs b + j)) (cond (x && ltb j w.count) (Some w) None)) (sym p))
    where
      apart : ((leb b w.binding ≡ true) × (b ≤ w.binding)) ⊎ ((leb b w.binding ≡ false) × (w.binding < b)) → (leb (start_of bs w.binding) (start_of bs b + j) ≡ false) ⊎ (ltb (start_of bs b + j) (start_of bs w.binding + w.count) ≡ false)
      apart (inl (z, le)) = let less : b < w.binding = (let d : (b ≡ w.binding → ⊥) = λ q. ne (sym q) in grind (arith, nat_tests)) in let before = ends_before bs b w.binding less in inl (grind (arith, nat_tests))
      apart (inr (z, more)) = let after = ends_before bs w.binding b more in let room = valid_room l w (slice_get bs w.binding) ok in inr (grind (arith, nat_tests))

  -- every element of the set
  pub written_after : (b j : ℕ) → written_in s row bs b j ≡ holding l j (written_in r row bs b j) (cond (eqb w.binding b && ltb j w.count) (Some w) None)
  written_after b j = by (leb_tells (elements (slice_get bs b)) j)
    where
      outside : ((eqb w.binding b ≡ true) × (w.binding ≡ b)) ⊎ ((eqb w.binding b ≡ false) × (w.binding ≡ b → ⊥)) → elements (slice_get bs b) ≤ j → None ≡ holding l j None (cond (eqb w.binding b && ltb j w.count) (Some w) None)
      outside (inl (p, e)) past =
          let room = valid_room l w (slice_get bs w.binding) ok in
          let same = ap (λ x. elements (slice_get bs x)) e in
          let t : ltb j w.count ≡ false = grind (arith, nat_tests) in
          rw (p, t) refl
      outside (inr (p, ne)) past = rw p refl

      by : ((leb (elements (slice_get bs b)) j ≡ true) × (elements (slice_get bs b) ≤ j)) ⊎ ((leb (elements (slice_get bs b)) j ≡ false) × (j < elements (slice_get bs b))) → written_in s row bs b j ≡ holding l j (written_in r row bs b j) (cond (eqb w.binding b && ltb j w.count) (Some w) None)
      by (inl (q, past)) = let t : ltb j (elements (slice_get bs b)) ≡ false = grind (arith, nat_tests) in rw t (outside (eqb_tells w.binding b) past)
      by (inr (q, there)) = let t : ltb j (elements (slice_get bs b)) ≡ true = grind (arith, nat_tests) in rw t (inside b j there (eqb_tells w.binding b) (leb_tells w.count j))

-- all sets
module _ (d : CountingDevice) (s : Records) (w : Write) (l : Lists) (row : ℕ) (x : SetRow) (found : row_of d.holdings.sets w.set ≡ Some row) (here : slot_at d.holdings.sets row ≡ Some (slot w.set x)) where
  abbrev bs : List DeviceBinding
  bs = bindings_at d.holdings x.layout

  abbrev sets : ℕ → Option LiveSet
  sets = sets_of d.holdings d.records

  pub valid_is : valid l w (sets_of d.holdings d.records) ≡ valid_for l w (slice_get (bindings_at d.holdings x.layout) w.binding)
  valid_is = ap (valid_in l w) (set_lives d w.set row x found here)

  module _ (ok : true ≡ valid_for l w (slice_get (bindings_at d.holdings x.layout) w.binding)) (filled : Filled d.records row (start_of (bindings_at d.holdings x.layout) w.binding) w w.count l s) where
    is_valid : valid l w sets ≡ true
    is_valid = valid_is ∙ sym ok

    held_there : set_at d.holdings row ≡ Some (record { pool = x.pool; bindings = bs })
    held_there = ap (option_map (λ q. record { pool = q.value.pool; bindings = list_of (get_or d.holdings.bindings q.value.layout no_bindings) })) here

    long : length_at d.records row ≡ total_of bs
    long = d.sized row ∙ ap held_total held_there

    -- what the call's one write says
    last_is : (h b j : ℕ) → last_to l sets h b j (w ∷ []) ≡ cond (eqb w.set h && eqb w.binding b && ltb j w.count) (Some w) None
    last_is h b j = ap (λ v. cond (covers w h b j && v) (Some w) None) is_valid ∙ ap (λ v. cond v (Some w) None) (and_true (covers w h b j))

    -- a set in another row
    record_same : (k m : ℕ) → (k ≡ row → ⊥) → stored s k m ≡ stored d.records k m
    record_same k m ne =
        let apart : eqb k row ≡ false = grind (arith, nat_tests) in
        filled.elements k m
        ∙ (ap (λ v. cond (ltb m (length_at d.records k)) (option_or (cond (v && leb (start_of bs w.binding) m && ltb m (start_of bs w.binding + w.count)) (descriptor_of l w (m - start_of bs w.binding) (kind_of_type w.descriptor_type)) None) (stored d.records k m)) (stored d.records k m)) apart
        ∙ either (ltb m (length_at d.records k)) (stored d.records k m))
      where
        either : (v : Bool) (e : Option Descriptor) → cond v e e ≡ e
        either true e = refl
        either false e = refl

    one_row : (k : ℕ) → ◌≡◌ {A = Option ℕ} (Some k) (Some row) → k ≡ row
    one_row k e = cc

    same_held : {y : HeldSet} → ◌≡◌ {A = Option HeldSet} (Some y) (Some (record { pool = x.pool; bindings = bs })) → y ≡ record { pool = x.pool; bindings = bs }
    same_held e = cc

    element_then : (h k : ℕ) (y : HeldSet) → row_of d.holdings.sets h ≡ Some k → set_at d.holdings k ≡ Some y → (b j : ℕ) → ((eqb w.set h ≡ true) × (w.set ≡ h)) ⊎ ((eqb w.set h ≡ false) × (w.set ≡ h → ⊥))
        → written_in s k y.bindings b j ≡ holding l j (written_in d.records k y.bindings b j) (cond (eqb w.set h && eqb w.binding b && ltb j w.count) (Some w) None)
    element_then h k y at held b j (inl (p, e)) =
        let same : k ≡ row = one_row k (sym at ∙ (ap (row_of d.holdings.sets) (sym e) ∙ found)) in
        let bindings : y.bindings ≡ bs = ap (λ q. q.bindings) (same_held (sym held ∙ (ap (set_at d.holdings) same ∙ held_there))) in
        subst (λ k. written_in s k y.bindings b j ≡ holding l j (written_in d.records k y.bindings b j) (cond (eqb w.set h && eqb w.binding b && ltb j w.count) (Some w) None)) (sym same)
        (subst (λ q. written_in s row q b j ≡ holding l j (written_in d.records row q b j) (cond (eqb w.set h && eqb w.binding b && ltb j w.count) (Some w) None)) (sym bindings)
        (written_after d.records s row bs w l ok long filled b j ∙ ap (λ v. holding l j (written_in d.records row bs b j) (cond (v && eqb w.binding b && ltb j w.count) (Some w) None)) (sym p)))
    element_then h k y at held b j (inr (p, ne)) =
        let apart : (k ≡ row → ⊥) = λ same. ne (one_handle w.set h (slot_at d.holdings.sets row) (found_has d.holdings.sets w.set row found).0 (subst (λ q. is_handle h (slot_at d.holdings.sets q) ≡ true) same (found_has d.holdings.sets h k at).0)) in
        ap (λ v. cond (ltb j (elements (slice_get y.bindings b))) v None) (record_same k (start_of y.bindings b + j) apart)
        ∙ ap (λ v. holding l j (written_in d.records k y.bindings b j) (cond (v && eqb w.binding b && ltb j w.count) (Some w) None)) (sym p)

    set_then : (h k : ℕ) → row_of d.holdings.sets h ≡ Some k → (o : Option HeldSet) → set_at d.holdings k ≡ o → option_map (live_of s k) o ≡ option_map (set_after l (w ∷ []) sets h) (option_map (live_of d.records k) o)
    set_then h k at None held = refl
    set_then h k at (Some y) held =
        ap {B = Option LiveSet} (λ f. Some (record { pool = y.pool; bindings = y.bindings; written = f }))
        (fun_ext (λ b. fun_ext (λ j. element_then h k y at held b j (eqb_tells w.set h) ∙ ap (holding l j (written_in d.records k y.bindings b j)) (sym (last_is h b j)))))

    pub sets_after : sets_of d.holdings s ≡ after_writes l (w ∷ []) (sets_of d.holdings d.records)
    sets_after = fun_ext (λ h. by h (row_of d.holdings.sets h) refl)
      where
        by : (h : ℕ) (o : Option ℕ) → row_of d.holdings.sets h ≡ o → option_flatten (option_map (live_in (set_at d.holdings) s) (row_of d.holdings.sets h)) ≡ option_map (set_after l (w ∷ []) sets h) (option_flatten (option_map (live_in (set_at d.holdings) d.records) (row_of d.holdings.sets h)))
        by h None at = ap (λ o. option_flatten (option_map (live_in (set_at d.holdings) s) o)) at ∙ sym (ap (λ o. option_map (set_after l (w ∷ []) sets h) (option_flatten (option_map (live_in (set_at d.holdings) d.records) o))) at)
        by h (Some k) at = ap (λ o. option_flatten (option_map (live_in (set_at d.holdings) s) o)) at ∙ (set_then h k at (set_at d.holdings k) refl ∙ sym (ap (λ o. option_map (set_after l (w ∷ []) sets h) (option_flatten (option_map (live_in (set_at d.holdings) d.records) o))) at))
