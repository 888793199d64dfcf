-- Writes of one call do what a call for each would do.
use Rattle.std.proofs.Common.{◌≡◌, ℕ, Bool, true, false, cond, not, ◌&&◌, ◌||◌, List, [], ◌∷◌, Some, None, Option, sym, refl, ap, ◌∙◌, ap₂}
use mathlib.Core.Path.{fun_ext}
use Rattle.std.specs.Option.{option_map, option_or}
use Rattle.device.specs.declared.records.Write.{Write}
use Rattle.device.specs.Meaning.{LiveSet, Descriptor}
use Rattle.device.specs.Writes.{Lists, valid_in, valid, covers, last_to, holding, set_after, after_writes, some_invalid}
use Rattle.device.specs.Laws.{WritesInOrder}

module _ (l : Lists) (ws : List Write) (sets : ℕ → Option LiveSet) where
  -- a write leaves pool and bindings, so it leaves what is valid
  still_in : (v : Write) (h : ℕ) (o : Option LiveSet) → valid_in l v (option_map (set_after l ws sets h) o) ≡ valid_in l v o
  still_in v h None = refl
  still_in v h (Some s) = refl

  pub still_valid : (v : Write) → valid l v (after_writes l ws sets) ≡ valid l v sets
  still_valid v = still_in v v.set (sets v.set)

  pub still_last : (h b j : ℕ) (vs : List Write) → last_to l (after_writes l ws sets) h b j vs ≡ last_to l sets h b j vs
  still_last h b j [] = refl
  still_last h b j (v ∷ vs) = ap₂ (λ o t. option_or o (cond (covers v h b j && t) (Some v) None)) (still_last h b j vs) (still_valid v)

  pub still_invalid : (vs : List Write) → some_invalid l vs (after_writes l ws sets) ≡ some_invalid l vs sets
  still_invalid [] = refl
  still_invalid (v ∷ vs) = ap₂ (λ t r. not t || r) (still_valid v) (still_invalid vs)

-- a later write over an earlier one
over : (l : Lists) (j : ℕ) (old : Option Descriptor) (late early : Option Write) → holding l j old (option_or late early) ≡ holding l j (holding l j old early) late
over l j old None early = refl
over l j old (Some w) early = refl

or_false : (a b : Bool) → (a || b) ≡ ((a || false) || b)
or_false true b = refl
or_false false b = refl

module _ (l : Lists) (w : Write) (ws : List Write) (sets : ℕ → Option LiveSet) where
  element_in_order : (h b j : ℕ) (old : Option Descriptor) → holding l j old (last_to l sets h b j (w ∷ ws)) ≡ holding l j (holding l j old (last_to l sets h b j (w ∷ []))) (last_to l (after_writes l (w ∷ []) sets) h b j ws)
  element_in_order h b j old =
      over l j old (last_to l sets h b j ws) (cond (covers w h b j && valid l w sets) (Some w) None)
      ∙ ap (holding l j (holding l j old (last_to l sets h b j (w ∷ [])))) (sym (still_last l (w ∷ []) sets h b j ws))

  set_in_order : (h : ℕ) (o : Option LiveSet) → option_map (set_after l (w ∷ ws) sets h) o ≡ option_map (set_after l ws (after_writes l (w ∷ []) sets) h) (option_map (set_after l (w ∷ []) sets h) o)
  set_in_order h None = refl
  set_in_order h (Some s) =
      ap {B = Option LiveSet} (λ f. Some (record { pool = s.pool; bindings = s.bindings; written = f }))
      (fun_ext (λ b. fun_ext (λ j. element_in_order h b j (s.written b j))))

pub writes_in_order : WritesInOrder
writes_in_order l w ws sets = (
  fun_ext (λ h. set_in_order l w ws sets h (sets h)),
  or_false (not (valid l w sets)) (some_invalid l ws sets) ∙ ap (λ r. (not (valid l w sets) || false) || r) (sym (still_invalid l (w ∷ []) sets ws)),
)
