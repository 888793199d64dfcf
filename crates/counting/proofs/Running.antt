-- The laws over lists of calls.
use Rattle.std.proofs.Common.{◌≡◌, ℕ, ◌+◌, ◌<◌, ◌≤◌, Bool, true, false, cond, ◌&&◌, eqb, ltb, leb, ◌⊎◌, List, [], ◌∷◌, length, ℤ, is_some, Some, None, Ok, Err, Option, Result, sym, refl, ap, ◌∙◌, subst, ap₂, inl, inr, arith}
use Rattle.std.proofs.lemmas.Bool.Decides.{nat_tests, eqb_tells}
use Rattle.std.specs.Map.{update}
use Rattle.std.specs.Option.{option_map, option_or}
use Rattle.device.specs.declared.faults.DeviceFault.{DeviceFault}
use Rattle.device.specs.declared.records.Write.{Write}
use Rattle.device.specs.Meaning.{State, LiveLayout, LivePool, LiveSet, unfit, exhausted, binding_counts}
use Rattle.device.specs.Results.{out_of_pool, answered}
use Rattle.device.specs.Writes.{Lists, valid_in, valid, covers, last_to, holding, set_after, after_writes}
use Rattle.device.specs.Calls.{Added, unless_invalid, invalid_layout, invalid_pool, layout_answer, pool_answer, set_from, set_answer, outside, lives_in, new_set, bindings_in}
use Rattle.device.specs.Requests.{Request, create_layout, destroy_layout, create_pool, destroy_pool, allocate_set, free_set, update_sets}
use Rattle.conversion.specs.declared.results.DeviceCall.{DeviceCall}
use Rattle.conversion.specs.declared.results.DeviceCall.TheVariants.{Layout, Pool, Set}
use Rattle.rows.specs.Bindings.{total_of}
use Rattle.rows.specs.Tables.{unused_row}
use Rattle.rows.specs.Holdings.{free_layout_row, layouts_of, pools_of}
use Rattle.counting.specs.declared.counting.CountingDevice.{CountingDevice}
use Rattle.counting.specs.Counting.{meaning_of, next_handle, fixed_layout, fixed_pool, fixed_set, in_row, last_after, Counted}
use Rattle.counting.specs.Reading.{held_by, read_back}
use Rattle.counting.specs.Runs.{given, Held, Event, Reaches, is_given, Never, then_held, HandlesOnce, ReadsBack}
use Rattle.counting.specs.Kept.{next_is, in_row_lem}
use Rattle.rows.proofs.Truths.{and_false, and_true, eqb_turned}
use Rattle.counting.proofs.Placed.{in_records_lem}

-- a handle that is given is the next one
unless : (b : Bool) (r : Result ℕ ℤ) (h : ℕ) → unless_invalid b r ≡ Ok h → r ≡ Ok h
unless true r h e = absurd (let z : ◌≡◌ {A = ℕ} 0 1 = cc in omega arith)
unless false r h e = e

if_room : (b : Bool) (r : Result ℕ ℤ) (h : ℕ) → cond b (Err out_of_pool) r ≡ Ok h → r ≡ Ok h
if_room true r h e = absurd (let z : ◌≡◌ {A = ℕ} 0 1 = cc in omega arith)
if_room false r h e = e

module _ (d : CountingDevice) where
  layout_next : (bs : List _) (flags h : ℕ) → layout_answer (meaning_of d) bs flags ≡ Ok h → h ≡ d.last + 1
  layout_next bs flags h e = (next_is d h (in_row_lem (leb (length bs) 32 && is_some (free_layout_row d.holdings)) (next_handle d) h (unless (invalid_layout bs) (fixed_layout d bs) h e))).0

  pool_next : (most : ℕ) (sizes : List _) (flags h : ℕ) → pool_answer (meaning_of d) most sizes flags ≡ Ok h → h ≡ d.last + 1
  pool_next most sizes flags h e = (next_is d h (in_row_lem (is_some (unused_row d.holdings.pools)) (next_handle d) h (unless (invalid_pool most sizes) (fixed_pool d) h e))).0

  from_fixed : (p l h : ℕ) (o : Option LivePool) (q : Option LiveLayout) → set_from (meaning_of d) p l o q ≡ Ok h → fixed_set d (total_of (bindings_in (layouts_of d.holdings l))) ≡ Ok h
  from_fixed p l h None q e = absurd (let z : ◌≡◌ {A = ℕ} 0 1 = cc in omega arith)
  from_fixed p l h (Some x) None e = absurd (let z : ◌≡◌ {A = ℕ} 0 1 = cc in omega arith)
  from_fixed p l h (Some x) (Some y) e = if_room (exhausted (meaning_of d) p x (binding_counts y.bindings)) (fixed_set d (total_of (bindings_in (layouts_of d.holdings l)))) h (unless (unfit x y) (cond (exhausted (meaning_of d) p x (binding_counts y.bindings)) (Err out_of_pool) (fixed_set d (total_of (bindings_in (layouts_of d.holdings l))))) h e)

  set_next : (p l h : ℕ) → set_answer (meaning_of d) p l ≡ Ok h → h ≡ d.last + 1
  set_next p l h e =
      (next_is d h (in_row_lem (is_some (unused_row d.holdings.sets)) (next_handle d) h (in_records_lem d (total_of (bindings_in (layouts_of d.holdings l))) h (in_row (is_some (unused_row d.holdings.sets)) (next_handle d)) (from_fixed p l h (pools_of d.holdings p) (layouts_of d.holdings l) e)).0)).0

-- what an answer does to the last handle
abbrev Moves : ℕ → Option ℕ → ℕ → Type 0
Moves last None then = then ≡ last
Moves last (Some h) then = (then ≡ h) × (last < h)

answer_moves : (c : DeviceCall) (last : ℕ) (a : Result ℕ ℤ) → ((h : ℕ) → a ≡ Ok h → h ≡ last + 1) → Moves last (given (answered c a)) (last_after last a)
answer_moves c last (Ok h) next = (refl, omega (arith, next h refl))
answer_moves c last (Err e) next = refl

move : (last : ℕ) {then then' : ℕ} {gave gave' : Option ℕ} → then ≡ then' → gave ≡ gave' → Moves last gave' then' → Moves last gave then
move last {then' = then'} {gave = gave} p q m = subst (λ t. Moves last gave t) (sym p) (subst (λ g. Moves last g then') (sym q) m)

call_moves : (d e : CountingDevice) (q : Request) (gave : Option ℕ) → Held (meaning_of d) q gave (meaning_of e) → Counted d q e → Moves d.last gave e.last
call_moves d e (create_layout bs flags) gave (r, made, is) counted = move d.last counted (is ∙ ap given made.answer) (answer_moves Layout d.last (layout_answer (meaning_of d) bs flags) (layout_next d bs flags))
call_moves d e (destroy_layout l) gave (gone, is) counted = move d.last counted is refl
call_moves d e (create_pool most sizes flags) gave (r, made, is) counted = move d.last counted (is ∙ ap given made.answer) (answer_moves Pool d.last (pool_answer (meaning_of d) most sizes flags) (pool_next d most sizes flags))
call_moves d e (destroy_pool p) gave (gone, is) counted = move d.last counted is refl
call_moves d e (allocate_set p l) gave (r, made, is) counted = move d.last counted (is ∙ ap given made.answer) (answer_moves Set d.last (set_answer (meaning_of d) p l) (set_next d p l))
call_moves d e (free_set p s) gave (r, freed, is) counted = move d.last counted is refl
call_moves d e (update_sets ws l) gave (done, is) counted = move d.last counted is refl

-- what was given is not past the last handle
abbrev NotPast : ℕ → Option ℕ → Type 0
NotPast last None = Unit {0}
NotPast last (Some h) = h ≤ last

abbrev Within : ℕ → List Event → Type 0
Within last [] = Unit {0}
Within last (c ∷ older) = NotPast last c.gave × Within last older

later_one : (last then : ℕ) (o : Option ℕ) → last ≤ then → NotPast last o → NotPast then o
later_one last then None le p = tt
later_one last then (Some h) le p = omega arith

later : (last then : ℕ) (calls : List Event) → last ≤ then → Within last calls → Within then calls
later last then [] le w = tt
later last then (c ∷ older) le w = (later_one last then c.gave le w.0, later last then older le w.1)

on : (last then : ℕ) (gave : Option ℕ) → Moves last gave then → (last ≤ then) × NotPast then gave
on last then None m = (omega (arith, m), tt)
on last then (Some h) m = (omega (arith, m.0, m.1), omega (arith, m.0))

not_again : (last h : ℕ) (o : Option ℕ) → last < h → NotPast last o → is_given h o ≡ false
not_again last h None lt p = refl
not_again last h (Some k) lt p = grind (arith, nat_tests)

never : (last h : ℕ) (calls : List Event) → last < h → Within last calls → Never (Some h) calls
never last h [] lt w = tt
never last h (c ∷ older) lt w = (not_again last h c.gave lt w.0, never last h older lt w.1)

new_one : (last then : ℕ) (gave : Option ℕ) (older : List Event) → Moves last gave then → Within last older → Never gave older
new_one last then None older m w = tt
new_one last then (Some h) older m w = never last h older m.1 w

-- the move of one event
event_moves : (c : Event) (d e : CountingDevice) → c.before ≡ meaning_of d → Held c.before c.request c.gave (meaning_of e) → Counted d c.request e → Moves d.last c.gave e.last
event_moves c d e at held counted = call_moves d e c.request c.gave (subst (λ m. Held m c.request c.gave (meaning_of e)) at held) counted

within : (calls : List Event) (e : CountingDevice) → Reaches calls e → Within e.last calls
within [] e reached = tt
within (c ∷ older) e (d, before, at, held, counted) =
    let m = on d.last e.last c.gave (event_moves c d e at held counted) in
    (m.1, later d.last e.last older m.0 (within older d before))

pub handles_once : HandlesOnce
handles_once [] e reached = tt
handles_once (c ∷ older) e (d, before, at, held, counted) = (new_one d.last e.last c.gave older (event_moves c d e at held counted) (within older d before), handles_once older d before)

-- what stands in an element after one call
module _ (h b j : ℕ) where
  gone_from : (p : ℕ) (o : Option LiveSet) → held_by (outside p o) b j ≡ cond (lives_in p o) None (held_by o b j)
  gone_from p None = refl
  gone_from p (Some s) = by (eqb s.pool p)
    where
      by : (x : Bool) → held_by (cond x None (Some s)) b j ≡ cond x None (s.written b j)
      by true = refl
      by false = refl

  pool_gone : (live : Bool) (p : ℕ) (o : Option LiveSet) → held_by (cond live (outside p o) o) b j ≡ cond (live && lives_in p o) None (held_by o b j)
  pool_gone true p o = gone_from p o
  pool_gone false p o = refl

  put_new : (q : ℕ) (bs : List _) (k : ℕ) (sets : ℕ → Option LiveSet) → held_by (update eqb sets k (Some (new_set q bs)) h) b j ≡ cond (eqb h k) None (held_by (sets h) b j)
  put_new q bs k sets = ap (λ x. held_by (cond x (Some (new_set q bs)) (sets h)) b j) (eqb_turned k h) ∙ by (eqb h k)
    where
      by : (x : Bool) → held_by (cond x (Some (new_set q bs)) (sets h)) b j ≡ cond x None (held_by (sets h) b j)
      by true = refl
      by false = refl

  put_none : (k : ℕ) (sets : ℕ → Option LiveSet) → held_by (update eqb sets k None h) b j ≡ cond (eqb h k) None (held_by (sets h) b j)
  put_none k sets = ap (λ x. held_by (cond x None (sets h)) b j) (eqb_turned k h) ∙ by (eqb h k)
    where
      by : (x : Bool) → held_by (cond x None (sets h)) b j ≡ cond x None (held_by (sets h) b j)
      by true = refl
      by false = refl

  freed_one : (r : Bool) (s : ℕ) (sets : ℕ → Option LiveSet) → held_by (cond r (update eqb sets s None) sets h) b j ≡ cond (eqb h s && r) None (held_by (sets h) b j)
  freed_one true s sets = put_none s sets ∙ ap (λ x. cond x None (held_by (sets h) b j)) (sym (and_true (eqb h s)))
  freed_one false s sets = ap (λ x. cond x None (held_by (sets h) b j)) (sym (and_false (eqb h s)))

  -- no write is valid for a set that does not live
  no_write : (l : Lists) (sets : ℕ → Option LiveSet) (ws : List Write) → sets h ≡ None → last_to l sets h b j ws ≡ None
  no_write l sets [] none = refl
  no_write l sets (w ∷ ws) none = ap₂ (λ o x. option_or o (cond x (Some w) None)) (no_write l sets ws none) (by (eqb_tells w.set h))
    where
      by : ((eqb w.set h ≡ true) × (w.set ≡ h)) ⊎ ((eqb w.set h ≡ false) × (w.set ≡ h → ⊥)) → (covers w h b j && valid l w sets) ≡ false
      by (inl (p, e)) = ap (λ v. covers w h b j && v) (ap (valid_in l w) (ap sets e ∙ none)) ∙ and_false (covers w h b j)
      by (inr (p, ne)) = ap (λ v. (v && eqb w.binding b && ltb j w.count) && valid l w sets) p

  written_to : (l : Lists) (sets : ℕ → Option LiveSet) (ws : List Write) → held_by (after_writes l ws sets h) b j ≡ holding l j (held_by (sets h) b j) (last_to l sets h b j ws)
  written_to l sets ws = by (sets h) refl
    where
      by : (o : Option LiveSet) → sets h ≡ o → held_by (option_map (set_after l ws sets h) o) b j ≡ holding l j (held_by o b j) (last_to l sets h b j ws)
      by None e = sym (ap (holding l j None) (no_write l sets ws e))
      by (Some s) e = refl

  made_set : (m n : State) (p l : ℕ) (r : Result ℕ DeviceFault) → Added r (new_set p (bindings_in (m.layouts l))) m.sets n.sets → read_back n h b j ≡ cond (is_given h (given r)) None (read_back m h b j)
  made_set m n p l (Ok k) added = ap (λ f. held_by (f h) b j) added ∙ put_new p (bindings_in (m.layouts l)) k m.sets
  made_set m n p l (Err e) added = ap (λ f. held_by (f h) b j) added

  call_holds : (m n : State) (q : Request) (gave : Option ℕ) → Held m q gave n → read_back n h b j ≡ then_held h b j m gave (read_back m h b j) q
  call_holds m n (create_layout bs flags) gave (r, made, is) = ap (λ f. held_by (f h) b j) made.sets
  call_holds m n (destroy_layout l) gave (gone, is) = ap (λ f. held_by (f h) b j) gone.sets
  call_holds m n (create_pool most sizes flags) gave (r, made, is) = ap (λ f. held_by (f h) b j) made.sets
  call_holds m n (destroy_pool p) gave (gone, is) = ap (λ f. held_by (f h) b j) gone.sets ∙ pool_gone (is_some (m.pools p)) p (m.sets h)
  call_holds m n (allocate_set p l) gave (r, made, is) = made_set m n p l r made.sets ∙ ap (λ o. cond (is_given h o) None (read_back m h b j)) (sym is)
  call_holds m n (free_set p s) gave (r, freed, is) = ap (λ f. held_by (f h) b j) freed.sets ∙ (freed_one r s m.sets ∙ ap (λ x. cond (eqb h s && x) None (read_back m h b j)) freed.answer)
  call_holds m n (update_sets ws l) gave (done, is) = ap (λ f. held_by (f h) b j) done.sets ∙ written_to l m.sets ws

pub reads_back : ReadsBack
reads_back [] e reached h b j = ap (λ o. held_by o b j) (reached.sets h)
reads_back (c ∷ older) e (d, before, at, held, counted) h b j =
    call_holds h b j c.before (meaning_of e) c.request c.gave held
    ∙ ap (λ x. then_held h b j c.before c.gave x c.request) (ap (λ m. read_back m h b j) at ∙ reads_back older d before h b j)
