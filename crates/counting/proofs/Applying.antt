-- One write, by what each element holds.
use Rattle.std.proofs.Common.{◌≡◌, ℕ, zero, suc, ◌+◌, ◌<◌, ◌≤◌, Bool, true, false, not, ◌||◌, eqb, leb, List, [], ◌∷◌, length, get_or, take, drop, is_some, Some, None, Option, sym, refl, ap, ◌∙◌, ap₂, arith}
use mathlib.Core.Path.{fun_ext}
use Rattle.std.proofs.lemmas.List.{take_all, drop_more}
use Rattle.std.proofs.lemmas.List.Sums.{sum_by-cons}
use Rattle.std.proofs.lemmas.Bool.Decides.{nat_tests}
use Rattle.std.specs.List.{slice_get}
use Rattle.std.specs.Option.{option_map}
use Rattle.conversion.specs.Kinds.{kind_of_type}
use Rattle.conversion.specs.declared.kinds.Kind.{Kind}
use Rattle.conversion.specs.declared.bindings.DeviceBinding.{DeviceBinding}
use Rattle.device.specs.Meaning.{image, buffer, acceleration}
use Rattle.device.specs.declared.records.RecordList.{RecordList}
use Rattle.device.specs.declared.records.RecordList.TheVariants.{Images, Buffers, Accelerations}
use Rattle.device.specs.declared.records.Write.{Write}
use Rattle.device.specs.Meaning.{LiveSet}
use Rattle.device.specs.Writes.{Lists, records_of, length_of, content_at, lies, descriptor, descriptor_of, fits, valid_for, valid, covers, last_to, holding, set_after, after_writes, some_invalid}
use Rattle.device.proofs.Ordered.{writes_in_order}
use Rattle.rows.specs.Bindings.{total_of, start_of}
use Rattle.counting.specs.Counting.{elements}
use Rattle.rows.proofs.Truths.{clash, and_false, and_three, or_false}

-- where bindings start
starts : (b : DeviceBinding) (bs : List DeviceBinding) (i : ℕ) → start_of (b ∷ bs) (suc i) ≡ b.count + start_of bs i
starts b bs i = sum_by-cons (λ x. x.count) b (take i bs)

totals : (b : DeviceBinding) (bs : List DeviceBinding) → total_of (b ∷ bs) ≡ b.count + total_of bs
totals b bs = sum_by-cons (λ x. x.count) b bs

no_start : (i : ℕ) → start_of [] i ≡ 0
no_start i = ap total_of (take_all i [] (omega arith))

-- a binding ends before the next one starts, and before all end
pub ends_before : (bs : List DeviceBinding) (i k : ℕ) → i < k → start_of bs i + elements (slice_get bs i) ≤ start_of bs k
ends_before [] i k lt = omega (arith, no_start i)
ends_before (b ∷ bs) zero zero lt = absurd (omega arith)
ends_before (b ∷ bs) zero (suc k) lt = omega (arith, starts b bs k)
ends_before (b ∷ bs) (suc i) zero lt = absurd (omega arith)
ends_before (b ∷ bs) (suc i) (suc k) lt = omega (arith, starts b bs i, starts b bs k, ends_before bs i k (omega arith))

pub ends_within : (bs : List DeviceBinding) (i : ℕ) → start_of bs i + elements (slice_get bs i) ≤ total_of bs
ends_within [] i = omega (arith, no_start i)
ends_within (b ∷ bs) zero = omega (arith, totals b bs)
ends_within (b ∷ bs) (suc i) = omega (arith, starts b bs i, totals b bs, ends_within bs i)

-- a record that lies in its list is there
is_there : {X Y : Type 0} (f : X → Y) (xs : List X) (i : ℕ) → i < length xs → is_some (option_map f (slice_get xs i)) ≡ true
is_there f [] i lt = absurd (omega arith)
is_there f (x ∷ xs) zero lt = refl
is_there f (x ∷ xs) (suc i) lt = is_there f xs i (omega arith)

content_there : (l : Lists) (q : RecordList) (i n : ℕ) → i < n → leb n (length_of l q) ≡ true → is_some (content_at l q i) ≡ true
content_there l Images i n lt le = is_there image l.images i (let t : n ≤ length l.images = grind (arith, nat_tests) in omega arith)
content_there l Buffers i n lt le = is_there buffer l.buffers i (let t : n ≤ length l.buffers = grind (arith, nat_tests) in omega arith)
content_there l Accelerations i n lt le = is_there acceleration l.accelerations i (let t : n ≤ length l.accelerations = grind (arith, nat_tests) in omega arith)

mapped_there : {X Y : Type 0} (f : X → Y) (o : Option X) → is_some o ≡ true → is_some (option_map f o) ≡ true
mapped_there f None e = clash e refl
mapped_there f (Some x) e = refl

described : (l : Lists) (w : Write) (j : ℕ) (o : Option Kind) → lies l w o ≡ true → j < w.count → is_some (descriptor_of l w j o) ≡ true
described l w j None e lt = clash e refl
described l w j (Some k) e lt = mapped_there (descriptor w.descriptor_type) (content_at l (records_of k) (w.start + j)) (content_there l (records_of k) (w.start + j) (w.start + w.count) (omega arith) e)

-- what a valid write tells
room_for : (w : Write) (o : Option DeviceBinding) → fits w o ≡ true → w.count ≤ elements o
room_for w None e = clash refl (sym e)
room_for w (Some b) e = let p = and_three (eqb b.descriptor_type w.descriptor_type) (leb 1 w.count) (leb w.count b.count) e in let q = p.2 in grind (arith, nat_tests)

module _ (l : Lists) (w : Write) (o : Option DeviceBinding) (ok : true ≡ valid_for l w o) where
  told : (fits w o ≡ true) × (eqb w.element 0 ≡ true) × (lies l w (kind_of_type w.descriptor_type) ≡ true)
  told = and_three (fits w o) (eqb w.element 0) (lies l w (kind_of_type w.descriptor_type)) (sym ok)

  pub valid_room : w.count ≤ elements o
  valid_room = room_for w o told.0

  pub valid_there : (j : ℕ) → j < w.count → is_some (descriptor_of l w j (kind_of_type w.descriptor_type)) ≡ true
  valid_there j lt = described l w j (kind_of_type w.descriptor_type) told.2 lt

-- an invalid write changes nothing
pub none_changed : (l : Lists) (w : Write) (sets : ℕ → Option LiveSet) → valid l w sets ≡ false → sets ≡ after_writes l (w ∷ []) sets
none_changed l w sets bad = fun_ext (λ h. by h (sets h))
  where
    none : (h b j : ℕ) → last_to l sets h b j (w ∷ []) ≡ None
    none h b j = rw (bad, and_false (covers w h b j)) refl

    by : (h : ℕ) (o : Option LiveSet) → o ≡ option_map (set_after l (w ∷ []) sets h) o
    by h None = refl
    by h (Some s) = ap {B = Option LiveSet} (λ f. Some (record { pool = s.pool; bindings = s.bindings; written = f })) (fun_ext (λ b. fun_ext (λ j. sym (ap (holding l j (s.written b j)) (none h b j)))))

-- the mark after one write
pub marked : (m v : Bool) → v ≡ false → true ≡ (m || (not v || false))
marked true v e = refl
marked false v e = ap (λ x. not x || false) (sym e)

pub unmarked : (m v : Bool) → v ≡ true → m ≡ (m || (not v || false))
unmarked m v e = or_false m ∙ ap (λ x. m || (not x || false)) (sym e)

-- one write more of a call's
module _ (l : Lists) (ws : List Write) (i : ℕ) (none : Write) (lt : i < length ws) (old new : ℕ → Option LiveSet) (step : new ≡ after_writes l (get_or ws i none ∷ []) old) where
  pub sets_more : after_writes l (drop i ws) old ≡ after_writes l (drop (i + 1) ws) new
  sets_more =
      ap (λ vs. after_writes l vs old) (drop_more ws i none lt)
      ∙ ((writes_in_order l (get_or ws i none) (drop (i + 1) ws) old).0
      ∙ ap (after_writes l (drop (i + 1) ws)) (sym step))

  pub marks_more : (m n : Bool) → n ≡ (m || some_invalid l (get_or ws i none ∷ []) old) → (m || some_invalid l (drop i ws) old) ≡ (n || some_invalid l (drop (i + 1) ws) new)
  marks_more m n mark =
      ap (λ vs. m || some_invalid l vs old) (drop_more ws i none lt)
      ∙ (ap (λ b. m || b) (writes_in_order l (get_or ws i none) (drop (i + 1) ws) old).1
      ∙ (or_or m (some_invalid l (get_or ws i none ∷ []) old) (some_invalid l (drop (i + 1) ws) (after_writes l (get_or ws i none ∷ []) old))
      ∙ ap₂ (λ a s. a || some_invalid l (drop (i + 1) ws) s) (sym mark) (sym step)))
    where
      or_or : (a b c : Bool) → (a || (b || c)) ≡ ((a || b) || c)
      or_or true b c = refl
      or_or false b c = refl

-- a call without writes
pub no_writes : (l : Lists) (sets : ℕ → Option LiveSet) → sets ≡ after_writes l [] sets
no_writes l sets = fun_ext (λ h. by h (sets h))
  where
    by : (h : ℕ) (o : Option LiveSet) → o ≡ option_map (set_after l [] sets h) o
    by h None = refl
    by h (Some s) = refl

pub no_marks : (l : Lists) (sets : ℕ → Option LiveSet) (m : Bool) → m ≡ (m || some_invalid l [] sets)
no_marks l sets true = refl
no_marks l sets false = refl
