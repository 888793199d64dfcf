-- Proof: what the counting device fixes is allowed. It stands here since a ghost member may cite no other folder.
use Rattle.std.specs.Prelude.{◌≡◌, ℕ, ◌+◌, Bool, true, false, cond, ◌&&◌, ◌∷◌, length, ℤ, is_some, Ok, Err, Option, Result, MatchResult, nat_le, nat_lt, refl}
use Rattle.std.proofs.Common.{arith, sym, ap, subst, inl, inr}
use Rattle.std.specs.Option.{option_map, option_flatten}
use Rattle.device.specs.Meaning.{sum_below}
use Rattle.device.specs.Results.{no_host_memory, no_device_memory, fragmentation}
use Rattle.device.specs.Calls.{bindings_in}
use Rattle.device.specs.Fair.{Fresh, Among, Fair, obstacles, SetObstacle}
use Rattle.segments.specs.Segments.{size}
use Rattle.rows.specs.declared.table.Table.{Table}
use Rattle.rows.specs.Bindings.{total_of}
use Rattle.rows.specs.Tables.{row_of, unused_row}
use Rattle.rows.specs.Holdings.{found_by, free_layout_row, layout_in, layouts_of, pool_in, set_at, total_at}
use Rattle.counting.specs.declared.counting.CountingDevice.{CountingDevice}
use Rattle.counting.specs.Given.{Given}
use Rattle.counting.specs.Counting.{meaning_of, next_handle, in_row, in_records, live_in}
use Rattle.counting.specs.Kept.{not_given, next_is}

module _ (d : CountingDevice) where
  -- a handle that is fixed, or −1
  pub fixes : {T X : Type 0} {n : ℕ} (t : Table T n) (at : ℕ → Option X) (P : ℤ → Type 0) → Given d.last t → P no_host_memory → (free : Bool) → MatchResult (in_row free (next_handle d)) (Fresh (found_by (row_of t) at)) P
  fixes t at P given p false = p
  fixes {X = X} t at P given p true = by (next_handle d) refl (or_refused (nat_lt d.last 18446744073709551615))
    where
      or_refused : (b : Bool) → (e : ℤ) → cond {A = Result ℕ ℤ} b (Ok (d.last + 1)) (Err no_host_memory) ≡ Err e → e ≡ no_host_memory
      or_refused true e q = absurd (let z : ◌≡◌ {A = ℕ} 0 1 = cc in omega arith)
      or_refused false e q = cc

      by : (r : Result ℕ ℤ) → next_handle d ≡ r → ((e : ℤ) → next_handle d ≡ Err e → e ≡ no_host_memory) → MatchResult r (Fresh (found_by (row_of t) at)) P
      by (Ok h) q none =
          let is = next_is d h q in
          record { some_handle = λ z. omega (arith, z, is.0); word = is.1; dead = ap (λ o. option_flatten (option_map at o)) (not_given t d.last h given (omega (arith, is.0))) }
      by (Err e) q none = subst P (sym (none e q)) p

  -- and −2 where the records are full
  more : {X : Type 0} (held : ℕ → Option X) (P : ℤ → Type 0) (n : ℕ) → P no_device_memory → (r : Result ℕ ℤ) → MatchResult r (Fresh held) P → MatchResult (in_records d n r) (Fresh held) P
  more held P n p (Err e) c = c
  more held P n p (Ok h) c = by (nat_lt (size d.records) (sum_below 1024 (total_at d.holdings) + n))
    where
      by : (b : Bool) → MatchResult (cond {A = Result ℕ ℤ} b (Err no_device_memory) (Ok h)) (Fresh held) P
      by true = p
      by false = c

  pub is_fair : Fair (meaning_of d)
  is_fair =
      record {
        layouts = λ bs flags. fixes d.holdings.layouts (layout_in d.holdings.bindings d.holdings.layouts) (Among obstacles) d.layouts (inl refl) (nat_le (length bs) 32 && is_some (free_layout_row d.holdings));
        pools = λ most sizes flags. fixes d.holdings.pools (pool_in d.holdings.pools) (Among (fragmentation ∷ obstacles)) d.pools (inr (inl refl)) (is_some (unused_row d.holdings.pools));
        sets = λ p l pool layout held there fit room.
            more (found_by (row_of d.holdings.sets) (live_in (set_at d.holdings) d.records)) (SetObstacle pool layout) (total_of (bindings_in (layouts_of d.holdings l))) (inl (inr (inl refl))) (in_row (is_some (unused_row d.holdings.sets)) (next_handle d))
            (fixes d.holdings.sets (live_in (set_at d.holdings) d.records) (SetObstacle pool layout) d.sets (inl (inl refl)) (is_some (unused_row d.holdings.sets)));
      }
