-- What each call of a device answers, and what it holds afterwards. Assumes nothing.
use Rattle.std.specs.Prelude.{◌≡◌, ℕ, Bool, true, false, cond, not, ◌||◌, List, [], length, take, ℤ, Some, None, Ok, Err, Option, Result, MatchResult, ◌==◌, nat_eq, slice_index_or}
use Rattle.std.specs.List.{list_any}
use Rattle.std.specs.Map.{update}
use Rattle.std.specs.Option as options
use Rattle.conversion.specs.Lists.{first}
use Rattle.conversion.specs.Kinds.{kind_of_type}
use Rattle.conversion.specs.declared.bindings.DeviceBinding.{DeviceBinding}
use Rattle.conversion.specs.declared.results.DeviceCall.TheVariants as call
use Rattle.device.specs.declared.faults.DeviceFault.{DeviceFault}
use Rattle.device.specs.declared.records.PoolSize.{PoolSize}
use Rattle.device.specs.declared.records.Write.{Write}
use Rattle.device.specs.Meaning.{State, LiveLayout, LivePool, LiveSet, after_bind, unfit, binding_counts, size_counts, exhausted, remembering}
use Rattle.device.specs.Results.{unknown, out_of_pool, fragmented_pool, is_result, answered}
use Rattle.device.specs.Writes.{Lists, after_writes, some_invalid}

-- holdings with one more, if a handle was given
abbrev pub Added : {X : Type 0} → Result ℕ DeviceFault → X → (ℕ → Option X) → (ℕ → Option X) → Type 0
Added r x before after = MatchResult r (λ h. after ≡ update nat_eq before h (Some x)) (λ e. after ≡ before)

-- what an invalid call answers, else what is fixed
abbrev pub unless_invalid : Bool → Result ℕ ℤ → Result ℕ ℤ
unless_invalid invalid r = cond invalid (Err unknown) r

-- whether a type number is none of the eight
abbrev pub unknown_type : ℕ → Bool
unknown_type t = not (options.is_some (kind_of_type t))

-- a layout is invalid if it has such a type
abbrev pub invalid_layout : List DeviceBinding → Bool
invalid_layout bs = list_any (λ b. unknown_type b.descriptor_type) bs

-- the answer to a layout that is asked for
abbrev pub layout_answer : State → List DeviceBinding → ℕ → Result ℕ ℤ
layout_answer m bs flags = unless_invalid (invalid_layout bs) (m.layout_fixed bs flags)

-- making a layout
pub record LayoutMade (m : State) (bs : List DeviceBinding) (flags : ℕ) (r : Result ℕ DeviceFault) (n : State) : Type 0 where
  pub answer : r ≡ answered call.Layout (layout_answer m bs flags)
  pub layouts : Added r (record { bindings = bs; flags = flags }) m.layouts n.layouts
  pub pools : n.pools ≡ m.pools
  pub sets : n.sets ≡ m.sets
  pub mark : n.mark ≡ (m.mark || invalid_layout bs)

-- destroying a layout leaves its sets
pub record LayoutGone (m : State) (l : ℕ) (n : State) : Type 0 where
  pub layouts : n.layouts ≡ update nat_eq m.layouts l None
  pub pools : n.pools ≡ m.pools
  pub sets : n.sets ≡ m.sets
  pub mark : n.mark ≡ m.mark

-- whether a type is listed
abbrev pub has_type : ℕ → List PoolSize → Bool
has_type t ss = list_any (λ s. nat_eq s.descriptor_type t) ss

-- a size is invalid if it is 0, if its type is none of the eight, or if its type stands before it
abbrev pub invalid_size : PoolSize → List PoolSize → Bool
invalid_size s before = s.count == 0 || (unknown_type s.descriptor_type || has_type s.descriptor_type before)

-- what stands past the end of a list of sizes
abbrev pub no_size : PoolSize
no_size = record { descriptor_type = 0; count = 0 }

-- whether size i is
abbrev pub invalid_size_at : List PoolSize → ℕ → Bool
invalid_size_at ss i = invalid_size (slice_index_or ss i no_size) (take i ss)

-- whether one of the sizes is
abbrev pub invalid_sizes : List PoolSize → Bool
invalid_sizes ss = options.is_some (first (invalid_size_at ss) (length ss))

-- a pool is invalid if one of its sizes is, or if it has no sets
abbrev pub invalid_pool : ℕ → List PoolSize → Bool
invalid_pool most sizes = invalid_sizes sizes || most == 0

-- the answer to a pool that is asked for
abbrev pub pool_answer : State → ℕ → List PoolSize → ℕ → Result ℕ ℤ
pool_answer m most sizes flags = unless_invalid (invalid_pool most sizes) (m.pool_fixed most sizes flags)

-- a pool in which no set was made yet
abbrev pub new_pool : ℕ → List PoolSize → ℕ → LivePool
new_pool most sizes flags = record { most = most; sizes = size_counts sizes; updatable = after_bind flags; first_counts = None; differed = false }

-- making a pool
pub record PoolMade (m : State) (most : ℕ) (sizes : List PoolSize) (flags : ℕ) (r : Result ℕ DeviceFault) (n : State) : Type 0 where
  pub answer : r ≡ answered call.Pool (pool_answer m most sizes flags)
  pub layouts : n.layouts ≡ m.layouts
  pub pools : Added r (new_pool most sizes flags) m.pools n.pools
  pub sets : n.sets ≡ m.sets
  pub mark : n.mark ≡ (m.mark || invalid_pool most sizes)

-- what is left of a set when a pool is gone
abbrev pub outside : ℕ → Option LiveSet → Option LiveSet
outside p None = None
outside p (Some s) = cond (s.pool == p) None (Some s)

-- destroying a pool removes it and its sets; nothing happens if it is not live
pub record PoolGone (m : State) (p : ℕ) (n : State) : Type 0 where
  pub layouts : n.layouts ≡ m.layouts
  pub pools : n.pools ≡ update nat_eq m.pools p None
  pub sets : n.sets ≡ (λ h. cond (options.is_some (m.pools p)) (outside p (m.sets h)) (m.sets h))
  pub mark : n.mark ≡ m.mark

-- the answer where pool and layout live, and where one does not
abbrev pub set_from : State → ℕ → ℕ → Option LivePool → Option LiveLayout → Result ℕ ℤ
set_from m p l None layout = Err unknown
set_from m p l (Some pool) None = Err unknown
set_from m p l (Some pool) (Some layout) = unless_invalid (unfit pool layout) (cond (exhausted m p pool (binding_counts layout.bindings)) (Err out_of_pool) (m.set_fixed p l))

-- the answer to a set that is asked for
abbrev pub set_answer : State → ℕ → ℕ → Result ℕ ℤ
set_answer m p l = set_from m p l (m.pools p) (m.layouts l)

-- whether asking is invalid
abbrev pub invalid_set : Option LivePool → Option LiveLayout → Bool
invalid_set None layout = true
invalid_set (Some pool) None = true
invalid_set (Some pool) (Some layout) = unfit pool layout

-- the answers that set the mark
abbrev pub sets_mark : Result ℕ ℤ → Bool
sets_mark (Ok h) = false
sets_mark (Err e) = is_result e fragmented_pool || is_result e out_of_pool

-- the bindings of a new set
abbrev pub bindings_in : Option LiveLayout → List DeviceBinding
bindings_in None = []
bindings_in (Some layout) = layout.bindings

-- a set without descriptors
abbrev pub new_set : ℕ → List DeviceBinding → LiveSet
new_set p bs = record { pool = p; bindings = bs; written = λ b j. None }

-- its pool, which remembers the first counts
abbrev pub remembered : List DeviceBinding → Option LivePool → Option LivePool
remembered bs pool = options.option_map (λ x. remembering x (binding_counts bs)) pool

-- making a set
pub record SetMade (m : State) (p l : ℕ) (r : Result ℕ DeviceFault) (n : State) : Type 0 where
  pub answer : r ≡ answered call.Set (set_answer m p l)
  pub layouts : n.layouts ≡ m.layouts
  pub pools : MatchResult r (λ h. n.pools ≡ update nat_eq m.pools p (remembered (bindings_in (m.layouts l)) (m.pools p))) (λ e. n.pools ≡ m.pools)
  pub sets : Added r (new_set p (bindings_in (m.layouts l))) m.sets n.sets
  pub mark : n.mark ≡ (m.mark || invalid_set (m.pools p) (m.layouts l) || sets_mark (set_answer m p l))

-- whether a set lives in a pool
abbrev pub lives_in : ℕ → Option LiveSet → Bool
lives_in p None = false
lives_in p (Some s) = s.pool == p

-- freeing a set: yes, and it is gone, exactly if it lives in that pool
pub record SetFreed (m : State) (p s : ℕ) (r : Bool) (n : State) : Type 0 where
  pub answer : r ≡ lives_in p (m.sets s)
  pub layouts : n.layouts ≡ m.layouts
  pub pools : n.pools ≡ m.pools
  pub sets : n.sets ≡ cond r (update nat_eq m.sets s None) m.sets
  pub mark : n.mark ≡ m.mark

-- writing: each element holds what the last valid write to it says; an invalid one sets the mark
pub record Updated (m : State) (ws : List Write) (l : Lists) (n : State) : Type 0 where
  pub layouts : n.layouts ≡ m.layouts
  pub pools : n.pools ≡ m.pools
  pub sets : n.sets ≡ after_writes l ws m.sets
  pub mark : n.mark ≡ (m.mark || some_invalid l ws m.sets)

-- an empty device holds nothing and has no mark
pub record Empty (s : State) : Type 0 where
  pub layouts : (h : ℕ) → s.layouts h ≡ None
  pub pools : (h : ℕ) → s.pools h ≡ None
  pub sets : (h : ℕ) → s.sets h ≡ None
  pub mark : s.mark ≡ false
