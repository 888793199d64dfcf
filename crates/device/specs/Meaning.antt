-- What a device holds, and what its state fixes. Assumes nothing.
use Rattle.std.specs.Prelude.{ℕ, zero, suc, ◌+◌, ◌^◌, Bool, false, cond, not, ◌&&◌, ◌||◌, List, ℤ, Some, None, sum_by, Option, Result, ◌==◌, nat_le, nat_lt}
use Rattle.std.specs.List.{list_any}
use Rattle.conversion.specs.declared.kinds.Kind.{Kind}
use Rattle.conversion.specs.declared.counts.DescriptorCounts.{DescriptorCounts}
use Rattle.conversion.specs.declared.bindings.DeviceBinding.{DeviceBinding}
use Rattle.conversion.specs.Kinds.{kinds, type_number}
use Rattle.conversion.specs.Counts.{counts_by, count_of}
use Rattle.conversion.specs.Stages.{bit}
use Rattle.device.specs.declared.records.PoolSize.{PoolSize}
use Rattle.device.specs.declared.records.ImageRecord.{ImageRecord}
use Rattle.device.specs.declared.records.BufferRecord.{BufferRecord}
use Rattle.device.specs.declared.records.AccelerationRecord.{AccelerationRecord}

-- What a descriptor says.
pub data Content : Type 0 where
  image : ImageRecord → Content
  buffer : BufferRecord → Content
  acceleration : AccelerationRecord → Content

-- A descriptor, with its type number.
pub record Descriptor : Type 0 where
  pub descriptor_type : ℕ
  pub content : Content

-- A live layout. That it has arrays is read off flag 2 of its making, as in Vulkan's own rule, so the flags are held beside the bindings.
pub record LiveLayout : Type 0 where
  pub bindings : List DeviceBinding
  pub flags : ℕ

-- A live pool: its most sets, how many descriptors of each kind it has, whether it is for update after bind, the counts of the first set ever made in it and whether a later set's differed.
pub record LivePool : Type 0 where
  pub most : ℕ
  pub sizes : DescriptorCounts
  pub updatable : Bool
  pub first_counts : Option DescriptorCounts
  pub differed : Bool

-- A live set: its pool, its bindings, and what stands in each element of each binding.
pub record LiveSet : Type 0 where
  pub pool : ℕ
  pub bindings : List DeviceBinding
  pub written : ℕ → ℕ → Option Descriptor

-- All that a device holds, its mark, and what it would answer to each making call: a handle, or an obstacle.
pub record State : Type 0 where
  pub layouts : ℕ → Option LiveLayout
  pub pools : ℕ → Option LivePool
  pub sets : ℕ → Option LiveSet
  pub mark : Bool
  pub layout_fixed : List DeviceBinding → ℕ → Result ℕ ℤ
  pub pool_fixed : ℕ → List PoolSize → ℕ → Result ℕ ℤ
  pub set_fixed : ℕ → ℕ → Result ℕ ℤ

-- the flag for update after bind, of a layout or a pool
abbrev pub after_bind : ℕ → Bool
after_bind flags = bit flags 1

-- whether a set of the layout can't be asked of the pool: update after bind is for pools made for it
abbrev pub unfit : LivePool → LiveLayout → Bool
unfit pool layout = after_bind layout.flags && not pool.updatable

-- how many descriptors of each kind the bindings have
abbrev pub binding_counts : List DeviceBinding → DescriptorCounts
binding_counts bs = counts_by (λ k. sum_by (λ b. cond (b.descriptor_type == type_number k) b.count 0) bs)

-- how many of a kind a pool has in all
abbrev pub size_of : Kind → List PoolSize → ℕ
size_of k ss = sum_by (λ s. cond (s.descriptor_type == type_number k) s.count 0) ss

-- how many of each
abbrev pub size_counts : List PoolSize → DescriptorCounts
size_counts ss = counts_by (λ k. size_of k ss)

-- a figure of a set, where it lives in the pool
abbrev pub in_pool : ℕ → (LiveSet → ℕ) → Option LiveSet → ℕ
in_pool p f None = 0
in_pool p f (Some s) = cond (s.pool == p) (f s) 0

-- the sum of f at the numbers below n
unfoldable pub sum_below : ℕ → (ℕ → ℕ) → ℕ
sum_below zero f = 0
sum_below (suc n) f = f n + sum_below n f

-- how many sets live in a pool
abbrev pub live_sets : State → ℕ → ℕ
live_sets s p = sum_below (2 ^ 64) (λ h. in_pool p (λ x. 1) (s.sets h))

-- how many descriptors of a kind the live sets of a pool have
abbrev pub in_use : State → ℕ → Kind → ℕ
in_use s p k = sum_below (2 ^ 64) (λ h. in_pool p (λ x. count_of (binding_counts x.bindings) k) (s.sets h))

-- whether a pool lacks room for one more set with these counts: it has its most sets, or too few descriptors of a kind
abbrev pub exhausted : State → ℕ → LivePool → DescriptorCounts → Bool
exhausted s p pool c = nat_le pool.most (live_sets s p) || list_any (λ k. nat_lt (count_of pool.sizes k) (in_use s p k + count_of c k)) kinds

-- whether two counts agree in every kind
abbrev pub same_counts : DescriptorCounts → DescriptorCounts → Bool
same_counts a b = not (list_any (λ k. not (count_of a k == count_of b k)) kinds)

-- whether counts differ from those of a pool's first set, if it had one
abbrev pub differs : Option DescriptorCounts → DescriptorCounts → Bool
differs None c = false
differs (Some d) c = not (same_counts d c)

-- whether counts differ among the sets of a pool, past ones and the next one
abbrev pub mixed : LivePool → DescriptorCounts → Bool
mixed pool c = pool.differed || differs pool.first_counts c

-- the counts of a pool's first set, once one more is made
abbrev pub first_or : Option DescriptorCounts → DescriptorCounts → DescriptorCounts
first_or None c = c
first_or (Some d) c = d

-- a pool in which a set with these counts was made
abbrev pub remembering : LivePool → DescriptorCounts → LivePool
remembering pool c = record { most = pool.most; sizes = pool.sizes; updatable = pool.updatable; first_counts = Some (first_or pool.first_counts c); differed = mixed pool c }
