-- Which obstacles a state may fix, and which handles. Assumes nothing.
use Rattle.std.specs.Prelude.{◌≡◌, ℕ, ◌^◌, ◌<◌, true, false, ◌⊎◌, List, [], ◌∷◌, ℤ, Some, None, Option, MatchResult}
use Rattle.conversion.specs.declared.bindings.DeviceBinding.{DeviceBinding}
use Rattle.device.specs.declared.records.PoolSize.{PoolSize}
use Rattle.device.specs.Meaning.{State, LiveLayout, LivePool, unfit, exhausted, mixed, binding_counts}
use Rattle.device.specs.Results.{no_host_memory, no_device_memory, lost, unknown, fragmented_pool, fragmentation}

-- a handle that can be given: not 0, of 64 bits, and not live in its kind
pub record Fresh {X : Type 0} (held : ℕ → Option X) (h : ℕ) : Type 0 where
  pub some_handle : h ≡ 0 → ⊥
  pub word : h < 2 ^ 64
  pub dead : held h ≡ None

-- one of the numbers in a list
abbrev pub Among : List ℤ → ℤ → Type 0
Among [] e = ⊥
Among (x ∷ xs) e = (e ≡ x) ⊎ Among xs e

-- what may stand in the way of any making call
abbrev pub obstacles : List ℤ
obstacles = no_host_memory ∷ no_device_memory ∷ lost ∷ unknown ∷ []

-- a set's obstacle: a pool is fragmented only where counts differ among its sets
abbrev pub SetObstacle : LivePool → LiveLayout → ℤ → Type 0
SetObstacle pool layout e = Among obstacles e ⊎ ((e ≡ fragmented_pool) × (mixed pool (binding_counts layout.bindings) ≡ true))

-- What a state may fix; of a set, where it can be asked for and the pool has room.
pub record Fair (s : State) : Type 0 where
  pub layouts : (bs : List DeviceBinding) (flags : ℕ) → MatchResult (s.layout_fixed bs flags) (Fresh s.layouts) (Among obstacles)
  pub pools : (most : ℕ) (sizes : List PoolSize) (flags : ℕ) → MatchResult (s.pool_fixed most sizes flags) (Fresh s.pools) (Among (fragmentation ∷ obstacles))
  pub sets : (p l : ℕ) (pool : LivePool) (layout : LiveLayout) → s.pools p ≡ Some pool → s.layouts l ≡ Some layout → unfit pool layout ≡ false → exhausted s p pool (binding_counts layout.bindings) ≡ false
      → MatchResult (s.set_fixed p l) (Fresh s.sets) (SetObstacle pool layout)
