-- What the rows of a device hold, and what they add up to. Assumes nothing.
use Rattle.std.specs.Prelude.{ℕ, ◌+◌, Bool, false, cond, not, ◌&&◌, ◌||◌, List, [], is_some, Some, None, Option, ◌==◌, nat_le, nat_lt, slice_index_or, refl}
use Rattle.std.proofs.Common.{zero-le, zero-lt-suc}
use Rattle.std.specs.List.{list_any}
use Rattle.std.specs.Option.{option_map, option_flatten}
use Rattle.conversion.specs.Kinds.{kinds}
use Rattle.conversion.specs.Counts.{count_of}
use Rattle.conversion.specs.declared.kinds.Kind.{Kind}
use Rattle.conversion.specs.declared.bindings.DeviceBinding.{DeviceBinding}
use Rattle.device.specs.Meaning.{LiveLayout, LivePool, sum_below}
use Rattle.rows.specs.declared.slots.Slot.{Slot}
use Rattle.rows.specs.declared.table.Table.{Table}
use Rattle.rows.specs.declared.bindings.Bindings.{Bindings}
use Rattle.rows.specs.declared.pools.PoolRow.{PoolRow}
use Rattle.rows.specs.declared.holdings.Holdings.{Holdings}
use Rattle.rows.specs.declared.holdings.SetRow.{SetRow}
use Rattle.rows.specs.Bindings.{kind_count, total_of}
use Rattle.rows.specs.Lists.{list_of}
use Rattle.rows.specs.Pools.{live_pool}
use Rattle.rows.specs.Slots.{first_row}
use Rattle.rows.specs.Tables.{slot_at, row_of}

-- what stands under a handle, by its row
abbrev pub found_by : {X : Type 0} → (ℕ → Option ℕ) → (ℕ → Option X) → ℕ → Option X
found_by row at h = option_flatten (option_map at (row h))

-- past the last row of bindings there are none
abbrev pub no_bindings : Bindings
no_bindings = record { rows = []; used = 0; total = 0; fits = zero-le; is = refl; small = zero-lt-suc 137438953471 }

-- the bindings in a layout's row
abbrev pub bindings_at : Holdings → ℕ → List DeviceBinding
bindings_at d j = list_of (slice_index_or d.bindings j no_bindings)

-- the live layout in a row, by rows of bindings and of layouts
abbrev pub layout_in : List Bindings → Table ℕ 64 → ℕ → Option LiveLayout
layout_in bindings layouts j = option_map (λ s. record { bindings = list_of (slice_index_or bindings j no_bindings); flags = s.value }) (slot_at layouts j)

-- the live layouts by their handles
abbrev pub layouts_of : Holdings → ℕ → Option LiveLayout
layouts_of d = found_by (row_of d.layouts) (layout_in d.bindings d.layouts)

-- the live pool in a row
abbrev pub pool_in : Table PoolRow 128 → ℕ → Option LivePool
pool_in pools i = option_map (λ s. live_pool s.value) (slot_at pools i)

-- the live pools by their handles
abbrev pub pools_of : Holdings → ℕ → Option LivePool
pools_of d = found_by (row_of d.pools) (pool_in d.pools)

-- A live set but for its descriptors: its pool and its bindings.
pub record HeldSet : Type 0 where
  pub pool : ℕ
  pub bindings : List DeviceBinding

-- what stands in a row as a live set, by rows of bindings
abbrev pub held_of : List Bindings → Option (Slot SetRow) → Option HeldSet
held_of bindings o = option_map (λ s. record { pool = s.value.pool; bindings = list_of (slice_index_or bindings s.value.layout no_bindings) }) o

-- the live set in a row, by rows of bindings and of sets
abbrev pub held_in : List Bindings → Table SetRow 1024 → ℕ → Option HeldSet
held_in bindings sets i = held_of bindings (slot_at sets i)

abbrev pub set_at : Holdings → ℕ → Option HeldSet
set_at d = held_in d.bindings d.sets

-- how many descriptors a set has, if there is one, and the set in a row
abbrev pub held_total : Option HeldSet → ℕ
held_total None = 0
held_total (Some s) = total_of s.bindings

abbrev pub total_at : Holdings → ℕ → ℕ
total_at d i = held_total (set_at d i)

-- whether the set in a row is of the layout in row j
abbrev pub names : ℕ → Option (Slot SetRow) → Bool
names j None = false
names j (Some s) = s.value.layout == j

-- whether the set in a row lives in the pool
abbrev pub is_of_pool : ℕ → Option (Slot SetRow) → Bool
is_of_pool p None = false
is_of_pool p (Some s) = s.value.pool == p

abbrev pub is_named : Holdings → ℕ → Bool
is_named d j = is_some (first_row (λ i. names j (slot_at d.sets i)) 1024)

-- whether a row is free for a layout: it has none, and no set of one that it had lives
abbrev pub is_free_layout_row : Holdings → ℕ → Bool
is_free_layout_row d j = not (is_some (slot_at d.layouts j)) && not (is_named d j)

-- the first such row
abbrev pub free_layout_row : Holdings → Option ℕ
free_layout_row d = first_row (is_free_layout_row d) 64

-- a figure of the set in a row, where it lives in the pool
abbrev pub in_row : ℕ → (HeldSet → ℕ) → Option HeldSet → ℕ
in_row p f None = 0
in_row p f (Some s) = cond (s.pool == p) (f s) 0

-- how many sets live in a pool, by rows
abbrev pub sets_in : Holdings → ℕ → ℕ
sets_in d p = sum_below 1024 (λ i. in_row p (λ s. 1) (set_at d i))

-- how many descriptors of a kind they have
abbrev pub used_in : Holdings → ℕ → Kind → ℕ
used_in d p k = sum_below 1024 (λ i. in_row p (λ s. kind_count k s.bindings) (set_at d i))

-- whether a pool lacks room for one more set of the layout in row j
abbrev pub full_at : Holdings → ℕ → LivePool → ℕ → Bool
full_at d p pool j = nat_le pool.most (sets_in d p) || list_any (λ k. nat_lt (count_of pool.sizes k) (used_in d p k + kind_count k (bindings_at d j))) kinds
