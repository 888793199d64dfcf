-- What the definitions say together. Assumes nothing.
use Rattle.std.specs.Prelude.{◌≡◌, ℕ, ◌+◌, ◌^◌, ◌<◌, Bool, true, cond, ◌||◌, List, [], ◌∷◌, is_some, Some, None, Ok, Option, ◌==◌}
use Rattle.conversion.specs.Counts.{count_of}
use Rattle.conversion.specs.Layouts.{counts_of, device_bindings}
use Rattle.conversion.specs.declared.kinds.Kind.{Kind}
use Rattle.conversion.specs.declared.entries.LayoutEntry.{LayoutEntry}
use Rattle.device.specs.Meaning.{State, LiveSet, binding_counts, live_sets, in_use}
use Rattle.device.specs.declared.records.Write.{Write}
use Rattle.device.specs.Writes.{Lists, after_writes, some_invalid}
use Rattle.device.specs.Calls.{Empty, SetMade, SetFreed, PoolGone, bindings_in}

-- a device counts of converted entries what the entries count
abbrev pub CountsAgree : Type 0
CountsAgree = (partial : Bool) (es : List LayoutEntry) → binding_counts (device_bindings partial es) ≡ counts_of es

-- an empty device has no set in any pool, and no descriptor in use
abbrev pub EmptyCounts : Type 0
EmptyCounts = (m : State) → Empty m → (q : ℕ) (k : Kind) → (live_sets m q ≡ 0) × (in_use m q k ≡ 0)

-- a set that is made is one more in its pool, with its layout's descriptors, and changes no other pool's
abbrev pub MadeCounts : Type 0
MadeCounts =
    (m n : State) (p l h : ℕ) → h < 2 ^ 64 → m.sets h ≡ None → SetMade m p l (Ok h) n → (q : ℕ) (k : Kind)
    → (live_sets n q ≡ live_sets m q + cond (p == q) 1 0) × (in_use n q k ≡ in_use m q k + cond (p == q) (count_of (binding_counts (bindings_in (m.layouts l))) k) 0)

-- a set that is freed is one less in its pool, with its descriptors
abbrev pub FreedCounts : Type 0
FreedCounts =
    (m n : State) (p h : ℕ) (s : LiveSet) → h < 2 ^ 64 → m.sets h ≡ Some s → SetFreed m p h true n → (q : ℕ) (k : Kind)
    → (live_sets n q + cond (p == q) 1 0 ≡ live_sets m q) × (in_use n q k + cond (p == q) (count_of (binding_counts s.bindings) k) 0 ≡ in_use m q k)

-- a pool that is destroyed has no set, and the others have theirs
abbrev pub GoneCounts : Type 0
GoneCounts =
    (m n : State) (p : ℕ) → is_some (m.pools p) ≡ true → PoolGone m p n → (q : ℕ) (k : Kind)
    → (live_sets n q ≡ cond (p == q) 0 (live_sets m q)) × (in_use n q k ≡ cond (p == q) 0 (in_use m q k))

-- writes of one call do what a call for each, in order, would do, and one is invalid exactly if one of those calls would be
abbrev pub WritesInOrder : Type 0
WritesInOrder =
    (l : Lists) (w : Write) (ws : List Write) (sets : ℕ → Option LiveSet)
    → (after_writes l (w ∷ ws) sets ≡ after_writes l ws (after_writes l (w ∷ []) sets))
    × (some_invalid l (w ∷ ws) sets ≡ (some_invalid l (w ∷ []) sets || some_invalid l ws (after_writes l (w ∷ []) sets)))
