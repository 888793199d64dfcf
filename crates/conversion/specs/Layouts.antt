-- What a list of entries counts, what the device is told of it, and why it makes no layout. Assumes nothing.
use Rattle.std.specs.Prelude.{◌≡◌, ℕ, suc, ◌+◌, ◌-◌, ◌^◌, ◌<◌, ◌≤◌, Bool, true, false, cond, not, ◌&&◌, List, ◌++◌, map, length, take, replicate, Some, None, Ok, Err, sum_by, Option, Result, MatchResult, ◌==◌, nat_le, nat_lt, slice_index_or}
use Rattle.std.specs.List.{list_any}
use Rattle.std.specs.Option.{option_or, option_map, unwrap_or}
use Rattle.conversion.specs.Lists.{first}
use Rattle.conversion.specs.Kinds.{place, type_of}
use Rattle.conversion.specs.Stages.{stage_flags}
use Rattle.conversion.specs.Counts.{counts_by, count_of, total}
use Rattle.conversion.specs.declared.kinds.Kind.{Kind}
use Rattle.conversion.specs.declared.kinds.Kind.TheVariants.{Sampler}
use Rattle.conversion.specs.declared.kinds.EntryKind.{EntryKind}
use Rattle.conversion.specs.declared.kinds.EntryKind.TheVariants as kind
use Rattle.conversion.specs.declared.entries.LayoutEntry.{LayoutEntry}
use Rattle.conversion.specs.declared.counts.DescriptorCounts.{DescriptorCounts}
use Rattle.conversion.specs.declared.counts.BucketKey.{BucketKey}
use Rattle.conversion.specs.declared.bindings.DeviceBinding.{DeviceBinding}
use Rattle.conversion.specs.declared.faults.LayoutFault.{LayoutFault}
use Rattle.conversion.specs.declared.faults.LayoutFault.TheVariants as fault

-- what stands past the end of a list of entries
abbrev pub no_entry : LayoutEntry
no_entry = record { binding = 0; kind = kind.Descriptor Sampler; array = 0; stages = 0 }

-- whether the entry is an array
abbrev pub is_array : LayoutEntry → Bool
is_array e = not (e.array == 0)

-- an entry counts for its array size, or for 1
abbrev pub entry_count : LayoutEntry → ℕ
entry_count e = cond (is_array e) e.array 1

-- whether it asks for descriptors of a kind
abbrev pub is_kind : Kind → EntryKind → Bool
is_kind k (kind.Descriptor l) = place l == place k
is_kind k kind.ExternalTexture = false

-- how many descriptors of a kind it counts for
abbrev pub count_of_kind : Kind → LayoutEntry → ℕ
count_of_kind k e = cond (is_kind k e.kind) (entry_count e) 0

-- the eight counts: each entry once
abbrev pub counts_of : List LayoutEntry → DescriptorCounts
counts_of es = counts_by (λ k. sum_by (count_of_kind k) es)

-- counts with one entry more
abbrev pub counting : DescriptorCounts → LayoutEntry → DescriptorCounts
counting c e = counts_by (λ k. count_of c k + count_of_kind k e)

-- whether a layout has an array
abbrev pub has_array : List LayoutEntry → Bool
has_array es = list_any is_array es

-- the key of its bucket
abbrev pub key_of : List LayoutEntry → BucketKey
key_of es = record { counts = counts_of es; arrays = has_array es }

-- arrays may be updated after binding (1), and only part of them be bound (4)
abbrev pub binding_flags : Bool → LayoutEntry → ℕ
binding_flags partial e = cond (is_array e) (cond partial (1 + 4) 1) 0

-- binding i of the device layout is entry i; no key counts type 1, which stands for an external texture
abbrev pub device_binding : Bool → LayoutEntry → DeviceBinding
device_binding partial e = record { descriptor_type = unwrap_or (type_of e.kind) 1; count = entry_count e; stages = stage_flags e.stages; flags = binding_flags partial e }

-- all of them
abbrev pub device_bindings : Bool → List LayoutEntry → List DeviceBinding
device_bindings partial es = map (device_binding partial) es

-- what stands in a row without a binding
abbrev pub no_binding : DeviceBinding
no_binding = record { descriptor_type = 0; count = 0; stages = 0; flags = 0 }

-- 32 rows: a binding for each entry, as far as they go, and nothing in the others
abbrev pub binding_rows : Bool → List LayoutEntry → List DeviceBinding
binding_rows partial es = device_bindings partial (take 32 es) ++ replicate (32 - length es) no_binding

-- the layout flag: with an array its sets are of pools for update after bind (2)
abbrev pub layout_flags : BucketKey → ℕ
layout_flags key = cond key.arrays 2 0

-- the pool flags: sets can be freed (1), and updated after binding where there is an array (2)
abbrev pub pool_flags : BucketKey → ℕ
pool_flags key = cond key.arrays (1 + 2) 1

-- why entry i is refused: its binding number is not greater than the one before
abbrev pub out_of_order : List LayoutEntry → ℕ → Bool
out_of_order es i = nat_lt 0 i && nat_le (slice_index_or es i no_entry).binding (slice_index_or es (i - 1) no_entry).binding

-- whether this is an external texture
abbrev pub is_external : EntryKind → Bool
is_external (kind.Descriptor k) = false
is_external kind.ExternalTexture = true

-- why entry i is refused: it is an external texture
abbrev pub external : List LayoutEntry → ℕ → Bool
external es i = is_external (slice_index_or es i no_entry).kind

-- why entry i is refused: the descriptors up to and with it are more than a 32-bit number
abbrev pub overfull : List LayoutEntry → ℕ → Bool
overfull es i = nat_lt 4294967295 (sum_by entry_count (take (suc i) es))

-- what a test answers: the refusal that it finds, or none
abbrev pub Finds : {X F : Type 0} → Option F → Result X F → Type 0
Finds o r = MatchResult r (λ _. o ≡ None) (λ f. o ≡ Some f)

-- refusal 1: there are more than 32 entries
abbrev pub too_many : List LayoutEntry → Option LayoutFault
too_many es = cond (nat_lt 32 (length es)) (Some fault.TooManyEntries) None

-- refusal 2, with the first entry that is out of order
abbrev pub misordered : List LayoutEntry → Option LayoutFault
misordered es = option_map fault.BindingOrder (first (out_of_order es) (length es))

-- refusal 3, with the first external texture
abbrev pub with_external : List LayoutEntry → Option LayoutFault
with_external es = option_map fault.ExternalTexture (first (external es) (length es))

-- refusal 4, with the first entry at which the total passes 32 bits
abbrev pub overflowing : List LayoutEntry → Option LayoutFault
overflowing es = option_map fault.TooManyDescriptors (first (overfull es) (length es))

-- the first refusal, in the order of their numbers
abbrev pub layout_refusal : List LayoutEntry → Option LayoutFault
layout_refusal es = option_or (too_many es) (option_or (misordered es) (option_or (with_external es) (overflowing es)))

-- a value, or the refusal that stands in its way
abbrev pub unless_refused : {F X : Type 0} → Option F → X → Result X F
unless_refused None x = Ok x
unless_refused (Some f) x = Err f

-- what is answered: the key of the layout's bucket, or the first refusal
abbrev pub layout_answer : List LayoutEntry → Result BucketKey LayoutFault
layout_answer es = unless_refused (layout_refusal es) (key_of es)

-- Entries that make a layout: at most 32, their bindings ascend, each is of a kind, and they count for a 32-bit number of descriptors.
pub record WellFormed (es : List LayoutEntry) : Type 0 where
  pub few : length es ≤ 32
  pub ascending : (i j : ℕ) → i < j → j < length es → (slice_index_or es i no_entry).binding < (slice_index_or es j no_entry).binding
  pub known : (i : ℕ) → i < length es → external es i ≡ false
  pub counted : sum_by entry_count es < 2 ^ 32

-- a key exactly where the entries make a layout, and then it counts each of their descriptors once
abbrev pub Judged : List LayoutEntry → Result BucketKey LayoutFault → Type 0
Judged es r = MatchResult r (λ key. WellFormed es × (total key.counts ≡ sum_by entry_count es)) (λ f. WellFormed es → ⊥)
