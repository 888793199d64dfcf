-- What the definitions say together, and single results of them. Assumes nothing.
use Rattle.std.specs.Prelude.{◌≡◌, ℕ, [], ◌∷◌, Some, None}
use Rattle.conversion.specs.Kinds.{place, kind_at, type_number, kind_of_type}
use Rattle.conversion.specs.Layouts.{layout_refusal}
use Rattle.conversion.specs.declared.kinds.Kind.{Kind}
use Rattle.conversion.specs.declared.kinds.Kind.TheVariants.{Sampler}
use Rattle.conversion.specs.declared.kinds.EntryKind.TheVariants.{Descriptor}
use Rattle.conversion.specs.declared.entries.LayoutEntry.{LayoutEntry}
use Rattle.conversion.specs.declared.faults.LayoutFault.TheVariants.{TooManyDescriptors}

-- each kind is found again by its place and by its type number
abbrev pub KindsByNumber : Type 0
KindsByNumber = (k : Kind) → (kind_at (place k) ≡ Some k) × (kind_of_type (type_number k) ≡ Some k)

-- samplers at binding b, n of them in an array
abbrev pub samplers : ℕ → ℕ → LayoutEntry
samplers b n = record { binding = b; kind = Descriptor Sampler; array = n; stages = 1 }

-- counts of 4,294,967,295 and 1 are one too many, at entry 1; one less is not
abbrev pub TotalCases : Type 0
TotalCases =
    (layout_refusal (samplers 0 4294967295 ∷ samplers 1 0 ∷ []) ≡ Some (TooManyDescriptors 1))
    × (layout_refusal (samplers 0 4294967294 ∷ samplers 1 0 ∷ []) ≡ None)
