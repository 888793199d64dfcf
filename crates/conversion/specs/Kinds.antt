-- Kinds of descriptor, and Vulkan's type numbers for them. Assumes nothing.
use Rattle.std.specs.Prelude.{◌≡◌, ℕ, List, [], ◌∷◌, Some, None, Option, Result, MatchResult, ◌==◌, slice_index}
use Rattle.std.specs.List.{slice_get, find}
use Rattle.conversion.specs.declared.kinds.Kind.{Kind}
use Rattle.conversion.specs.declared.kinds.Kind.TheVariants.{Sampler, SampledImage, StorageImage, UniformBuffer, UniformBufferDynamic, StorageBuffer, StorageBufferDynamic, AccelerationStructure}
use Rattle.conversion.specs.declared.kinds.UnknownType.{UnknownType}
use Rattle.conversion.specs.declared.kinds.EntryKind.{EntryKind}
use Rattle.conversion.specs.declared.kinds.EntryKind.TheVariants.{Descriptor, ExternalTexture}

-- the kinds in key order
abbrev pub kinds : List Kind
kinds = Sampler ∷ SampledImage ∷ StorageImage ∷ UniformBuffer ∷ UniformBufferDynamic ∷ StorageBuffer ∷ StorageBufferDynamic ∷ AccelerationStructure ∷ []

-- the place of a kind in key order
abbrev pub place : Kind → ℕ
place Sampler = 0
place SampledImage = 1
place StorageImage = 2
place UniformBuffer = 3
place UniformBufferDynamic = 4
place StorageBuffer = 5
place StorageBufferDynamic = 6
place AccelerationStructure = 7

-- the kind at a place in key order
abbrev pub kind_at : ℕ → Option Kind
kind_at i = slice_get kinds i

-- Vulkan's type numbers in key order
abbrev pub type_numbers : List ℕ
type_numbers = 0 ∷ 2 ∷ 3 ∷ 6 ∷ 8 ∷ 7 ∷ 9 ∷ 1000150000 ∷ []

-- the type number of a kind
abbrev pub type_number : Kind → ℕ
type_number k = slice_index type_numbers (place k)

-- the kind that has a type number
abbrev pub kind_of_type : ℕ → Option Kind
kind_of_type t = find (λ k. type_number k == t) kinds

-- a type number read: the kind that has it, or the number where none has
abbrev pub Typed : ℕ → Result Kind UnknownType → Type 0
Typed t r = MatchResult r (λ k. kind_of_type t ≡ Some k) (λ u. (kind_of_type t ≡ None) × (u.0 ≡ t))

-- the type number of what an entry asks for; an external texture has none
abbrev pub type_of : EntryKind → Option ℕ
type_of (Descriptor k) = Some (type_number k)
type_of ExternalTexture = None
