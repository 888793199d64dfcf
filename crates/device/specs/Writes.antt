-- What writes put into sets. Assumes nothing.
use Rattle.std.specs.Prelude.{ℕ, ◌+◌, Bool, false, cond, not, ◌&&◌, List, [], ◌∷◌, length, Some, None, Option, ◌==◌, nat_le, nat_lt}
use Rattle.std.specs.List.{slice_get, list_any}
use Rattle.std.specs.Option.{option_map, option_or}
use Rattle.conversion.specs.Kinds.{kind_of_type}
use Rattle.conversion.specs.declared.kinds.Kind.{Kind}
use Rattle.conversion.specs.declared.kinds.Kind.TheVariants.{Sampler, SampledImage, StorageImage, UniformBuffer, UniformBufferDynamic, StorageBuffer, StorageBufferDynamic, AccelerationStructure}
use Rattle.conversion.specs.declared.bindings.DeviceBinding.{DeviceBinding}
use Rattle.device.specs.declared.records.ImageRecord.{ImageRecord}
use Rattle.device.specs.declared.records.BufferRecord.{BufferRecord}
use Rattle.device.specs.declared.records.AccelerationRecord.{AccelerationRecord}
use Rattle.device.specs.declared.records.Records.{Records}
use Rattle.device.specs.declared.records.Write.{Write}
use Rattle.device.specs.declared.records.RecordList.{RecordList}
use Rattle.device.specs.declared.records.RecordList.TheVariants.{Images, Buffers, Accelerations}
use Rattle.device.specs.Meaning.{Content, image, buffer, acceleration, Descriptor, LiveSet}

-- The lists that a call's writes take their records from.
pub record Lists : Type 0 where
  pub images : List ImageRecord
  pub buffers : List BufferRecord
  pub accelerations : List AccelerationRecord

-- the lists that records are lent from
abbrev pub lists_in : Records → Lists
lists_in r = record { images = r.images.now; buffers = r.buffers.now; accelerations = r.accelerations.now }

-- the list that holds a kind's records
abbrev pub records_of : Kind → RecordList
records_of Sampler = Images
records_of SampledImage = Images
records_of StorageImage = Images
records_of UniformBuffer = Buffers
records_of UniformBufferDynamic = Buffers
records_of StorageBuffer = Buffers
records_of StorageBufferDynamic = Buffers
records_of AccelerationStructure = Accelerations

-- how long it is
abbrev pub length_of : Lists → RecordList → ℕ
length_of l Images = length l.images
length_of l Buffers = length l.buffers
length_of l Accelerations = length l.accelerations

-- record i of it, if it is there
abbrev pub content_at : Lists → RecordList → ℕ → Option Content
content_at l Images i = option_map image (slice_get l.images i)
content_at l Buffers i = option_map buffer (slice_get l.buffers i)
content_at l Accelerations i = option_map acceleration (slice_get l.accelerations i)

-- whether the records of a write lie in their list; a type that is none of the eight has no list
abbrev pub lies : Lists → Write → Option Kind → Bool
lies l w None = false
lies l w (Some k) = nat_le (w.start + w.count) (length_of l (records_of k))

-- a descriptor by its parts
abbrev pub descriptor : ℕ → Content → Descriptor
descriptor t c = record { descriptor_type = t; content = c }

-- descriptor i of a write
abbrev pub descriptor_of : Lists → Write → ℕ → Option Kind → Option Descriptor
descriptor_of l w i None = None
descriptor_of l w i (Some k) = option_map (descriptor w.descriptor_type) (content_at l (records_of k) (w.start + i))

-- whether a binding of the set has the write's type, and room for its count of 1 or more
abbrev pub fits : Write → Option DeviceBinding → Bool
fits w None = false
fits w (Some b) = b.descriptor_type == w.descriptor_type && nat_le 1 w.count && nat_le w.count b.count

-- whether a write is valid for what stands under its set's handle
abbrev pub valid_in : Lists → Write → Option LiveSet → Bool
valid_in l w None = false
valid_in l w (Some s) = fits w (slice_get s.bindings w.binding) && w.element == 0 && lies l w (kind_of_type w.descriptor_type)

-- whether a write is valid for the binding that it goes to
abbrev pub valid_for : Lists → Write → Option DeviceBinding → Bool
valid_for l w b = fits w b && w.element == 0 && lies l w (kind_of_type w.descriptor_type)

-- whether a write is valid over these sets
abbrev pub valid : Lists → Write → (ℕ → Option LiveSet) → Bool
valid l w sets = valid_in l w (sets w.set)

-- whether a write covers an element: it goes to that binding of that set, and so far
abbrev pub covers : Write → ℕ → ℕ → ℕ → Bool
covers w h b j = w.set == h && w.binding == b && nat_lt j w.count

-- the last of some writes that is valid and covers an element
abbrev pub last_to : Lists → (ℕ → Option LiveSet) → ℕ → ℕ → ℕ → List Write → Option Write
last_to l sets h b j [] = None
last_to l sets h b j (w ∷ ws) = option_or (last_to l sets h b j ws) (cond (covers w h b j && valid l w sets) (Some w) None)

-- what an element holds then: the descriptor of that write, or what it held
abbrev pub holding : Lists → ℕ → Option Descriptor → Option Write → Option Descriptor
holding l j old None = old
holding l j old (Some w) = descriptor_of l w j (kind_of_type w.descriptor_type)

-- a set after some writes
abbrev pub set_after : Lists → List Write → (ℕ → Option LiveSet) → ℕ → LiveSet → LiveSet
set_after l ws sets h s = record { pool = s.pool; bindings = s.bindings; written = λ b j. holding l j (s.written b j) (last_to l sets h b j ws) }

-- all sets after some writes; validity is judged by what is held before, since no write changes what it looks at
abbrev pub after_writes : Lists → List Write → (ℕ → Option LiveSet) → ℕ → Option LiveSet
after_writes l ws sets h = option_map (set_after l ws sets h) (sets h)

-- whether one of the writes is invalid
abbrev pub some_invalid : Lists → List Write → (ℕ → Option LiveSet) → Bool
some_invalid l ws sets = list_any (λ w. not (valid l w sets)) ws
