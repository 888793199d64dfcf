-- Descriptors counted by kind. Assumes nothing.
use Rattle.std.specs.Prelude.{ℕ, sum_by}
use Rattle.conversion.specs.Kinds.{kinds}
use Rattle.conversion.specs.declared.kinds.Kind.{Kind}
use Rattle.conversion.specs.declared.kinds.Kind.TheVariants.{Sampler, SampledImage, StorageImage, UniformBuffer, UniformBufferDynamic, StorageBuffer, StorageBufferDynamic, AccelerationStructure}
use Rattle.conversion.specs.declared.counts.DescriptorCounts.{DescriptorCounts}

-- eight counts, from the count of each kind
abbrev pub counts_by : (Kind → ℕ) → DescriptorCounts
counts_by f = record { sampler = f Sampler; sampled_image = f SampledImage; storage_image = f StorageImage; uniform_buffer = f UniformBuffer; uniform_buffer_dynamic = f UniformBufferDynamic; storage_buffer = f StorageBuffer; storage_buffer_dynamic = f StorageBufferDynamic; acceleration_structure = f AccelerationStructure }

-- the count of one kind
abbrev pub count_of : DescriptorCounts → Kind → ℕ
count_of c Sampler = c.sampler
count_of c SampledImage = c.sampled_image
count_of c StorageImage = c.storage_image
count_of c UniformBuffer = c.uniform_buffer
count_of c UniformBufferDynamic = c.uniform_buffer_dynamic
count_of c StorageBuffer = c.storage_buffer
count_of c StorageBufferDynamic = c.storage_buffer_dynamic
count_of c AccelerationStructure = c.acceleration_structure

-- all eight together
abbrev pub total : DescriptorCounts → ℕ
total c = sum_by (count_of c) kinds
