-- Kinds by their cases, and steps of the loop over stage bits.
use Rattle.std.proofs.Common.{◌≡◌, ℕ, ◌+◌, ◌*◌, ◌%◌, ◌^◌, ◌<◌, get_or, add-one, arith}
use lib.Bits.{bit_and, bit_or}
use Rattle.std.proofs.lemmas.Nat.{one_shl}
use Rattle.std.proofs.lemmas.Bool.Decides.{nat_tests}
use Rattle.conversion.specs.declared.kinds.Kind.{Kind}
use Rattle.conversion.specs.declared.kinds.Kind.TheVariants.{Sampler, SampledImage, StorageImage, UniformBuffer, UniformBufferDynamic, StorageBuffer, StorageBufferDynamic, AccelerationStructure}
use Rattle.conversion.specs.Stages.{stages_below, stage_table}

-- what holds of each of the eight holds of every kind
pub by_kind : (P : Kind → Type 0) → P Sampler → P SampledImage → P StorageImage → P UniformBuffer → P UniformBufferDynamic → P StorageBuffer → P StorageBufferDynamic → P AccelerationStructure → (k : Kind) → P k
by_kind P a b c d e f g h Sampler = a
by_kind P a b c d e f g h SampledImage = b
by_kind P a b c d e f g h StorageImage = c
by_kind P a b c d e f g h UniformBuffer = d
by_kind P a b c d e f g h UniformBufferDynamic = e
by_kind P a b c d e f g h StorageBuffer = f
by_kind P a b c d e f g h StorageBufferDynamic = g
by_kind P a b c d e f g h AccelerationStructure = h

pub stage_set : (s k f : ℕ) → k < 32 → f ≡ stages_below k s → (bit_and s ((1 * 2 ^ k) % 2 ^ 32) ≡ 0 → ⊥) → bit_or f (get_or stage_table k 0) ≡ stages_below (k + 1) s
stage_set s k f h e t = let p = one_shl k 32 h in let q = rw p at t in rw (add-one k, e) (grind (arith, nat_tests))

pub stage_clear : (s k f : ℕ) → k < 32 → f ≡ stages_below k s → bit_and s ((1 * 2 ^ k) % 2 ^ 32) ≡ 0 → f ≡ stages_below (k + 1) s
stage_clear s k f h e t = let p = one_shl k 32 h in let q = rw p at t in rw (add-one k, q, e)
