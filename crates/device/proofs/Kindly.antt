-- What a device counts of converted entries is what the entries count.
use Rattle.std.proofs.Common.{◌≡◌, ℕ, ◌+◌, Bool, false, cond, eqb, List, [], ◌∷◌, sum_by, unwrap_or, sym, refl, ap, ◌∙◌, ap₂}
use mathlib.Core.Path.{fun_ext}
use Rattle.std.proofs.lemmas.List.Sums.{sum_by-cons}
use Rattle.conversion.specs.Kinds.{type_number, type_of, place}
use Rattle.conversion.specs.Counts.{counts_by}
use Rattle.conversion.specs.Layouts.{is_kind, entry_count, count_of_kind, device_binding, device_bindings}
use Rattle.conversion.specs.declared.kinds.Kind.{Kind}
use Rattle.conversion.specs.declared.kinds.Kind.TheVariants.{Sampler, SampledImage, StorageImage, UniformBuffer, UniformBufferDynamic, StorageBuffer, StorageBufferDynamic, AccelerationStructure}
use Rattle.conversion.specs.declared.kinds.EntryKind.{EntryKind}
use Rattle.conversion.specs.declared.kinds.EntryKind.TheVariants as kind
use Rattle.conversion.specs.declared.entries.LayoutEntry.{LayoutEntry}
use Rattle.conversion.specs.declared.bindings.DeviceBinding.{DeviceBinding}
use Rattle.conversion.proofs.Numbers.{by_kind}
use Rattle.device.specs.Laws.{CountsAgree}

-- two kinds have one number exactly if they have one place
abbrev Same : Kind → Kind → Type 0
Same l k = eqb (type_number l) (type_number k) ≡ eqb (place l) (place k)

alike : (l : Kind) → Same l Sampler → Same l SampledImage → Same l StorageImage → Same l UniformBuffer → Same l UniformBufferDynamic → Same l StorageBuffer → Same l StorageBufferDynamic → Same l AccelerationStructure → (k : Kind) → Same l k
alike l = by_kind (Same l)

same : (l k : Kind) → Same l k
same =
    by_kind (λ l. (k : Kind) → Same l k) (alike Sampler refl refl refl refl refl refl refl refl)
    (alike SampledImage refl refl refl refl refl refl refl refl) (alike StorageImage refl refl refl refl refl refl refl refl)
    (alike UniformBuffer refl refl refl refl refl refl refl refl) (alike UniformBufferDynamic refl refl refl refl refl refl refl refl)
    (alike StorageBuffer refl refl refl refl refl refl refl refl) (alike StorageBufferDynamic refl refl refl refl refl refl refl refl)
    (alike AccelerationStructure refl refl refl refl refl refl refl refl)

-- the number that stands for an external texture is no kind's
abbrev Strange : Kind → Type 0
Strange k = eqb 1 (type_number k) ≡ false

kind_same : (e : EntryKind) (k : Kind) → eqb (unwrap_or (type_of e) 1) (type_number k) ≡ is_kind k e
kind_same (kind.Descriptor l) k = same l k
kind_same kind.ExternalTexture k = by_kind Strange refl refl refl refl refl refl refl refl k

-- how many descriptors of a kind a binding has
abbrev of_kind : Kind → DeviceBinding → ℕ
of_kind k b = cond (eqb b.descriptor_type (type_number k)) b.count 0

one_kind : (p : Bool) (k : Kind) (es : List LayoutEntry) → sum_by (of_kind k) (device_bindings p es) ≡ sum_by (count_of_kind k) es
one_kind p k [] = refl
one_kind p k (e ∷ es) =
    sum_by-cons (of_kind k) (device_binding p e) (device_bindings p es)
    ∙ (ap₂ ◌+◌ (ap (λ v. cond v (entry_count e) 0) (kind_same e.kind k)) (one_kind p k es)
    ∙ sym (sum_by-cons (count_of_kind k) e es))

pub counts_agree : CountsAgree
counts_agree p es = ap counts_by (fun_ext (λ k. one_kind p k es))
