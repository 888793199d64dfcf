-- Laws of counts: entry by entry, and all kinds together.
use Rattle.std.proofs.Common.{◌≡◌, ℕ, suc, ◌+◌, ◌<◌, ◌≤◌, Bool, true, false, cond, List, [], ◌∷◌, length, get_or, take, sum_by, sym, refl, ap, ◌∙◌, ap₂, add-one, arith}
use mathlib.Core.Path.{fun_ext}
use Rattle.std.proofs.lemmas.Bool.Decides.{nat_tests}
use Rattle.std.proofs.lemmas.List.Sums.{sum_by-cons, sum_by_more}
use Rattle.conversion.specs.Counts.{counts_by, count_of, total}
use Rattle.conversion.specs.Layouts.{is_kind, is_external, entry_count, count_of_kind, counts_of, counting, has_array, key_of, overfull, external}
use Rattle.conversion.specs.declared.kinds.Kind.{Kind}
use Rattle.conversion.specs.declared.kinds.Kind.TheVariants.{Sampler, SampledImage, StorageImage, UniformBuffer, UniformBufferDynamic, StorageBuffer, StorageBufferDynamic, AccelerationStructure}
use Rattle.conversion.specs.declared.kinds.EntryKind.{EntryKind}
use Rattle.conversion.specs.declared.kinds.EntryKind.TheVariants.{Descriptor, ExternalTexture}
use Rattle.conversion.specs.declared.counts.DescriptorCounts.{DescriptorCounts}
use Rattle.conversion.specs.declared.counts.BucketKey.{BucketKey}
use Rattle.conversion.specs.declared.entries.LayoutEntry.{LayoutEntry}
use Rattle.conversion.proofs.Numbers.{by_kind}

-- eight counts are what they are of each kind
pub counts-by : (f : Kind → ℕ) (c : DescriptorCounts) → ((k : Kind) → count_of c k ≡ f k) → c ≡ counts_by f
counts-by f c e = ap counts_by (fun_ext e)

-- and of each kind what they were made of
pub count_of-counts_by : (f : Kind → ℕ) (k : Kind) → count_of (counts_by f) k ≡ f k
count_of-counts_by f = by_kind (λ k. count_of (counts_by f) k ≡ f k) refl refl refl refl refl refl refl refl

-- one entry more is counted for its kind
pub counts_more : (es : List LayoutEntry) (i : ℕ) (d : LayoutEntry) (b c : DescriptorCounts) → i < length es → b ≡ counts_of (take i es) → c ≡ counting b (get_or es i d) → c ≡ counts_of (take (i + 1) es)
counts_more es i d b c h p q =
    q
    ∙ (ap (λ x. counting x (get_or es i d)) p
    ∙ ap counts_by (fun_ext (λ k. ap (λ n. n + count_of_kind k (get_or es i d)) (count_of-counts_by (λ l. sum_by (count_of_kind l) (take i es)) k) ∙ sym (sum_by_more (count_of_kind k) es i d h))))

pub key_of_lem : (es : List LayoutEntry) (c : DescriptorCounts) (b : Bool) → c ≡ counts_of es → b ≡ has_array es → record { counts = c; arrays = b } ≡ key_of es
key_of_lem es c b p q = ap₂ {C = BucketKey} (λ x y. record { counts = x; arrays = y }) p q

-- an external texture's count
abbrev outside : LayoutEntry → ℕ
outside e = cond (is_external e.kind) (entry_count e) 0

-- an entry counts for one kind, or is an external texture
one_kind : (k : EntryKind) (n : ℕ) → cond (is_kind Sampler k) n 0 + cond (is_kind SampledImage k) n 0 + cond (is_kind StorageImage k) n 0 + cond (is_kind UniformBuffer k) n 0 + cond (is_kind UniformBufferDynamic k) n 0 + cond (is_kind StorageBuffer k) n 0 + cond (is_kind StorageBufferDynamic k) n 0 + cond (is_kind AccelerationStructure k) n 0 + cond (is_external k) n 0 ≡ n
one_kind (Descriptor Sampler) n = omega arith
one_kind (Descriptor SampledImage) n = omega arith
one_kind (Descriptor StorageImage) n = omega arith
one_kind (Descriptor UniformBuffer) n = omega arith
one_kind (Descriptor UniformBufferDynamic) n = omega arith
one_kind (Descriptor StorageBuffer) n = omega arith
one_kind (Descriptor StorageBufferDynamic) n = omega arith
one_kind (Descriptor AccelerationStructure) n = omega arith
one_kind ExternalTexture n = omega arith

-- all kinds and the external textures together are all entries, each once
pub counts_total : (es : List LayoutEntry) → total (counts_of es) + sum_by outside es ≡ sum_by entry_count es
counts_total [] = refl
counts_total (e ∷ es) =
    omega (
      arith,
      counts_total es,
      one_kind e.kind (entry_count e),
      sum_by-cons entry_count e es,
      sum_by-cons outside e es,
      sum_by-cons (count_of_kind Sampler) e es,
      sum_by-cons (count_of_kind SampledImage) e es,
      sum_by-cons (count_of_kind StorageImage) e es,
      sum_by-cons (count_of_kind UniformBuffer) e es,
      sum_by-cons (count_of_kind UniformBufferDynamic) e es,
      sum_by-cons (count_of_kind StorageBuffer) e es,
      sum_by-cons (count_of_kind StorageBufferDynamic) e es,
      sum_by-cons (count_of_kind AccelerationStructure) e es,
    )

-- no external texture counts for nothing
none_outside : (es : List LayoutEntry) → ((i : ℕ) → i < length es → external es i ≡ false) → sum_by outside es ≡ 0
none_outside [] h = refl
none_outside (e ∷ es) h =
    let here : is_external e.kind ≡ false = h 0 (omega arith) in
    let this : outside e ≡ 0 = ap (λ b. cond b (entry_count e) 0) here in
    omega (arith, sum_by-cons outside e es, none_outside es (λ i l. h (suc i) (omega (arith, l))))

-- what the test of the running total says
pub over : (es : List LayoutEntry) (i : ℕ) → 4294967295 < sum_by entry_count (take (i + 1) es) → overfull es i ≡ true
over es i h = let h' = rw (add-one i) at h in grind (arith, nat_tests)

pub under : (es : List LayoutEntry) (i : ℕ) → sum_by entry_count (take (i + 1) es) ≤ 4294967295 → overfull es i ≡ false
under es i h = let h' = rw (add-one i) at h in grind (arith, nat_tests)

-- with no external texture, the eight counts are all that the entries count for
pub counts_all : (es : List LayoutEntry) → ((i : ℕ) → i < length es → external es i ≡ false) → total (counts_of es) ≡ sum_by entry_count es
counts_all es h = omega (arith, counts_total es, none_outside es h)
