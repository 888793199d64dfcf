-- The bindings of a device layout, and what they add up to. Assumes nothing.
use Rattle.std.specs.Prelude.{ℕ, cond, List, take, sum_by, ◌==◌, nat_lt}
use Rattle.conversion.specs.Kinds.{type_number}
use Rattle.conversion.specs.declared.kinds.Kind.{Kind}
use Rattle.conversion.specs.declared.bindings.DeviceBinding.{DeviceBinding}

-- how many descriptors of a kind a binding has
abbrev pub of_kind : Kind → DeviceBinding → ℕ
of_kind k b = cond (b.descriptor_type == type_number k) b.count 0

-- how many of a kind bindings have
abbrev pub kind_count : Kind → List DeviceBinding → ℕ
kind_count k bs = sum_by (of_kind k) bs

-- how many descriptors bindings have
abbrev pub total_of : List DeviceBinding → ℕ
total_of bs = sum_by (λ b. b.count) bs

-- how many of them stand before binding i
abbrev pub start_of : List DeviceBinding → ℕ → ℕ
start_of bs i = total_of (take i bs)

-- a number held to another
abbrev pub at_most : ℕ → ℕ → ℕ
at_most n most = cond (nat_lt most n) most n
