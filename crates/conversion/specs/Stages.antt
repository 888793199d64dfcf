-- Vulkan's flags for shader stages. Assumes nothing.
use Rattle.std.specs.Prelude.{ℕ, zero, suc, ◌^◌, Bool, cond, not, List, [], ◌∷◌, ◌==◌, bit_and, bit_or, slice_index}

-- the flag of each stage bit, from bit 0: vertex, fragment, compute, task, mesh, ray generation, miss, any hit, closest hit
abbrev pub stage_table : List ℕ
stage_table = 0x1 ∷ 0x10 ∷ 0x20 ∷ 0x40 ∷ 0x80 ∷ 0x100 ∷ 0x800 ∷ 0x200 ∷ 0x400 ∷ []

-- whether bit k is set
abbrev pub bit : ℕ → ℕ → Bool
bit n k = not (bit_and n (2 ^ k) == 0)

-- the flags of the stage bits below n that are set
abbrev pub stages_below : ℕ → ℕ → ℕ
stages_below zero s = 0
stages_below (suc n) s = cond (bit s n) (bit_or (stages_below n s) (slice_index stage_table n)) (stages_below n s)

-- the flags of the nine stage bits that are set; other bits are ignored
abbrev pub stage_flags : ℕ → ℕ
stage_flags s = stages_below 9 s
