-- The names that a script has for kinds and stages. Assumes nothing.
use Rattle.std.specs.Prelude.{ℕ, ◌^◌, cond, List, [], ◌∷◌, Some, codes, Option, position}
use Rattle.std.specs.Option.{option_map, option_flatten}
use Rattle.std.specs.Str.{bytes_eq}
use Rattle.conversion.specs.Kinds.{kind_at}
use Rattle.conversion.specs.declared.kinds.EntryKind.{EntryKind}
use Rattle.conversion.specs.declared.kinds.EntryKind.TheVariants.{Descriptor, ExternalTexture}

-- the names of the kinds, in key order
abbrev pub kind_names : List (List ℕ)
kind_names = codes "sampler" ∷ codes "sampled-image" ∷ codes "storage-image" ∷ codes "uniform-buffer" ∷ codes "uniform-buffer-dynamic" ∷ codes "storage-buffer" ∷ codes "storage-buffer-dynamic" ∷ codes "acceleration-structure" ∷ []

-- the names of the stages, from bit 0
abbrev pub stage_names : List (List ℕ)
stage_names = codes "vertex" ∷ codes "fragment" ∷ codes "compute" ∷ codes "task" ∷ codes "mesh" ∷ codes "ray-generation" ∷ codes "miss" ∷ codes "any-hit" ∷ codes "closest-hit" ∷ []

-- the kind that has the place of the word
abbrev pub kind_named : List ℕ → Option EntryKind
kind_named w = cond (bytes_eq w (codes "external-texture")) (Some ExternalTexture) (option_map Descriptor (option_flatten (option_map kind_at (position (bytes_eq w) kind_names))))

-- the stage's bit
abbrev pub stage_named : List ℕ → Option ℕ
stage_named w = option_map (λ i. 2 ^ i) (position (bytes_eq w) stage_names)
