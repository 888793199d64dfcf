-- Descriptors as a device stores them, and what the meaning has in their place. Assumes nothing.
use Rattle.std.specs.Prelude.{◌≡◌}
use Rattle.device.specs.declared.records.Content as stored
use Rattle.device.specs.declared.records.Content.TheVariants as variant
use Rattle.device.specs.declared.records.Descriptor as stored_whole
use Rattle.conversion.specs.Kinds.{type_number}
use Rattle.device.specs.Meaning.{Content, image, buffer, acceleration, Descriptor}

-- what a stored content says
abbrev pub said : stored.Content → Content
said (variant.Image r) = image r
said (variant.Buffer r) = buffer r
said (variant.Acceleration r) = acceleration r

-- what a stored descriptor says
abbrev pub described : stored_whole.Descriptor → Descriptor
described d = record { descriptor_type = type_number d.kind; content = said d.content }

-- no two stored descriptors say the same
abbrev pub StoredApart : Type 0
StoredApart = (a b : stored_whole.Descriptor) → described a ≡ described b → a ≡ b
