use Rattle.std.proofs.Common.{length, refl, ap, sym, ◌∙◌}
use Rattle.std.specs.Option.{option_map}
use Rattle.conversion.specs.Layouts.{is_external, no_entry}
use Rattle.conversion.specs.declared.faults.LayoutFault.TheVariants.{ExternalTexture}
use Rattle.conversion.proofs.Searches.{first_position}
use Rattle.conversion.proofs.checks.check_kinds.Goals as goal

pub returns-in-Some : goal.returns-in-Some
returns-in-Some c =
    ap (option_map ExternalTexture) (sym (first_position (λ e. is_external e.kind) c.args.entries.now no_entry (length c.args.entries.now) refl) ∙ (sym c.first_external.ensures ∙ c.in-Some.is))

pub returns-in-None : goal.returns-in-None
returns-in-None c =
    ap (option_map ExternalTexture) (sym (first_position (λ e. is_external e.kind) c.args.entries.now no_entry (length c.args.entries.now) refl) ∙ (sym c.first_external.ensures ∙ c.in-None.is))
