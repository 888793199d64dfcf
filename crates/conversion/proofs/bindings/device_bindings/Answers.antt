use Rattle.std.proofs.Common.{◌≡◌, set, length, take, get_or, ◌∙◌, ap₂, arith, length-set}
use Rattle.std.proofs.lemmas.List.{length-take-le, get_or-take}
use Rattle.conversion.specs.Layouts.{device_binding, no_binding, no_entry}
use Rattle.conversion.proofs.Rows.{row_more, row_end}
use Rattle.conversion.proofs.bindings.device_bindings.Goals as goal

pub loop-i-preserved : goal.loop-i-preserved
loop-i-preserved c =
    let es = c.args.entries.now in
    let i = c.loop-i.i in
    let long : length (take c.min.result es) ≡ c.min.result = length-take-le c.min.result es (omega arith) in
    let here = get_or-take c.min.result es i no_entry (omega (arith, long)) in
    let bound : c.device_binding.result ≡ device_binding c.args.partially_bound (get_or es i no_entry) = grind (arith, c.device_binding.ensures, here) in (
      ap₂ (λ rows b. set rows i b) c.loop-i.invariant.0 bound
          ∙ row_more (device_binding c.args.partially_bound) es no_entry no_binding 32 i (omega (arith, long)) (omega (arith, long)),
      simp length-set c.loop-i.invariant.1,
    )

pub returns : goal.returns
returns c =
    let es = c.args.entries.now in
    let long : length (take c.min.result es) ≡ c.min.result = length-take-le c.min.result es (omega arith) in
    c.loop-i.invariant.0 ∙ row_end (device_binding c.args.partially_bound) es no_binding 32 c.loop-i.i (omega (arith, long))
