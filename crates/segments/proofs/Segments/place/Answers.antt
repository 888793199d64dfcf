use Rattle.std.proofs.Common.{arith}
use Rattle.std.proofs.lemmas.Bool.Decides.{nat_tests}
use Rattle.segments.specs.Places.{length_in}
use Rattle.segments.proofs.Sums.{sum_within}
use Rattle.segments.proofs.Placed.{there}
use Rattle.segments.proofs.Segments.place.Goals as goal

pub overflow_add-result : goal.overflow_add-result
overflow_add-result g c =
    let ls = c.args.self.now.lengths in
    let l = there ls c.args.i c.args.j (omega arith) in
    let w = sum_within (length_in ls) c.args.i g.row.S (omega arith) in
    let f = c.args.self.now.fits in
    omega arith

pub returns-then-j-length : goal.returns-then-j-length
returns-then-j-length g c =
    let ls = c.args.self.now.lengths in
    let l = there ls c.args.i c.args.j (omega arith) in
    let w = sum_within (length_in ls) c.args.i g.row.S (omega arith) in
    let f = c.args.self.now.fits in
    record { at = grind (arith, nat_tests); within = omega arith }
