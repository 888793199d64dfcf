use Rattle.std.proofs.Common.{◌<◌, ◌^◌, take, sum, rules, arith}
use Rattle.std.proofs.iter.runs.Made.{chains}
use Rattle.device.proofs.Below.{sum_by-take}
use Rattle.segments.specs.Places.{length_in}
use Rattle.segments.proofs.Sums.{sum_up_to}
use Rattle.segments.proofs.Segments.start.Goals as goal

pub sum-requires-clause-fits : goal.sum-requires-clause-fits
sum-requires-clause-fits g c =
    let ls = c.args.self.now.lengths in
    let is = sum_by-take (λ x. x) ls 0 c.args.i (omega arith) in
    let up = sum_up_to (length_in ls) c.args.i g.row.S c.requires in
    let fits = c.args.self.now.fits in
    let small : sum (take c.args.i ls) < 2 ^ 64 = omega arith in
    search (rules, chains)

pub returns : goal.returns
returns g c =
    let ls = c.args.self.now.lengths in
    let is = sum_by-take (λ x. x) ls 0 c.args.i (omega arith) in
    search (rules, chains)
