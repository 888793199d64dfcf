use Rattle.std.proofs.Common.{refl, ◌∙◌, arith, length-set}
use Rattle.segments.specs.Places.{length_in}
use Rattle.segments.proofs.Sums.{sum_within}
use Rattle.segments.proofs.Placed.{changed, lowered, used_after}
use Rattle.segments.proofs.Segments.clear.Goals as goal

pub lower-requires : goal.lower-requires
lower-requires g c =
    let w = sum_within (length_in c.args.self.now.lengths) c.args.i g.row.S c.if-i.true in
    (omega arith, omega arith)

pub invariant_of-self : goal.invariant_of-self
invariant_of-self g c =
    let ls = c.args.self.now.lengths in
    let u = used_after ls g.row.S c.args.i c.args.self.now.all c.if-i.true 0 in
    record { all = length-set ls c.args.i 0 ∙ c.args.self.now.all; fits = omega arith }

pub returns-then-i : goal.returns-then-i
returns-then-i g c =
    let s = c.args.self.now in
    record {
      lengths = changed s.lengths g.row.S c.args.i s.all c.if-i.true 0;
      size = refl {a = s.records.len};
      elements = lowered s.lengths g.row.S c.args.i s.all c.if-i.true _ s.records c.lower.new.records _ _ c.deref_mut.ensures.value (omega arith) c.start-start.ensures c.used-end.ensures c.lower.ensures;
    }
