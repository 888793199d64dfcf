use Rattle.std.proofs.Common.{refl, ◌∙◌, arith, length-set}
use Rattle.segments.specs.Places.{length_in}
use Rattle.segments.proofs.Sums.{sum_within}
use Rattle.segments.proofs.Placed.{makeable, changed, raised, used_after}
use Rattle.segments.proofs.Segments.make.Goals as goal

pub raise-requires : goal.raise-requires
raise-requires g c =
    let ls = c.args.self.now.lengths in
    let m = makeable c.args.self.now c.args.i c.args.length c.if-not-can_make.ensures in
    let w = sum_within (length_in ls) c.args.i g.row.S m.0 in
    (omega arith, omega arith)

pub invariant_of-self : goal.invariant_of-self
invariant_of-self g c =
    let ls = c.args.self.now.lengths in
    let m = makeable c.args.self.now c.args.i c.args.length c.if-not-can_make.ensures in
    let u = used_after ls g.row.S c.args.i c.args.self.now.all m.0 c.args.length in
    record { all = length-set ls c.args.i c.args.length ∙ c.args.self.now.all; fits = omega arith }

pub returns : goal.returns
returns g c =
    let s = c.args.self.now in
    let m = makeable s c.args.i c.args.length c.if-not-can_make.ensures in
    record {
      answer = c.if-not-can_make.ensures;
      lengths = changed s.lengths g.row.S c.args.i s.all m.0 c.args.length;
      size = refl {a = s.records.len};
      elements = raised s.lengths g.row.S c.args.i s.all m.0 _ s.records c.raise.new.records _ _ c.deref_mut.ensures.value (omega arith) c.start-start.ensures c.used-end.ensures c.args.length m.1 c.raise.ensures;
    }
