use Rattle.std.proofs.Common.{refl, arith}
use Rattle.segments.specs.Places.{length_in}
use Rattle.segments.proofs.Placed.{written_at}
use Rattle.segments.proofs.Segments.write.Goals as goal

pub returns : goal.returns
returns g c =
    let w = written_at c.args.self.now.lengths c.args.self.now.records.items c.args.i c.args.j c.in-Some.place c.args.x (omega (arith, c.in-Some.ensures.within)) c.in-Some.ensures.at in
    record { answer = w.0; lengths = refl {a = length_in c.args.self.now.lengths}; size = refl {a = c.args.self.now.records.len}; elements = w.1 }
