use Rattle.std.proofs.Common.{◌≡◌, w64, to_z, of_z, arith}
use Rattle.std.proofs.lemmas.Int.{ints}
use Rattle.clock_track.proofs.LineFacts.{clock_line}
use Rattle.clock_track.proofs.over.line_among.Goals as goal

pub returns-in-Some-clause-line : goal.returns-in-Some-clause-line
returns-in-Some-clause-line g c =
    let same : to_z w64 (of_z w64 c.args.query.now.instant) ≡ c.args.query.now.instant = omega (arith, ints) in
    rw (c.answer.ensures, same) (clock_line c.in-Some.pair c.args.query.now.rate c.args.query.now.instant c.args.query.now.some (omega arith) c.in-Some.ensures.covering)
