use Rattle.std.proofs.Common.{sym}
use Rattle.clock_track.proofs.Noted.{bounds-kept}
use Rattle.clock_track.proofs.clock.RingRows.bounds.Goals as goal

pub returns : goal.returns
returns c shift row all there = (bounds-kept shift c.args.self.now.rows.now.items c.args.place c.in-Some.kept.now row (sym c.in-Some.ensures) all there).0
