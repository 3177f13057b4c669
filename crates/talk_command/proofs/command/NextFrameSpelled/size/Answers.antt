use Rattle.std.proofs.Common.{sym}
use Rattle.std.specs.Prelude.{slice_get}
use Rattle.talker.specs.Frames.{frames}
use Rattle.run_report.proofs.Sending.{turned_size}
use Rattle.talk_command.proofs.command.NextFrameSpelled.size.Goals as goal

pub returns : goal.returns
returns c =
    let f = c.args.self.now in
    let t = f.talker.now in
    sym (turned_size (slice_get (frames t.plan t.input) t.given) f.turn f.next.next)
