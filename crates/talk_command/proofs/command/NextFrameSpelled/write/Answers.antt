use Rattle.std.proofs.Common.{◌∙◌, sym, ap}
use Rattle.std.specs.Prelude.{slice_get}
use Rattle.talker.specs.Frames.{frames}
use Rattle.run_report.proofs.Sending.{turned_size}
use Rattle.run_report.specs.Made.{frame_bytes}
use Rattle.talk_command.proofs.command.NextFrameSpelled.write.Goals as goal

pub write-requires : goal.write-requires
write-requires c =
    let f = c.args.self.now in
    let t = f.talker.now in
    record { turn = f.next; room = c.requires ∙ turned_size (slice_get (frames t.plan t.input) t.given) f.turn f.next.next }

pub returns : goal.returns
returns c = sym (ap frame_bytes c.write.ensures)
