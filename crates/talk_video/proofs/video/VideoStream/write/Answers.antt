use Rattle.std.proofs.Common.{subst, sym}
use Rattle.cvf_format.specs.Cvf.{Cvf, IsWritableCvf}
use Rattle.talk_video.proofs.VideoParts.{writable_in}
use Rattle.talk_video.proofs.video.VideoStream.write.Goals as goal

pub write_cvf-requires : goal.write_cvf-requires
write_cvf-requires c = subst (λ (p : Cvf). IsWritableCvf p) (sym c.packet.ensures)
    (writable_in c.args.self.now c.args.n c.requires.packet.video c.requires.packet.known)
