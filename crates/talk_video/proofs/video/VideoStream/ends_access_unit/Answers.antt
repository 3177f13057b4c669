use Rattle.std.proofs.Common.{ap}
use Rattle.talk_video.specs.declared.units.NalUnit.{NalUnit}
use Rattle.talk_video.proofs.VideoParts.{ends_is}
use Rattle.talk_video.proofs.video.VideoStream.ends_access_unit.Goals as goal

pub returns-else-n-self : goal.returns-else-n-self
returns-else-n-self c =
    ends_is c.args.self.now c.args.n c.args.unit.access_unit c.unit_of.result.access_unit c.requires.packet.video c.if-n-self.false
    (ap (λ (u : NalUnit). u.access_unit) c.unit_of.ensures.value) (ap (λ (u : NalUnit). u.access_unit) c.requires.value)
