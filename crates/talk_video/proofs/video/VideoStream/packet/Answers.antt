use Rattle.talk_video.proofs.VideoParts.{packet_is}
use Rattle.talk_video.proofs.video.VideoStream.packet.Goals as goal

pub returns : goal.returns
returns c =
    packet_is c.args.self.now c.args.n c.unit_of-unit.result c.part-part.result c.body-body.result.now c.instant-instant.result c.counted_header.result
    c.bits_at.result
    c.stamp-stamp.result c.header.result c.ends_access_unit.result c.unit_of-unit.ensures.value c.part-part.ensures c.body-body.ensures.value
    c.instant-instant.ensures
    c.stamp-stamp.ensures c.counted_header.ensures c.header.ensures c.ends_access_unit.ensures c.bits_at.ensures
