use Rattle.talk_video.proofs.VideoParts.{frame_length}
use Rattle.talk_video.proofs.video.VideoStream.frame_size.Goals as goal

pub returns : goal.returns
returns c =
    frame_length c.args.self.now c.args.n c.unit_of-unit.result c.part.result c.body-body.result.now c.counted_header.result
    c.unit_of-unit.ensures.value c.part.ensures c.body-body.ensures.value c.counted_header.ensures
