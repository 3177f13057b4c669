use Rattle.std.proofs.Common.{◌∙◌}
use Rattle.talked_headline.proofs.Talked.{stream_is, video_expects, video_plan}
use Rattle.talked_headline.proofs.laws.talked_video_is_heard.Goals as goal

pub returns : goal.returns
returns c plan input places listen l =
    let p = video_plan plan l.last_stamp l.kind l.talked in
    record {
      conforming = c.journal_conforms.ensures.conforms plan input p l.stream_id l.limit;
      stream = l.stream ∙ stream_is plan input;
      clock = l.clock;
      delivered = c.losses_are_delivered.ensures.delivers_all plan input places listen.clock listen.lead p l.stream_id l.limit (video_expects plan l.last_stamp listen.lead l.kind) l.near;
    }
