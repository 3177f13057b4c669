use Rattle.std.proofs.Common.{List, pos, sym, subst}
use Rattle.pcap_frames.specs.Capture.{Record}
use Rattle.listener.specs.Heard.{shown_of}
use Rattle.listener.specs.Laws.{by_clock}
use Rattle.talker.specs.Journal.{journal}
use Rattle.talked_presented.specs.Whole.{ArePresented, unit_ends}
use Rattle.talked_headline.proofs.Talked.{video_plan}
use Rattle.talked_presented.proofs.VideoSent.{video_presented}
use Rattle.talked_presented.proofs.laws.whole_video_is_presented.Goals as goal

pub returns : goal.returns
returns c plan input listen h =
    let p = journal plan input in
    let is_plan = video_plan plan h.last_stamp h.kind h.talked in
    let conforming = c.journal_conforms.ensures.conforms plan input is_plan h.stream_id h.limit in
    subst (λ (l : List Record). ArePresented (by_clock listen) p (unit_ends plan input) (shown_of listen l)) (sym (c.capture_reads_back.ensures.records plan input is_plan h.limit))
    (video_presented plan input listen h conforming (record {
      stream = λ n r. c.carried_packet_is_delivered.ensures.belongs (pos 0) p listen.lead n r conforming;
      copy = λ n frame r. c.carried_packet_is_delivered.ensures.copy p listen.lead n frame r;
      clock = λ m r. c.carried_clock_packet_is_delivered.ensures.belongs (pos 0) p m r conforming;
      clock_copy = λ m frame r. c.carried_clock_packet_is_delivered.ensures.copy p m frame r;
    }))
