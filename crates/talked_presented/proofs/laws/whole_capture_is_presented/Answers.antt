use Rattle.std.proofs.Common.{List, false, pos, sym, subst}
use Rattle.std.specs.List.{range_with_len}
use Rattle.pcap_frames.specs.Capture.{Record}
use Rattle.listener.specs.Heard.{shown_of}
use Rattle.listener.specs.Laws.{HearsTalker}
use Rattle.talker.specs.Frames.{records}
use Rattle.talker.specs.Journal.{journal}
use Rattle.talker.proofs.TalkLemmas.{audio_plan}
use Rattle.talked_presented.specs.Whole.{ArePresented}
use Rattle.talked_presented.proofs.Known.{each_known}
use Rattle.talked_presented.proofs.Sent.{are_timely, whole_caught}
use Rattle.talked_headline.proofs.Talked.{kind_heard}
use Rattle.talked_presented.proofs.Whole.{all_presented}
use Rattle.talked_presented.proofs.laws.whole_capture_is_presented.Goals as goal

pub returns : goal.returns
returns c plan input listen h =
    let l = h.talk in
    let p = journal plan input in
    let rs = records plan input in
    let is_plan = audio_plan plan l.talked in
    let kind = kind_heard plan input l.talked in
    let same = c.capture_reads_back.ensures.records plan input is_plan l.limit in
    let heard = subst (λ (k : List Record). HearsTalker (pos 0) p listen k) same (c.whole_capture_is_heard.ensures plan input listen l) in
    let w = whole_caught plan input listen l.talked h.alone l.limit l.lead heard (record {
      stream = λ n r. c.carried_packet_is_delivered.ensures.belongs (pos 0) p listen.lead n r heard.conforming;
      copy = λ n frame r. c.carried_packet_is_delivered.ensures.copy p listen.lead n frame r;
      clock = λ m r. c.carried_clock_packet_is_delivered.ensures.belongs (pos 0) p m r heard.conforming;
      clock_copy = λ m frame r. c.carried_clock_packet_is_delivered.ensures.copy p m frame r;
    }) in
    let timely = are_timely plan input listen rs l.talked h.alone kind h.without h.room w h.heads (λ n lt. each_known plan input listen rs h kind w n lt) in
    subst (λ (k : List Record). ArePresented false p (range_with_len 0 p.times.packets) (shown_of listen k)) (sym same) (all_presented (pos 0) p listen rs timely)
