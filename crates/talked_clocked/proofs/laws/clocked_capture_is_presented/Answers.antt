use Rattle.std.proofs.Common.{List, pos, sym, subst}
use Rattle.pcap_frames.specs.Capture.{Record}
use Rattle.listener.specs.Heard.{shown_of}
use Rattle.listener.specs.Laws.{HearsTalker}
use Rattle.talker.specs.Frames.{records}
use Rattle.talker.specs.Journal.{journal}
use Rattle.talker.proofs.TalkLemmas.{audio_plan}
use Rattle.talked_clocked.specs.Clocked.{ArePresentedFrom, first_covered}
use Rattle.talked_clocked.proofs.Clocked.{all_presented}
use Rattle.talked_clocked.proofs.ClockedCapture.{whole_heard}
use Rattle.talked_clocked.proofs.laws.clocked_capture_is_presented.Goals as goal

pub returns : goal.returns
returns c plan crf input listen h =
    let p = journal plan input in
    let same = c.capture_reads_back.ensures.records plan input (audio_plan plan h.talk.talked) h.talk.limit in
    let heard = subst (λ (k : List Record). HearsTalker (pos 0) p listen k) same (c.whole_capture_is_heard.ensures plan input listen h.talk) in
    let w = whole_heard plan crf input listen h heard (record {
      stream = λ n r. c.carried_packet_is_delivered.ensures.belongs (pos 0) p listen.lead n r heard.conforming;
      copy = λ n frame r. c.carried_packet_is_delivered.ensures.copy p listen.lead n frame r;
      clock = λ m r. c.carried_clock_packet_is_delivered.ensures.belongs (pos 0) p m r heard.conforming;
      clock_copy = λ m frame r. c.carried_clock_packet_is_delivered.ensures.copy p m frame r;
    }) in
    subst (λ (k : List Record). ArePresentedFrom p (first_covered crf plan) (shown_of listen k)) (sym same) (all_presented plan crf input listen (records plan input) w.origins w.whole)
