use Rattle.std.proofs.Common.{◌∙◌, pos, sym, subst, List}
use Rattle.pcap_frames.specs.Capture.{Record}
use Rattle.listener.specs.Laws.{HearsTalker}
use Rattle.talker.specs.Journal.{journal}
use Rattle.talker.proofs.TalkLemmas.{audio_plan}
use Rattle.talked_headline.proofs.Talked.{stream_is}
use Rattle.talked_headline.proofs.laws.whole_capture_is_heard.Goals as goal

pub returns : goal.returns
returns c plan input listen l =
    let is_plan = audio_plan plan l.talked in
    subst (λ (records : List Record). HearsTalker (pos 0) (journal plan input) listen records) (sym (c.capture_reads_back.ensures.records plan input is_plan l.limit)) (record {
      conforming = c.journal_conforms.ensures.conforms plan input is_plan l.id l.limit;
      stream = l.stream ∙ stream_is plan input;
      clock = l.clock;
      delivered = c.capture_delivers.ensures.delivers plan input listen.clock listen.lead is_plan l.id l.limit l.lead;
    })
