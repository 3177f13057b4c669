use Rattle.std.proofs.Common.{List, None, pos, sym, subst}
use Rattle.pcap_frames.specs.Capture.{Record}
use Rattle.listener.specs.Laws.{HearsTalker}
use Rattle.talker.specs.Frames.{capture}
use Rattle.talker.specs.Journal.{journal}
use Rattle.talker.proofs.TalkLemmas.{audio_plan}
use Rattle.talked_headline.proofs.Talked.{stream_is, video_expects, video_plan}
use Rattle.talked_presented.specs.Whole.{default_listener}
use Rattle.talked_presented.proofs.Defaults.{defaults_hear}
use Rattle.talked_presented.proofs.Files.{file_heard}
use Rattle.talked_presented.proofs.laws.files_are_heard.Goals as goal

pub returns-clause-audio : goal.returns-clause-audio
returns-clause-audio c = λ plan input h.
    file_heard (journal plan input) (default_listener plan.id) (capture plan input) (c.capture_reads_back.ensures.refusal plan input (audio_plan plan h.talked) h.limit)
    (c.whole_capture_is_heard.ensures plan input (default_listener plan.id) (defaults_hear plan input h).talk)

pub returns-clause-h264 : goal.returns-clause-h264
returns-clause-h264 c = λ plan input h.
    let is_plan = video_plan plan h.last_stamp h.kind h.talked in
    file_heard (journal plan input) (default_listener plan.id) (capture plan input) (c.capture_reads_back.ensures.refusal plan input is_plan h.limit)
    (subst (λ (records : List Record). HearsTalker (pos 0) (journal plan input) (default_listener plan.id) records) (sym (c.capture_reads_back.ensures.records plan input is_plan h.limit)) (record {
      conforming = c.journal_conforms.ensures.conforms plan input is_plan h.stream_id h.limit;
      stream = stream_is plan input;
      clock = tt;
      delivered = c.capture_delivers.ensures.delivers plan input None 2000000 is_plan h.stream_id h.limit (video_expects plan h.last_stamp 2000000 h.kind);
    }))
