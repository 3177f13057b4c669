use Rattle.talker.specs.Frames.{capture}
use Rattle.talker.specs.Journal.{journal}
use Rattle.talker.proofs.TalkLemmas.{audio_plan}
use Rattle.talked_presented.proofs.Files.{file_heard}
use Rattle.talked_clocked.specs.Clocked.{clocked_listener}
use Rattle.talked_clocked.proofs.ClockedCapture.{default_hears}
use Rattle.talked_clocked.proofs.laws.clocked_files_are_heard.Goals as goal

pub returns : goal.returns
returns c = λ plan crf input h.
    file_heard (journal plan input) (clocked_listener plan.id crf.id) (capture plan input) (c.capture_reads_back.ensures.refusal plan input (audio_plan plan h.talked) h.limit)
    (c.whole_capture_is_heard.ensures plan input (clocked_listener plan.id crf.id) (default_hears plan crf input h).talk)
