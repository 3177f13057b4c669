use Rattle.stream_journal.proofs.Video.{conforms}
use Rattle.stream_journal.proofs.examples.video_talker_conforms.Goals as goal

pub returns : goal.returns
returns c = conforms
