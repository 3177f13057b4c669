use Rattle.std.proofs.Common.{◌∙◌}
use Rattle.talker.proofs.TalkLemmas.{audio_plan}
use Rattle.talked_headline.proofs.Talked.{stream_is}
use Rattle.talked_headline.proofs.laws.talked_is_heard.Goals as goal

pub returns : goal.returns
returns c plan input places listen l = record {
  conforming = c.journal_conforms.ensures.conforms plan input (audio_plan plan l.talked) l.id l.limit;
  stream = l.stream ∙ stream_is plan input;
  clock = l.clock;
  delivered = c.losses_are_delivered.ensures.delivers plan input places listen.clock listen.lead l.talked l.id l.limit l.lead;
}
