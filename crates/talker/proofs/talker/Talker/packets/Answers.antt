use Rattle.std.proofs.Common.{sym, ◌∙◌}
use Rattle.talker.specs.state.Talking.{stream_in}
use Rattle.talker.proofs.StreamLemmas.{count_of}
use Rattle.talker.proofs.talker.Talker.packets.Goals as goal

pub returns : goal.returns
returns c = rw (← c.self.view_is) (c.self.invariant.packets ∙ sym (count_of (stream_in c.self.inside.source)))
