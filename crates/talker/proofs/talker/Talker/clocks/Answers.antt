use Rattle.std.proofs.Common.{sym, ◌∙◌}
use Rattle.talker.specs.state.Talking.{stream_in}
use Rattle.talker.proofs.StreamLemmas.{count_clock}
use Rattle.talker.proofs.talker.Talker.clocks.Goals as goal

pub returns : goal.returns
returns c = rw (← c.self.view_is) (c.self.invariant.clocks ∙ sym (count_clock (stream_in c.self.inside.source)))
