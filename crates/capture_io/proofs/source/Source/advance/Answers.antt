use Rattle.std.proofs.Common.{subst}
use Rattle.capture_io.specs.Source.{Sourcing}
use Rattle.capture_io.specs.state.Source.{GivesUp}
use Rattle.capture_io.proofs.Lending.{advances}
use Rattle.capture_io.proofs.source.Source.advance.Goals as goal

pub returns : goal.returns
returns c =
    let gone = subst (λ (s : Sourcing). GivesUp s c.give_up.new.feed) c.self.view_is c.give_up.ensures in
    rw c.is_some.ensures (advances _ c.give_up.new.feed _ gone c.whole_ahead-self-inside.ensures.ahead)
