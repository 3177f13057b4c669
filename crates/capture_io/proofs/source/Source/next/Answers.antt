use Rattle.std.proofs.Common.{◌∙◌, sym, subst}
use Rattle.capture_io.specs.Source.{Sourcing}
use Rattle.capture_io.specs.state.Source.{GivesUp}
use Rattle.capture_io.proofs.Lending.{lent_by, read_by}
use Rattle.capture_io.proofs.source.Source.next.Goals as goal

pub returns-then-is_some : goal.returns-then-is_some
returns-then-is_some g c =
    let gone = subst (λ (s : Sourcing). GivesUp s c.give_up.new.feed) c.self.view_is c.give_up.ensures in
    lent_by _ _ c.give_up.new.feed _ c.requires gone c.whole_ahead-self-inside.ensures.ahead (sym c.is_some.ensures ∙ c.if-is_some.true)

pub returns : goal.returns
returns g c =
    let gone = subst (λ (s : Sourcing). GivesUp s c.give_up.new.feed) c.self.view_is c.give_up.ensures in
    read_by _ _ _ c.give_up.new.feed _ _ _ gone (sym c.is_some.ensures ∙ c.if-is_some.false) c.next.ensures
