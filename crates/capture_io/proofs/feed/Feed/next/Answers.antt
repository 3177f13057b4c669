use Rattle.std.proofs.Common.{◌≡◌, IsSome, None, ap, refl, sym, subst, ◌∙◌}
use Rattle.capture_io.specs.Source.{Sourcing, GivesNext, held_in}
use Rattle.capture_io.specs.state.Source.{ReadsOn}
use Rattle.capture_io.proofs.Giving.{gives_again, gives_next}
use Rattle.capture_io.proofs.feed.Feed.next.Goals as goal
use Rattle.avtp_base.proofs.Results.{not_some}

pub returns-then-is_some : goal.returns-then-is_some
returns-then-is_some g c = gives_again _ c.args.self.now c.self.inside.ended c.requires (ap (λ (s : Sourcing). s.ended) (sym c.self.view_is)) (sym c.is_some.ensures ∙ c.if-is_some.true)

pub returns : goal.returns
returns g c =
    let ran = c.read_on-self-inside.ensures in
    let result = c.read_on-self-inside.result in
    let before = g.F.Shelf.state c.args.shelf.now in
    let after = g.F.Shelf.state c.read_on-self-inside.new.shelf in
    let begun : Sourcing = record { pieces = c.self.inside.pieces; reader = c.self.inside.reader; ended = c.self.inside.ended } in
    let mid : Sourcing = record { pieces = c.self.inside.pieces; reader = c.release.new.self; ended = c.self.inside.ended } in
    let next : Sourcing = record { pieces = c.self-2.inside.pieces; reader = c.self-2.inside.reader; ended = c.self-2.inside.ended } in
    let on = subst (λ (s : Sourcing). ReadsOn before after mid s result) (sym c.self-2.view_is) ran.on in
    let some = λ (none : result ≡ None). subst (λ (s : Sourcing). IsSome (held_in s)) (sym c.self-2.view_is) (ran.held none) in
    subst (λ (s : Sourcing). GivesNext before after s (record next { ended = result }) result) c.self.view_is
    (gives_next before after begun mid next result (not_some c.self.inside.ended (sym c.is_some.ensures ∙ c.if-is_some.false)) refl c.release.ensures on some)
