use Rattle.std.proofs.Common.{ℕ, sym, subst}
use Rattle.talk_video.specs.declared.units.Units.{Units}
use Rattle.talk_video.specs.state.Listing.{IsWalk}
use Rattle.talk_video.proofs.ListingLemmas.{walk_on}
use Rattle.talk_video.proofs.units.Units.next.Goals as goal

pub returns-clause-walk : goal.returns-clause-walk
returns-clause-walk c =
    let unit : ℕ × ℕ = (c.in_ok-from.from, c.in_ok-from.to) in
    let on = walk_on c.args.bytes.now c.args.self.now unit c.requires c.in_ok-from.ensures.next c.in_ok-from.ensures.behind c.in_ok-from.ensures.some
    c.in_ok-from.ensures.within in
    subst (λ (u : Units). IsWalk c.args.bytes.now u) (sym c.with.ensures) on
