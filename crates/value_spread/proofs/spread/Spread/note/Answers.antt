use Rattle.std.proofs.Common.{ℤ, subst, arith, w64}
use Rattle.std.proofs.lemmas.Int.{clamps, ints, to_z-of_z}
use Rattle.value_spread.specs.state.Places.{HasPlace}
use Rattle.value_spread.proofs.Spreads.{tells-more}
use Rattle.value_spread.proofs.spread.Spread.note.Goals as goal

pub returns : goal.returns
returns c values tells few =
    tells-more c.args.self.now _ c.args.value values c.place_of-place.result c.reach.new.counts.items tells few
    (subst (λ (z : ℤ). HasPlace z c.place_of-place.result) (to_z-of_z w64 c.args.value c.ranges.value) c.place_of-place.ensures)
    c.in_ok-self.ensures c.count_at.ensures c.saturating_add-self.ensures
    (omega (arith, ints, clamps, c.min-self.ensures.value, c.ranges.value)) (omega (arith, ints, clamps, c.max-self.ensures.value, c.ranges.value))
