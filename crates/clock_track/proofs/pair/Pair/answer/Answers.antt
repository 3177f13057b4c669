-- The arithmetic in 128 bits does not wrap. The number of the event is at least 0 and less than the interval.
use Rattle.std.proofs.Common.{◌≡◌, ◌*◌, ℤ, pos, ◌-ℤ◌, ◌*ℤ◌, ◌+ℤ◌, ap, ◌∙◌, arith, w64, to_z, of_z}
use Rattle.std.proofs.lemmas.Int.{ints}
use Rattle.std.specs.Int.{int_div_euclid, w128}
use Rattle.clock_track.specs.PairLines.{nearest_event, period}
use Rattle.clock_track.proofs.LineFacts.{IsEvent, is_event, most_period, own_spot, some_rate}
use Rattle.clock_track.proofs.pair.Pair.answer.Goals as goal

pub scaled-behind-requires : goal.scaled-behind-requires
scaled-behind-requires c =
    let small = most_period c.args.self.now c.requires.small c.requires.joined in
    let interval = c.requires.small.interval in
    let period_is = c.period-period.ensures in
    let den_is = c.from-den.ensures in
    record { num = omega arith; den = omega arith }

own : (c : goal.After-div_euclid) → c.args.self.now.up ≡ c.args.rate * c.args.self.now.down
own c = let same : c.args.self.now.up ≡ c.from.result * c.args.self.now.down = omega arith in rw c.from.ensures at same

event : (c : goal.After-div_euclid) → c.div_euclid.result ≡ nearest_event c.args.self.now c.args.instant
event c =
    let small = most_period c.args.self.now c.requires.small c.requires.joined in
    let instant : to_z w64 (of_z w64 c.args.instant) ≡ c.args.instant = omega (arith, ints) in
    let later : to_z w64 (of_z w64 c.args.self.now.later) ≡ c.args.self.now.later = omega (arith, ints) in
    let numerator : ℤ = (c.args.instant -ℤ c.args.self.now.later) *ℤ pos (2 * c.args.self.now.interval) +ℤ pos (period c.args.self.now) in
    let same : to_z w128 (of_z w128 c.scaled-behind.result) ≡ c.scaled-behind.result = omega (arith, ints) in
    let behind : c.scaled-behind.result ≡ numerator = rw (instant, later, c.from-den.ensures, c.period-period.ensures) at c.scaled-behind.ensures in
    let twice : to_z w128 (of_z w128 c.from-then-self-from.result) ≡ pos (2 * period c.args.self.now) = omega (arith, ints) in
    c.div_euclid.ensures ∙ ap (λ (z : ℤ). int_div_euclid z (to_z w128 (of_z w128 c.from-then-self-from.result))) (same ∙ behind)
    ∙ ap (λ (z : ℤ). int_div_euclid numerator z) twice

is : (c : goal.After-div_euclid) → IsEvent c.args.self.now c.args.instant
is c = is_event c.args.self.now c.args.rate c.args.instant (some_rate c.args.self.now c.args.rate c.args.instant c.requires.covers) c.requires (own c)

pub overflow_cast-result : goal.overflow_cast-result
overflow_cast-result c =
    let same = event c in
    let from = (is c).from in
    let to = (is c).to in
    let interval = c.requires.small.interval in
    omega (arith, ints)

pub returns-then-self-from : goal.returns-then-self-from
returns-then-self-from c =
    let same = event c in
    let from = (is c).from in
    let to = (is c).to in
    let interval = c.requires.small.interval in
    own_spot c.args.self.now c.args.rate c.args.instant _ _ _ _ (own c) (omega (arith, ints)) c.period-period.ensures c.from-den.ensures (omega (arith, ints))
