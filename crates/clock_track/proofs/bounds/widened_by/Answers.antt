use Rattle.std.proofs.Common.{arith}
use Rattle.std.proofs.lemmas.Int.{ints}
use Rattle.clock_track.specs.Search.{IsPair}
use Rattle.clock_track.proofs.LineFacts.{most_period}
use Rattle.clock_track.proofs.bounds.widened_by.Goals as goal

pub returns-in-Some : goal.returns-in-Some
returns-in-Some c =
    let is : IsPair c.in-Some.pair = rw c.in-Some.is at c.requires in
    let most = most_period c.in-Some.pair is.small is.joined in
    let period = c.period.ensures in
    let low = is.small.later.from in
    let high = is.small.later.to in
    let earliest = c.widened.ensures.earliest in
    let latest = c.widened.ensures.latest in
    let from = c.widened.ensures.from in
    let to = c.widened.ensures.to in
    record {
      pair = rw c.in-Some.is (record { from = omega (arith, ints); to = omega (arith, ints) });
      others = λ other within. let from_it = within.from in let to_it = within.to in record { from = omega (arith, ints); to = omega (arith, ints) };
    }
