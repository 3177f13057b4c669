use Rattle.std.proofs.Common.{◌≡◌, All, vec_len}
use Rattle.clock_track.specs.state.Window.{IsRoom}
use Rattle.clock_track.proofs.clock.Clock.new.Given as goal

-- each round of the loop reserves one `Room`
abbrev pub invariant-loop : goal.invariant-loop
invariant-loop l = record {
  count : vec_len l.spare ≡ l.counter;
  room : All IsRoom l.spare.items;
}
