use Rattle.std.proofs.Common.{◌+◌, ◌≤◌, List, ℕ}
use Rattle.listener_pair.specs.Matching.{nexts_left}
use Rattle.sample_schedule.specs.declared.shown.Shown.{Shown as ShownValue}
use Rattle.capture_pair.specs.Pairing.{Pairs}
use Rattle.capture_pair.specs.state.Sides.{IsHeard, StaysSettled, Taken, open_sides}
use Rattle.capture_pair.proofs.sides.next_difference.Given as goal

abbrev pub invariant-loop-wanted : goal.invariant-loop-wanted
invariant-loop-wanted g l = record {
  pairs : (ta tb : Taken) (list other : List ShownValue) (given : ℕ) → IsHeard list → IsHeard other → Pairs (g.S.Source.shows l.initial.a ta) (g.S.Source.shows l.initial.b tb) list other given l.initial.matching
      → Pairs (g.S.Source.shows l.a ta) (g.S.Source.shows l.b tb) list other given l.matching;
  stays : StaysSettled (g.S.Source.kept l.initial.a) (g.S.Source.kept l.a) (g.S.Source.kept l.initial.b) (g.S.Source.kept l.b) (g.S.Source.is_quiet l.a) (g.S.Source.is_quiet l.b) l.matching;
  less : (g.S.Source.work l.a + g.S.Source.work l.b) + nexts_left l.matching
      ≤ (g.S.Source.work l.initial.a + g.S.Source.work l.initial.b) + nexts_left l.initial.matching;
}

abbrev pub decreases-loop-wanted : goal.decreases-loop-wanted
decreases-loop-wanted g l = (g.S.Source.work l.a + g.S.Source.work l.b) + open_sides l.matching
