use Rattle.std.proofs.Common.{◌≡◌, ◌≤◌, List, ℕ, Some}
use Rattle.sample_schedule.specs.declared.shown.Shown.{Shown as ShownValue}
use Rattle.listener_pair.specs.Matching.{wanted}
use Rattle.capture_pair.specs.state.Sides.{Going, IsHeard, MatchesOn, Taken}
use Rattle.capture_pair.proofs.sides.fill.Given as goal

abbrev pub invariant-loop-which : goal.invariant-loop-which
invariant-loop-which g l = record {
  matching : l.matching ≡ l.initial.matching;
  which : l.which ≡ l.initial.which;
  wants : wanted l.matching ≡ Some l.which;
  kept : g.S.Source.kept l.source ≡ g.S.Source.kept l.initial.source;
  less : g.S.Source.work l.source ≤ g.S.Source.work l.initial.source;
  going : (taken : Taken) (list other : List ShownValue) (n k given : ℕ) → g.S.Source.shows l.initial.source taken list n → IsHeard list → IsHeard other → MatchesOn l.which list other n k given l.initial.matching → Going (g.S.Source.shows l.source taken) l.which list other k given l.matching;
}

abbrev pub decreases-loop-which : goal.decreases-loop-which
decreases-loop-which g l = g.S.Source.work l.source
