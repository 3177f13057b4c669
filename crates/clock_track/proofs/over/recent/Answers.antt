use Rattle.std.proofs.Common.{inl, inr, ◌-◌, length, drop, arith}
use Rattle.std.proofs.lemmas.List.Elements.{All-drop, All-take}
use Rattle.clock_track.specs.Limits.{IsNotable}
use Rattle.clock_track.proofs.Windows.{recent-window}
use Rattle.clock_track.proofs.over.recent.Goals as goal
use Rattle.clock_track.proofs.over.recent.Goals.{then-loop-start-test+else-found-lt-WINDOW, else-loop-start-test}

pub returns : goal.returns
returns c =
    let found = c.loop-start.invariant.found in
    let few = c.loop-start.invariant.few in
    record {
      window = recent-window c.args.rows.now c.loop-start.start (omega arith) (elim c.loop-start-test.branch [
        | then-loop-start-test+else-found-lt-WINDOW w ↦ inr (omega arith)
        | else-loop-start-test w ↦ inl (omega arith)
      ]);
      notable = All-take IsNotable (length c.args.rows.now - c.loop-start.start) (drop c.loop-start.start c.args.rows.now)
          (All-drop IsNotable c.loop-start.start c.args.rows.now c.requires);
    }
