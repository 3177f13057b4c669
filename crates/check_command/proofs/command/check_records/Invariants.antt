use Rattle.std.proofs.Common.{◌≤◌, ◌*◌, ℕ, List, [], Ok}
use Rattle.avtp_text.specs.Written.{written}
use Rattle.capture_io.specs.Source.{HasGivenOf, remains_of, to_do}
use Rattle.run_report.specs.Outcome.{KeepsSink}
use Rattle.run_report.proofs.Leaving.{IsAmid}
use Rattle.check_command.proofs.CheckedTo.{IsCheckedTo}
use Rattle.check_command.proofs.command.check_records.Given as goal

abbrev pub invariant-loop-tracker : goal.invariant-loop-tracker
invariant-loop-tracker g l =
    record {
      amid : IsAmid (g.F.Shelf.state l.fn.context.shelf.now) (g.F.Shelf.state l.shelf) l.fn.source l.source l.frames;
      few : l.findings ≤ 5 * l.frames;
      sink : KeepsSink {T = Unit} (g.S.Sink.state l.fn.context.out.now) (g.S.Sink.state l.out) (Ok tt);
      checked : (limit : ℕ) (bytes : List ℕ) → HasGivenOf limit bytes (g.F.Shelf.state l.fn.context.shelf.now) l.fn.source []
          → IsCheckedTo limit l.file bytes (remains_of (g.F.Shelf.state l.shelf) l.source) l.source l.tracker l.frames l.findings (written (g.S.Sink.state l.fn.context.out.now).held l.fn.context.text.now) (written (g.S.Sink.state l.out).held l.text);
    }

abbrev pub decreases-loop-tracker : goal.decreases-loop-tracker
decreases-loop-tracker g l = to_do l.source
