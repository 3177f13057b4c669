use Rattle.std.proofs.Common.{ℕ, List, [], Ok}
use Rattle.avtp_text.specs.Written.{written}
use Rattle.capture_io.specs.Source.{HasGivenOf, remains_of, to_do}
use Rattle.run_report.specs.Outcome.{KeepsSink}
use Rattle.run_report.proofs.Leaving.{IsAmid}
use Rattle.avtp_tool.proofs.Shown.{IsPrintedTo}
use Rattle.avtp_tool.proofs.show.print_records.Given as goal

abbrev pub invariant-loop-end : goal.invariant-loop-end
invariant-loop-end g l =
    record {
      amid : IsAmid (g.F.Shelf.state l.fn.shelf) (g.F.Shelf.state l.shelf) l.fn.source l.source l.frames;
      sink : KeepsSink {T = Unit} (g.S.Sink.state l.fn.out) (g.S.Sink.state l.out) (Ok tt);
      printed : (limit : ℕ) (bytes : List ℕ) → HasGivenOf limit bytes (g.F.Shelf.state l.fn.shelf) l.fn.source []
          → IsPrintedTo limit bytes (remains_of (g.F.Shelf.state l.shelf) l.source) l.source l.frames (written (g.S.Sink.state l.fn.out).held l.fn.text) (written (g.S.Sink.state l.out).held l.text);
    }

abbrev pub decreases-loop-end : goal.decreases-loop-end
decreases-loop-end g l = to_do l.source
