use Rattle.std.proofs.Common.{ℕ, List, []}
use Rattle.capture_io.specs.Source.{HasGivenOf, remains_of, to_do}
use Rattle.run_report.proofs.Leaving.{IsAmid}
use Rattle.gateway_command.proofs.Scanned.{IsScannedTo}
use Rattle.gateway_command.proofs.scanning.scan_records.Given as goal

abbrev pub invariant-loop-end : goal.invariant-loop-end
invariant-loop-end g l =
    record {
      amid : IsAmid (g.F.Shelf.state l.fn.shelf) (g.F.Shelf.state l.shelf) l.fn.source l.source l.frame;
      scanned : (limit : ℕ) (bytes : List ℕ) → HasGivenOf limit bytes (g.F.Shelf.state l.fn.shelf) l.fn.source []
          → IsScannedTo l.fn.to l.fn.stream limit bytes (remains_of (g.F.Shelf.state l.shelf) l.source) l.source l.frame l.scan;
    }

abbrev pub decreases-loop-end : goal.decreases-loop-end
decreases-loop-end g l = to_do l.source
