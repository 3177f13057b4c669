use Rattle.std.specs.Prelude.{IsSome}
use Rattle.capture_io.specs.Source.{slot_of, to_do}
use Rattle.avtp_report.proofs.reading.read_records.Given as goal

abbrev pub invariant-loop-end : goal.invariant-loop-end
invariant-loop-end g l = IsSome ((g.F.Shelf.state l.shelf).slots (slot_of l.source))

abbrev pub decreases-loop-end : goal.decreases-loop-end
decreases-loop-end g l = to_do l.source
