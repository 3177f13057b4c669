use Rattle.std.proofs.Common.{ℕ, List, Ok, length}
use Rattle.avtp_base.specs.States.{ShelfState}
use Rattle.capture_io.specs.Writing.{IsWriting, WritesSlot}
use Rattle.capture_io.proofs.file_writer.FileWriter.flush.Given as goal

abbrev pub invariant-loop-self : goal.invariant-loop-self
invariant-loop-self g l =
    record {
      writes : WritesSlot (g.F.Shelf.state l.fn.shelf) (g.F.Shelf.state l.shelf) l.fn.self (record { slot = l.self-inside.slot.0; waiting = l.self-inside.buffer }) (Ok tt);
      kept : (begun : ShelfState) (name all : List ℕ) → IsWriting begun (g.F.Shelf.state l.fn.shelf) l.fn.self name all
          → IsWriting begun (g.F.Shelf.state l.shelf) (record { slot = l.self-inside.slot.0; waiting = l.self-inside.buffer }) name all;
    }

abbrev pub decreases-loop-self : goal.decreases-loop-self
decreases-loop-self g l = length l.self-inside.buffer
