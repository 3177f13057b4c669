use Rattle.std.proofs.Common.{◌≡◌, ℕ, ◌+◌, ◌≤◌, List, [], length}
use Rattle.avtp_base.specs.Files.{left_in}
use Rattle.capture_io.specs.Pieces.{HasTaken}
use Rattle.capture_io.specs.Reads.{ReadsSlot}
use Rattle.capture_io.proofs.contents.join.Given as goal

abbrev pub invariant-loop-stop : goal.invariant-loop-stop
invariant-loop-stop g l =
    record {
      none_waits : l.pieces.waiting ≡ [];
      count : length l.bytes.items + l.pieces.left ≤ l.fn.pieces.left;
      quiet : (g.F.Shelf.state l.shelf).reading_faults ≡ (g.F.Shelf.state l.fn.shelf).reading_faults;
      reads : ReadsSlot (g.F.Shelf.state l.fn.shelf) (g.F.Shelf.state l.shelf) l.fn.pieces.slot l.pieces.slot;
      read : (limit : ℕ) (bytes : List ℕ) → HasTaken limit bytes (left_in (g.F.Shelf.state l.fn.shelf).slots l.fn.pieces.slot) l.fn.pieces []
          → HasTaken limit bytes (left_in (g.F.Shelf.state l.shelf).slots l.pieces.slot) l.pieces l.bytes.items;
    }

abbrev pub decreases-loop-stop : goal.decreases-loop-stop
decreases-loop-stop g l = l.pieces.left
