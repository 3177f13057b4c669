use Rattle.std.proofs.Common.{◌≡◌, ◌≤◌, ℕ, List, None}
use Rattle.pcap_frames.specs.Capture.{Record}
use Rattle.capture_io.specs.Reads.{ReadsSlot}
use Rattle.capture_io.specs.Source.{HasFed, held_in, remains_of, slot_of, to_do}
use Rattle.capture_io.proofs.feed.Feed.read_on.Given as goal

abbrev pub invariant-loop-end : goal.invariant-loop-end
invariant-loop-end g l =
    record {
      free : held_in l.self ≡ None;
      less : to_do l.self ≤ to_do l.fn.self;
      quiet : (g.F.Shelf.state l.shelf).reading_faults ≡ (g.F.Shelf.state l.fn.shelf).reading_faults;
      reads : ReadsSlot (g.F.Shelf.state l.fn.shelf) (g.F.Shelf.state l.shelf) (slot_of l.fn.self) (slot_of l.self);
      fed : (limit : ℕ) (bytes : List ℕ) (records : List Record) → HasFed limit bytes (remains_of (g.F.Shelf.state l.fn.shelf) l.fn.self) l.fn.self records
          → HasFed limit bytes (remains_of (g.F.Shelf.state l.shelf) l.self) l.self records;
    }

abbrev pub decreases-loop-end : goal.decreases-loop-end
decreases-loop-end g l = to_do l.self
