use Rattle.std.proofs.Common.{List, ℕ, ◌++◌, take, Option, Ok}
use Rattle.std.specs.Prelude.{map}
use Rattle.avtp_base.specs.Files.{Files}
use Rattle.pcap_frames.specs.Capture.{Record}
use Rattle.capture_io.specs.CaptureWriting.{HoldsCapture}
use Rattle.capture_io.specs.Writing.{WritesSlot}
use Rattle.talker.specs.Frames.{record_of}
use Rattle.gateway_command.proofs.turning.write_frames.Given as goal

abbrev pub invariant-loop-index : goal.invariant-loop-index
invariant-loop-index g l = record {
  added : (files : Option Files) (name : List ℕ) (records : List Record) → HoldsCapture files (g.F.Shelf.state l.fn.shelf) l.fn.writer name records
      → HoldsCapture files (g.F.Shelf.state l.shelf) l.writer name (records ++ map record_of (take l.index l.gateway.frames));
  writes : WritesSlot (g.F.Shelf.state l.fn.shelf) (g.F.Shelf.state l.shelf) l.fn.writer l.writer (Ok tt);
}
