use Rattle.std.proofs.Common.{◌≡◌, ℕ, ◌-◌, ◌++◌, List, take, Option, Ok, length}
use Rattle.std.specs.Prelude.{map}
use Rattle.avtp_base.specs.Files.{Files}
use Rattle.pcap_frames.specs.Capture.{Record}
use Rattle.capture_io.specs.CaptureWriting.{HoldsCapture}
use Rattle.capture_io.specs.Writing.{WritesSlot}
use Rattle.talker.specs.Frames.{frames, record_of}
use Rattle.talk_command.proofs.command.write_frames.Given as goal

abbrev pub invariant-loop-turn : goal.invariant-loop-turn
invariant-loop-turn g l = record {
  plan : l.talker.plan ≡ l.fn.talker.plan;
  input : l.talker.input ≡ l.fn.talker.input;
  added : (files : Option Files) (name : List ℕ) (records : List Record) → HoldsCapture files (g.F.Shelf.state l.fn.shelf) l.fn.writer name records
      → HoldsCapture files (g.F.Shelf.state l.shelf) l.writer name (records ++ map record_of (take l.talker.given (frames l.fn.talker.plan l.fn.talker.input)));
  writes : WritesSlot (g.F.Shelf.state l.fn.shelf) (g.F.Shelf.state l.shelf) l.fn.writer l.writer (Ok tt);
}

abbrev pub decreases-loop-turn : goal.decreases-loop-turn
decreases-loop-turn g l = length (frames l.fn.talker.plan l.fn.talker.input) - l.talker.given
