-- What a command does to the files of a shelf: it writes one file, or none.
use Rattle.std.specs.Prelude.{ℕ, List, Option, Some, None, ◌≡◌, ◌≢◌, ⊤, ◌≤◌, Result, Ok, [], ◌++◌, map, take, OnErr, OnOk, IfOk}
use Rattle.avtp_base.specs.Files.{Files, KeepsFiles, PutsFile, Slots, KeepsSlots}
use Rattle.capture_io.specs.Writing.{MakesPrefix, KeepsSlotsBut, WritesSlot, Writing}
use Rattle.avtp_base.specs.declared.failed.Failed.{Failed}
use Rattle.avtp_base.specs.Faults.{Rose}
use Rattle.talker.specs.Frames.{SentFrame, record_of}
use Rattle.avtp_base.specs.States.{ShelfState}
use Rattle.pcap_frames.specs.Capture.{Record}
use Rattle.capture_io.specs.CaptureWriting.{HoldsCapture}
use Rattle.run_report.specs.declared.status.Status.{Status}
use Rattle.run_report.specs.Outcome.{TellsText}
use Rattle.run_report.specs.declared.status.Status.TheVariants as status

-- If a run makes a capture, its output now has this capture, and all other files are unchanged. If the run makes no
-- capture, all files are unchanged.
abbrev pub MakesOutput : Option (List ℕ) → Option (List ℕ) → Option Files → Option Files → Type 0
MakesOutput None made old new = KeepsFiles old new
MakesOutput (Some name) None old new = KeepsFiles old new
MakesOutput (Some name) (Some bytes) old new = PutsFile old new name bytes

-- If a run was cut short, its output is unchanged or has a prefix of the capture that the run makes. All other files
-- are unchanged.
abbrev pub MakesPart : Option (List ℕ) → Option (List ℕ) → Option Files → Option Files → Type 0
MakesPart None made old new = KeepsFiles old new
MakesPart (Some name) None old new = KeepsFiles old new
MakesPart (Some name) (Some bytes) old new = MakesPrefix old new name bytes

-- all files that a shelf shows are unchanged, except the file that is written, if any
abbrev pub KeepsFilesBut : Option (List ℕ) → Option Files → Option Files → Type 0
KeepsFilesBut None old new = KeepsFiles old new
KeepsFilesBut (Some name) None None = ⊤
KeepsFilesBut (Some name) None (Some new) = ⊥
KeepsFilesBut (Some name) (Some old) None = ⊤
KeepsFilesBut (Some name) (Some old) (Some new) = (other : List ℕ) → other ≢ name → new other ≡ old other

-- If a slot had a file, the slot still has this file. If a slot was free, the slot is still free. Let the files be
-- known. If the file of a slot is not the written file, the bytes that are left to read in this slot are also
-- unchanged.
abbrev pub KeepsSlotsFor : Option (List ℕ) → Option Files → Slots → Slots → Type 0
KeepsSlotsFor None files old new = KeepsSlots old new
KeepsSlotsFor (Some name) files old new = KeepsSlotsBut files old new name

-- The count of writing faults of a run never falls. The count rises if and only if the run ends with the status
-- `WriteFault`. If the run writes no file, the count is unchanged.
pub record CountsWriting (name : Option (List ℕ)) (before after : ℕ) (result : Result Status Failed) : Type 0 where
  pub never_falls : before ≤ after
  pub failed : result ≡ Ok status.WriteFault → Rose before after
  pub other : result ≢ Ok status.WriteFault → after ≡ before
  pub unwritten : name ≡ None → after ≡ before

-- the bytes of a frame, if there is one
abbrev pub frame_bytes : Option SentFrame → List ℕ
frame_bytes None = []
frame_bytes (Some f) = f.bytes

-- The first `number` frames of `frames` were added to the capture, in order. If the shelf failed, only a prefix of the
-- frames was added.
pub record WritesFrames (frames : List SentFrame) (number : ℕ) (before after : ShelfState) (old new : Writing) (result : Result Unit Failed) : Type 0 where
  pub added : OnOk result ((files : Option Files) (name : List ℕ) (records : List Record) → HoldsCapture files before old name records → HoldsCapture files after new name (records ++ map record_of (take number frames)))
  pub part : OnErr result ((files : Option Files) (name : List ℕ) (records : List Record) → HoldsCapture files before old name records
      → (n : ℕ) × HoldsCapture files after new name (records ++ map record_of (take n frames)))
  pub writes : WritesSlot before after old new result

-- ---- a run that makes a file

-- For one of the possible outcomes, a run gave out the text and made the capture, if any. If memory ran out or a write
-- failed, the run gave out only a prefix of the text, and its output is unchanged or has a prefix of the capture.
pub record Produces (Outcome : Status → List ℕ → Option (List ℕ) → Type 0) (name : Option (List ℕ)) (before now : Option (List ℕ)) (files files' : Option Files) (result : Result Status Failed) : Type 0 where
  pub made : Option (List ℕ)
  pub tells : TellsText (λ ended text. Outcome ended text made) before now result
  pub whole : IfOk result (λ s. s ≢ status.Memory → s ≢ status.WriteFault → MakesOutput name made files files')
  pub begun : MakesPart name made files files'
