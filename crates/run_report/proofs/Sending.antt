-- Frames that are added to a capture, one after another.
use Rattle.std.proofs.Common.{◌≡◌, Option, Some, None, ap, length, ℕ, ◌+◌, ◌-◌, List, [], ◌∷◌, ◌++◌, take, sym, ◌∙◌, append_assoc, ◌<◌, min, arith, append-nil, subst, take_all, Ok, refl, Err}
use Rattle.std.specs.Prelude.{option_map, map, slice_get}
use Rattle.std.proofs.lemmas.List.{map-append, take_more}
use Rattle.std.proofs.lemmas.Option.{get_or_from_slice_get, slice_get_within}
use Rattle.talker.specs.declared.turn.Turn.{Turn}
use Rattle.talker.specs.Frames.{SentFrame, record_of}
use Rattle.talker.specs.Turns.{frame_in, turn_of}
use Rattle.pcap_frames.specs.Capture.{Record}
use Rattle.capture_io.specs.CaptureWriting.{whole_record, HoldsCapture}
use Rattle.avtp_base.specs.Files.{Files}
use Rattle.avtp_base.specs.States.{ShelfState}
use Rattle.capture_io.specs.Writing.{Writing, WritesSlot}
use Rattle.avtp_files.specs.ShelfCalls.{IsMadeIn}
use Rattle.avtp_base.specs.declared.failed.Failed.{Failed}
use Rattle.run_report.specs.Made.{frame_bytes}

-- ---- a frame and its `Turn`

turned_frame : (o : Option SentFrame) (turn : Turn) → option_map turn_of o ≡ Some turn → o ≡ Some (frame_in turn (frame_bytes o))
turned_frame None turn is = absurd cc
turned_frame (Some f) turn is = let same : turn_of f ≡ turn = cc in ap (λ (t : Turn). Some (frame_in t f.bytes)) same

pub turned_size : (o : Option SentFrame) (turn : Turn) → option_map turn_of o ≡ Some turn → length (frame_bytes o) ≡ turn.size
turned_size None turn is = absurd cc
turned_size (Some f) turn is = let same : turn_of f ≡ turn = cc in ap (λ (t : Turn). t.size) same

-- ---- one more frame

pub frames_more : (frames : List SentFrame) (i : ℕ) (turn : Turn) (records : List Record) → option_map turn_of (slice_get frames i) ≡ Some turn
    → (records ++ map record_of (take i frames)) ++ whole_record turn.arrival (frame_bytes (slice_get frames i)) ∷ [] ≡ records ++ map record_of (take (i + 1) frames)
frames_more frames i turn records is =
    let f : SentFrame = frame_in turn (frame_bytes (slice_get frames i)) in
    let has : slice_get frames i ≡ Some f = turned_frame (slice_get frames i) turn is in
    let longer : take (i + 1) frames ≡ take i frames ++ f ∷ [] =
    take_more frames i f (slice_get_within frames i f has) ∙ ap (λ (x : SentFrame). take i frames ++ x ∷ []) (get_or_from_slice_get frames i f f has) in
    append_assoc records (map record_of (take i frames)) (record_of f ∷ [])
    ∙ ap (λ (rs : List Record). records ++ rs) (sym (ap (map record_of) longer ∙ map-append record_of (take i frames) (f ∷ [])))

-- after one more frame, fewer frames are left
pub frames_fewer : (frames : List SentFrame) (i next : ℕ) (turn : Turn) → option_map turn_of (slice_get frames i) ≡ Some turn → next ≡ min (i + 1) (length frames) → (next ≡ i + 1) × (length frames - next < length frames - i)
frames_fewer frames i next turn is goes =
    let within : i < length frames = slice_get_within frames i _ (turned_frame (slice_get frames i) turn is) in
    (omega arith, omega arith)

pub frames_none : (frames : List SentFrame) (i : ℕ) (records : List Record) → i ≡ 0 → records ≡ records ++ map record_of (take i frames)
frames_none frames i records none = rw none (sym (append-nil records))

pub frames_all : {files : Option Files} {s : ShelfState} {w : Writing} {name : List ℕ} (frames : List SentFrame) → HoldsCapture files s w name (map record_of (take (length frames) frames)) → HoldsCapture files s w name (map record_of frames)
frames_all {files} {s} {w} {name} frames holds = subst (λ (fs : List SentFrame). HoldsCapture files s w name (map record_of fs)) (take_all (length frames) frames (omega arith)) holds

-- ---- the file

pub writes_nothing : (s : ShelfState) (w : Writing) → IsMadeIn s.slots w.slot → WritesSlot s s w w (Ok tt)
writes_nothing s w made = record {
  slot = refl;
  made = made;
  slots = record { same = λ j. refl; left = λ j differs. refl };
  reading = refl;
  counted = record { never_falls = omega arith; ok = refl; failed = tt };
  asked = λ names stands. stands;
}

pub writes_err : {s t : ShelfState} {v w : Writing} {e e' : Failed} → WritesSlot s t v w (Err e) → WritesSlot s t v w (Err e')
writes_err writes = record {
  slot = writes.slot;
  made = writes.made;
  slots = writes.slots;
  reading = writes.reading;
  counted = record { never_falls = writes.counted.never_falls; ok = tt; failed = writes.counted.failed };
  asked = writes.asked;
}
