-- A capture is heard item by item, and another file of the shelf is written between two items.
use Rattle.std.proofs.Common.{◌≡◌, ℕ, ◌≤◌, Option, None, Result, sym, subst, Ok, refl, arith, Some, ap, ◌∙◌, true, false, List, [], inl, inr, ◌++◌, ◌∷◌, append-nil, length, take}
use Rattle.std.specs.Prelude.{◌≢◌, IsSome, option_map, ◌==◌, if◌then◌else◌, option_and_then, count_by}
use Rattle.std.proofs.lemmas.Bool.Decides.{nat_tests, eqb_tells}
use mathlib.Core.List.{IsPrefix}
use Rattle.avtp_base.specs.declared.failed.FaultPlace.{FaultPlace}
use Rattle.avtp_base.specs.declared.failed.Failed.{Failed}
use Rattle.avtp_base.specs.Faults.{FailsAt, IsCounted, ReadingFaults}
use Rattle.avtp_base.specs.Files.{file_of, left_in, name_in, KeepsFiles, KeepsOthers, Open}
use Rattle.avtp_base.specs.States.{AsksNothing, ShelfState}
use Rattle.avtp_files.specs.ShelfCalls.{IsMadeIn}
use Rattle.capture_io.specs.declared.end.End.{End}
use Rattle.capture_io.specs.Ends.{CountsFault, end_of}
use Rattle.avtp_base.proofs.Files.{named_as, KeepsFiles-refl}
use Rattle.capture_io.specs.Writing.{WritesSlot, Writing}
use Rattle.listener.specs.Listening.{ListenState, StandsFor, is_closed}
use Rattle.capture_io.specs.Source.{Sourcing, slot_of, HasGiven}
use Rattle.sample_schedule.specs.Batches.{Presented}
use Rattle.sample_schedule.specs.declared.shown.Shown.{Shown}
use Rattle.sample_schedule.specs.declared.shown.Reason.{Reason}
use Rattle.sample_schedule.specs.declared.shown.Shown.TheVariants.{Flag, Present}
use Rattle.listener.specs.Laws.{presented_of}
use Rattle.listener.specs.Heard.{is_present}
use Rattle.listener.proofs.Places.{count-next}
use Rattle.pcap_frames.specs.Capture.{Record}
use Rattle.listener.specs.declared.plan.ListenPlan.{ListenPlan}
use Rattle.listener.proofs.Due.{due_first}
use Rattle.capture_io.specs.Formats.{records_in}
use Rattle.listener.proofs.Fed.{prefix_twice}
use Rattle.capture_io.specs.declared.end.End.TheVariants as end
use Rattle.run_report.specs.Reading.{ReadsCapture}
use Rattle.run_report.proofs.Leaving.{same_count}
use Rattle.capture_hearing.specs.declared.hearing.Stage.{Stage}
use Rattle.capture_hearing.specs.declared.hearing.Stage.TheVariants.{Reading}
use Rattle.capture_hearing.specs.Hearing.{read_end, GoesOn, Shows, IsShown, closed_at}
use Rattle.capture_hearing.proofs.HearingTo.{shows_none}
use Rattle.capture_hearing.specs.Shown.{shown_by}
use Rattle.capture_hearing.proofs.ShownTo.{within}

-- ---- two files that are open

-- The file in slot `k` was read and the file in slot `w` was written, each by any number of calls. `done` is the result
-- of the last write.
pub record ReadsAndWrites (s t : ShelfState) (k now w : ℕ) (how : Option End) (done : Result Unit Failed) : Type 0 where
  pub slot : now ≡ k
  pub live : IsSome (t.slots k)
  pub made : IsMadeIn t.slots w
  pub same : (j : ℕ) → option_map file_of (t.slots j) ≡ option_map file_of (s.slots j)
  pub left : (j : ℕ) → j ≢ k → name_in s.slots j ≢ name_in s.slots w → left_in t.slots j ≡ left_in s.slots j
  pub reading : s.reading_faults.count ≤ t.reading_faults.count
  pub counted : CountsFault None how s.reading_faults t.reading_faults
  pub writing : IsCounted s.writing_faults t.writing_faults done
  pub asked : AsksNothing s t

-- The files and all slots other than `k` are unchanged, as after a call that reads the file in slot `k`.
pub record OnlyMoves (t u : ShelfState) (k : ℕ) : Type 0 where
  pub files : KeepsFiles t.files u.files
  pub others : KeepsOthers t.slots u.slots k

-- the file that is read is still open
pub still_open : {s t : ShelfState} {k now w : ℕ} {how : Option End} {done : Result Unit Failed} → ReadsAndWrites s t k now w how done → IsSome (t.slots now)
still_open {t = t} beside = subst (λ (n : ℕ). IsSome (t.slots n)) (sym beside.slot) beside.live

pub beside_none : (s : ShelfState) (k w : ℕ) (stage : Stage) → IsSome (s.slots k) → IsMadeIn s.slots w → stage ≡ Reading → ReadsAndWrites s s k k w (read_end stage) (Ok tt)
beside_none s k w stage live made is =
    subst (λ (x : Stage). ReadsAndWrites s s k k w (read_end x) (Ok tt)) (sym is)
    (record {
      slot = refl;
      live = live;
      made = made;
      same = λ j. refl;
      left = λ j other apart. refl;
      reading = omega arith;
      counted = refl;
      writing = record { never_falls = omega arith; ok = refl; failed = tt };
      asked = λ names was. was;
    })

-- ---- a write

-- a slot that keeps its file is still in use
pub live_same : (x y : Option Open) → option_map file_of y ≡ option_map file_of x → IsSome x → IsSome y
live_same None y same live = absurd cc
live_same (Some x) None same live = absurd cc
live_same (Some x) (Some y) same live = refl

-- the files of two slots still have different names
still_apart : {s t : ShelfState} {k now w : ℕ} {how : Option End} {done : Result Unit Failed} → ReadsAndWrites s t k now w how done → (v : ℕ) → v ≡ w → (j : ℕ) → name_in s.slots j ≢ name_in s.slots w → name_in t.slots j ≢ name_in t.slots v
still_apart {s} {t} {w = w} beside v slot j apart same =
    apart (sym (named_as (s.slots j) (t.slots j) (beside.same j)) ∙ same ∙ ap (name_in t.slots) slot ∙ named_as (s.slots w) (t.slots w) (beside.same w))

module _ {s t u : ShelfState} {k now w : ℕ} {how : Option End} {old new : Writing} {done : Result Unit Failed} where
  pub beside_written : ReadsAndWrites s t k now w how (Ok tt) → old.slot ≡ w → WritesSlot t u old new done → ReadsAndWrites s u k now w how done
  beside_written beside slot writes = record {
    slot = beside.slot;
    live = live_same (t.slots k) (u.slots k) (writes.slots.same k) beside.live;
    made = subst (IsMadeIn u.slots) slot writes.made;
    same = λ j. writes.slots.same j ∙ beside.same j;
    left = λ j other apart. writes.slots.left j (still_apart beside old.slot slot j apart) ∙ beside.left j other apart;
    reading = omega (arith, beside.reading, same_count writes.reading);
    counted = subst (CountsFault None how s.reading_faults) (sym writes.reading) beside.counted;
    writing = subst (λ (n : ℕ). IsCounted {T = Unit} n u.writing_faults done) beside.writing.ok writes.counted;
    asked = λ names was. writes.asked names (beside.asked names was);
  }

  -- if the files of slots `w` and `k` have different names, a write to slot `w` does not change what is left to read in
  -- slot `k`
  pub left_written : ReadsAndWrites s t k now w how (Ok tt) → old.slot ≡ w → WritesSlot t u old new done → name_in s.slots k ≢ name_in s.slots w → left_in u.slots now ≡ left_in t.slots now
  left_written beside slot writes apart =
      subst (λ (n : ℕ). left_in u.slots n ≡ left_in t.slots n) (sym beside.slot) (writes.slots.left k (still_apart beside old.slot slot k apart))

-- ---- a read

-- the shelf `t`, but with slot `k` and the count of reading faults as they are in `s`
abbrev rewound : ShelfState → ShelfState → ℕ → ShelfState
rewound s t k = record t { slots = λ j. if j == k then s.slots k else t.slots j; reading_faults = s.reading_faults }

rewound_slot : (s t : ShelfState) (k : ℕ) → (rewound s t k).slots k ≡ s.slots k
rewound_slot s t k = (let test : (k == k) ≡ true = grind (arith, nat_tests) in rw test refl)

rewound_other : (s t : ShelfState) (k j : ℕ) → j ≢ k → (rewound s t k).slots j ≡ t.slots j
rewound_other s t k j differ = (let test : (j == k) ≡ false = grind (arith, nat_tests) in rw test refl)

rewound_left : (s t : ShelfState) (k : ℕ) → left_in (rewound s t k).slots k ≡ left_in s.slots k
rewound_left s t k = ap (option_and_then (λ (o : Open). o.left)) (rewound_slot s t k)

-- between the rewound shelf and `t`, only slot `k` was read
reads_since : {s t : ShelfState} {k now w : ℕ} {how : Option End} {done : Result Unit Failed} → ReadsAndWrites s t k now w how done → ReadsCapture (rewound s t k) t k now how
reads_since {s} {t} {k} beside = record {
  reads = record {
    slot = beside.slot;
    files = KeepsFiles-refl t.files;
    live = beside.live;
    same = beside.same k ∙ ap (option_map file_of) (sym (rewound_slot s t k));
    others = λ j differ. sym (rewound_other s t k j differ);
    reading = beside.reading;
    writing = refl;
    asked = λ names was. was;
  };
  counted = beside.counted;
}

-- the state of a listener after the listener was closed
abbrev shut : ListenState → ListenState
shut listener = record listener { ended = true }

module _ {s t u : ShelfState} (first : Sourcing) {a b : Sourcing} {l m : ListenState} {x y : Stage} {more : List Shown} {w : ℕ} where
  step_of : ReadsAndWrites s t (slot_of first) (slot_of a) w (read_end x) (Ok tt) → GoesOn t u a b l m x y more → Shows (rewound s t (slot_of first)) u first b (shut l) m y more
  step_of beside on = on.shows (rewound s t (slot_of first)) first (shut l) [] (record { capture = reads_since beside; plan = refl; shown = λ limit bytes given stands going. absurd cc })

  pub only_moves : ReadsAndWrites s t (slot_of first) (slot_of a) w (read_end x) (Ok tt) → GoesOn t u a b l m x y more → OnlyMoves t u (slot_of first)
  only_moves beside on =
      let reads = (step_of beside on).capture.reads in
      record { files = reads.files; others = λ j differ. reads.others j differ ∙ rewound_other s t (slot_of first) j differ }

  pub same_plan : ReadsAndWrites s t (slot_of first) (slot_of a) w (read_end x) (Ok tt) → GoesOn t u a b l m x y more → m.plan ≡ l.plan
  same_plan beside on = (step_of beside on).plan

  pub beside_read : slot_of first ≢ w → ReadsAndWrites s t (slot_of first) (slot_of a) w (read_end x) (Ok tt) → GoesOn t u a b l m x y more → ReadsAndWrites s u (slot_of first) (slot_of b) w (read_end y) (Ok tt)
  beside_read apart beside on =
      let capture = (step_of beside on).capture in
      let k : ℕ = slot_of first in
      let moves = only_moves beside on in
      record {
        slot = capture.reads.slot;
        live = capture.reads.live;
        made = ap (option_map (λ (o : Open). o.made)) (moves.others w (λ e. apart (sym e))) ∙ beside.made;
        same = λ j. elim (eqb_tells j k) [
          | inl at ↦ subst (λ (n : ℕ). option_map file_of (u.slots n) ≡ option_map file_of (s.slots n)) (sym at.1) (capture.reads.same ∙ ap (option_map file_of) (rewound_slot s t k))
          | inr other ↦ ap (option_map file_of) (moves.others j other.1) ∙ beside.same j
        ];
        left = λ j differ names. ap (option_and_then (λ (o : Open). o.left)) (moves.others j differ) ∙ beside.left j differ names;
        reading = capture.reads.reading;
        counted = capture.counted;
        writing = subst (λ (n : ℕ). IsCounted {T = Unit} s.writing_faults n (Ok tt)) (sym capture.reads.writing) beside.writing;
        asked = λ names was. capture.reads.asked names (beside.asked names was);
      }

-- ---- what was shown

-- While the shelf went from the state `s` to the state `t`, `items` were shown. `items` are items of the capture that
-- is read.
pub record IsHeard (s t : ShelfState) (first source : Sourcing) (fresh listener : ListenState) (stage : Stage) (items : List Shown) : Type 0 where
  pub shown : (limit : ℕ) (bytes : List ℕ) → HasGiven limit bytes (left_in s.slots (slot_of first)) first [] → StandsFor [] 0 fresh → is_closed fresh ≡ false
      → IsShown stage limit bytes (FailsAt s.reading_faults t.reading_faults) (left_in t.slots (slot_of source)) source listener items

pub heard_none : (s : ShelfState) (source : Sourcing) (listener : ListenState) (stage : Stage) → IsSome (s.slots (slot_of source)) → stage ≡ Reading → IsHeard s s source source listener listener stage []
heard_none s source listener stage live is = record { shown = (shows_none s source listener stage live is).shown }

given_since : (s t : ShelfState) (first : Sourcing) (limit : ℕ) (bytes : List ℕ) → HasGiven limit bytes (left_in (rewound s t (slot_of first)).slots (slot_of first)) first [] → HasGiven limit bytes (left_in s.slots (slot_of first)) first []
given_since s t first limit bytes given = subst (λ (o : Option (List ℕ)). HasGiven limit bytes o first []) (rewound_left s t (slot_of first)) given

module _ {s t u : ShelfState} {first a b : Sourcing} {fresh l m : ListenState} {x y : Stage} {items more : List Shown} {w : ℕ} where
  pub heard_on : ReadsAndWrites s t (slot_of first) (slot_of a) w (read_end x) (Ok tt) → l.plan ≡ fresh.plan → GoesOn t u a b l m x y more → IsHeard s t first a fresh l x items → IsHeard s u first b fresh m y (items ++ more)
  heard_on beside plan on heard =
      let shows = on.shows (rewound s t (slot_of first)) first fresh items (record { capture = reads_since beside; plan = plan; shown = λ limit bytes given stands going. heard.shown limit bytes (given_since s t first limit bytes given) stands going }) in
      record {
        shown = λ limit bytes given stands going.
            shows.shown limit bytes (subst (λ (o : Option (List ℕ)). HasGiven limit bytes o first []) (sym (rewound_left s t (slot_of first))) given) stands going;
      }

-- writing another file changes nothing about what was heard
pub heard_still : {s t u : ShelfState} {first source : Sourcing} {fresh listener : ListenState} {stage : Stage} {items : List Shown} → u.reading_faults ≡ t.reading_faults → left_in u.slots (slot_of source) ≡ left_in t.slots (slot_of source)
    → IsHeard s t first source fresh listener stage items → IsHeard s u first source fresh listener stage items
heard_still {s} {t} {u} {source = source} {listener = listener} {stage} {items} quiet same heard = record {
  shown = λ limit bytes given stands going.
      subst (λ (faults : ReadingFaults). IsShown stage limit bytes (FailsAt s.reading_faults faults) (left_in u.slots (slot_of source)) source listener items) (sym quiet)
      (subst (λ (o : Option (List ℕ)). IsShown stage limit bytes (FailsAt s.reading_faults t.reading_faults) o source listener items) (sym same) (heard.shown limit bytes given stands going));
}

-- ---- batches

pub presented-append : (xs ys : List Shown) → presented_of (xs ++ ys) ≡ presented_of xs ++ presented_of ys
presented-append [] ys = refl
presented-append (Present batch ∷ xs) ys = ap (λ (l : List Presented). batch ∷ l) (presented-append xs ys)
presented-append (Flag frame seq reason ∷ xs) ys = presented-append xs ys

pub presented_flag : (items : List Shown) (frame seq : ℕ) (reason : Reason) → presented_of (items ++ Flag frame seq reason ∷ []) ≡ presented_of items
presented_flag items frame seq reason = presented-append items (Flag frame seq reason ∷ []) ∙ append-nil (presented_of items)

-- the number of presented items is the number of batches
pub presented_count : (items : List Shown) → count_by is_present items ≡ length (presented_of items)
presented_count [] = refl
presented_count (Present batch ∷ items) = omega (arith, count-next is_present (Present batch) items, presented_count items)
presented_count (Flag frame seq reason ∷ items) = omega (arith, count-next is_present (Flag frame seq reason) items, presented_count items)

-- However the reading ends, the shown items are a prefix of the items that are shown if the capture is read to its end.
first_of_whole : (plan : ListenPlan) (records : List Record) (how : End) → IsPrefix (shown_by plan records how) (shown_by plan records end.Whole)
first_of_whole plan records end.Whole = ([], append-nil (shown_by plan records end.Whole))
first_of_whole plan records (end.Refused refusal) = ([], append-nil (shown_by plan records end.Whole))
first_of_whole plan records end.ReadFault = due_first plan records
first_of_whole plan records end.Limit = due_first plan records

presented_first : (items all : List Shown) → IsPrefix items all → IsPrefix (presented_of items) (presented_of all)
presented_first items all first = (presented_of first.0, sym (presented-append items first.0) ∙ ap presented_of first.1)

-- the batches that were presented so far are a prefix of all batches
pub batches_within : (plan : ListenPlan) (stage : Stage) (limit : ℕ) (bytes : List ℕ) (fault : FaultPlace → Type 0) (remains : Option (List ℕ)) (source : Sourcing) (listener : ListenState) (items : List Shown) → listener.plan ≡ plan → is_closed listener ≡ closed_at stage
    → IsShown stage limit bytes fault remains source listener items → IsPrefix (presented_of items) (presented_of (shown_by plan (records_in (take limit bytes)) end.Whole))
batches_within plan stage limit bytes fault remains source listener items is closed shown =
    let all : List Record = records_in (take limit bytes) in
    let far = shown_by listener.plan all (end_of limit bytes) in
    let first = prefix_twice items far (shown_by listener.plan all end.Whole) (within stage limit bytes fault remains source listener items closed shown) (first_of_whole listener.plan all (end_of limit bytes)) in
    presented_first items (shown_by plan all end.Whole) (subst (λ (p : ListenPlan). IsPrefix items (shown_by p all end.Whole)) is first)
