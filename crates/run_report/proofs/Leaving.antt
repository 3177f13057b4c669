-- What is unchanged after calls that read.
use Rattle.std.proofs.Common.{ℕ, sym, subst, Result, Ok, Err, List, [], ◌∷◌, ◌≡◌, Option, Some, None, ◌+◌, ◌^◌, ◌≤◌, refl, arith, ◌∙◌, true, ap, false}
use Rattle.std.specs.Prelude.{◌≢◌, IsSome, IsErr, IfOk}
use Rattle.avtp_base.specs.States.{ShelfState}
use Rattle.capture_io.specs.Reads.{ReadsSlot, OnlyReads, OpensSlot}
use Rattle.avtp_base.specs.declared.failed.Failed.{Failed}
use Rattle.avtp_files.specs.ShelfCalls.{ClosesSlot}
use Rattle.capture_io.proofs.Leaving.{only_reads_closed, opens_then, reads_nothing, reads_then}
use Rattle.capture_io.specs.declared.end.End.{End}
use Rattle.capture_io.specs.Ends.{CountsFault}
use Rattle.capture_io.specs.Source.{Sourcing, slot_of, to_do, EndsAfter, GivesNext, HasGivenOf}
use Rattle.pcap_frames.specs.Capture.{Record}
use Rattle.avtp_base.specs.Faults.{FailsAt, ReadingFaults}
use Rattle.capture_io.proofs.Ending.{after_weaker}
use Rattle.capture_io.specs.declared.end.End.TheVariants as end
use Rattle.run_report.specs.Reading.{IsOpen, ReadsCapture, IsReadingStatus, is_of_reading}
use Rattle.run_report.specs.declared.status.Status.{Status}
use Rattle.run_report.specs.Made.{CountsWriting}
use Rattle.run_report.specs.Status.{status_of}
use Rattle.run_report.specs.declared.status.Status.TheVariants as status

pub live_now : {s t : ShelfState} {k j : ℕ} → ReadsSlot s t k j → IsSome (t.slots j)
live_now {t = t} reads = subst (λ (n : ℕ). IsSome (t.slots n)) (sym reads.slot) reads.live

pub on_err : {T : Type 0} (A : Result T Failed → Type 0) (result : Result T Failed) → IsErr result → ((e : Failed) → A (Err e)) → A result
on_err A (Ok x) err holds = absurd cc
on_err A (Err e) err holds = holds e

pub read_through : {s t u v : ShelfState} {name : List ℕ} {k j : ℕ}
    → OpensSlot s t name k → ReadsSlot t u k j → ClosesSlot u v j → OnlyReads s v (name ∷ [])
read_through {s} {t} {u} {v} {name} {k} {j} opens reads closes = only_reads_closed s u v name k (opens_then s t u name k j opens reads) (subst (ClosesSlot u v) reads.slot closes)

pub ended_so : (ended : Option End) (how : End) (before after : ReadingFaults) → ended ≡ None → CountsFault ended (Some how) before after → CountsFault None (Some how) before after
ended_so ended how before after none counts = subst (λ (e : Option End). CountsFault e (Some how) before after) none counts

pub same_count : {before after : ReadingFaults} → after ≡ before → after.count ≡ before.count
same_count same = ap (λ (faults : ReadingFaults). faults.count) same

-- if one more record was read, no read fault was counted
pub quiet_next : (ended result : Option End) (before after : ReadingFaults) → ended ≡ None → result ≡ None → CountsFault ended result before after → after ≡ before
quiet_next ended result before after none more counts = subst (λ (r : Option End). CountsFault None r before after) more (subst (λ (e : Option End). CountsFault e result before after) none counts)

-- if the reading did not end with a read fault, no read fault was counted
pub quiet_end : (how : End) (before after : ReadingFaults) → how ≢ end.ReadFault → CountsFault None (Some how) before after → after ≡ before
quiet_end end.Whole before after other counts = counts
quiet_end (end.Refused refusal) before after other counts = counts
quiet_end end.ReadFault before after other counts = absurd (other refl)
quiet_end end.Limit before after other counts = counts

-- ---- an open capture between two of its records

-- The capture was read further. The reading of the capture has not ended, and no fault was counted.
pub record IsAmid (shelf shelf' : ShelfState) (old new : Sourcing) (frames : ℕ) : Type 0 where
  pub going : new.ended ≡ None
  pub bounded : frames + to_do new ≤ 2 ^ 41
  pub reading : shelf'.reading_faults ≡ shelf.reading_faults
  pub reads : ReadsSlot shelf shelf' (slot_of old) (slot_of new)

pub amid_begun : (shelf : ShelfState) (source : Sourcing) → IsOpen shelf.slots source → IsAmid shelf shelf source source 0
amid_begun shelf source ready = record { going = ready.0; bounded = omega (arith, ready.2); reading = refl; reads = reads_nothing shelf (slot_of source) ready.1 }

module _ {s t u : ShelfState} {first old new : Sourcing} {frames : ℕ} where
  pub amid_next : {result : Option End} → IsAmid s t first old frames → result ≡ None → GivesNext t u old new result → IsAmid s u first new (frames + 1)
  amid_next {result} amid none next = record {
    going = next.ended ∙ none;
    bounded = omega (arith, next.less none, amid.bounded);
    reading = quiet_next old.ended result t.reading_faults u.reading_faults amid.going none next.counted ∙ amid.reading;
    reads = reads_then amid.reads next.reads;
  }

  pub amid_over : (how : End) → IsAmid s t first old frames → GivesNext t u old new (Some how) → ReadsCapture s u (slot_of first) (slot_of new) (Some how)
  amid_over how amid next = record {
    reads = reads_then amid.reads next.reads;
    counted = subst (λ (faults : ReadingFaults). CountsFault None (Some how) faults u.reading_faults) amid.reading (ended_so old.ended how t.reading_faults u.reading_faults amid.going next.counted);
  }

  pub amid_ends : (how : End) (limit : ℕ) (bytes : List ℕ) (records : List Record) → IsAmid s t first old frames → GivesNext t u old new (Some how) → HasGivenOf limit bytes t old records → EndsAfter limit bytes (FailsAt s.reading_faults u.reading_faults) how records
  amid_ends how limit bytes records amid next given =
      after_weaker limit bytes (FailsAt t.reading_faults u.reading_faults) (FailsAt s.reading_faults u.reading_faults) how records (λ place. subst (λ (faults : ReadingFaults). FailsAt faults u.reading_faults place) amid.reading) (next.ends limit bytes records given)

pub amid_cut : {s t : ShelfState} {first old : Sourcing} {frames : ℕ} → IsAmid s t first old frames → ReadsCapture s t (slot_of first) (slot_of old) None
amid_cut amid = record { reads = amid.reads; counted = amid.reading }

pub some_same : {A : Type 0} (o : Option A) (x y : A) → o ≡ Some x → o ≡ Some y → x ≡ y
some_same o x y first second = cc

pub none_left : {A : Type 0} (o : Option A) → ((x : A) → o ≡ Some x → ⊥) → o ≡ None
none_left None other = refl
none_left (Some x) other = absurd (other x refl)

pub only_read : {before after : ℕ} {result : Result Status Failed} → after ≡ before → (result ≡ Ok status.WriteFault → ⊥) → CountsWriting None before after result
only_read same never = record { never_falls = omega (arith, same); failed = λ e. absurd (never e); other = λ e. same; unwritten = λ e. same }

-- ---- statuses of reading

pub own_as : (result : Result Status Failed) (ended : Status) → is_of_reading ended ≡ true → IfOk result (λ s. s ≡ ended) → IsReadingStatus result
own_as (Ok s) ended reads is = ap is_of_reading is ∙ reads
own_as (Err e) ended reads is = tt

ends_reading : (how : End) → is_of_reading (status_of how) ≡ true
ends_reading end.Whole = refl
ends_reading (end.Refused refusal) = refl
ends_reading end.ReadFault = refl
ends_reading end.Limit = refl

pub own_ended : (result : Result Status Failed) (how : End) → IfOk result (λ s. s ≡ status_of how) → IsReadingStatus result
own_ended result how is = own_as result (status_of how) (ends_reading how) is

-- if `other` is not a status of reading, a run that only reads does not end with `other`
pub never_ends : (result : Result Status Failed) (other : Status) → is_of_reading other ≡ false → IsReadingStatus result → result ≡ Ok other → ⊥
never_ends (Ok s) other differs own is = let same : s ≡ other = cc in let t : true ≡ false = sym own ∙ (ap is_of_reading same ∙ differs) in cc
never_ends (Err e) other differs own is = absurd cc
