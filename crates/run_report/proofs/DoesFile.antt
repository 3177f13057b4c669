-- What a run does with one file, from opening the file to printing the last line about it.
use Rattle.std.proofs.Common.{ℕ, List, [], Result, Err, inl, inr, Option, ◌≡◌, sym, subst, ◌≤◌, ◌∷◌, Some, None, Ok}
use Rattle.avtp_base.specs.declared.failed.Failed.{Failed}
use Rattle.avtp_base.specs.declared.failed.OpenFault.{OpenFault}
use Rattle.avtp_base.specs.Faults.{FailsAt, ReadingFaults}
use Rattle.avtp_base.specs.declared.failed.FaultPlace.{FaultPlace}
use Rattle.avtp_base.specs.States.{ShelfState, SinkState}
use Rattle.capture_io.specs.Reads.{TriesOpen, OnlyReads, ReadsSlot}
use Rattle.avtp_text.specs.Notices.{read_fault_line}
use Rattle.avtp_text.specs.Written.{written}
use Rattle.sample_schedule.specs.declared.shown.Shown.{Shown}
use Rattle.pcap_frames.specs.Capture.{Record}
use Rattle.capture_io.specs.declared.end.End.{End}
use Rattle.capture_io.specs.Source.{EndsAfter, HasGivenOf, OpensSource, Sourcing, slot_of}
use Rattle.capture_io.specs.Ends.{CountsFault}
use Rattle.avtp_files.specs.ShelfCalls.{ClosesSlot}
use Rattle.run_report.specs.declared.status.Status.{Status}
use Rattle.run_report.specs.Outcome.{EndsUnopened, Only, TellsYield, CountsReading, KeepsSink}
use Rattle.run_report.specs.Reading.{file_status, file_yield, Report, DoesFile, IsReadingStatus}
use Rattle.run_report.proofs.OneFile.{file_fault, file_here, file_read}
use Rattle.run_report.proofs.Outcomes.{counts_unopened, missing_none, tells_unopened, unopened_own, yield_telling, IsCut, tells_cut, tells_weaker}
use Rattle.run_report.proofs.Leaving.{read_through}
use Rattle.run_report.specs.Yield.{GivesPart}
use Rattle.run_report.specs.Halt.{no_halt}

pub does_unopened : {T : Type 0} {slot : T → ℕ} {s t : ShelfState} {h h' : SinkState} {l l' : List ℕ} {name : List ℕ} {result : Result Status Failed} {handed : List Shown → Type 0} (report : Report) (limit : ℕ) (fault : OpenFault)
    → handed [] → TriesOpen slot s t name (Err fault) → EndsUnopened fault h h' l l' result → DoesFile report handed limit name s t h h' l l' result
does_unopened {T} {s = s} {t} {h} {h'} {l} {l'} {name} report limit fault none tries ends = record {
  tells = λ all told.
      tells_unopened {T = T} fault s.reading_faults t.reading_faults s.files name (file_status report limit (all name) no_halt) (file_yield report limit (all name) no_halt) (yield_telling (written h.held l) (written h'.held l') read_fault_line none) (file_here report limit (all name) (FailsAt s.reading_faults t.reading_faults))
      (λ cause. file_fault report limit (all name) (FailsAt s.reading_faults t.reading_faults) (elim cause [ inl rose ↦ inl rose | inr gone ↦ inr (missing_none s.files name all told gone) ])) tries.counted tries.missing ends;
  keeps = tries.refused;
  counts = counts_unopened {T = T} fault s.reading_faults t.reading_faults s.files name tries.counted tries.missing ends;
  own = unopened_own fault ends;
  sink = ends.sink;
}

-- The records of a file were read until the reading ended; `how` says how it ended. The report on these records was
-- printed, and its items were given to devices.
pub record IsReadAndTold (report : Report) (handed : List Shown → Type 0) (limit : ℕ) (bytes : List ℕ) (fault : FaultPlace → Type 0) (how : End) (before now : Option (List ℕ)) (result : Result Status Failed) : Type 0 where
  pub records : List Record
  pub ends : EndsAfter limit bytes fault how records
  pub tells : TellsYield (Only (report.status records how) (report.yields records how)) handed before now result

pub around : {r r' q' q : ReadingFaults} (P : ReadingFaults → ReadingFaults → Type 0) → r' ≡ r → q ≡ q' → P r' q' → P r q
around {r' = r'} {q = q} P first last p = subst (λ (faults : ReadingFaults). P faults q) first (subst (P r') (sym last) p)

-- a file was opened, read and closed again
module _ {s t u v : ShelfState} {source : Sourcing} {k limit : ℕ} {name : List ℕ} (report : Report) (opened : OpensSource s t limit name (Ok source)) (reads : ReadsSlot t u (slot_of source) k) (closes : ClosesSlot u v k) where
  kept : OnlyReads s v (name ∷ [])
  kept = read_through opened.tries.opened reads closes

  pub does_read : {h h' : SinkState} {l l' : List ℕ} {handed : List Shown → Type 0} (how : End) (result : Result Status Failed) → CountsFault None (Some how) t.reading_faults u.reading_faults
      → ((bytes : List ℕ) → HasGivenOf limit bytes t source [] → IsReadAndTold report handed limit bytes (FailsAt t.reading_faults u.reading_faults) how (written h.held l) (written h'.held l') result)
      → (s.reading_faults.count ≤ v.reading_faults.count → CountsFault None (Some how) s.reading_faults v.reading_faults → CountsReading (name ∷ []) s.files s.reading_faults v.reading_faults result)
      → IsReadingStatus result → KeepsSink h h' result → DoesFile report handed limit name s v h h' l l' result
  does_read how result counted told counts own sink =
      let opening = opened.tries.counted.ok in
      record {
        tells = λ all is.
            let bytes = opened.begun all is in
            let read = told bytes.0 bytes.2 in
            tells_weaker (file_read report limit bytes.0 (all name) (FailsAt t.reading_faults u.reading_faults) (FailsAt s.reading_faults v.reading_faults) how read.records (λ place. around (λ before after. FailsAt before after place) opening closes.reading) bytes.1 read.ends) read.tells;
        keeps = kept;
        counts = counts kept.reading (around (CountsFault None (Some how)) opening closes.reading counted);
        own = own;
        sink = sink;
      }

  pub does_cut : {h h' : SinkState} {l l' : List ℕ} {handed : List Shown → Type 0} (result : Result Status Failed)
      → ((bytes : List ℕ) → HasGivenOf limit bytes t source [] → GivesPart handed (written h.held l) (written h'.held l') (file_yield report limit (Some bytes) no_halt)) → IsCut result
      → (s.reading_faults.count ≤ v.reading_faults.count → CountsReading (name ∷ []) s.files s.reading_faults v.reading_faults result) → IsReadingStatus result → KeepsSink h h' result → DoesFile report handed limit name s v h h' l l' result
  does_cut {h} {h'} {l} {l'} {handed} result part cut counts own sink = record {
    tells = λ all is.
        let bytes = opened.begun all is in
        let given = subst (λ (told : Option (List ℕ)). GivesPart handed (written h.held l) (written h'.held l') (file_yield report limit told no_halt)) (sym bytes.1) (part bytes.0 bytes.2) in
        tells_cut (file_status report limit (all name) no_halt) (file_yield report limit (all name) no_halt) (file_here report limit (all name) (FailsAt s.reading_faults v.reading_faults)) cut given;
    keeps = kept;
    counts = counts kept.reading;
    own = own;
    sink = sink;
  }
