-- The run of `soak`, which neither reads nor writes a file.
use Rattle.std.proofs.Common.{None, inl, ℕ, List, Result, Ok, Err, refl, ◌≡◌, ◌≢◌, ◌⊎◌, inr, [], sym, subst, Option, false, ap, arith}
use Rattle.std.specs.Prelude.{IfOk}
use Rattle.std.proofs.lemmas.List.{append-nil}
use Rattle.avtp_base.specs.Faults.{ReadingFaults}
use Rattle.avtp_base.specs.declared.failed.Failed.{Failed}
use Rattle.avtp_base.specs.States.{SinkState, Asks, ShelfState, WasAsked}
use Rattle.avtp_text.specs.Written.{written}
use Rattle.avtp_base.specs.Told.{Appends}
use Rattle.avtp_words.specs.Grammar.{Request, soak}
use Rattle.avtp_base.proofs.Files.{KeepsFiles-refl}
use Rattle.run_report.specs.Halt.{no_halt}
use Rattle.run_report.proofs.RunReports.{same_run}
use Rattle.run_report.specs.declared.status.Status.{Status}
use Rattle.run_report.specs.Outcome.{EndsWith}
use Rattle.run_report.specs.Yield.{says as only_text, Gives, HandsNothing}
use Rattle.run_report.specs.Runs.{Runs}
use Rattle.run_report.proofs.Runs.{no_devices, tells_all}
use Rattle.run_report.proofs.Yields.{part_text}
use Rattle.run_report.specs.declared.status.Status.TheVariants as status
use Rattle.avtp_tool.specs.state.Soak.{Says}
use Rattle.avtp_tool.proofs.Ended.{ends_prefix}
use Rattle.avtp_tool.specs.Soak.{soak_report}
use Rattle.avtp_tool.specs.state.Run.{task_of}

-- ---- the line

pub says_line : {h h' : SinkState} {w w' : List ℕ} {line : List ℕ} (result : Result Status Failed) → EndsWith status.Done h h' w w' result line → Says line h h' w w' result
says_line {line = line} (Ok s) ends = record {
  tells = record { ended = status.Done; yields = line; outcome = (refl, refl); whole = λ memory write. (ends.status, ends.written); part = ends_prefix (Ok s) ends };
  own = inl ends.status;
  sink = ends.sink;
}
says_line {line = line} (Err e) ends = record {
  tells = record { ended = status.Done; yields = line; outcome = (refl, refl); whole = tt; part = ends_prefix (Err e) ends };
  own = tt;
  sink = ends.sink;
}

-- ---- the run

other_status : (result : Result Status Failed) (other : Status) → IfOk result (λ s. (s ≡ status.Done) ⊎ (s ≡ status.Memory)) → other ≢ status.Done → other ≢ status.Memory → result ≡ Ok other → ⊥
other_status (Ok s) other (inl done) first second is = absurd (first cc)
other_status (Ok s) other (inr memory) first second is = absurd (second cc)
other_status (Err e) other own first second is = absurd cc

asks_none : (a : ShelfState) → Asks [] a a
asks_none a before stands = subst (WasAsked a.asked) (sym (append-nil before)) stands

with_names : (a : ShelfState) (before now : Option (List ℕ)) (text : List ℕ) (ended : Status) (result : Result Status Failed) → IfOk result (λ s. s ≢ status.Memory → s ≢ status.WriteFault → (s ≡ ended) × Appends before now text)
    → IfOk result (λ s. s ≢ status.Memory → s ≢ status.WriteFault → (s ≡ ended) × Gives HandsNothing before now (only_text text) × Asks [] a a)
with_names a before now text ended (Ok s) whole = λ memory write. let w = whole memory write in (w.0, record { text = w.1; items = refl }, asks_none a)
with_names a before now text ended (Err e) whole = tt

quiet : (faults : ReadingFaults) (result : Result Status Failed) → IfOk result (λ s. s ≢ status.ReadFault → s ≢ status.Memory → s ≢ status.WriteFault → faults ≡ faults)
quiet faults (Ok s) = λ fault memory write. refl
quiet faults (Err e) = tt

pub soak_runs : {s : ShelfState} {h h' : SinkState} {l l' : List ℕ} {result : Result Status Failed} (packets : ℕ) (other : Request) → soak packets ≡ other → Says (soak_report packets) h h' l l' result
    → Runs (task_of other) HandsNothing false s s h h' l l' result
soak_runs {s} {h} {h'} {l} {l'} {result} packets other same told = subst (λ (q : Request). Runs (task_of q) HandsNothing false s s h h' l l' result) same (record {
  tells = λ all is some. tells_all (KeepsFiles-refl s.files) (record {
    came = [];
    ended = told.tells.ended;
    yields = only_text told.tells.yields;
    outcome = (no_halt, refl, same_run [] [] told.tells.ended _ (only_text told.tells.yields) _ None None refl told.tells.outcome.0 (ap only_text told.tells.outcome.1) refl);
    whole = with_names s (written h.held l) (written h'.held l') told.tells.yields told.tells.ended result told.tells.whole;
    part = part_text refl (only_text told.tells.yields) told.tells.part;
  });
  files = KeepsFiles-refl s.files;
  slots = λ k. refl;
  counts = record { never_falls = omega arith; fault = λ e. absurd (other_status result status.ReadFault told.own (λ d. cc) (λ d. cc) e); quiet = quiet s.reading_faults result };
  writing = record { never_falls = omega arith; failed = λ e. absurd (other_status result status.WriteFault told.own (λ d. cc) (λ d. cc) e); other = λ e. refl; unwritten = λ e. refl };
  no_words = λ e. other_status result status.Words told.own (λ d. cc) (λ d. cc) e;
  devices = no_devices refl (λ e. other_status result status.DeviceFault told.own (λ d. cc) (λ d. cc) e);
  asks = record { count = 0; within = omega arith; all = λ done. refl; asked = asks_none s };
  sink = told.sink;
})
