-- How a run ends after its pending text was written, or after writing it failed.
use Rattle.std.proofs.Common.{ℕ, arith, ◌≡◌, ◌≢◌, List, Option, Result, Ok, sym, subst, Err, ◌∙◌, ap, true, false}
use Rattle.std.specs.Prelude.{IfOk}
use Rattle.std.proofs.lemmas.List.{append-nil}
use Rattle.avtp_base.specs.declared.failed.FaultPlace.{FaultPlace}
use Rattle.avtp_base.specs.Faults.{FailsAt, IsQuiet, ReadingFaults}
use Rattle.avtp_base.specs.declared.failed.Failed.{Failed}
use Rattle.avtp_base.specs.States.{Asks, ShelfState, SinkState, WasAsked}
use Rattle.sample_schedule.specs.declared.shown.Shown.{Shown}
use Rattle.avtp_base.specs.Told.{Appends}
use Rattle.avtp_text.specs.Written.{written, AppendsPrefix}
use Rattle.avtp_text.proofs.Printing.{prefix_none, prefix_whole}
use Rattle.avtp_words.specs.Grammar.{IsCommandLine, Request, show, check, gateway, listen, Listening, talk, soak, agree}
use Rattle.run_report.specs.declared.status.Status.{Status}
use Rattle.run_report.specs.Outcome.{TellsRun, EndsWith, is_through, AsksFor}
use Rattle.run_report.specs.Yield.{Yield, Gives}
use Rattle.run_report.specs.Runs.{IsThrough}
use Rattle.run_report.proofs.Outcomes.{ok_same}
use Rattle.run_report.specs.declared.status.Status.TheVariants as status
use Rattle.avtp_tool.specs.state.Run.{Finishes}
use Rattle.avtp_tool.specs.Run.{is_listening}

-- ---- what was told

pub quiet_not : (before after : ReadingFaults) → IsQuiet before.count after.count → (place : FaultPlace) → FailsAt before after place → ⊥
quiet_not before after quiet place fails = omega (arith, quiet, fails.once)

pub told_whole : {Outcome : List (List ℕ) → Status → Yield → Type 0} {handed : List Shown → Type 0} {a b : ShelfState} {before now : Option (List ℕ)} {ended : Result Status Failed} (result : Status) → ended ≡ Ok result → result ≢ status.Memory → result ≢ status.WriteFault
    → TellsRun Outcome handed a b before now ended → (came : List (List ℕ)) × (yields : Yield) × Outcome came result yields × Gives handed before now yields × Asks came a b
told_whole {Outcome} {handed} {a} {b} {before} {now} result same memory write tells =
    let t = subst (TellsRun Outcome handed a b before now) same tells in
    let whole = t.whole memory write in
    (t.came, t.yields, subst (λ (s : Status). Outcome t.came s t.yields) (sym whole.0) t.outcome, whole.1, whole.2)

pub ends_whole : {h h' : SinkState} {w w' : List ℕ} {ended : Result Status Failed} {s : Status} {line : List ℕ} (result : Status) → ended ≡ Ok result → EndsWith s h h' w w' ended line
    → (result ≡ s) × Appends (written h.held w) (written h'.held w') line
ends_whole {h} {h'} {w} {w'} {ended} {s} {line} result same ends = let e = subst (λ (r : Result Status Failed). EndsWith s h h' w w' r line) same ends in (e.status, e.written)

pub ends_prefix : {h h' : SinkState} {w w' : List ℕ} {s : Status} {line : List ℕ} (ended : Result Status Failed) → EndsWith s h h' w w' ended line → AppendsPrefix (written h.held w) (written h'.held w') line
ends_prefix {h} {h'} {w} {w'} {line = line} (Ok r) ends = prefix_whole (written h.held w) (written h'.held w') line ends.written
ends_prefix {h} {h'} {w} {w'} {line = line} (Err e) ends = prefix_none (written h.held w) (written h'.held w') line ends.written

-- ---- the status

not_write : (result other : Status) → result ≡ other → other ≢ status.WriteFault → result ≢ status.WriteFault
not_write result other is differs e = differs (sym is ∙ e)

-- If a run ends with a status other than `WriteFault`, the run already had this status before its text was written.
pub ended_as : {h h' : SinkState} {w w' : List ℕ} {ended : Result Status Failed} {result : Status} (other : Status) → other ≢ status.WriteFault → Finishes h h' w w' ended result → result ≡ other → ended ≡ Ok other
ended_as {result = result} other differs finishes is = (finishes.whole (not_write result other is differs)).0 ∙ ap (λ (s : Status). Ok s) is

pub through_to : {h h' : SinkState} {w w' : List ℕ} {ended : Result Status Failed} {result : Status} → Finishes h h' w w' ended result → is_through result ≡ true → IsThrough ended
through_to {result = result} finishes through =
    let other : result ≢ status.WriteFault = λ e. (let t : false ≡ true = ap is_through (sym e) ∙ through in cc) in
    subst IsThrough (sym (finishes.whole other).0) through

pub not_ended : {ended : Result Status Failed} (result other : Status) → ended ≡ Ok result → result ≢ other → ended ≡ Ok other → ⊥
not_ended {ended} result other same differs e = differs (ok_same ended result other same e)

pub quiet_if : {P : Type 0} {ended : Result Status Failed} (result : Status) → ended ≡ Ok result → result ≢ status.ReadFault → result ≢ status.Memory → result ≢ status.WriteFault
    → IfOk ended (λ s. s ≢ status.ReadFault → s ≢ status.Memory → s ≢ status.WriteFault → P) → P
quiet_if {P} result same fault memory write quiet = subst (λ (r : Result Status Failed). IfOk r (λ s. s ≢ status.ReadFault → s ≢ status.Memory → s ≢ status.WriteFault → P)) same quiet fault memory write

-- ---- words that are no command line

pub offence_ends : {h h' : SinkState} {w w' : List ℕ} {ended : Result Status Failed} {line : List ℕ} (other : Status) → status.Words ≢ other → EndsWith status.Words h h' w w' ended line → ended ≡ Ok other → ⊥
offence_ends {ended = ended} other differs ends e = differs (sym (ends_whole other e ends).0)

-- ---- names

pub asks_same : {a b : ShelfState} {p q : Type 0} (names : List (List ℕ)) → (q → p) → AsksFor names a b p → AsksFor names a b q
asks_same names weaker asks = record { count = asks.count; within = asks.within; all = λ done. asks.all (weaker done); asked = asks.asked }

pub asks_nothing : {p : Type 0} (names : List (List ℕ)) (a : ShelfState) → (p → ⊥) → AsksFor names a a p
asks_nothing names a never = record { count = 0; within = omega arith; all = λ done. absurd (never done); asked = λ before stands. subst (WasAsked a.asked) (sym (append-nil before)) stands }

-- ---- devices

-- only a request for `listen` gives items to devices
pub listens_to : (words : List (List ℕ)) (request : Request) → is_listening request ≡ true → IsCommandLine words request → (asked : Listening) × IsCommandLine words (listen asked)
listens_to words (listen asked) listens line = (asked, line)
listens_to words (show limit file) listens line = absurd cc
listens_to words (check limit names) listens line = absurd cc
listens_to words (talk asked) listens line = absurd cc
listens_to words (soak packets) listens line = absurd cc
listens_to words (agree asked) listens line = absurd cc
listens_to words (gateway asked) listens line = absurd cc
