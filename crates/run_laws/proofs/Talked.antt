-- What is made by a run of `talk` with the words `talk_words`.
use Rattle.std.proofs.Common.{inl, inr, nat_le, Option, ◌≡◌, ◌≢◌, ℕ, ◌%◌, ◌≤◌, Bool, true, false, List, length, None, Some, IsSome, refl, sym, ap, subst, ◌∙◌}
use Rattle.std.specs.Prelude.{◌==◌}
use Rattle.std.proofs.lemmas.Bool.{cases_Bool, le-leb, leb-true}
use Rattle.avtp_base.specs.Files.{Files}
use Rattle.sample_schedule.specs.declared.shown.Shown.{Shown}
use Rattle.talk_plan.specs.Plan.{IsPlan, most_input}
use Rattle.talker.specs.Faults.{fault_of}
use Rattle.talker.proofs.TalkLemmas.{none_late}
use Rattle.talker.specs.Frames.{capture}
use Rattle.talked_presented.specs.Examples.{plain}
use Rattle.avtp_words.specs.Grammar.{talk}
use Rattle.option_words.specs.Word.{IsName}
use Rattle.run_report.specs.declared.status.Status.{Status}
use Rattle.run_report.specs.declared.status.Status.TheVariants as status
use Rattle.run_report.specs.Made.{MakesOutput}
use Rattle.run_report.specs.Halt.{no_halt}
use Rattle.run_report.specs.RunReport.{RunReport}
use Rattle.talk_plan.specs.declared.fault.TalkFault.{TalkFault}
use Rattle.talk_command.specs.Talk.{talk_by, talk_report}
use Rattle.avtp_tool.specs.HasRun.{Follows}
use Rattle.avtp_tool.specs.Run.{report_for}
use Rattle.run_laws.specs.Defaults.{talk_default, talk_words}
use Rattle.run_laws.specs.Runs.{Ran}
use Rattle.run_laws.proofs.Words.{talks}

-- what a run of `talk` does without a read fault
abbrev plain_run : List ℕ → List ℕ → List ℕ → RunReport
plain_run bytes input output = talk_report (talk_default input output) (Some bytes) no_halt

made_by : (bytes input output : List ℕ) (fault : Option TalkFault) → (talk_by (talk_default input output) bytes fault).ended ≡ status.Done → (talk_by (talk_default input output) bytes fault).made ≡ Some (capture (plain false) bytes)
made_by bytes input output None done = refl
made_by bytes input output (Some why) done = absurd cc

-- a run of `talk` that ends with `Done` makes the capture of its input
made_is : (bytes input output : List ℕ) → (plain_run bytes input output).ended ≡ status.Done → (length bytes ≤ most_input) × ((plain_run bytes input output).made ≡ Some (capture (plain false) bytes))
made_is bytes input output done = elim (cases_Bool (nat_le (length bytes) most_input)) [
  | inl fits ↦ (leb-true (length bytes) most_input fits, rw fits (made_by bytes input output (fault_of (plain false) bytes) (rw fits at done)))
  | inr more ↦ absurd (let e : status.Limit ≡ status.Done = rw more at done in cc)
]

-- what a run did whose input has these bytes
follows : (bytes input output : List ℕ) (files after : Files) (handed : List Shown → Type 0) (still : Type 0) (failed : Bool) (ended : Status) → IsName input → IsName output → input ≢ output → files input ≡ Some bytes
    → (ran : Ran (talk_words input output) handed still failed files after ended) → Follows (plain_run bytes input output) (talk (talk_default input output)) handed ran.shelf ran.shelf' ran.out ran.out' ended
follows bytes input output files after handed still failed ended input_is output_is apart holds ran =
    let asked = talk_default input output in
    let report = (ran.promised (talk asked) (talks input output input_is output_is apart)).reports files ran.told (subst IsSome (sym ran.told_after) refl) in
    let same : report_for (talk asked) files failed report.halt ≡ plain_run bytes input output = ap (report_for (talk asked) files failed) (report.complete ran.read) ∙ ap (λ told. talk_report asked told no_halt) holds in
    subst (λ run. Follows run (talk asked) handed ran.shelf ran.shelf' ran.out ran.out' ended) same report.did

pub makes : (bytes input output : List ℕ) (files after : Files) (handed : List Shown → Type 0) (still : Type 0) (failed : Bool) → IsName input → IsName output → input ≢ output → files input ≡ Some bytes
    → Ran (talk_words input output) handed still failed files after status.Done → (length bytes ≤ most_input) × (after output ≡ Some (capture (plain false) bytes))
makes bytes input output files after handed still failed input_is output_is apart holds ran =
    let whole = (follows bytes input output files after handed still failed status.Done input_is output_is apart holds ran).whole (λ e. cc) (λ e. cc) in
    let done = made_is bytes input output (sym whole.0) in
    let put : MakesOutput (Some output) (Some (capture (plain false) bytes)) (Some files) (Some after) =
    subst (λ it. MakesOutput (Some output) it (Some files) (Some after)) done.1
    (subst (λ it. MakesOutput (Some output) (plain_run bytes input output).made it (Some after)) ran.told
    (subst (λ it. MakesOutput (Some output) (plain_run bytes input output).made ran.shelf.files it) ran.told_after whole.4)) in
    (done.0, put.0)

-- ---- how the run of `talk` ends

-- an input of whole sample frames has no fault
no_fault : (bytes : List ℕ) → IsPlan (plain false) → length bytes ≤ most_input → length bytes % 4 ≡ 0 → fault_of (plain false) bytes ≡ None
unfolding fault_of
no_fault bytes is limit whole = let fours : (length bytes % 4 == 0) ≡ true = rw whole refl in rw (fours, none_late (plain false) bytes is limit) refl

status_is : (bytes input output : List ℕ) → length bytes ≤ most_input → fault_of (plain false) bytes ≡ None → (plain_run bytes input output).ended ≡ status.Done
status_is bytes input output limit none = rw (le-leb (length bytes) most_input limit, none) refl

pub ends : (bytes input output : List ℕ) (files after : Files) (handed : List Shown → Type 0) (still : Type 0) (failed : Bool) (ended : Status) → IsName input → IsName output → input ≢ output → files input ≡ Some bytes
    → IsPlan (plain false) → length bytes ≤ most_input → length bytes % 4 ≡ 0 → Ran (talk_words input output) handed still failed files after ended → ended ≢ status.Memory → ended ≢ status.WriteFault → ended ≡ status.Done
ends bytes input output files after handed still failed ended input_is output_is apart holds is limit whole ran memory written =
    ((follows bytes input output files after handed still failed ended input_is output_is apart holds ran).whole memory written).0 ∙ status_is bytes input output limit (no_fault bytes is limit whole)
