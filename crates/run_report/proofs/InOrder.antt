-- Files that are read in order.
use Rattle.std.proofs.Common.{if◌then◌else◌, zero, suc, Some, None, take, ◌≡◌, inl, inr, refl, sym, subst, ap, ◌∙◌, true, false, ℕ, List, [], ◌∷◌, ◌++◌, Option, Result, Ok, Err}
use Rattle.std.specs.Prelude.{◌⊎◌, ◌≢◌, IfOk}
use Rattle.std.proofs.lemmas.Bool.{cases_Bool}
use Rattle.avtp_base.specs.declared.failed.Failed.{Failed}
use Rattle.avtp_base.specs.States.{Asks, ShelfState}
use Rattle.sample_schedule.specs.declared.shown.Shown.{Shown}
use Rattle.avtp_base.specs.Files.{Files}
use Rattle.avtp_base.specs.declared.failed.FaultPlace.{FaultPlace}
use Rattle.run_report.specs.declared.status.Status.{Status}
use Rattle.run_report.specs.Reading.{FileOutcome, joined, in_order_read, in_order_status, in_order_yield, one_status, one_yield, PlanOutcome, plan_report, ReadPlan, file_status}
use Rattle.run_report.specs.Outcome.{is_done, IsDone, TellsRun, TellsYield}
use Rattle.run_report.specs.Yield.{says, Yield, with_more, Gives, GivesPart}
use Rattle.run_report.proofs.Yields.{more_more, more_none, gives_then, Joins, part_before, part_then}
use Rattle.run_report.proofs.RunReports.{same_run}
use Rattle.run_report.specs.RunReport.{run_of}
use Rattle.run_report.specs.Reading.FileOutcome.{through, refused, halted}
use Rattle.run_report.specs.Halt.{Halt, CanHalt, CanStop, past_first, no_halt, not_opened, stopped_after}
use Rattle.capture_io.specs.declared.end.End.TheVariants as end
use Rattle.capture_io.specs.Formats.{records_in}
use Rattle.pcap_frames.specs.Capture.{Record}
use Rattle.run_report.specs.declared.status.Status.TheVariants as status

-- ---- the status of files that are read one after another

-- if the later status is not `Done`, the joined status is the later status, whatever the earlier status is
last_of : (s : Status) → (s ≡ status.Done) ⊎ ((first : Status) → joined first s ≡ s)
last_of status.Done = inl refl
last_of status.Findings = inr (λ first. refl)
last_of status.Words = inr (λ first. refl)
last_of status.Refused = inr (λ first. refl)
last_of status.ReadFault = inr (λ first. refl)
last_of status.WriteFault = inr (λ first. refl)
last_of status.Memory = inr (λ first. refl)
last_of status.Limit = inr (λ first. refl)
last_of status.DeviceFault = inr (λ first. refl)
last_of status.TalkInput = inr (λ first. refl)

pub joined_none : (rest : Status) → joined status.Done rest ≡ rest
joined_none rest = elim (last_of rest) [ inl done ↦ subst (λ (s : Status). joined status.Done s ≡ s) (sym done) refl | inr last ↦ last status.Done ]

joined_twice : (a b c : Status) → joined (joined a b) c ≡ joined a (joined b c)
joined_twice a b c = elim (last_of c) [
  | inl done ↦ subst (λ (s : Status). joined (joined a b) s ≡ joined a (joined b s)) (sym done) refl
  | inr last ↦ last (joined a b) ∙ sym (ap (joined a) (last b) ∙ last a)
]

-- if a run over files is done, the run over all files but the first is done, too
pub rest_done : (first rest : Status) → is_done (joined first rest) ≡ true → is_done rest ≡ true
rest_done first rest done = elim (last_of rest) [ inl is ↦ ap is_done is | inr last ↦ ap is_done (sym (last first)) ∙ done ]

pub all_done : (first rest : Status) → is_done first ≡ true → is_done rest ≡ true → is_done (joined first rest) ≡ true
all_done first rest done more = elim (last_of rest) [ inl is ↦ ap (λ (s : Status). is_done (joined first s)) is ∙ done | inr last ↦ ap is_done (last first) ∙ more ]

-- if the run over the later files is not done, the joined status is the status of that run
joined_stop : (first rest : Status) → is_done rest ≡ false → joined first rest ≡ rest
joined_stop first rest stops = elim (last_of rest) [ inl is ↦ absurd (let t : true ≡ false = sym (ap is_done is) ∙ stops in cc) | inr last ↦ last first ]

-- ---- one file

one_read : (one : Halt → List ℕ → Status) (halt : Halt) (name : List ℕ) → in_order_read one halt (name ∷ []) ≡ name ∷ []
unfolding in_order_read
one_read one halt name = elim (cases_Bool (is_done (one halt name))) [ inl is ↦ rw is refl | inr is ↦ rw is refl ]

one_ended : (one : Halt → List ℕ → Status) (halt : Halt) (name : List ℕ) → in_order_status one halt (name ∷ []) ≡ one halt name
unfolding in_order_status
one_ended one halt name = elim (cases_Bool (is_done (one halt name))) [ inl is ↦ rw is refl | inr is ↦ rw is refl ]

one_given : (one : Halt → List ℕ → Status) (yields : Halt → List ℕ → Yield) (halt : Halt) (name : List ℕ) → in_order_yield one yields halt (name ∷ []) ≡ yields halt name
unfolding in_order_yield
one_given one yields halt name = elim (cases_Bool (is_done (one halt name))) [ inl is ↦ rw is (more_none (yields halt name)) | inr is ↦ rw is (more_none (yields halt name)) ]

-- what a command over one file does
pub one_only : (plan : ReadPlan) (files : Files) (halt : Halt) (name : List ℕ) → plan.names ≡ name ∷ [] → run_of (name ∷ []) (one_status plan files halt name) (one_yield plan files halt name) None ≡ plan_report plan files halt
one_only plan files halt name named =
    let one = one_status plan files in
    subst (λ (ns : List (List ℕ)). run_of (name ∷ []) (one halt name) (one_yield plan files halt name) None ≡ run_of (in_order_read one halt ns) (in_order_status one halt ns) (in_order_yield one (one_yield plan files) halt ns) None) (sym named)
    (same_run (name ∷ []) _ (one halt name) _ (one_yield plan files halt name) _ None None (sym (one_read one halt name)) (sym (one_ended one halt name)) (sym (one_given one (one_yield plan files) halt name)) refl)

-- ---- the read fault of a run

-- a read fault, with places counted from one file earlier
abbrev pub one_later : Halt → Halt
one_later no_halt = no_halt
one_later (not_opened place) = not_opened (suc place)
one_later (stopped_after place after) = stopped_after (suc place) after

later_past : (halt : Halt) → past_first (one_later halt) ≡ halt
later_past no_halt = refl
later_past (not_opened place) = refl
later_past (stopped_after place after) = refl

later_can : (limit : ℕ) (name : List ℕ) (names : List (List ℕ)) (files : Files) (fault : FaultPlace → Type 0) (halt : Halt) → CanHalt limit names files fault halt → CanHalt limit (name ∷ names) files fault (one_later halt)
later_can limit name names files fault no_halt can = can
later_can limit name names files fault (not_opened place) can = can
later_can limit name names files fault (stopped_after place after) can = can

later_first : (plan : ReadPlan) (files : Files) (halt : Halt) (name : List ℕ) (told : Option (List ℕ)) → files name ≡ told
    → (one_status plan files (one_later halt) name ≡ one_status plan files no_halt name) × (one_yield plan files (one_later halt) name ≡ one_yield plan files no_halt name)
later_first plan files no_halt name told is = (refl, refl)
later_first plan files (not_opened place) name None is = rw is (refl, refl)
later_first plan files (not_opened place) name (Some bytes) is = rw is (refl, refl)
later_first plan files (stopped_after place after) name None is = rw is (refl, refl)
later_first plan files (stopped_after place after) name (Some bytes) is = rw is (refl, refl)

-- a file whose reading a read fault stopped is not done
abbrev pub StopsAll : ReadPlan → Type 0
StopsAll plan = (name : List ℕ) (records : List Record) → is_done ((plan.report name).status records end.ReadFault) ≡ false

-- a read fault, with places counted from the first of the files `names`, which come before
later_by : List (List ℕ) → Halt → Halt
later_by [] halt = halt
later_by (name ∷ names) halt = one_later (later_by names halt)

by_none : (names : List (List ℕ)) → later_by names no_halt ≡ no_halt
unfolding later_by
by_none [] = refl
by_none (name ∷ names) = ap one_later (by_none names)

by_can : (limit : ℕ) (names more : List (List ℕ)) (files : Files) (fault : FaultPlace → Type 0) (halt : Halt) → CanHalt limit more files fault halt → CanHalt limit (names ++ more) files fault (later_by names halt)
unfolding later_by
by_can limit [] more files fault halt can = can
by_can limit (name ∷ names) more files fault halt can = later_can limit name (names ++ more) files fault (later_by names halt) (by_can limit names more files fault halt can)

never_stops : (limit : ℕ) (told : Option (List ℕ)) (fault : FaultPlace → Type 0) (after : ℕ) → ((place : FaultPlace) → fault place → ⊥) → CanStop limit told fault after → ⊥
never_stops limit None fault after none can = can
never_stops limit (Some bytes) fault after none can = none _ can.0

-- without a read fault, no read fault ended the run
pub never_halts : (limit : ℕ) (names : List (List ℕ)) (files : Files) (fault : FaultPlace → Type 0) (halt : Halt) → ((place : FaultPlace) → fault place → ⊥) → CanHalt limit names files fault halt → halt ≡ no_halt
never_halts limit names files fault no_halt none can = refl
never_halts limit [] files fault (not_opened place) none can = absurd can
never_halts limit [] files fault (stopped_after place after) none can = absurd can
never_halts limit (name ∷ names) files fault (not_opened zero) none can = absurd (none _ can)
never_halts limit (name ∷ names) files fault (stopped_after zero after) none can = absurd (never_stops limit (files name) fault after none can)
never_halts limit (name ∷ names) files fault (not_opened (suc place)) none can = absurd (let e = never_halts limit names files fault (not_opened place) none can in cc)
never_halts limit (name ∷ names) files fault (stopped_after (suc place) after) none can = absurd (let e = never_halts limit names files fault (stopped_after place after) none can in cc)

-- the possible outcomes of the file with this name, given the files of a shelf
abbrev pub one_outcome : ReadPlan → Files → (FaultPlace → Type 0) → List ℕ → Status → Yield → Type 0
one_outcome plan files fault name ended yields = FileOutcome (plan.report name) plan.limit (files name) fault ended yields

-- A file's outcome, under one of the read faults that are possible if the file is the first of a run.
pub record FileAt (plan : ReadPlan) (files : Files) (fault : FaultPlace → Type 0) (name : List ℕ) (ended : Status) (yields : Yield) : Type 0 where
  pub halt : Halt
  pub can : (rest : List (List ℕ)) → CanHalt plan.limit (name ∷ rest) files fault halt
  pub ended_is : ended ≡ one_status plan files halt name
  pub yields_is : yields ≡ one_yield plan files halt name

pub file_at : (plan : ReadPlan) (files : Files) (fault : FaultPlace → Type 0) (name : List ℕ) (ended : Status) (yields : Yield) → one_outcome plan files fault name ended yields → FileAt plan files fault name ended yields
file_at plan files fault name ended yields (through is all) = record { halt = no_halt; can = λ rest. tt; ended_is = is; yields_is = all }
file_at plan files fault name ended yields (refused cause is all) = record { halt = not_opened zero; can = λ rest. cause; ended_is = is; yields_is = all }
file_at plan files fault name ended yields (halted after can is all) = record { halt = stopped_after zero after; can = λ rest. can; ended_is = is; yields_is = all }

-- ---- files that are read to their ends, and the files after them

first_done : (plan : ReadPlan) (files : Files) (halt : Halt) (name : List ℕ) (told : Option (List ℕ)) → StopsAll plan → files name ≡ told → is_done (file_status (plan.report name) plan.limit told halt) ≡ true
    → (one_status plan files halt name ≡ one_status plan files no_halt name) × (one_yield plan files halt name ≡ one_yield plan files no_halt name)
first_done plan files no_halt name told stops is done = (refl, refl)
first_done plan files (not_opened place) name None stops is done = absurd cc
first_done plan files (stopped_after place after) name None stops is done = absurd cc
first_done plan files (not_opened zero) name (Some bytes) stops is done = absurd cc
first_done plan files (not_opened (suc place)) name (Some bytes) stops is done = rw is (refl, refl)
first_done plan files (stopped_after zero after) name (Some bytes) stops is done = absurd (let t : false ≡ true = sym (stops name (records_in (take after bytes))) ∙ done in cc)
first_done plan files (stopped_after (suc place) after) name (Some bytes) stops is done = rw is (refl, refl)

-- The files `names` are read to their ends, and the files `more` come after them.
pub record GoesOn (plan : ReadPlan) (files : Files) (names more : List (List ℕ)) (halt late : Halt) : Type 0 where
  pub read : in_order_read (one_status plan files) late (names ++ more) ≡ names ++ in_order_read (one_status plan files) halt more
  pub ended : in_order_status (one_status plan files) late (names ++ more) ≡ joined (in_order_status (one_status plan files) no_halt names) (in_order_status (one_status plan files) halt more)
  pub yields : in_order_yield (one_status plan files) (one_yield plan files) late (names ++ more)
      ≡ with_more (in_order_yield (one_status plan files) (one_yield plan files) no_halt names) (in_order_yield (one_status plan files) (one_yield plan files) halt more)

goes_on : (plan : ReadPlan) (files : Files) (names more : List (List ℕ)) (halt : Halt) → is_done (in_order_status (one_status plan files) no_halt names) ≡ true → GoesOn plan files names more halt (later_by names halt)
unfolding in_order_read in_order_status in_order_yield later_by
goes_on plan files [] more halt done = record { read = refl; ended = sym (joined_none (in_order_status (one_status plan files) halt more)); yields = refl }
goes_on plan files (name ∷ names) more halt done =
    elim (cases_Bool (is_done (one_status plan files no_halt name))) [
      | inl on ↦
          let one = one_status plan files in
          let given = one_yield plan files in
          let first = later_first plan files (later_by names halt) name (files name) refl in
          let past = later_past (later_by names halt) in
          let here : is_done (one (one_later (later_by names halt)) name) ≡ true = ap is_done first.0 ∙ on in
          let next = goes_on plan files names more halt (rest_done (one no_halt name) (in_order_status one no_halt names) (rw on at done)) in
          record {
            read = rw (here, past) (ap (λ (ns : List (List ℕ)). name ∷ ns) next.read);
            ended = rw (here, past, on) (ap (λ (s : Status). joined s (in_order_status one (later_by names halt) (names ++ more))) first.0 ∙ ap (joined (one no_halt name)) next.ended
                ∙ sym (joined_twice (one no_halt name) (in_order_status one no_halt names) (in_order_status one halt more)));
            yields = rw (here, past, on) (ap (λ (y : Yield). with_more y (in_order_yield one given (later_by names halt) (names ++ more))) first.1 ∙ ap (with_more (given no_halt name)) next.yields
                ∙ sym (more_more (given no_halt name) (in_order_yield one given no_halt names) (in_order_yield one given halt more)));
          }
      | inr off ↦ absurd (let undone : is_done (one_status plan files no_halt name) ≡ true = rw off at done in let t : true ≡ false = sym undone ∙ off in cc)
    ]

-- ---- what a run over several files gives out

-- The files `names` of a plan were read to their ends, with the status `ended`. What they yield was given out.
pub record IsReadTo (plan : ReadPlan) (handed : List Shown → Type 0) (files : Files) (names : List (List ℕ)) (ended : Status) (old now : Option (List ℕ)) : Type 0 where
  pub read : in_order_read (one_status plan files) no_halt names ≡ names
  pub ended_is : ended ≡ in_order_status (one_status plan files) no_halt names
  pub gives : Gives handed old now (in_order_yield (one_status plan files) (one_yield plan files) no_halt names)

pub tells_done : {earlier handed all_handed : List Shown → Type 0} (before mid now : Option (List ℕ)) (plan : ReadPlan) (files : Files) (fault : FaultPlace → Type 0) (names : List (List ℕ)) (name : List ℕ) (so_far ended : Status) → StopsAll plan → Joins earlier handed all_handed
    → is_done so_far ≡ true → is_done ended ≡ true → IsReadTo plan earlier files names so_far before mid → TellsYield (one_outcome plan files fault name) handed mid now (Ok ended) → IsReadTo plan all_handed files (names ++ name ∷ []) (joined so_far ended) before now
tells_done {all_handed = all_handed} before mid now plan files fault names name so_far ended stops join done goes to t =
    let one = one_status plan files in
    let given = one_yield plan files in
    let w = t.whole (not_memory ended goes) (not_write ended goes) in
    let at = file_at plan files fault name t.ended t.yields t.outcome in
    let here = first_done plan files at.halt name (files name) stops refl (ap is_done (sym (w.0 ∙ at.ended_is)) ∙ goes) in
    let more = subst (GoesOn plan files names (name ∷ []) no_halt) (by_none names) (goes_on plan files names (name ∷ []) no_halt (ap is_done (sym to.ended_is) ∙ done)) in
    record {
      read = more.read ∙ ap (λ (ns : List (List ℕ)). names ++ ns) (one_read one no_halt name);
      ended_is = ap (λ (s : Status). joined s ended) to.ended_is ∙ ap (joined (in_order_status one no_halt names)) (w.0 ∙ at.ended_is ∙ here.0 ∙ sym (one_ended one no_halt name)) ∙ sym more.ended;
      gives = subst (Gives all_handed before now) (ap (with_more (in_order_yield one given no_halt names)) (at.yields_is ∙ here.1 ∙ sym (one_given one given no_halt name)) ∙ sym more.yields)
          (gives_then join (in_order_yield one given no_halt names) t.yields to.gives w.1);
    }
  where
    not_memory : (s : Status) → is_done s ≡ true → s ≢ status.Memory
    not_memory s goes e = let t : false ≡ true = ap is_done (sym e) ∙ goes in cc

    not_write : (s : Status) → is_done s ≡ true → s ≢ status.WriteFault
    not_write s goes e = let t : false ≡ true = ap is_done (sym e) ∙ goes in cc

pub tells_stopped : {a b : ShelfState} {before mid now : Option (List ℕ)} {earlier handed all_handed : List Shown → Type 0} {result : Result Status Failed} (plan : ReadPlan) (files : Files) (fault : FaultPlace → Type 0) (names rest : List (List ℕ)) (name : List ℕ) (so_far : Status)
    → Joins earlier handed all_handed → plan.names ≡ names ++ name ∷ rest → is_done so_far ≡ true → IsReadTo plan earlier files names so_far before mid → TellsYield (one_outcome plan files fault name) handed mid now result → (IsDone result → ⊥) → Asks (names ++ name ∷ []) a b
    → TellsRun (PlanOutcome plan files fault) all_handed a b before now result
unfolding in_order_read in_order_status in_order_yield
tells_stopped {a} {b} {before} {mid} {now} {earlier} {handed} {all_handed} {result} plan files fault names rest name so_far join split done to t undone asked = record {
  came = (plan_report plan files halt).came;
  ended = (plan_report plan files halt).ended;
  yields = (plan_report plan files halt).yields;
  outcome = (halt, subst (λ (ns : List (List ℕ)). CanHalt plan.limit ns files fault halt) (sym split) (by_can plan.limit names (name ∷ rest) files fault at.halt (at.can rest)), refl);
  whole = whole_at result undone t.whole;
  part = subst (GivesPart all_handed before now) (sym all) (part_then join first (with_more t.yields after) to.gives (part_before t.yields after t.part));
} where
  at : FileAt plan files fault name t.ended t.yields
  at = file_at plan files fault name t.ended t.yields t.outcome

  halt : Halt
  halt = later_by names at.halt

  one : Halt → List ℕ → Status
  one = one_status plan files

  first : Yield
  first = in_order_yield one (one_yield plan files) no_halt names

  after : Yield
  after = if is_done (one at.halt name) then in_order_yield one (one_yield plan files) (past_first at.halt) rest else says []

  more : GoesOn plan files names (name ∷ rest) at.halt halt
  more = goes_on plan files names (name ∷ rest) at.halt (ap is_done (sym to.ended_is) ∙ done)

  all : (plan_report plan files halt).yields ≡ with_more first (with_more t.yields after)
  all = ap (in_order_yield one (one_yield plan files) halt) split ∙ more.yields ∙ ap (λ (y : Yield). with_more first (with_more y after)) (sym at.yields_is)

  whole_at : (r : Result Status Failed) → (IsDone r → ⊥) → IfOk r (λ s. s ≢ status.Memory → s ≢ status.WriteFault → (s ≡ t.ended) × Gives handed mid now t.yields)
      → IfOk r (λ s. s ≢ status.Memory → s ≢ status.WriteFault → (s ≡ (plan_report plan files halt).ended) × Gives all_handed before now (plan_report plan files halt).yields × Asks (plan_report plan files halt).came a b)
  whole_at (Err e) undone whole = tt
  whole_at (Ok s) undone whole = λ memory write.
      let w = whole memory write in
      elim (cases_Bool (is_done (one at.halt name))) [
        | inl on ↦ absurd (undone (ap is_done (w.0 ∙ at.ended_is) ∙ on))
        | inr off ↦
            let last : in_order_status one at.halt (name ∷ rest) ≡ one at.halt name = rw off refl in
            let came : in_order_read one at.halt (name ∷ rest) ≡ name ∷ [] = rw off refl in
            let none : after ≡ says [] = rw off refl in (
              w.0 ∙ at.ended_is ∙ sym (ap (in_order_status one halt) split ∙ more.ended ∙ ap (joined (in_order_status one no_halt names)) last ∙ joined_stop (in_order_status one no_halt names) (one at.halt name) off),
              subst (Gives all_handed before now) (sym (all ∙ ap (λ (y : Yield). with_more first (with_more t.yields y)) none ∙ ap (with_more first) (more_none t.yields))) (gives_then join first t.yields to.gives w.1),
              subst (λ (ns : List (List ℕ)). Asks ns a b) (sym (ap (in_order_read one halt) split ∙ more.read ∙ ap (λ (ns : List (List ℕ)). names ++ ns) came)) asked,
            )
      ]

-- ---- a file among the files that a run reached

past_can : (limit : ℕ) (name : List ℕ) (names : List (List ℕ)) (files : Files) (fault : FaultPlace → Type 0) (halt : Halt) → CanHalt limit (name ∷ names) files fault halt → CanHalt limit names files fault (past_first halt)
past_can limit name names files fault no_halt can = can
past_can limit name names files fault (not_opened zero) can = tt
past_can limit name names files fault (not_opened (suc place)) can = can
past_can limit name names files fault (stopped_after zero after) can = tt
past_can limit name names files fault (stopped_after (suc place) after) can = can

-- What a run yields, in three parts: first what the earlier files yield, all of which are done, then what the file
-- `name` yields, then what the later files yield. `halt` is the run's read fault, with places counted from the file
-- `name` on.
pub record IsAmong (plan : ReadPlan) (files : Files) (fault : FaultPlace → Type 0) (earlier : List (List ℕ)) (name : List ℕ) (yields : Yield) : Type 0 where
  pub halt : Halt
  pub rest : List (List ℕ)
  pub can : CanHalt plan.limit (name ∷ rest) files fault halt
  pub after : Yield
  pub done : is_done (in_order_status (one_status plan files) no_halt earlier) ≡ true
  pub split : yields ≡ with_more (in_order_yield (one_status plan files) (one_yield plan files) no_halt earlier) (with_more (one_yield plan files halt name) after)

none_after : (earlier later : List (List ℕ)) (name : List ℕ) → [] ≡ earlier ++ name ∷ later → ⊥
none_after [] later name e = absurd cc
none_after (other ∷ earlier) later name e = absurd cc

pub among : (plan : ReadPlan) (files : Files) (fault : FaultPlace → Type 0) → StopsAll plan → (halt : Halt) (names earlier later : List (List ℕ)) (name : List ℕ) → CanHalt plan.limit names files fault halt
    → in_order_read (one_status plan files) halt names ≡ earlier ++ name ∷ later → IsAmong plan files fault earlier name (in_order_yield (one_status plan files) (one_yield plan files) halt names)
unfolding in_order_read in_order_status in_order_yield
among plan files fault stops halt [] earlier later name can came = absurd (none_after earlier later name came)
among plan files fault stops halt (n ∷ ns) [] later name can came =
    let same : n ≡ name = cc in
    record {
      halt = halt;
      rest = ns;
      can = subst (λ (it : List ℕ). CanHalt plan.limit (it ∷ ns) files fault halt) same can;
      after = if is_done (one_status plan files halt n) then in_order_yield (one_status plan files) (one_yield plan files) (past_first halt) ns else says [];
      done = refl;
      split = ap (λ (it : List ℕ). with_more (one_yield plan files halt it) (if is_done (one_status plan files halt n) then in_order_yield (one_status plan files) (one_yield plan files) (past_first halt) ns else says [])) same;
    }
among plan files fault stops halt (n ∷ ns) (other ∷ earlier) later name can came =
    elim (cases_Bool (is_done (one_status plan files halt n))) [
      | inl on ↦
          let e : n ∷ in_order_read (one_status plan files) (past_first halt) ns ≡ other ∷ (earlier ++ name ∷ later) = rw on at came in
          let next = among plan files fault stops (past_first halt) ns earlier later name (past_can plan.limit n ns files fault halt can) (tail_same e) in
          let first = first_done plan files halt n (files n) stops refl on in
          let is : n ≡ other = head_same e in
          let done_first : is_done (one_status plan files no_halt other) ≡ true = subst (λ (it : List ℕ). is_done (one_status plan files no_halt it) ≡ true) is (ap is_done (sym first.0) ∙ on) in
          let yields_first : one_yield plan files halt n ≡ one_yield plan files no_halt other = first.1 ∙ ap (one_yield plan files no_halt) is in
          let before = in_order_yield (one_status plan files) (one_yield plan files) no_halt earlier in
          record {
            halt = next.halt;
            rest = next.rest;
            can = next.can;
            after = next.after;
            done = rw done_first (all_done (one_status plan files no_halt other) (in_order_status (one_status plan files) no_halt earlier) done_first next.done);
            split = rw (on, done_first) (ap (λ (y : Yield). with_more y (in_order_yield (one_status plan files) (one_yield plan files) (past_first halt) ns)) yields_first ∙ ap (with_more (one_yield plan files no_halt other)) next.split
                ∙ sym (more_more (one_yield plan files no_halt other) before (with_more (one_yield plan files next.halt name) next.after)));
          }
      | inr off ↦ absurd (let e : n ∷ [] ≡ other ∷ (earlier ++ name ∷ later) = rw off at came in none_after earlier later name (tail_same e))
    ]
  where
    head_same : {xs ys : List (List ℕ)} {x y : List ℕ} → x ∷ xs ≡ y ∷ ys → x ≡ y
    head_same e = cc

    tail_same : {xs ys : List (List ℕ)} {x y : List ℕ} → x ∷ xs ≡ y ∷ ys → xs ≡ ys
    tail_same e = cc
