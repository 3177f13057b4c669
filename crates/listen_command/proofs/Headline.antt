-- What `listen` yields of a file that a talker sent, if the talker keeps the rules.
use Rattle.std.proofs.Common.{zero, suc, take, ◌≡◌, List, false, refl, ◌++◌, ℕ, sym, ap, subst, ◌∙◌, Option, Some, inl, inr, ◌∷◌, Bool}
use Rattle.std.specs.Prelude.{◌⊎◌}
use mathlib.Core.List.{IsPrefix}
use Rattle.pcap_frames.specs.Capture.{Record}
use Rattle.listener.specs.declared.plan.ListenPlan.{ListenPlan}
use Rattle.listener.specs.Heard.{shown_of, due_of}
use Rattle.capture_io.specs.declared.end.End.{End}
use Rattle.listener.proofs.Due.{due_first, due_stays}
use Rattle.listener_laws.proofs.Fronts.{longer_front, true_front}
use Rattle.capture_io.specs.Formats.{records_in}
use Rattle.listener.specs.Headline.{KeepsHeadline}
use Rattle.listener.proofs.TrueHeadline.{headline}
use Rattle.avtp_words.specs.Grammar.{Listening}
use Rattle.avtp_text.specs.Notices.{read_fault_line}
use Rattle.avtp_base.specs.declared.failed.FaultPlace.TheVariants as fault_place
use Rattle.avtp_base.specs.declared.failed.FaultPlace.{FaultPlace}
use Rattle.avtp_base.specs.Files.{Files}
use Rattle.capture_io.specs.declared.end.End.TheVariants as end
use Rattle.run_report.specs.Listener.{plan_of}
use Rattle.run_report.specs.Reading.{file_yield, in_order_yield, one_status, one_yield, plan_report}
use Rattle.run_report.specs.Halt.{CanHalt, CanStop, Halt, no_halt, not_opened, stopped_after}
use Rattle.run_report.proofs.OneFile.{stops_here}
use Rattle.capture_io.specs.Ends.{EndsAt, end_of}
use Rattle.capture_io.proofs.Ending.{ends_here}
use Rattle.run_report.specs.Yield.{Yield, says, with_more}
use Rattle.run_report.proofs.Yields.{more_more}
use Rattle.run_report.proofs.InOrder.{among}
use Rattle.capture_hearing.specs.Shown.{shown_by}
use Rattle.listen_command.specs.Listen.{is_cut_short, heard_yield, listen_report, YieldsHeadline, HasHeadline, listen_plan, device_notice, with_devices}

-- ---- the headline

all_shown : (plan : ListenPlan) (records : List Record) (how : End) → is_cut_short how ≡ false → shown_by plan records how ≡ shown_of plan records
all_shown plan records end.Whole all = refl
all_shown plan records (end.Refused refusal) all = refl
all_shown plan records end.ReadFault all = absurd cc
all_shown plan records end.Limit all = absurd cc

whole_first : (plan : ListenPlan) (first others : List Record) → IsPrefix (due_of plan first) (shown_of plan (first ++ others))
whole_first plan first others = longer_front (due_of plan first) (due_of plan (first ++ others)) (shown_of plan (first ++ others)) (due_stays plan first others) (due_first plan (first ++ others))

-- however the reading of `first ++ others` ended, the shown items begin with the items of `first` that are due
first_shown : (plan : ListenPlan) (first others : List Record) (how : End) → IsPrefix (due_of plan first) (shown_by plan (first ++ others) how)
first_shown plan first others end.Whole = whole_first plan first others
first_shown plan first others (end.Refused refusal) = whole_first plan first others
first_shown plan first others end.ReadFault = due_stays plan first others
first_shown plan first others end.Limit = due_stays plan first others

opened : (asked : Listening) (name bytes read : List ℕ) (fault : FaultPlace → Type 0) (how : End) → EndsAt asked.listener.limit (Some bytes) fault how read → YieldsHeadline asked name bytes fault (heard_yield asked name (records_in read) how)
opened asked name bytes read fault how ends =
    let plan : ListenPlan = plan_of asked.listener in
    record {
      how = how;
      read = read;
      ends = ends;
      same = refl;
      front = λ shift p first others split hears. (
        subst (IsPrefix (due_of plan first)) (sym (ap (λ (rs : List Record). shown_by plan rs how) split)) (first_shown plan first others how),
        true_front shift p plan first others hears,
      );
      whole = λ shift p all hears. subst (KeepsHeadline shift p plan (records_in read)) (sym (all_shown plan (records_in read) how all)) (headline shift p plan (records_in read) hears);
    }

of_file : (asked : Listening) (files : Files) (rest : List (List ℕ)) (name bytes : List ℕ) (fault : FaultPlace → Type 0) (halt : Halt) → files name ≡ Some bytes → CanHalt asked.listener.limit (name ∷ rest) files fault halt
    → (fault fault_place.Opening × (file_yield (listen_report asked name) asked.listener.limit (Some bytes) halt ≡ says read_fault_line)) ⊎ YieldsHeadline asked name bytes fault (file_yield (listen_report asked name) asked.listener.limit (Some bytes) halt)
of_file asked files rest name bytes fault no_halt is can = inr (opened asked name bytes (take asked.listener.limit bytes) fault (end_of asked.listener.limit bytes) (ends_here asked.listener.limit bytes fault))
of_file asked files rest name bytes fault (not_opened zero) is can = inl (can, refl)
of_file asked files rest name bytes fault (not_opened (suc place)) is can = inr (opened asked name bytes (take asked.listener.limit bytes) fault (end_of asked.listener.limit bytes) (ends_here asked.listener.limit bytes fault))
of_file asked files rest name bytes fault (stopped_after zero after) is can =
    inr (opened asked name bytes (take after bytes) fault end.ReadFault (stops_here asked.listener.limit bytes after fault (subst (λ (told : Option (List ℕ)). CanStop asked.listener.limit told fault after) is can)))
of_file asked files rest name bytes fault (stopped_after (suc place) after) is can = inr (opened asked name bytes (take asked.listener.limit bytes) fault (end_of asked.listener.limit bytes) (ends_here asked.listener.limit bytes fault))

pub has_headline : (asked : Listening) (files : Files) (fault : FaultPlace → Type 0) (failed : Bool) (halt : Halt) (earlier later : List (List ℕ)) (name bytes : List ℕ) → CanHalt asked.listener.limit asked.files files fault halt
    → (plan_report (listen_plan asked) files halt).came ≡ earlier ++ name ∷ later → files name ≡ Some bytes → HasHeadline asked files fault earlier name bytes (with_devices failed (plan_report (listen_plan asked) files halt)).yields
has_headline asked files fault failed halt earlier later name bytes can reached told =
    let plan = listen_plan asked in
    let notice : Yield = says (device_notice failed (plan_report plan files halt).ended) in
    let this = among plan files fault (λ n records. refl) halt asked.files earlier later name can reached in
    let before = in_order_yield (one_status plan files) (one_yield plan files) no_halt earlier in
    let here = one_yield plan files this.halt name in
    record {
      done = this.done;
      here = here;
      keeps = subst (λ (it : Option (List ℕ)). (fault fault_place.Opening × (file_yield (listen_report asked name) asked.listener.limit it this.halt ≡ says read_fault_line)) ⊎ YieldsHeadline asked name bytes fault (file_yield (listen_report asked name) asked.listener.limit it this.halt)) (sym told)
          (of_file asked files this.rest name bytes fault this.halt told this.can);
      after = with_more this.after notice;
      split = ap (λ (y : Yield). with_more y notice) this.split ∙ more_more before (with_more here this.after) notice ∙ ap (with_more before) (more_more here this.after notice);
    }
