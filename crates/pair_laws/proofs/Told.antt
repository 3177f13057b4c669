-- Batches that a listener presents at the same first instant have different sequence numbers.
use Rattle.std.proofs.Common.{◌≡◌, ◌<◌, List, [], ◌∷◌, map, sym, ◌∙◌, subst}
use Rattle.std.specs.List.{AllByRecursion}
use Rattle.clock_track.specs.Rows.{clock_spot}
use Rattle.pcap_frames.specs.Capture.{Record}
use Rattle.sample_schedule.specs.declared.accepted.Accepted.{Accepted}
use Rattle.sample_schedule.specs.Batches.{Presented}
use Rattle.sample_schedule.specs.Laws.{IsNoCopy, Pairwise, presented}
use Rattle.sample_schedule.specs.Schedule.{given}
use Rattle.sample_schedule.specs.Verdicts.{first_instant}
use Rattle.sample_schedule.proofs.LawLemmas.{presented-distinct}
use Rattle.listener.specs.declared.plan.ListenPlan.{ListenPlan}
use Rattle.listener.specs.Heard.{entries_in, schedule_plan, shown_of}
use Rattle.listener.specs.Laws.{presented_of}
use Rattle.listener.proofs.TrueList.{batches_are}
use Rattle.pair_laws.specs.Beside.{AreAllTold, AreTold, IsPresentation}
use Rattle.capture_pair.proofs.Heard.{presented-timely, shown-in-order}

abbrev AllTimely : List Accepted → Type 0
AllTimely xs = AllByRecursion (λ (a : Accepted). a.instant ≡ first_instant a.batch) xs

told-from : (a : Accepted) (rest : List Accepted) → a.instant ≡ first_instant a.batch → AllTimely rest → AllByRecursion (IsNoCopy a) rest → AllByRecursion (AreTold a.batch) (map (λ (b : Accepted). b.batch) rest)
told-from a [] ta tr h = tt
told-from a (b ∷ rest) ta tr h = ((λ e. h.0 (ta ∙ e ∙ sym tr.0)), told-from a rest ta tr.1 h.1)

all-told : (xs : List Accepted) → AllTimely xs → Pairwise IsNoCopy xs → AreAllTold (map (λ (a : Accepted). a.batch) xs)
all-told [] t h = tt
all-told (a ∷ rest) t h = (told-from a rest t.0 t.1 h.0, all-told rest t.1 h.1)

pub shown-told : (plan : ListenPlan) (records : List Record) → AllByRecursion (λ (x : Presented). x.seq < 256) (presented_of (shown_of plan records)) → IsPresentation (presented_of (shown_of plan records))
shown-told plan records bytes =
    let gs = given clock_spot (schedule_plan plan) (entries_in plan records) in
    record {
      order = shown-in-order plan records;
      told = subst AreAllTold (sym (batches_are gs)) (all-told (presented gs) (presented-timely clock_spot (schedule_plan plan) (entries_in plan records)) (presented-distinct clock_spot (schedule_plan plan) (entries_in plan records)));
      bytes = bytes;
    }
