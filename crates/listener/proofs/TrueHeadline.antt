-- If the talker keeps the rules, the headline holds for what is shown.
use Rattle.std.proofs.Common.{◌≡◌, ℕ, ℤ, List, [], ◌∷◌, ap, ◌∙◌}
use Rattle.std.specs.Prelude.{Result}
use Rattle.clock_track.specs.Rows.{clock_spot}
use Rattle.pcap_frames.specs.Capture.{Record}
use Rattle.sample_schedule.specs.declared.accepted.Accepted.{Accepted}
use Rattle.sample_schedule.specs.declared.shown.Reason.{Reason}
use Rattle.sample_schedule.specs.declared.shown.Reason.TheVariants.{Repeat}
use Rattle.sample_schedule.specs.declared.shown.Shown.TheVariants.{Flag}
use Rattle.sample_schedule.proofs.LawLemmas.{bounded}
use Rattle.packet_journal.specs.Packets.{PacketJournal}
use Rattle.listener.specs.declared.plan.ListenPlan.{ListenPlan}
use Rattle.listener.specs.Headline.{KeepsHeadline}
use Rattle.listener.specs.Heard.{entries_in, schedule_plan, shown_of}
use Rattle.listener.specs.Items.{MadeItem}
use Rattle.listener.specs.Laws.{HearsTalker, IsFurther, by_clock, shown_by, shown_of_frame}
use Rattle.listener.proofs.Shown.{each_in_one_item, item_shown, no_other_shown}
use Rattle.listener.proofs.TrueList.{presented_heard}
use Rattle.listener.proofs.TrueOnce.{all_agree, presented_once}
use Rattle.listener.proofs.TrueOrder.{never_falls}
use Rattle.listener.proofs.TrueTimely.{further_judged, welcome_shown}

pub further_flagged : (shift : ℤ) (p : PacketJournal) (plan : ListenPlan) (records : List Record) (place n : ℕ) (made : MadeItem) → HearsTalker shift p plan records → IsFurther p plan records place n made
    → shown_of_frame made.last.frame (shown_of plan records) ≡ Flag made.last.frame made.last.seq Repeat ∷ []
further_flagged shift p plan records place n made h w =
    let judged = further_judged shift p plan records place n made h w in
    item_shown plan records place made judged.item w.timely.there judged.entry
    ∙ ap (λ (r : Result Accepted Reason). shown_by made.last r ∷ []) judged.repeat

pub headline : (shift : ℤ) (p : PacketJournal) (plan : ListenPlan) (records : List Record) → HearsTalker shift p plan records → KeepsHeadline shift p plan records (shown_of plan records)
headline shift p plan records h = record {
  genuine = presented_heard shift p plan records h;
  once = presented_once shift p plan records h;
  in_order = never_falls shift p plan records h;
  known = λ place n made. welcome_shown shift p plan records place n made h;
  repeats = λ place n made. further_flagged shift p plan records place n made h;
  each_made = each_in_one_item plan records;
  each_shown = item_shown plan records;
  no_other = no_other_shown plan records;
  agrees = λ other others g same. all_agree (by_clock plan) p _ _ h.conforming.times;
  buffer = λ place. (bounded clock_spot (schedule_plan plan) (entries_in plan records) place).batches;
  room = λ place. (bounded clock_spot (schedule_plan plan) (entries_in plan records) place).bytes;
}
