-- If clock packets are noted, samples are counted on the lines of that clock; otherwise they are counted on nominal
-- lines.
use Rattle.std.proofs.Common.{◌≡◌, ℕ, ℤ, true, false, List, Option, Some, None, Ok, sym, ap, subst, ◌∙◌, refl}
use Rattle.std.specs.Prelude.{option_map}
use Rattle.std.specs.List.{filter_map}
use Rattle.clock_track.specs.declared.clock_row.ClockRow.{ClockRow}
use Rattle.clock_track.specs.PairLines.{Spot}
use Rattle.clock_track.specs.Rows.{clock_spot}
use Rattle.clock_track.specs.Window.{ClockState, StandsFor as StandsForRows}
use Rattle.time_unfold.specs.declared.head_rule.Head.{Head}
use Rattle.sample_schedule.specs.declared.entry.Entry.{Entry}
use Rattle.sample_schedule.specs.declared.item.Packet.{Packet}
use Rattle.sample_schedule.specs.declared.noted.Noted.{Noted}
use Rattle.sample_schedule.specs.declared.plan.SchedulePlan.{SchedulePlan}
use Rattle.sample_schedule.specs.declared.shown.Reason.TheVariants.{NoClock}
use Rattle.sample_schedule.specs.Noted.{HasClock, HasNoted, HasNotedClock}
use Rattle.sample_schedule.specs.Verdicts.{Clock, IsClockOf, counted_from, moved, nominal_spot, ok_or_reason, row_of, samples_at, spot_of}

pub without-clock : (clock : Clock) (plan : SchedulePlan) (prefix : List Entry) (noted : Noted) (p : Packet) (head : Head) → HasNoted plan prefix noted → noted.clock ≡ None → Ok (samples_at p (nominal_spot p.rate head)) ≡ counted_from clock plan prefix p (Some head)
without-clock clock plan prefix noted p head h none =
    let off : plan.clock ≡ false = subst (HasClock plan prefix) none h.clock in
    rw off refl

spot-is : (clock : Clock) (plan : SchedulePlan) (prefix : List Entry) (state : ClockState) (rate : ℕ) (head : Head) (spot : Option Spot) → IsClockOf plan clock → HasNotedClock plan prefix state → spot ≡ clock_spot (filter_map row_of prefix) state.shift head.instant rate
    → option_map (moved head.first) spot ≡ spot_of clock plan prefix rate head
spot-is clock plan prefix state rate head spot asks here is =
    let on : plan.clock ≡ true = here.asked in
    let shifted : clock_spot (filter_map row_of prefix) state.shift head.instant rate ≡ clock_spot (filter_map row_of prefix) plan.shift head.instant rate = ap (λ (z : ℤ). clock_spot (filter_map row_of prefix) z head.instant rate) here.shift in
    let asked : clock (filter_map row_of prefix) plan.shift head.instant rate ≡ clock_spot (filter_map row_of prefix) plan.shift head.instant rate = ap (λ (k : Clock). k (filter_map row_of prefix) plan.shift head.instant rate) (asks on) in
    rw on (ap (λ (o : Option Spot). option_map (moved head.first) o) (is ∙ shifted ∙ sym asked))

pub by-clock : (clock : Clock) (plan : SchedulePlan) (prefix : List Entry) (noted : Noted) (state : ClockState) (p : Packet) (head : Head) (spot : Option Spot) → IsClockOf plan clock → HasNoted plan prefix noted → noted.clock ≡ Some state
    → ((rows : List ClockRow) → StandsForRows state rows → spot ≡ clock_spot rows state.shift head.instant p.rate)
    → ok_or_reason NoClock (option_map (samples_at p) (option_map (moved head.first) spot)) ≡ counted_from clock plan prefix p (Some head)
by-clock clock plan prefix noted state p head spot asks h there answers =
    let here : HasNotedClock plan prefix state = subst (HasClock plan prefix) there h.clock in
    ap (λ (o : Option Spot). ok_or_reason NoClock (option_map (samples_at p) o)) (spot-is clock plan prefix state p.rate head spot asks here (answers (filter_map row_of prefix) here.rows))
