-- The timestamps of a stream lie near nominal instants.
use Rattle.std.proofs.Common.{◌≡◌, ℕ, zero, suc, ◌+◌, ◌*◌, ◌/◌, ◌%◌, ◌<◌, ◌≤◌, Some, None, inl, inr, refl, subst, ap, arith}
use Rattle.std.specs.Prelude.{Option}
use Rattle.std.proofs.Math.Nat.{mul-le-mul_right}
use Rattle.std.proofs.lemmas.Bool.{cases_lt}
use Rattle.std.proofs.lemmas.Nat.{div-add-mod'}
use Rattle.clock_track.specs.PairLines.{pull_down, pull_up}
use Rattle.talk_plan.specs.declared.plan.CrfPlan.{CrfPlan}
use Rattle.talk_plan.specs.declared.plan.TalkPlan.{TalkPlan}
use Rattle.talk_plan.specs.Beats.{IsBeat}
use Rattle.talk_plan.specs.Stamps.{beat_of, stamped_by}
use Rattle.talk_plan.specs.Plan.{HasClock, IsClockPlan, IsAudioPlan, spacing_of}
use Rattle.talk_plan.specs.Timing.{event_of, nominal_instant, nominal_offset, run_of, run_start}
use Rattle.talk_plan.proofs.BeatLemmas.{is_stamped, stamped_early}
use Rattle.talk_plan.proofs.RateLemmas.{rate_range}
use Rattle.talk_plan.proofs.TimingLemmas.{is_offset}
use Rattle.clock_track.proofs.LineFacts.{product}

-- ---- the rates of a plan's stream and of its clock

pub record IsPull (pull : ℕ) : Type 0 where
  pub up : 1 ≤ pull_up pull
  pub down : 1 ≤ pull_down pull
  pub few_up : pull_up pull ≤ 1001
  pub few_down : pull_down pull ≤ 1001
  -- a pull makes a clock at most 1/24 faster
  pub slow : 24 * pull_up pull ≤ 25 * pull_down pull

pub is_pull : (pull : ℕ) → pull ≤ 5 → IsPull pull
is_pull zero few = record { up = omega arith; down = omega arith; few_up = omega arith; few_down = omega arith; slow = omega arith }
is_pull (suc zero) few = record { up = omega arith; down = omega arith; few_up = omega arith; few_down = omega arith; slow = omega arith }
is_pull (suc (suc zero)) few = record { up = omega arith; down = omega arith; few_up = omega arith; few_down = omega arith; slow = omega arith }
is_pull (suc (suc (suc zero))) few = record { up = omega arith; down = omega arith; few_up = omega arith; few_down = omega arith; slow = omega arith }
is_pull (suc (suc (suc (suc zero)))) few = record { up = omega arith; down = omega arith; few_up = omega arith; few_down = omega arith; slow = omega arith }
is_pull (suc (suc (suc (suc (suc zero)))))
    few = record { up = omega arith; down = omega arith; few_up = omega arith; few_down = omega arith; slow = omega arith }
is_pull (suc (suc (suc (suc (suc (suc pull)))))) few = absurd (omega arith)

whole_part : (a b : ℕ) → 1 ≤ a → a % b ≡ 0 → (a / b * b ≡ a) × (1 ≤ a / b)
whole_part a b some whole =
    let split = div-add-mod' a b in
    let same : a / b * b ≡ a = omega arith in
    let one : 1 ≤ a / b = elim (cases_lt (a / b) 1) [
      | inl none ↦ let z : a / b ≡ 0 = omega arith in let e : a / b * b ≡ 0 * b = ap (λ (n : ℕ). n * b) z in absurd (omega arith)
      | inr one ↦ one
    ] in
    (same, one)

pub clock_of : (plan : TalkPlan) (crf : CrfPlan) → IsAudioPlan plan → plan.crf ≡ Some crf → IsClockPlan crf plan.rate plan.count plan.restart
clock_of plan crf p e = subst (λ (c : Option CrfPlan). HasClock c plan.rate plan.count plan.restart) e p.crf

pub is_beat : (plan : TalkPlan) (crf : CrfPlan) → IsAudioPlan plan → plan.crf ≡ Some crf → IsBeat (beat_of crf plan)
unfolding spacing_of
is_beat plan crf p e =
    let of = clock_of plan crf p e in
    let range = rate_range plan p in
    let pull = is_pull crf.pull of.pull in
    let up : ℕ = crf.rate * pull_up crf.pull in
    let some_up : 1 ≤ up = product crf.rate (pull_up crf.pull) of.some_rate pull.up in
    let some : 1 ≤ crf.interval * plan.rate * pull_down crf.pull = product (crf.interval * plan.rate) (pull_down crf.pull)
    (product crf.interval plan.rate of.some_interval (omega (arith, range.least))) pull.down in
    let whole = whole_part (crf.interval * plan.rate * pull_down crf.pull) up some of.whole in
    let most : up ≤ 200000000 * pull_up crf.pull = mul-le-mul_right (pull_up crf.pull) of.most_rate in
    record {
      rate_from = range.least;
      rate_to = range.most;
      some = whole.1;
      some_up = some_up;
      same_time = whole.0;
      slow = omega (arith, pull.slow);
    }

-- ---- timestamps lie near nominal instants

-- how much later (`late_by`) and how much earlier (`early_by`) a timestamp can be than its nominal instant, in
-- nanoseconds; 0 without a clock
abbrev pub late_by : Option CrfPlan → ℕ
late_by None = 0
late_by (Some crf) = 1

abbrev pub early_by : Option CrfPlan → ℕ
early_by None = 0
early_by (Some crf) = 2

pub record IsNear (crf : Option CrfPlan) (stamp nominal : ℕ) : Type 0 where
  pub late : stamp ≤ nominal + late_by crf
  pub early : nominal ≤ stamp + early_by crf

close : (rate stamp start q e : ℕ) → 1 ≤ rate → q * rate ≤ e * 1000000000 → e * 1000000000 < q * rate + rate
    → stamp * rate ≤ start * rate + e * 1000000000 + rate
    → start * rate + e * 1000000000 < stamp * rate + 3 * rate → (stamp ≤ start + q + 1) × (start + q ≤ stamp + 2)
close rate stamp start q e some under over late early = (
  elim (cases_lt (start + q + 1) stamp) [
    | inl more ↦ let times : (start + q + 2) * rate ≤ stamp * rate = mul-le-mul_right rate (omega arith) in absurd (omega arith)
    | inr not ↦ not
  ],
  elim (cases_lt (stamp + 2) (start + q)) [
    | inl more ↦ let times : (stamp + 3) * rate ≤ (start + q) * rate = mul-le-mul_right rate (omega arith) in absurd (omega arith)
    | inr not ↦ not
  ],
)

near_by : (crf : Option CrfPlan) (plan : TalkPlan) (n i : ℕ) → IsAudioPlan plan → plan.crf ≡ crf
    → IsNear crf (stamped_by crf plan n i) (nominal_instant plan n i)
unfolding nominal_instant
near_by None plan n i p e = record { late = omega arith; early = omega arith }
near_by (Some crf) plan n i p e =
    let is = is_beat plan crf p e in
    let start : ℕ = run_start plan (run_of plan n) in
    let stamp = is_stamped (beat_of crf plan) start (event_of plan n i) is in
    let x = is_offset plan.rate (event_of plan n i) (omega (arith, is.rate_from)) in
    let near = close plan.rate (stamped_by (Some crf) plan n i) start (nominal_offset plan.rate (event_of plan n i)) (event_of plan n i)
    (omega (arith, is.rate_from)) x.under x.over stamp.under stamp.over in
    record { late = near.0; early = near.1 }

pub stamped_near : (plan : TalkPlan) (n i : ℕ) → IsAudioPlan plan → IsNear plan.crf (stamped_by plan.crf plan n i) (nominal_instant plan n i)
stamped_near plan n i p = near_by plan.crf plan n i p refl

at_first : (crf : Option CrfPlan) (plan : TalkPlan) (n i : ℕ) → IsAudioPlan plan → plan.crf ≡ crf → event_of plan n i ≡ 0
    → stamped_by crf plan n i ≡ nominal_instant plan n i
unfolding nominal_instant
at_first None plan n i p e first = refl
at_first (Some crf) plan n i p e first =
    let is = is_beat plan crf p e in
    stamped_early (beat_of crf plan) (run_start plan (run_of plan n)) (event_of plan n i) (omega (arith, is.some))

-- event 0 of a run is stamped with its nominal instant
pub stamped_first : (plan : TalkPlan) (n i : ℕ) → IsAudioPlan plan → event_of plan n i ≡ 0 → stamped_by plan.crf plan n i ≡ nominal_instant plan n i
stamped_first plan n i p first = at_first plan.crf plan n i p refl first

pub most_late : (crf : Option CrfPlan) → late_by crf ≤ 1
most_late None = omega arith
most_late (Some crf) = omega arith

pub most_early : (crf : Option CrfPlan) → early_by crf ≤ 2
most_early None = omega arith
most_early (Some crf) = omega arith
