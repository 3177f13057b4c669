-- When the packets of a plan are sent.
use Rattle.std.proofs.Common.{◌≡◌, ℕ, suc, ◌+◌, ◌*◌, ◌^◌, ◌<◌, ◌≤◌, inl, inr, nat_abs, arith}
use Rattle.std.proofs.Math.Nat.{div-mul-le_self, lt-div-mul-add, mul-le-mul_left, mul-le-mul_right}
use Rattle.std.proofs.lemmas.Bool.{cases_lt}
use Rattle.std.proofs.lemmas.Int.{ints}
use Rattle.talk_plan.specs.declared.plan.TalkPlan.{TalkPlan}
use Rattle.talk_plan.specs.Plan.{IsAudioPlan}
use Rattle.talk_plan.specs.Timing.{arrival_of, event_of, first_instant, first_packet, nominal_instant, nominal_offset, run_of}
use Rattle.talk_plan.proofs.RateLemmas.{rate_from, rate_range}
use Rattle.talk_plan.proofs.RunLemmas.{in_run, later_run}

-- ---- offsets

-- a nominal offset is its exact value, rounded down
pub record IsOffset (rate k : ℕ) : Type 0 where
  pub under : nominal_offset rate k * rate ≤ k * 1000000000
  pub over : k * 1000000000 < nominal_offset rate k * rate + rate

pub is_offset : (rate k : ℕ) → 0 < rate → IsOffset rate k
is_offset rate k some = record { under = div-mul-le_self (k * 1000000000) rate; over = lt-div-mul-add some }

pub short_offset : (rate k : ℕ) → 8000 ≤ rate → nominal_offset rate k ≤ k * 125000
short_offset rate k least =
    let x : ℕ = nominal_offset rate k in
    let is = is_offset rate k (omega arith) in
    let times : x * 8000 ≤ x * rate = mul-le-mul_left x least in
    let under = is.under in
    omega arith

-- `z` is `x` + `y` or `x` + `y` + 1
pub record IsSum (x y z : ℕ) : Type 0 where
  pub from : x + y ≤ z
  pub to : z ≤ x + y + 1

sum_by : (x y z rate whole : ℕ) → 0 < rate → (x + y) * rate ≤ whole → whole < (x + y) * rate + 2 * rate → z * rate ≤ whole → whole < z * rate + rate
    → IsSum x y z
sum_by x y z rate whole some under over least most = record {
  from = elim (cases_lt z (x + y)) [
    | inl less ↦ let times : (z + 1) * rate ≤ (x + y) * rate = mul-le-mul_right rate (omega arith) in absurd (omega arith)
    | inr not ↦ not
  ];
  to = elim (cases_lt (x + y + 1) z) [
    | inl less ↦ let times : (x + y + 2) * rate ≤ z * rate = mul-le-mul_right rate (omega arith) in absurd (omega arith)
    | inr not ↦ not
  ];
}

pub sum_of : (rate a b c : ℕ) → 0 < rate → a + b ≡ c → IsSum (nominal_offset rate a) (nominal_offset rate b) (nominal_offset rate c)
sum_of rate a b c some e =
    let x = is_offset rate a some in
    let y = is_offset rate b some in
    let z = is_offset rate c some in
    sum_by (nominal_offset rate a) (nominal_offset rate b) (nominal_offset rate c) rate (c * 1000000000) some
    (omega (arith, x.under, y.under)) (omega (arith, x.over, y.over)) z.under z.over

-- ---- packet n of a plan

-- no run begins after a packet that is in it
pub first_before : (plan : TalkPlan) (n : ℕ) → IsAudioPlan plan → first_packet plan (run_of plan n) ≤ n
first_before plan n p = (in_run plan.restart plan.jump plan.count n p.restart).begun

pub few_jumps : (plan : TalkPlan) (n : ℕ) → IsAudioPlan plan → n * plan.count ≤ 268435456 → run_of plan n * plan.jump ≤ 33554432000000000
few_jumps plan n p events =
    let in_its = in_run plan.restart plan.jump plan.count n p.restart in
    let packets : n * 1 ≤ n * plan.count = mul-le-mul_left n p.some_count in
    omega (arith, in_its.jumps)

-- each nominal instant of a packet, minus the lead, is below 2^32 seconds, so a capture can record when the packet is
-- sent
pub in_time : (plan : TalkPlan) (n i : ℕ) → IsAudioPlan plan → n * plan.count ≤ 268435456 → i < plan.count
    → nominal_instant plan n i < plan.lead + 2 ^ 32 * 1000000000
unfolding nominal_instant
in_time plan n i p events within =
    let least = rate_from plan p in
    let in_its = in_run plan.restart plan.jump plan.count n p.restart in
    let first : ℕ = first_packet plan (run_of plan n) in
    let before = short_offset plan.rate (first * plan.count) least in
    let inside = short_offset plan.rate (event_of plan n i) least in
    let jumps = few_jumps plan n p events in
    let start : nat_abs plan.start ≤ 4000000000000000000 = omega (arith, ints) in
    omega (arith, in_its.parts, p.count)

-- packet n is sent exactly `plan.lead` nanoseconds before its first instant
pub lead_within : (plan : TalkPlan) (n : ℕ) → arrival_of plan n + plan.lead ≡ first_instant plan n
unfolding nominal_instant
lead_within plan n = omega arith

-- ---- the next packet

apart_by : (s j x y k z w a b c d n count rate : ℕ) → a + b ≡ n → c + d ≡ n + count → j * rate ≤ k * rate → 24 * rate ≤ count * 1000000000
    → x * rate ≤ a * 1000000000 → y * rate ≤ b * 1000000000 → c * 1000000000 < z * rate + rate → d * 1000000000 < w * rate + rate
    → 4 * ((s + j + x + y) * rate) + 3 * (count * 1000000000) + 16 * rate ≤ 4 * ((s + k + z + w) * rate)
apart_by s j x y k z w a b c d n count rate e f jumps wide under also over and = omega arith

-- the first instants of adjacent packets differ by at least 4 nanoseconds plus 3/4 of a packet's time
pub apart : (plan : TalkPlan) (n : ℕ) → IsAudioPlan plan
    → 4 * (first_instant plan n * plan.rate) + 3 * (plan.count * 1000000000) + 16 * plan.rate ≤ 4 * (first_instant plan (suc n) * plan.rate)
unfolding nominal_instant
apart plan n p =
    let range = rate_range plan p in
    let least = range.least in
    let most = range.most in
    let here = in_run plan.restart plan.jump plan.count n p.restart in
    let next = in_run plan.restart plan.jump plan.count (suc n) p.restart in
    let a : ℕ = first_packet plan (run_of plan n) * plan.count in
    let b : ℕ = event_of plan n 0 in
    let c : ℕ = first_packet plan (run_of plan (suc n)) * plan.count in
    let d : ℕ = event_of plan (suc n) 0 in
    let x = is_offset plan.rate a (omega arith) in
    let y = is_offset plan.rate b (omega arith) in
    let z = is_offset plan.rate c (omega arith) in
    let w = is_offset plan.rate d (omega arith) in
    let jumps : run_of plan n * plan.jump ≤ run_of plan (suc n) * plan.jump = mul-le-mul_right plan.jump (later_run plan.restart plan.jump n p.restart) in
    apart_by (nat_abs plan.start + plan.lead) (run_of plan n * plan.jump) (nominal_offset plan.rate a) (nominal_offset plan.rate b)
    (run_of plan (suc n) * plan.jump) (nominal_offset plan.rate c) (nominal_offset plan.rate d) a b c d (n * plan.count) plan.count plan.rate
    (omega (arith, here.parts)) (omega (arith, next.parts)) (mul-le-mul_right plan.rate jumps) (omega (arith, p.some_count))
    x.under y.under z.over w.over

not_before : (x y rate time : ℕ) → 0 < rate → 4 * (x * rate) + time ≤ 4 * (y * rate) → x ≤ y
not_before x y rate time some h = elim (cases_lt y x) [
  | inl less ↦ let times : (y + 1) * rate ≤ x * rate = mul-le-mul_right rate (omega arith) in absurd (omega arith)
  | inr not ↦ not
]

-- no packet is sent before its predecessor
pub rising : (plan : TalkPlan) (n : ℕ) → IsAudioPlan plan → arrival_of plan n ≤ arrival_of plan (n + 1)
rising plan n p =
    let least = rate_from plan p in
    let next : n + 1 ≡ suc n = omega arith in
    let h = not_before (first_instant plan n) (first_instant plan (suc n)) plan.rate (3 * (plan.count * 1000000000) + 16 * plan.rate) (omega arith)
    (let far = apart plan n p in omega arith) in
    rw next (omega arith)
