-- When the packets of a plan and their samples are presented.
use Rattle.std.proofs.Common.{◌≡◌, ℕ, suc, ◌+◌, ◌-◌, ◌*◌, ◌<◌, ◌≤◌, ℤ, pos, ◌+ℤ◌, ◌*ℤ◌, ◌≤ℤ◌, ◌<ℤ◌, nat_abs, ap, inl, inr, arith}
use Rattle.std.proofs.Math.Nat.{mul-le-mul_right}
use Rattle.std.proofs.lemmas.Bool.{cases_lt}
use Rattle.std.proofs.lemmas.Int.{ints, by_lt_z}
use borrow.Author.Differences.{up, down}
use Rattle.time_unfold.specs.Lines.{floor_of, instant_at, nominal_line}
use Rattle.time_unfold.proofs.Floors.{floor_above, floor_below, one_more, times_more}
use Rattle.talk_plan.specs.declared.plan.TalkPlan.{TalkPlan}
use Rattle.talk_plan.specs.Plan.{IsAudioPlan}
use Rattle.talk_plan.specs.Timing.{event_of, first_instant, first_packet, nominal_instant, nominal_offset, run_of}
use Rattle.talk_plan.proofs.BeatLemmas.{more_offset}
use Rattle.talk_plan.proofs.RateLemmas.{rate_from, rate_range}
use Rattle.talk_plan.proofs.RunLemmas.{in_run, no_later_run}
use Rattle.talk_plan.proofs.TimingLemmas.{few_jumps, is_offset, short_offset, sum_of}

-- ---- the samples of a packet

more_times : (q : ℤ) (n d : ℕ) → (q +ℤ pos n) *ℤ pos d ≡ q *ℤ pos d +ℤ pos (d * n)
more_times q n d =
    let e : up (q +ℤ pos n) + down q ≡ down (q +ℤ pos n) + up q + n = omega (arith, ints) in
    let f : d * (up (q +ℤ pos n) + down q) ≡ d * (down (q +ℤ pos n) + up q + n) = ap (λ (m : ℕ). d * m) e in
    omega (arith, ints)

soon_by : (q r f : ℤ) (k x rate : ℕ) → (q *ℤ pos rate) ≤ℤ ((f +ℤ pos k) *ℤ pos 1000000000) → ((f +ℤ pos 0) *ℤ pos 1000000000) <ℤ ((r +ℤ pos 1) *ℤ pos rate) → k * 1000000000 < x * rate + rate → q ≤ℤ (r +ℤ pos (x + 1))
soon_by q r f k x rate low high over =
    by_lt_z (r +ℤ pos (x + 1)) q
    (λ less.
    let below = times_more (r +ℤ pos (x + 2)) q rate (omega (arith, ints, less)) in
    let one = one_more r rate in
    let more = more_times r (x + 2) rate in
    let k_times = more_times f k 1000000000 in
    let f_times = more_times f 0 1000000000 in
    absurd (omega (arith, ints, low, high, over, below, one, more, k_times, f_times)))
    (λ not. not)

-- Let instants be counted at the nominal rate. Sample k of a packet is at most `nominal_offset rate k + 1` ns after the
-- packet's first sample.
pub soon_after : (head f : ℤ) (k rate : ℕ) → 0 < rate → instant_at (nominal_line head rate) (f +ℤ pos k) ≤ℤ (instant_at (nominal_line head rate) (f +ℤ pos 0) +ℤ pos (nominal_offset rate k + 1))
soon_after head f k rate some =
    let q : ℤ = floor_of ((f +ℤ pos k) *ℤ pos 1000000000) rate in
    let r : ℤ = floor_of ((f +ℤ pos 0) *ℤ pos 1000000000) rate in
    let soon = soon_by q r f k (nominal_offset rate k) rate (floor_below ((f +ℤ pos k) *ℤ pos 1000000000) rate some) (floor_above ((f +ℤ pos 0) *ℤ pos 1000000000) rate some) (is_offset rate k some).over in
    moved head q r (nominal_offset rate k + 1) soon
  where
    moved : (base q r : ℤ) (n : ℕ) → q ≤ℤ (r +ℤ pos n) → (base +ℤ q) ≤ℤ ((base +ℤ r) +ℤ pos n)
    moved base q r n h = omega (arith, ints, h)

far_by : (q r f : ℤ) (i k rate : ℕ) → (r *ℤ pos rate) ≤ℤ ((f +ℤ pos i) *ℤ pos 1000000000) → ((f +ℤ pos k) *ℤ pos 1000000000) <ℤ ((q +ℤ pos 1) *ℤ pos rate) → i < k → rate ≤ 192000 → (r +ℤ pos 500) ≤ℤ q
far_by q r f i k rate low high after slow =
    by_lt_z q (r +ℤ pos 500)
    (λ less.
    let below = times_more (q +ℤ pos 1) (r +ℤ pos 500) rate (omega (arith, ints, less)) in
    let more = more_times r 500 rate in
    let i_times = more_times f i 1000000000 in
    let k_times = more_times f k 1000000000 in
    absurd (omega (arith, ints, low, high, below, more, i_times, k_times, after, slow)))
    (λ not. not)

-- If i is less than k, sample k of a packet is at least 500 ns after sample i.
pub far_after : (head f : ℤ) (i k rate : ℕ) → 0 < rate → rate ≤ 192000 → i < k → (instant_at (nominal_line head rate) (f +ℤ pos i) +ℤ pos 500) ≤ℤ instant_at (nominal_line head rate) (f +ℤ pos k)
far_after head f i k rate some slow after =
    let q : ℤ = floor_of ((f +ℤ pos k) *ℤ pos 1000000000) rate in
    let r : ℤ = floor_of ((f +ℤ pos i) *ℤ pos 1000000000) rate in
    moved head q r (far_by q r f i k rate (floor_below ((f +ℤ pos i) *ℤ pos 1000000000) rate some) (floor_above ((f +ℤ pos k) *ℤ pos 1000000000) rate some) after slow)
  where
    moved : (base q r : ℤ) → (r +ℤ pos 500) ≤ℤ q → ((base +ℤ r) +ℤ pos 500) ≤ℤ (base +ℤ q)
    moved base q r h = omega (arith, ints, h)

-- ---- the packets of a plan

-- a sample lasts at least 1000 ns
some_by : (x rate : ℕ) → rate ≤ 192000 → 1000000000 < x * rate + rate → 1000 ≤ x
some_by x rate slow over = elim (cases_lt x 1000) [
  | inl less ↦ let times : (x + 1) * rate ≤ 1000 * rate = mul-le-mul_right rate (omega (arith, less)) in absurd (omega arith)
  | inr not ↦ not
]

some_offset : (rate : ℕ) → 0 < rate → rate ≤ 192000 → 1000 ≤ nominal_offset rate 1
some_offset rate some slow = let over = (is_offset rate 1 some).over in some_by (nominal_offset rate 1) rate slow (omega (arith, over))

-- the arithmetic of `first_apart`
after_by : (s j x y k z w n m most last one front : ℕ) → x + y ≤ n → m ≤ z + w + 1 → j ≤ k → n + last ≤ front → front + one ≤ most → most ≤ m → 1000 ≤ one → s + j + x + y + last + 999 ≤ s + k + z + w
after_by s j x y k z w n m most last one front under over jumps step next more least = omega (arith, under, over, jumps, step, next, more, least)

-- each packet begins at least 999 ns after the last sample of each earlier packet
pub first_apart : (plan : TalkPlan) (n m : ℕ) → IsAudioPlan plan → n < m → first_instant plan n + nominal_offset plan.rate (plan.count - 1) + 999 ≤ first_instant plan m
unfolding nominal_instant
first_apart plan n m p less =
    let range = rate_range plan p in
    let some : 0 < plan.rate = omega (arith, range.least) in
    let count = p.some_count in
    let here = in_run plan.restart plan.jump plan.count n p.restart in
    let next = in_run plan.restart plan.jump plan.count m p.restart in
    let a : ℕ = first_packet plan (run_of plan n) * plan.count in
    let b : ℕ = event_of plan n 0 in
    let c : ℕ = first_packet plan (run_of plan m) * plan.count in
    let d : ℕ = event_of plan m 0 in
    let times : suc n * plan.count ≤ m * plan.count = mul-le-mul_right plan.count (omega (arith, less)) in
    let first = sum_of plan.rate a b (n * plan.count) some (omega (arith, here.parts)) in
    let second = sum_of plan.rate c d (m * plan.count) some (omega (arith, next.parts)) in
    let step = sum_of plan.rate (n * plan.count) (plan.count - 1) (n * plan.count + (plan.count - 1)) some (omega arith) in
    let one = sum_of plan.rate (n * plan.count + (plan.count - 1)) 1 (n * plan.count + plan.count) some (omega (arith, count)) in
    let more = more_offset plan.rate (n * plan.count + plan.count) (m * plan.count) some (omega (arith, times)) in
    let jumps : run_of plan n * plan.jump ≤ run_of plan m * plan.jump = mul-le-mul_right plan.jump (no_later_run plan.restart plan.jump n m p.restart (omega (arith, less))) in
    after_by (nat_abs plan.start + plan.lead) (run_of plan n * plan.jump) (nominal_offset plan.rate a) (nominal_offset plan.rate b) (run_of plan m * plan.jump) (nominal_offset plan.rate c) (nominal_offset plan.rate d)
    (nominal_offset plan.rate (n * plan.count)) (nominal_offset plan.rate (m * plan.count)) (nominal_offset plan.rate (n * plan.count + plan.count)) (nominal_offset plan.rate (plan.count - 1)) (nominal_offset plan.rate 1)
    (nominal_offset plan.rate (n * plan.count + (plan.count - 1)))
    first.from second.to jumps step.from one.from more (some_offset plan.rate some range.most)

-- no packet of a talker's input ends after 4,100,000,000 seconds
pub ends_early : (plan : TalkPlan) (n : ℕ) → IsAudioPlan plan → n * plan.count ≤ 268435456 → first_instant plan n + nominal_offset plan.rate (plan.count - 1) ≤ 4100000000000000000
unfolding nominal_instant
ends_early plan n p events =
    let least = rate_from plan p in
    let here = in_run plan.restart plan.jump plan.count n p.restart in
    let before = short_offset plan.rate (first_packet plan (run_of plan n) * plan.count) least in
    let inside = short_offset plan.rate (event_of plan n 0) least in
    let last = short_offset plan.rate (plan.count - 1) least in
    let jumps = few_jumps plan n p events in
    let start : nat_abs plan.start ≤ 4000000000000000000 = omega (arith, ints, p.started, p.start) in
    let lead = p.lead in
    let count = p.count in
    omega (arith, here.parts, before, inside, last, jumps, start, lead, count, events)
