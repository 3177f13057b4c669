-- The points of a plan's clock lie within its stream.
use Rattle.std.proofs.Common.{◌≡◌, ℕ, zero, suc, ◌+◌, ◌*◌, ◌/◌, ◌%◌, ◌<◌, ◌≤◌, Some, inl, inr, refl, ap, ◌∙◌, arith, true, length}
use Rattle.std.proofs.Math.Nat.{div-mul-le_self, mod-lt, mul-le-mul_left, mul-le-mul_right}
use Rattle.std.specs.Int.{div_ceil}
use Rattle.std.proofs.lemmas.Bool.{cases_lt}
use Rattle.std.proofs.lemmas.Grind.{div_ceil_times}
use Rattle.talk_plan.specs.declared.plan.CrfPlan.{CrfPlan}
use Rattle.talk_plan.specs.declared.plan.TalkPlan.{TalkPlan}
use Rattle.talk_clock.specs.declared.clock.ClockStream.{ClockStream}
use Rattle.talk_clock.specs.Clock.{clock_packets, first_point, frame_at, points_for, AreFew, clock_bytes}
use Rattle.talk_clock.specs.Streams.{IsClockStream}
use Rattle.talk_plan.specs.Plan.{IsAudioPlan, spacing_of}
use Rattle.talk_plan.proofs.StampLemmas.{clock_of, is_beat}
use Rattle.std.proofs.lemmas.List.{length-append}
use Rattle.avtp_base.specs.Layout.{spelling}
use Rattle.pcap_frames.specs.Frame.{frame_layout}
use Rattle.crf_format.specs.Crf.{Crf, crf_layout, crf_spelling}
use Rattle.talk_plan.specs.Ethernet.{ethernet}
use Rattle.avtp_base.proofs.OnlySpelling.{length-spelling}

-- ---- the points lie within the stream

frames_by : (count k : ℕ) → ((n : ℕ) → n < k → n * count ≤ 268435456) → k * count ≤ 268435456 + count
frames_by count zero few = omega arith
frames_by count (suc k) few = omega (arith, few k (omega arith))

pub few_frames : (c : ClockStream) → IsClockStream c → c.stream * c.plan.count ≤ 268436932
few_frames c is = omega (arith, frames_by c.plan.count c.stream is.few, is.plan.count)

-- the sample frame `frame` is within a stream of `packets` packets, and is at most 268,436,932
pub record IsPointAt (plan : TalkPlan) (packets frame : ℕ) : Type 0 where
  pub packet : frame / plan.count < packets
  pub frames : frame / plan.count * plan.count ≤ 268435456
  pub within : frame % plan.count < plan.count
  pub small : frame ≤ 268436932

frame_within : (plan : TalkPlan) (packets frame : ℕ) → IsAudioPlan plan → AreFew plan packets → frame < packets * plan.count → IsPointAt plan packets frame
frame_within plan packets frame p few h =
    let below : frame / plan.count < packets = elim (cases_lt (frame / plan.count) packets) [
      | inl below ↦ below
      | inr past ↦
          let times : packets * plan.count ≤ frame / plan.count * plan.count = mul-le-mul_right plan.count past in
          absurd (omega (arith, div-mul-le_self frame plan.count))
    ] in
    record {
      packet = below;
      frames = few (frame / plan.count) below;
      within = mod-lt frame p.some_count;
      small = omega (arith, frames_by plan.count packets few, p.count);
    }

-- point s, at sample frame s * w, is before the end of the stream
pub points_within : (points w frames s : ℕ) → 1 ≤ w → points ≡ div_ceil frames w → s < points → s * w < frames
points_within points w frames s some e h =
    let times : (s + 1) * w ≤ points * w = mul-le-mul_right w (omega arith) in
    let bound = div_ceil_times frames w some in
    let same : points * w ≡ div_ceil frames w * w = ap (λ (n : ℕ). n * w) e in
    omega (arith, bound.1)

pub point_at_frame : (plan : TalkPlan) (crf : CrfPlan) (packets s : ℕ) → IsAudioPlan plan → plan.crf ≡ Some crf → AreFew plan packets
    → s < points_for crf plan packets
    → IsPointAt plan packets (frame_at crf plan s)
point_at_frame plan crf packets s p e few h =
    let is = is_beat plan crf p e in
    frame_within plan packets (frame_at crf plan s) p few (points_within (points_for crf plan packets) (spacing_of crf plan.rate) (packets * plan.count) s
    is.some refl h)

pub point_within : (c : ClockStream) (s : ℕ) → IsClockStream c → s < points_for c.crf c.plan c.stream → IsPointAt c.plan c.stream (frame_at c.crf c.plan s)
point_within c s is h = point_at_frame c.plan c.crf c.stream s is.plan is.clock is.few h

-- the first point of each packet is within the stream
pub first_in : (plan : TalkPlan) (crf : CrfPlan) (packets m : ℕ) → IsAudioPlan plan → plan.crf ≡ Some crf → m < clock_packets crf plan packets
    → first_point crf m < points_for crf plan packets
first_in plan crf packets m p e h =
    let of = clock_of plan crf p e in
    points_within (clock_packets crf plan packets) crf.points (points_for crf plan packets) m of.some_points refl h

pub first_within : (c : ClockStream) (m : ℕ) → IsClockStream c → m < clock_packets c.crf c.plan c.stream
    → first_point c.crf m < points_for c.crf c.plan c.stream
first_within c m is h = first_in c.plan c.crf c.stream m is.plan is.clock h

few_by : (points w frames : ℕ) → 1 ≤ w → points ≡ div_ceil frames w → points ≤ frames
few_by points w frames some e = elim (cases_lt frames points) [
  | inl more ↦
      let last = points_within points w frames frames some e more in
      let times : frames * 1 ≤ frames * w = mul-le-mul_left frames some in
      absurd (omega arith)
  | inr not ↦ not
]

pub few_points : (c : ClockStream) → IsClockStream c → points_for c.crf c.plan c.stream ≤ 268436932
few_points c is =
    let beat = is_beat c.plan c.crf is.plan is.clock in
    omega (arith, few_frames c is, few_by (points_for c.crf c.plan c.stream) (spacing_of c.crf c.plan.rate) (c.stream * c.plan.count) beat.some refl)

pub crf_size : (v : Crf) → length (clock_bytes v) ≡ 38 + length v.payload
unfolding clock_bytes
crf_size v =
    let outer = length-spelling (frame_layout true) (ethernet (crf_spelling v)) in
    let header = length-spelling crf_layout v in
    let whole = length-append (spelling crf_layout v) v.payload in
    length-append (spelling (frame_layout true) (ethernet (crf_spelling v))) (crf_spelling v) ∙ omega arith
