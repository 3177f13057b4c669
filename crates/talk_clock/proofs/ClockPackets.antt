-- The packets of a plan's clock, and when they are sent.
use Rattle.std.proofs.Common.{◌≡◌, inl, inr, ℕ, zero, suc, ◌+◌, ◌-◌, ◌*◌, ◌%◌, ◌^◌, ◌<◌, ◌≤◌, List, [], ◌∷◌, ◌++◌, drop, get_or, length, min, pos, Some, None}
use Rattle.std.proofs.Common.{refl, sym, ap, ◌∙◌, arith}
use Rattle.std.specs.Prelude.{Option, flat_map}
use Rattle.std.proofs.Math.Nat.{mul-le-mul_right, zero-div}
use Rattle.std.proofs.lemmas.Int.{ints}
use Rattle.std.proofs.lemmas.List.{drop_at, length-append}
use Rattle.byteorder.specs.Endian.{big_bytes, big_from}
use Rattle.byteorder.specs.Numbers.{big_from-bytes, length-bytes_high_first}
use Rattle.avtp_base.specs.Layout.{Fits}
use Rattle.avtp_base.specs.Octets.{bits}
use Rattle.avtp_base.proofs.BitLemmas.{big_from-drop, flag-below}
use Rattle.crf_format.specs.Crf.{crf_layout, point_at as stamp_in}
use Rattle.packet_journal.specs.Packets.{IsClockPacket}
use Rattle.talk_plan.specs.declared.plan.CrfPlan.{CrfPlan}
use Rattle.talk_plan.specs.declared.plan.TalkPlan.{TalkPlan}
use Rattle.talk_plan.specs.Beats.{point_at}
use Rattle.talk_plan.specs.Stamps.{beat_of}
use Rattle.talk_clock.specs.Clock.{clock_by, clock_mr, clock_packet, clock_packets, clock_point, clock_times, first_point, points_for, points_in, points_size}
use Rattle.talk_clock.specs.Clock.{AreFew, clock_frame_size, clock_arrival_by, clock_id, clock_packet_by, clock_bytes}
use Rattle.talk_plan.specs.Plan.{IsAudioPlan, spacing_of}
use Rattle.talk_plan.specs.Timing.{nominal_offset, run_start}
use Rattle.talk_plan.proofs.BeatLemmas.{is_period}
use Rattle.talk_plan.proofs.StampLemmas.{clock_of, is_beat}
use Rattle.talk_clock.proofs.ClockLemmas.{first_in, crf_size}
use Rattle.talk_plan.proofs.CountLemmas.{rises}
use Rattle.talk_clock.proofs.ClockPoints.{after_point, known, place_of, point_value, run_at, size_is}
use Rattle.talk_clock.proofs.ClockRules.{point_small}

-- ---- when the clock's packets are sent, and how long they are

point_step : (plan : TalkPlan) (crf : CrfPlan) (s : ℕ) → IsAudioPlan plan → plan.crf ≡ Some crf → clock_point crf plan s ≤ clock_point crf plan (s + 1)
point_step plan crf s p e =
    let is = is_beat plan crf p e in
    let beat = beat_of crf plan in
    let start : ℕ = run_start plan (run_at plan crf s) in
    let of = is_period beat start (place_of plan crf s) is in
    let here = point_value plan crf s p e in
    let there = point_value plan crf (suc s) p e in
    let one : s + 1 ≡ suc s = omega arith in
    let none : nominal_offset plan.rate (0 * spacing_of crf plan.rate) ≡ 0 = ap (nominal_offset plan.rate)
    (let z : 0 * spacing_of crf plan.rate ≡ 0 = omega arith in z) ∙ zero-div plan.rate in
    rw one (elim (after_point plan crf s p e) [
      | inl same ↦
          let moved : point_at beat (run_start plan (run_at plan crf (suc s))) (place_of plan crf (suc s)) ≡ point_at beat start (suc (place_of plan crf s)) =
          ap (λ (g : ℕ). point_at beat (run_start plan g) (place_of plan crf (suc s))) same.run ∙ ap (point_at beat start) same.place in
          omega (arith, here, there, moved, of.next)
      | inr new ↦
          let moved : point_at beat (run_start plan (run_at plan crf (suc s))) (place_of plan crf (suc s)) ≡ point_at beat
          (run_start plan (suc (run_at plan crf s))) 0 =
          ap (λ (g : ℕ). point_at beat (run_start plan g) (place_of plan crf (suc s))) new.run
          ∙ ap (point_at beat (run_start plan (suc (run_at plan crf s)))) new.place in
          omega (arith, here, there, moved, none, of.next, new.next)
    ])

rises_by : (crf : Option CrfPlan) (plan : TalkPlan) (m : ℕ) → IsAudioPlan plan → plan.crf ≡ crf
    → clock_arrival_by crf plan m ≤ clock_arrival_by crf plan (m + 1)
rises_by None plan m p e = omega arith
rises_by (Some crf) plan m p e =
    let later : first_point crf m ≤ first_point crf (m + 1) = mul-le-mul_right crf.points (omega arith) in
    let more = rises (clock_point crf plan) (λ k. point_step plan crf k p e) (first_point crf m) (first_point crf (m + 1)) later in
    omega arith

pub clock_rises : (plan : TalkPlan) (m : ℕ) → IsAudioPlan plan → clock_arrival_by plan.crf plan m ≤ clock_arrival_by plan.crf plan (m + 1)
clock_rises plan m p = rises_by plan.crf plan m p refl

early_by : (crf : Option CrfPlan) (plan : TalkPlan) (packets m : ℕ) → IsAudioPlan plan → plan.crf ≡ crf → AreFew plan packets
    → m < (clock_by crf plan packets).packets → clock_arrival_by crf plan m < 2 ^ 32 * 1000000000
early_by None plan packets m p e few h = omega arith
early_by (Some crf) plan packets m p e few h =
    let small = point_small plan crf packets (first_point crf m) p e few (first_in plan crf packets m p e h) in
    omega arith

pub clock_early : (plan : TalkPlan) (packets m : ℕ) → IsAudioPlan plan → AreFew plan packets → m < (clock_by plan.crf plan packets).packets
    → clock_arrival_by plan.crf plan m < 2 ^ 32 * 1000000000
clock_early plan packets m p few h = early_by plan.crf plan packets m p refl few h

-- ---- the clock's packets

length-stamps : (xs : List ℕ) → length (flat_map (big_bytes 8) xs) ≡ 8 * length xs
length-stamps [] = refl
length-stamps (x ∷ xs) =
    let here = length-append (big_bytes 8 x) (flat_map (big_bytes 8) xs) in
    omega (arith, here, length-bytes_high_first 8 x, length-stamps xs)

stamp_at : (xs : List ℕ) (i : ℕ) → i < length xs → big_from (8 * i) 8 (flat_map (big_bytes 8) xs) ≡ get_or xs i 0 % 256 ^ 8
stamp_at [] i h = absurd (omega arith)
stamp_at (x ∷ xs) zero h = big_from-bytes 8 x (flat_map (big_bytes 8) xs)
stamp_at (x ∷ xs) (suc i) h =
    let rest : List ℕ = flat_map (big_bytes 8) xs in
    let dropped : drop 8 (big_bytes 8 x ++ rest) ≡ rest = drop_at (big_bytes 8 x) rest 8 (sym (length-bytes_high_first 8 x)) in
    let moved = big_from-drop (8 * i) 8 8 (big_bytes 8 x ++ rest) in
    let place : 8 * suc i ≡ 8 + 8 * i = omega arith in
    rw place (sym moved ∙ ap (big_from (8 * i) 8) dropped ∙ stamp_at xs i (omega arith))

stamp_of_point : (xs : List ℕ) (i : ℕ) → i < length xs → get_or xs i 0 < 2 ^ 64 → stamp_in i (flat_map (big_bytes 8) xs) ≡ get_or xs i 0
unfolding bits
stamp_of_point xs i h small =
    let at = stamp_at xs i h in
    omega (arith, at)

size_fits : (crf : CrfPlan) (plan : TalkPlan) (packets m : ℕ) → length (clock_packet crf plan packets m).payload ≡ 8 * points_size crf plan packets m
size_fits crf plan packets m = length-stamps (points_in crf plan packets m) ∙ ap (λ (n : ℕ). 8 * n) (size_is crf plan packets m)

-- the length of a clock packet's frame is `clock_frame_size`
pub clock_size : (crf : CrfPlan) (plan : TalkPlan) (packets m : ℕ)
    → length (clock_bytes (clock_packet crf plan packets m)) ≡ clock_frame_size crf plan packets m
clock_size crf plan packets m = omega (arith, crf_size (clock_packet crf plan packets m), size_fits crf plan packets m)

fits_by : (crf : Option CrfPlan) (plan : TalkPlan) (packets m : ℕ) → IsAudioPlan plan → plan.crf ≡ crf → m < (clock_by crf plan packets).packets
    → length (clock_bytes (clock_packet_by crf plan packets m)) ≤ 1518
fits_by None plan packets m p e h = absurd (omega arith)
fits_by (Some crf) plan packets m p e h =
    let of = clock_of plan crf p e in
    omega (arith, crf_size (clock_packet crf plan packets m), size_fits crf plan packets m, of.most_points)

pub clock_fits : (plan : TalkPlan) (packets m : ℕ) → IsAudioPlan plan → m < (clock_by plan.crf plan packets).packets
    → length (clock_bytes (clock_packet_by plan.crf plan packets m)) ≤ 1518
clock_fits plan packets m p h = fits_by plan.crf plan packets m p refl h

crf_fits : (crf : CrfPlan) (plan : TalkPlan) (packets m : ℕ) → crf.id < 2 ^ 64 → crf.rate < 2 ^ 29 → crf.pull ≤ 5 → crf.interval < 2 ^ 16
    → length (clock_packet crf plan packets m).payload < 2 ^ 16
    → Fits crf_layout (clock_packet crf plan packets m)
crf_fits crf plan packets m id rate pull interval size = (
  (omega arith, tt),
  (
    (omega arith, (omega arith, (flag-below (clock_mr crf plan m), (omega arith, (omega arith, (omega arith, tt)))))),
    (
      (omega arith, tt),
      (
        (omega arith, tt),
        (
          (id, tt),
          (
            (omega arith, (rate, tt)),
            (
              (size, tt),
              (
                (interval, tt),
                tt,
              ),
            ),
          ),
        ),
      ),
    ),
  ),
)

packet_by : (crf : CrfPlan) (plan : TalkPlan) (packets m : ℕ) → IsAudioPlan plan → plan.crf ≡ Some crf → AreFew plan packets
    → m < clock_packets crf plan packets
    → IsClockPacket (clock_times crf plan packets) (pos 0) crf.id m (clock_packet crf plan packets m)
packet_by crf plan packets m p e few h =
    let of = clock_of plan crf p e in
    let first = first_in plan crf packets m p e h in
    let some : 1 ≤ points_size crf plan packets m = some_size crf.points (points_for crf plan packets) (first_point crf m) of.some_points first in
    let size = size_fits crf plan packets m in
    let whole : length (clock_packet crf plan packets m).payload % 8 ≡ 0 = omega (arith, size) in
    record {
      writable = record {
        pull = of.pull;
        some_frequency = of.some_rate;
        base_frequency = omega (arith, of.most_rate);
        some_interval = of.some_interval;
        some_points = omega (arith, size, some);
        whole_points = whole;
        data_length = omega (arith, size, of.most_points);
      };
      fits = crf_fits crf plan packets m of.id (omega (arith, of.most_rate)) of.pull (omega (arith, of.most_interval)) (omega (arith, size, of.most_points));
      valid_id = refl;
      id_is = refl;
      seq = refl;
      mr = refl;
      certain = refl;
      kind = refl;
      base = refl;
      pull = refl;
      interval = refl;
      size = length-stamps (points_in crf plan packets m);
      points = λ i within. (let k = known crf plan packets (record { packet = m; at = i }) (record { packet = h; at = within }) in
          let small = point_small plan crf packets (m * crf.points + i) p e few k.below in
          let value = k.value in
          let below : get_or (points_in crf plan packets m) i 0 < 2 ^ 64 = omega (arith, value, small, p.lead) in
          omega (arith, ints, stamp_of_point (points_in crf plan packets m) i within below));
    }
  where
    some_size : (size points first : ℕ) → 1 ≤ size → first < points → 1 ≤ min size (points - first)
    some_size size points first some h = omega arith

packet_is_by : (crf : Option CrfPlan) (plan : TalkPlan) (packets m : ℕ) → IsAudioPlan plan → plan.crf ≡ crf → AreFew plan packets
    → m < (clock_by crf plan packets).packets
    → IsClockPacket (clock_by crf plan packets) (pos 0) (clock_id crf) m (clock_packet_by crf plan packets m)
packet_is_by None plan packets m p e few h = absurd (omega arith)
packet_is_by (Some crf) plan packets m p e few h = packet_by crf plan packets m p e few h

pub clock_packet_is : (plan : TalkPlan) (packets m : ℕ) → IsAudioPlan plan → AreFew plan packets → m < (clock_by plan.crf plan packets).packets
    → IsClockPacket (clock_by plan.crf plan packets) (pos 0) (clock_id plan.crf) m (clock_packet_by plan.crf plan packets m)
clock_packet_is plan packets m p few h = packet_is_by plan.crf plan packets m p refl few h
