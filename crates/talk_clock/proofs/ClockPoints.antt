-- The run and the packet of each point of a plan's clock.
use Rattle.std.proofs.Common.{◌↔◌, ◌≡◌, ◌⊎◌, inl, inr, ℕ, zero, suc, ◌+◌, ◌-◌, ◌*◌, ◌/◌, ◌%◌, ◌<◌, ◌≤◌, get_or, length, map, nat_abs, pos, Some, None, refl}
use Rattle.std.proofs.Common.{sym, subst, ap, ◌∙◌, arith}
use Rattle.std.specs.Prelude.{Option, ◌==◌, ⊤}
use Rattle.std.specs.List.{range_with_len}
use Rattle.std.proofs.Math.Nat.{div-eq_of_lt-le, div-mul-le_self, lt-div-mul-add, mul-le-mul_left, mod-eq-sub-div-mul, mul-le-mul_right}
use Rattle.std.proofs.lemmas.Bool.{cases_lt}
use Rattle.std.proofs.lemmas.Bool.Decides.{nat_tests}
use Rattle.std.proofs.lemmas.List.FromFn.{length-map-range_with_len}
use Rattle.std.proofs.lemmas.Grind.{div_ceil_times}
use Rattle.std.proofs.lemmas.Nat.{div-add-mod'}
use Rattle.clock_track.specs.declared.pair.Pair.{Pair}
use Rattle.stream_journal.specs.Clocks.{Follows, InOneRun, IsPlace, Place, pair_at, point}
use Rattle.talk_plan.specs.declared.plan.CrfPlan.{CrfPlan}
use Rattle.talk_plan.specs.declared.plan.TalkPlan.{TalkPlan}
use Rattle.talk_plan.specs.Beats.{IsNextStart, pair_from, point_at}
use Rattle.talk_plan.specs.Stamps.{beat_of}
use Rattle.talk_clock.specs.Clock.{clock_mr, clock_packets, clock_point, clock_times, first_point, frame_at, points_for, points_in, points_size, run_points}
use Rattle.talk_plan.specs.Plan.{HasWholeRuns, IsAudioPlan, Restarts, spacing_of}
use Rattle.talk_plan.specs.Timing.{event_of, first_by, nominal_instant, nominal_offset, run_by, run_start}
use Rattle.talk_plan.proofs.BeatLemmas.{more_offset}
use Rattle.talk_plan.proofs.StampLemmas.{clock_of, is_beat}
use Rattle.talk_clock.proofs.ClockLemmas.{first_in, points_within}
use Rattle.talk_plan.proofs.RunLemmas.{in_run, whole}
use Rattle.talk_plan.proofs.TimingLemmas.{sum_of}

-- ---- runs of points and of packets

-- the number of points in each run; `None` if the clock never restarts
abbrev pub points_per : CrfPlan → ℕ → ℕ → Option ℕ → Option ℕ
points_per crf rate count None = None
points_per crf rate count (Some packets) = Some (packets * count / spacing_of crf rate)

abbrev pub packets_per : CrfPlan → ℕ → ℕ → Option ℕ → Option ℕ
packets_per crf rate count None = None
packets_per crf rate count (Some packets) = Some (packets * count / spacing_of crf rate / crf.points)

-- a run of this many sample frames has a whole number of points and of clock packets, at least 8 of each
pub record IsWhole (frames spacing size : ℕ) : Type 0 where
  pub points : frames / spacing * spacing ≡ frames
  pub packets : frames / spacing / size * size ≡ frames / spacing
  pub eight : 8 ≤ frames / spacing / size
  pub some : 8 ≤ frames / spacing

whole_by : (frames w size j : ℕ) → 1 ≤ w → 1 ≤ size → 1 ≤ j → frames ≡ j * (8 * w * size) → IsWhole frames w size
whole_by frames w size j some some_size one e =
    let points : frames / w ≡ 8 * j * size = div-eq_of_lt-le w (omega arith) (omega arith) in
    let packets : 8 * j * size / size ≡ 8 * j = div-eq_of_lt-le size (omega arith) (omega arith) in
    let both : frames / w / size ≡ 8 * j = ap (λ (n : ℕ). n / size) points ∙ packets in
    let times : frames / w * w ≡ 8 * j * size * w = ap (λ (n : ℕ). n * w) points in
    let sizes : frames / w / size * size ≡ 8 * j * size = ap (λ (n : ℕ). n * size) both in
    let more : j * 1 ≤ j * size = mul-le-mul_left j some_size in
    record { points = omega arith; packets = sizes ∙ sym points; eight = omega arith; some = omega arith }

whole_of : (frames w size : ℕ) → 1 ≤ frames → 1 ≤ w → 1 ≤ size → frames % (8 * w * size) ≡ 0 → IsWhole frames w size
whole_of frames w size some some_w some_size none =
    let unit : ℕ = 8 * w * size in
    let split = div-add-mod' frames unit in
    let same : frames ≡ frames / unit * unit = omega arith in
    let one : 1 ≤ frames / unit = elim (cases_lt (frames / unit) 1) [
      | inl less ↦ let z : frames / unit ≡ 0 = omega arith in let e : frames / unit * unit ≡ 0 * unit = ap (λ (n : ℕ). n * unit) z in absurd (omega arith)
      | inr one ↦ one
    ] in
    whole_by frames w size (frames / unit) some_w some_size one same

abbrev pub AreWhole : CrfPlan → ℕ → ℕ → Option ℕ → Type 0
AreWhole crf rate count None = ⊤
AreWhole crf rate count (Some packets) = IsWhole (packets * count) (spacing_of crf rate) crf.points

all_whole : (r : Option ℕ) (crf : CrfPlan) (rate count jump : ℕ) → 1 ≤ count → 1 ≤ spacing_of crf rate → 1 ≤ crf.points → Restarts r jump
    → HasWholeRuns crf rate count r → AreWhole crf rate count r
all_whole None crf rate count jump some some_w some_size ok has = tt
all_whole (Some packets) crf rate count jump some some_w some_size ok has =
    let least = ok.some in
    let more : packets * 1 ≤ packets * count = mul-le-mul_left packets some in
    whole_of (packets * count) (spacing_of crf rate) crf.points (omega arith) some_w some_size has

run_number : (x count packets g : ℕ) → 1 ≤ count → g * packets * count ≤ x → x < g * packets * count + packets * count → x / count / packets ≡ g
run_number x count packets g some from to =
    let n : ℕ = x / count in
    let under : n * count ≤ x = div-mul-le_self x count in
    let over : x < n * count + count = lt-div-mul-add some in
    let least : g * packets ≤ n = elim (cases_lt n (g * packets)) [
      | inl less ↦ let times : (n + 1) * count ≤ g * packets * count = mul-le-mul_right count (omega arith) in absurd (omega arith)
      | inr not ↦ not
    ] in
    let most : n < g * packets + packets = elim (cases_lt n (g * packets + packets)) [
      | inl less ↦ less
      | inr not ↦ let times : (g * packets + packets) * count ≤ n * count = mul-le-mul_right count not in absurd (omega arith)
    ] in
    div-eq_of_lt-le packets (omega arith) (omega arith)

-- the run of point s is the same whether runs are measured in points or in packets of the stream
pub run_of_point : (r : Option ℕ) (crf : CrfPlan) (rate count s : ℕ) → 1 ≤ count → 1 ≤ spacing_of crf rate → AreWhole crf rate count r
    → run_by r (s * spacing_of crf rate / count) ≡ run_by (points_per crf rate count r) s
run_of_point None crf rate count s some some_w is = refl
run_of_point (Some packets) crf rate count s some some_w is =
    let w : ℕ = spacing_of crf rate in
    let per : ℕ = packets * count / w in
    let points = is.points in
    let least = is.some in
    let g : ℕ = s / per in
    let under : g * per ≤ s = div-mul-le_self s per in
    let over : s < g * per + per = lt-div-mul-add (omega arith) in
    let from : g * per * w ≤ s * w = mul-le-mul_right w under in
    let to : (s + 1) * w ≤ (g * per + per) * w = mul-le-mul_right w (omega arith) in
    let frames : g * (per * w) ≡ g * (packets * count) = ap (λ (n : ℕ). g * n) points in
    run_number (s * w) count packets g some (omega arith) (omega arith)

event_by : (x count w s a b n d t frames per g : ℕ) → n * count + b ≡ x → x ≡ s * w → g * frames ≡ g * (per * w) → d * count + g * frames ≡ n * count
    → t * w + g * (per * w) ≡ s * w
    → d * count + b ≡ t * w
event_by x count w s a b n d t frames per g split place same parts rest = omega arith

pub event_of_point : (r : Option ℕ) (crf : CrfPlan) (rate count jump s : ℕ) → 1 ≤ count → 1 ≤ spacing_of crf rate → Restarts r jump → AreWhole crf rate count r
    → (s * spacing_of crf rate / count - first_by r (run_by r (s * spacing_of crf rate / count))) * count + s * spacing_of crf rate % count
    ≡ (s - first_by (points_per crf rate count r) (run_by (points_per crf rate count r) s)) * spacing_of crf rate
event_of_point None crf rate count jump s some some_w ok is =
    let split = div-add-mod' (s * spacing_of crf rate) count in
    let here : s * spacing_of crf rate / count - 0 ≡ s * spacing_of crf rate / count = omega arith in
    let there : s - 0 ≡ s = omega arith in
    rw (here, there) (omega arith)
event_of_point (Some packets) crf rate count jump s some some_w ok is =
    let w : ℕ = spacing_of crf rate in
    let x : ℕ = s * w in
    let n : ℕ = x / count in
    let per : ℕ = packets * count / w in
    let least = is.some in
    let g : ℕ = s / per in
    let run : n / packets ≡ g = run_of_point (Some packets) crf rate count s some some_w is in
    let begun = in_run (Some packets) jump count n ok in
    let split = div-add-mod' x count in
    let under : g * per ≤ s = div-mul-le_self s per in
    let t : ℕ = s - g * per in
    let place : t + g * per ≡ s = omega arith in
    let times : t * w + g * per * w ≡ s * w = whole t (g * per) s w place in
    let same : g * (packets * count) ≡ g * (per * w) = ap (λ (n : ℕ). g * n) (sym is.points) in
    let from : g * packets ≤ n = rw run at begun.begun in
    let d : ℕ = n - g * packets in
    let parts : d * count + g * packets * count ≡ n * count = whole d (g * packets) n count (omega arith) in
    rw run (event_by x count w s 0 (x % count) n d t (packets * count) per g (omega arith) refl same (omega arith) (omega arith))

-- all points of a clock packet are in the run of the packet
packet_run_by : (k i size q : ℕ) → 1 ≤ q → 1 ≤ size → i < size → (k * size + i) / (q * size) ≡ k / q
packet_run_by k i size q some some_size within =
    let g : ℕ = k / q in
    let under : g * q ≤ k = div-mul-le_self k q in
    let over : k < g * q + q = lt-div-mul-add some in
    let from : g * q * size ≤ k * size = mul-le-mul_right size under in
    let to : (k + 1) * size ≤ (g * q + q) * size = mul-le-mul_right size (omega arith) in
    div-eq_of_lt-le (q * size) (omega arith) (omega arith)

pub run_of_packet : (r : Option ℕ) (crf : CrfPlan) (rate count k i : ℕ) → AreWhole crf rate count r → i < crf.points
    → run_by (points_per crf rate count r) (k * crf.points + i) ≡ run_by (packets_per crf rate count r) k
run_of_packet None crf rate count k i is within = refl
run_of_packet (Some packets) crf rate count k i is within =
    let per : ℕ = packets * count / spacing_of crf rate in
    let q : ℕ = per / crf.points in
    let eight = is.eight in
    let same : (k * crf.points + i) / per ≡ (k * crf.points + i) / (q * crf.points) = ap (λ (n : ℕ). (k * crf.points + i) / n) (sym is.packets) in
    same ∙ packet_run_by k i crf.points q (omega arith) (omega arith) within

-- ---- the next point

-- the size is at least `least`; true if there is no size
abbrev pub AtLeast : ℕ → Option ℕ → Type 0
AtLeast least None = ⊤
AtLeast least (Some size) = least ≤ size

pub record IsRenewed (r : Option ℕ) (n : ℕ) : Type 0 where
  pub run : run_by r (suc n) ≡ suc (run_by r n)
  pub first : first_by r (suc (run_by r n)) ≡ suc n
  pub kept : (k : ℕ) → k < 8 → run_by r (suc n + k) ≡ suc (run_by r n)

pub next_of : (r : Option ℕ) (n : ℕ) → AtLeast 8 r → (run_by r (suc n) ≡ run_by r n) ⊎ IsRenewed r n
next_of None n ok = inl refl
next_of (Some size) n ok =
    let g : ℕ = n / size in
    let under : g * size ≤ n = div-mul-le_self n size in
    let over : n < g * size + size = lt-div-mul-add (omega arith) in
    elim (cases_lt (suc n) (g * size + size)) [
      | inl h ↦ inl (div-eq_of_lt-le size (omega arith) (omega arith))
      | inr h ↦ inr (record {
        run = div-eq_of_lt-le size (omega arith) (omega arith);
        first = omega arith;
        kept = λ k few. div-eq_of_lt-le size (omega arith) (omega arith);
      })
    ]

points_eight : (r : Option ℕ) (crf : CrfPlan) (rate count : ℕ) → AreWhole crf rate count r → AtLeast 8 (points_per crf rate count r)
points_eight None crf rate count is = tt
points_eight (Some packets) crf rate count is = is.some

pub packets_eight : (r : Option ℕ) (crf : CrfPlan) (rate count : ℕ) → AreWhole crf rate count r → AtLeast 8 (packets_per crf rate count r)
packets_eight None crf rate count is = tt
packets_eight (Some packets) crf rate count is = is.eight

-- ---- the run of point s, and the index of the point in that run

abbrev pub per : TalkPlan → CrfPlan → Option ℕ
per plan crf = points_per crf plan.rate plan.count plan.restart

abbrev pub run_at : TalkPlan → CrfPlan → ℕ → ℕ
run_at plan crf s = run_by (per plan crf) s

abbrev pub place_of : TalkPlan → CrfPlan → ℕ → ℕ
place_of plan crf s = s - first_by (per plan crf) (run_at plan crf s)

pub whole_runs : (plan : TalkPlan) (crf : CrfPlan) → IsAudioPlan plan → plan.crf ≡ Some crf → AreWhole crf plan.rate plan.count plan.restart
whole_runs plan crf p e =
    let of = clock_of plan crf p e in
    let is = is_beat plan crf p e in
    all_whole plan.restart crf plan.rate plan.count plan.jump p.some_count is.some of.some_points p.restart of.runs

pub point_value : (plan : TalkPlan) (crf : CrfPlan) (s : ℕ) → IsAudioPlan plan → plan.crf ≡ Some crf
    → clock_point crf plan s ≡ point_at (beat_of crf plan) (run_start plan (run_at plan crf s)) (place_of plan crf s)
unfolding clock_point nominal_instant
point_value plan crf s p e =
    let is = is_beat plan crf p e in
    let whole = whole_runs plan crf p e in
    let n : ℕ = frame_at crf plan s / plan.count in
    let i : ℕ = frame_at crf plan s % plan.count in
    let run = run_of_point plan.restart crf plan.rate plan.count s p.some_count is.some whole in
    let event = event_of_point plan.restart crf plan.rate plan.count plan.jump s p.some_count is.some p.restart whole in
    ap (λ (g : ℕ). run_start plan g + nominal_offset plan.rate (event_of plan n i)) run
    ∙ ap (λ (k : ℕ). run_start plan (run_at plan crf s) + nominal_offset plan.rate k) event

pub begun_by : (r : Option ℕ) (s : ℕ) → first_by r (run_by r s) ≤ s
begun_by None s = omega arith
begun_by (Some size) s = div-mul-le_self s size

pub record IsBeside (plan : TalkPlan) (crf : CrfPlan) (s : ℕ) : Type 0 where
  pub run : run_at plan crf (suc s) ≡ run_at plan crf s
  pub place : place_of plan crf (suc s) ≡ suc (place_of plan crf s)

pub beside : (plan : TalkPlan) (crf : CrfPlan) (s : ℕ) → run_at plan crf (suc s) ≡ run_at plan crf s → IsBeside plan crf s
beside plan crf s e =
    let begun = begun_by (per plan crf) s in
    let first : first_by (per plan crf) (run_at plan crf (suc s)) ≡ first_by (per plan crf) (run_at plan crf s) = ap (first_by (per plan crf)) e in
    record { run = e; place = omega arith }

-- ---- a run starts at least 4 ns after the end of the run before it

apart_by : (rate base jump a c d g h : ℕ) → 0 < rate → 4 ≤ jump → g < h → a + c ≤ d
    → base + g * jump + nominal_offset rate a + nominal_offset rate c + 4 ≤ base + h * jump + nominal_offset rate d
apart_by rate base jump a c d g h some least before events =
    let sum = sum_of rate a c (a + c) some refl in
    let more = more_offset rate (a + c) d some events in
    let jumps : (g + 1) * jump ≤ h * jump = mul-le-mul_right jump (omega arith) in
    omega (arith, sum.from)

starts_by : (r : Option ℕ) (rate count base jump packets g h : ℕ) → 0 < rate → Restarts r jump → r ≡ Some packets → g < h
    → base + g * jump + nominal_offset rate (first_by r g * count) + nominal_offset rate (packets * count) + 4 ≤ base + h * jump + nominal_offset rate (first_by r h * count)
starts_by None rate count base jump packets g h some ok e before = absurd cc
starts_by (Some k) rate count base jump packets g h some ok e before =
    let same : k ≡ packets = cc in
    let more : (g + 1) * k * count ≤ h * k * count = mul-le-mul_right count (mul-le-mul_right k (omega arith)) in
    rw (← same) (apart_by rate base jump (g * k * count) (k * count) (h * k * count) g h some ok.least_jump before (omega arith))

-- if run g is before run h, run h starts at least 4 ns after the end of run g
pub starts_apart : (plan : TalkPlan) (crf : CrfPlan) (packets g h : ℕ) → IsAudioPlan plan → plan.crf ≡ Some crf → plan.restart ≡ Some packets → g < h
    → IsNextStart (beat_of crf plan) (run_start plan g) (packets * plan.count) (run_start plan h)
starts_apart plan crf packets g h p e restart before =
    let is = is_beat plan crf p e in
    starts_by plan.restart plan.rate plan.count (nat_abs plan.start + plan.lead) plan.jump packets g h (omega (arith, is.rate_from)) p.restart restart before

pub record IsRunEnd (plan : TalkPlan) (crf : CrfPlan) (s : ℕ) : Type 0 where
  pub run : run_at plan crf (suc s) ≡ suc (run_at plan crf s)
  pub place : place_of plan crf (suc s) ≡ 0
  pub next : IsNextStart (beat_of crf plan) (run_start plan (run_at plan crf s)) (suc (place_of plan crf s) * spacing_of crf plan.rate) (run_start plan (suc (run_at plan crf s)))

end_by : (r : Option ℕ) (plan : TalkPlan) (crf : CrfPlan) (s : ℕ) → IsAudioPlan plan → plan.crf ≡ Some crf → plan.restart ≡ r
    → AreWhole crf plan.rate plan.count r
    → IsRenewed (points_per crf plan.rate plan.count r) s
    → IsNextStart (beat_of crf plan) (run_start plan (run_by (points_per crf plan.rate plan.count r) s))
    (suc (s - first_by (points_per crf plan.rate plan.count r) (run_by (points_per crf plan.rate plan.count r) s)) * spacing_of crf plan.rate)
    (run_start plan (suc (run_by (points_per crf plan.rate plan.count r) s)))
end_by None plan crf s p e restart is new = let run = new.run in absurd (omega arith)
end_by (Some packets) plan crf s p e restart is new =
    let size : ℕ = packets * plan.count / spacing_of crf plan.rate in
    let g : ℕ = s / size in
    let first = new.first in
    let last : suc (s - g * size) ≡ size = omega arith in
    let frames : suc (s - g * size) * spacing_of crf plan.rate ≡ packets * plan.count = ap (λ (n : ℕ). n * spacing_of crf plan.rate) last ∙ is.points in
    rw frames (starts_apart plan crf packets g (suc g) p e restart (omega arith))

-- the point after point s is in the same run, or is the first point of the next run
pub after_point : (plan : TalkPlan) (crf : CrfPlan) (s : ℕ) → IsAudioPlan plan → plan.crf ≡ Some crf → IsBeside plan crf s ⊎ IsRunEnd plan crf s
after_point plan crf s p e =
    let whole = whole_runs plan crf p e in
    elim (next_of (per plan crf) s (points_eight plan.restart crf plan.rate plan.count whole)) [
      | inl same ↦ inl (beside plan crf s same)
      | inr new ↦
          let first = new.first in
          let at : first_by (per plan crf) (run_at plan crf (suc s)) ≡ suc s = ap (first_by (per plan crf)) new.run ∙ first in
          inr (record { run = new.run; place = omega arith; next = end_by plan.restart plan crf s p e refl whole new })
    ]

-- ---- the points of packets

abbrev pub number : CrfPlan → Place → ℕ
number crf p = p.packet * crf.points + p.at

pub size_is : (crf : CrfPlan) (plan : TalkPlan) (packets m : ℕ) → length (points_in crf plan packets m) ≡ points_size crf plan packets m
unfolding points_in
size_is crf plan packets m = length-map-range_with_len (clock_point crf plan) (first_point crf m) (points_size crf plan packets m)

get_numbered : (f : ℕ → ℕ) (a n i j : ℕ) → i < n → a + i ≡ j → get_or (map f (range_with_len a n)) i 0 ≡ f j
get_numbered f a zero i j h e = absurd (omega arith)
get_numbered f a (suc n) zero j h e = let at : a ≡ j = omega arith in ap f at
get_numbered f a (suc n) (suc i) j h e = get_numbered f (a + 1) n i j (omega arith) (omega arith)

point_by : (crf : CrfPlan) (plan : TalkPlan) (packets m i : ℕ) → i < points_size crf plan packets m
    → get_or (points_in crf plan packets m) i 0 ≡ clock_point crf plan (m * crf.points + i)
unfolding points_in
point_by crf plan packets m i h = get_numbered (clock_point crf plan) (first_point crf m) (points_size crf plan packets m) i (m * crf.points + i) h refl

pub record IsKnown (crf : CrfPlan) (plan : TalkPlan) (packets : ℕ) (p : Place) : Type 0 where
  pub at : p.at < points_size crf plan packets p.packet
  pub within : p.at < crf.points
  pub below : number crf p < points_for crf plan packets
  pub value : point (clock_times crf plan packets) p ≡ clock_point crf plan (number crf p)

pub known : (crf : CrfPlan) (plan : TalkPlan) (packets : ℕ) (p : Place) → IsPlace (clock_times crf plan packets) p → IsKnown crf plan packets p
known crf plan packets p is =
    let at : p.at < points_size crf plan packets p.packet = rw size_is at is.at in
    record { at = at; within = omega arith; below = omega arith; value = point_by crf plan packets p.packet p.at at }

next_packet : (plan : TalkPlan) (crf : CrfPlan) (packets m : ℕ) → IsAudioPlan plan → plan.crf ≡ Some crf → suc m < clock_packets crf plan packets
    → points_size crf plan packets m ≡ crf.points
next_packet plan crf packets m p e h =
    let next = first_in plan crf packets (suc m) p e h in
    let sum : suc m * crf.points ≡ m * crf.points + crf.points = omega arith in
    omega arith

pub follows_is : (plan : TalkPlan) (crf : CrfPlan) (packets : ℕ) (a b : Place) → IsAudioPlan plan → plan.crf ≡ Some crf
    → Follows (clock_times crf plan packets) a b
    → number crf b ≡ suc (number crf a)
follows_is plan crf packets a b p e f = elim f.next [
  | inl same ↦
      let packet : b.packet * crf.points ≡ a.packet * crf.points = ap (λ (n : ℕ). n * crf.points) same.0 in
      let at = same.1 in
      omega arith
  | inr next ↦
      let packet : b.packet * crf.points ≡ suc a.packet * crf.points = ap (λ (n : ℕ). n * crf.points) next.0 in
      let known : suc a.packet < clock_packets crf plan packets = subst (λ (n : ℕ). n < clock_packets crf plan packets) next.0 f.second.packet in
      let size = next_packet plan crf packets a.packet p e known in
      let last : suc a.at ≡ points_size crf plan packets a.packet = next.2 ∙ size_is crf plan packets a.packet in
      let first = next.1 in
      omega arith
]

-- ---- the restart bit distinguishes adjacent runs

abbrev pub packet_run : TalkPlan → CrfPlan → ℕ → ℕ
packet_run plan crf m = run_by (packets_per crf plan.rate plan.count plan.restart) m

pub bit_is : (plan : TalkPlan) (crf : CrfPlan) (m : ℕ) → IsAudioPlan plan → plan.crf ≡ Some crf → clock_mr crf plan m ≡ (packet_run plan crf m % 2 == 1)
bit_is plan crf m p e =
    let is = is_beat plan crf p e in
    let of = clock_of plan crf p e in
    let whole = whole_runs plan crf p e in
    let here = run_of_point plan.restart crf plan.rate plan.count (first_point crf m) p.some_count is.some whole in
    let first : first_point crf m ≡ m * crf.points + 0 = omega arith in
    let packet = run_of_packet plan.restart crf plan.rate plan.count m 0 whole of.some_points in
    ap (λ (g : ℕ). g % 2 == 1) (here ∙ ap (run_by (per plan crf)) first ∙ packet)

other_bit : (g : ℕ) → (g % 2 == 1) ≡ (suc g % 2 == 1) → ⊥
other_bit g e = grind (arith, nat_tests)

pub run_of_place : (plan : TalkPlan) (crf : CrfPlan) (packets : ℕ) (a : Place) → IsAudioPlan plan → plan.crf ≡ Some crf
    → IsPlace (clock_times crf plan packets) a → run_at plan crf (number crf a) ≡ packet_run plan crf a.packet
run_of_place plan crf packets a p e is = run_of_packet plan.restart crf plan.rate plan.count a.packet a.at (whole_runs plan crf p e)
    (known crf plan packets a is).within

-- if two adjacent points have the same restart bit, they are in one run
pub one_run : (plan : TalkPlan) (crf : CrfPlan) (packets : ℕ) (a b : Place) → IsAudioPlan plan → plan.crf ≡ Some crf
    → Follows (clock_times crf plan packets) a b → InOneRun (clock_times crf plan packets) a b
    → IsBeside plan crf (number crf a)
one_run plan crf packets a b p e f same =
    let next = follows_is plan crf packets a b p e f in
    let first = run_of_place plan crf packets a p e f.first in
    let second = run_of_place plan crf packets b p e f.second in
    let bits : (packet_run plan crf a.packet % 2 == 1) ≡ (packet_run plan crf b.packet % 2 == 1) = sym (bit_is plan crf a.packet p e) ∙ same
    ∙ bit_is plan crf b.packet p e in
    elim (after_point plan crf (number crf a) p e) [
      | inl is ↦ is
      | inr new ↦
          let later : packet_run plan crf b.packet ≡ suc (packet_run plan crf a.packet) = sym second ∙ ap (run_at plan crf) next ∙ new.run ∙ ap suc first in
          let here : (packet_run plan crf b.packet % 2 == 1) ≡ (suc (packet_run plan crf a.packet) % 2 == 1) = ap (λ (g : ℕ). g % 2 == 1) later in
          absurd (other_bit (packet_run plan crf a.packet) (bits ∙ here))
    ]

pub other_run : (plan : TalkPlan) (crf : CrfPlan) (packets : ℕ) (a b : Place) → IsAudioPlan plan → plan.crf ≡ Some crf
    → Follows (clock_times crf plan packets) a b → ¬ InOneRun (clock_times crf plan packets) a b
    → IsRunEnd plan crf (number crf a)
other_run plan crf packets a b p e f other =
    let next = follows_is plan crf packets a b p e f in
    let first = run_of_place plan crf packets a p e f.first in
    let second = run_of_place plan crf packets b p e f.second in
    elim (after_point plan crf (number crf a) p e) [
      | inl is ↦
          let same : packet_run plan crf a.packet ≡ packet_run plan crf b.packet = sym first ∙ sym is.run ∙ ap (run_at plan crf) (sym next) ∙ second in
          absurd (other (bit_is plan crf a.packet p e ∙ ap (λ (g : ℕ). g % 2 == 1) same ∙ sym (bit_is plan crf b.packet p e)))
      | inr new ↦ new
    ]

-- ---- pairs

pub pair_is : (plan : TalkPlan) (crf : CrfPlan) (packets : ℕ) (a b : Place) → IsAudioPlan plan → plan.crf ≡ Some crf
    → Follows (clock_times crf plan packets) a b → IsBeside plan crf (number crf a)
    → pair_at (clock_times crf plan packets) a b
    ≡ pair_from (beat_of crf plan) (run_start plan (run_at plan crf (number crf a))) (place_of plan crf (number crf a))
pair_is plan crf packets a b p e f is =
    let c = clock_times crf plan packets in
    let beat = beat_of crf plan in
    let s : ℕ = number crf a in
    let start : ℕ = run_start plan (run_at plan crf s) in
    let first : point c a ≡ point_at beat start (place_of plan crf s) = (known crf plan packets a f.first).value ∙ point_value plan crf s p e in
    let moved : point_at beat (run_start plan (run_at plan crf (suc s))) (place_of plan crf (suc s)) ≡ point_at beat start (suc (place_of plan crf s)) =
    ap (λ (g : ℕ). point_at beat (run_start plan g) (place_of plan crf (suc s))) is.run ∙ ap (point_at beat start) is.place in
    let second : point c b ≡ point_at beat start (suc (place_of plan crf s)) =
    (known crf plan packets b f.second).value ∙ ap (clock_point crf plan) (follows_is plan crf packets a b p e f) ∙ point_value plan crf (suc s) p e ∙ moved in
    let P : ℕ → ℕ → Pair = λ x y. record { earlier = pos x; later = pos y; interval = crf.interval; up = beat.up; down = beat.down } in
    ap (λ (x : ℕ). P x (point c b)) first ∙ ap (λ (y : ℕ). P (point_at beat start (place_of plan crf s)) y) second

-- ---- the points by their runs

pub counted : (plan : TalkPlan) (crf : CrfPlan) (packets s : ℕ) → IsAudioPlan plan → plan.crf ≡ Some crf
    → s < points_for crf plan packets ↔ frame_at crf plan s < packets * plan.count
counted plan crf packets s p e =
    let w : ℕ = spacing_of crf plan.rate in
    let frames : ℕ = packets * plan.count in
    let some = (is_beat plan crf p e).some in
    let bound = div_ceil_times frames w some in (
      (λ h. points_within (points_for crf plan packets) w frames s some refl h),
      (λ h. elim (cases_lt s (points_for crf plan packets)) [
        | inl below ↦ below
        | inr past ↦ let times : points_for crf plan packets * w ≤ s * w = mul-le-mul_right w past in absurd (omega (arith, bound.0, times, h))
      ]),
    )

pub steady_points : (plan : TalkPlan) (crf : CrfPlan) (s : ℕ) → IsAudioPlan plan → plan.crf ≡ Some crf → plan.restart ≡ None
    → clock_point crf plan s ≡ run_start plan 0 + nominal_offset plan.rate (frame_at crf plan s)
steady_points plan crf s p e restart =
    let P : Option ℕ → ℕ = λ r. point_at (beat_of crf plan) (run_start plan (run_by (points_per crf plan.rate plan.count r) s))
    (s - first_by (points_per crf plan.rate plan.count r) (run_by (points_per crf plan.rate plan.count r) s)) in
    let all : s - 0 ≡ s = omega arith in
    point_value plan crf s p e ∙ ap P restart ∙ ap (λ (m : ℕ). run_start plan 0 + nominal_offset plan.rate (m * spacing_of crf plan.rate)) all

pub restarted_points : (plan : TalkPlan) (crf : CrfPlan) (packets s : ℕ) → IsAudioPlan plan → plan.crf ≡ Some crf → plan.restart ≡ Some packets
    → clock_point crf plan s
    ≡ run_start plan (s / run_points crf plan packets) + nominal_offset plan.rate (s % run_points crf plan packets * spacing_of crf plan.rate)
restarted_points plan crf packets s p e restart =
    let P : Option ℕ → ℕ = λ r. point_at (beat_of crf plan) (run_start plan (run_by (points_per crf plan.rate plan.count r) s))
    (s - first_by (points_per crf plan.rate plan.count r) (run_by (points_per crf plan.rate plan.count r) s)) in
    let size : ℕ = run_points crf plan packets in
    let rest : s - s / size * size ≡ s % size = sym (mod-eq-sub-div-mul s size) in
    point_value plan crf s p e ∙ ap P restart ∙ ap (λ (m : ℕ). run_start plan (s / size) + nominal_offset plan.rate (m * spacing_of crf plan.rate)) rest

pub restarted_bit : (plan : TalkPlan) (crf : CrfPlan) (packets m : ℕ) → IsAudioPlan plan → plan.crf ≡ Some crf → plan.restart ≡ Some packets
    → clock_mr crf plan m ≡ (m / (run_points crf plan packets / crf.points) % 2 == 1)
restarted_bit plan crf packets m p e restart =
    bit_is plan crf m p e ∙ ap (λ (r : Option ℕ). run_by (packets_per crf plan.rate plan.count r) m % 2 == 1) restart
