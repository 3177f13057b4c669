-- The clock of a plan keeps the rules of clocks.
use Rattle.std.proofs.Common.{◌≡◌, inl, inr, ℕ, suc, ◌+◌, ◌-◌, ◌*◌, ◌/◌, ◌%◌, ◌^◌, ◌<◌, ◌≤◌, min, Some, None, refl, sym, subst, ap, ◌∙◌, arith}
use Rattle.std.specs.Prelude.{Option, ◌==◌}
use Rattle.std.proofs.Math.Nat.{mul-le-mul_right, zero-div}
use Rattle.clock_track.specs.declared.pair.Pair.{Pair}
use Rattle.clock_track.specs.PairLines.{IsJoined, IsSpaced, nominal, period}
use Rattle.clock_track.proofs.Pairs.{period-natural}
use Rattle.stream_journal.specs.Clocks.{Follows, Place, pair_at, point}
use Rattle.stream_journal.specs.Conforming.{HoldsEight, IsClock}
use Rattle.stream_journal.specs.Regular.{IsRegularClock, IsSteady}
use Rattle.stream_journal.proofs.Worked.{no_clock-is, no_clock-regular}
use Rattle.talk_plan.specs.declared.plan.CrfPlan.{CrfPlan}
use Rattle.talk_plan.specs.declared.plan.TalkPlan.{TalkPlan}
use Rattle.talk_plan.specs.Beats.{IsNextStart, pair_from, point_at}
use Rattle.talk_plan.specs.Stamps.{beat_of}
use Rattle.talk_clock.specs.Clock.{clock_by, clock_mr, clock_packets, clock_point, clock_times, first_point, frame_at, points_for, AreFew}
use Rattle.talk_plan.specs.Plan.{IsAudioPlan, spacing_of}
use Rattle.talk_plan.specs.Timing.{nominal_offset, run_start}
use Rattle.talk_plan.proofs.BeatLemmas.{is_period, joined, renewed, steady}
use Rattle.talk_plan.proofs.StampLemmas.{clock_of, is_beat}
use Rattle.talk_clock.proofs.ClockLemmas.{first_in, point_at_frame}
use Rattle.talk_plan.proofs.TimingLemmas.{in_time}
use Rattle.talk_clock.proofs.ClockPoints.{IsBeside, IsRunEnd, after_point, bit_is, follows_is, known, next_of, number, one_run, other_run, packet_run}
use Rattle.talk_clock.proofs.ClockPoints.{packets_eight, packets_per, pair_is, place_of, point_value, run_at, size_is, whole_runs}

-- ---- the rules of clocks

pub pair_from_at : (plan : TalkPlan) (crf : CrfPlan) (g m h k : ℕ) → g ≡ h → m ≡ k
    → pair_from (beat_of crf plan) (run_start plan g) m ≡ pair_from (beat_of crf plan) (run_start plan h) k
pair_from_at plan crf g m h k e f = ap (λ (x : ℕ). pair_from (beat_of crf plan) (run_start plan x) m) e ∙ ap (pair_from (beat_of crf plan) (run_start plan h)) f

next_pair : (plan : TalkPlan) (crf : CrfPlan) (packets : ℕ) (a b d : Place) → IsAudioPlan plan → plan.crf ≡ Some crf
    → Follows (clock_times crf plan packets) a b → Follows (clock_times crf plan packets) b d
    → IsBeside plan crf (number crf a) → IsBeside plan crf (number crf b)
    → pair_at (clock_times crf plan packets) b d
    ≡ pair_from (beat_of crf plan) (run_start plan (run_at plan crf (number crf a))) (suc (place_of plan crf (number crf a)))
next_pair plan crf packets a b d p e f g first second =
    let next = follows_is plan crf packets a b p e f in
    let run : run_at plan crf (number crf b) ≡ run_at plan crf (number crf a) = ap (run_at plan crf) next ∙ first.run in
    let place : place_of plan crf (number crf b) ≡ suc (place_of plan crf (number crf a)) = ap (place_of plan crf) next ∙ first.place in
    pair_is plan crf packets b d p e g second ∙ pair_from_at plan crf (run_at plan crf (number crf b)) (place_of plan crf (number crf b))
    (run_at plan crf (number crf a)) (suc (place_of plan crf (number crf a))) run place

spaced_by : (nominal p q up : ℕ) → 7 * nominal ≤ 8 * (p * up) → p ≤ q → 3 * nominal ≤ 4 * (q * up)
spaced_by nominal p q up least more = let times : p * up ≤ q * up = mul-le-mul_right up more in omega arith

-- Point b follows point a and is the first of a run, so the instant of b is the start of that run. The instant of a is
-- computed from the start of the run that ends with a, and from the index of a in that run.
first_later : (plan : TalkPlan) (crf : CrfPlan) (packets : ℕ) (a b : Place) → IsAudioPlan plan → plan.crf ≡ Some crf
    → Follows (clock_times crf plan packets) a b → IsRunEnd plan crf (number crf a)
    → (point (clock_times crf plan packets) a
    ≡ point_at (beat_of crf plan) (run_start plan (run_at plan crf (number crf a))) (place_of plan crf (number crf a)))
    × (point (clock_times crf plan packets) b ≡ run_start plan (suc (run_at plan crf (number crf a))))
first_later plan crf packets a b p e f is =
    let s : ℕ = number crf a in
    let first = (known crf plan packets a f.first).value ∙ point_value plan crf s p e in
    let none : nominal_offset plan.rate (0 * spacing_of crf plan.rate) ≡ 0 = ap (nominal_offset plan.rate)
    (let z : 0 * spacing_of crf plan.rate ≡ 0 = omega arith in z) ∙ zero-div plan.rate in
    let second : point (clock_times crf plan packets) b ≡ point_at (beat_of crf plan) (run_start plan (run_at plan crf (suc s))) (place_of plan crf (suc s)) =
    (known crf plan packets b f.second).value ∙ ap (clock_point crf plan) (follows_is plan crf packets a b p e f) ∙ point_value plan crf (suc s) p e in
    let moved : point_at (beat_of crf plan) (run_start plan (run_at plan crf (suc s))) (place_of plan crf (suc s)) ≡ point_at (beat_of crf plan)
    (run_start plan (suc (run_at plan crf s))) 0 =
    ap (λ (g : ℕ). point_at (beat_of crf plan) (run_start plan g) (place_of plan crf (suc s))) is.run
    ∙ ap (point_at (beat_of crf plan) (run_start plan (suc (run_at plan crf s)))) is.place in
    (first, omega (arith, second, moved, none))

spaced_is : (plan : TalkPlan) (crf : CrfPlan) (packets : ℕ) (a b : Place) → IsAudioPlan plan → plan.crf ≡ Some crf → Follows (clock_times crf plan packets) a b
    → IsSpaced (pair_at (clock_times crf plan packets) a b)
spaced_is plan crf packets a b p e f =
    let is = is_beat plan crf p e in
    let beat = beat_of crf plan in
    let s : ℕ = number crf a in
    let start : ℕ = run_start plan (run_at plan crf s) in
    let pair = pair_from beat start (place_of plan crf s) in
    let join = joined beat start (place_of plan crf s) is in
    elim (after_point plan crf s p e) [
      | inl same ↦ subst IsSpaced (sym (pair_is plan crf packets a b p e f same))
          (spaced_by (nominal pair) (period pair) (period pair) beat.up join.least (omega arith))
      | inr new ↦
          let at = first_later plan crf packets a b p e f new in
          let of = is_period beat start (place_of plan crf s) is in
          let far = new.next in
          let natural = period-natural (point (clock_times crf plan packets) a) (point (clock_times crf plan packets) b) in
          spaced_by (nominal pair) (period pair) (period (pair_at (clock_times crf plan packets) a b)) beat.up join.least
          (omega (arith, natural, at.0, at.1, of.next, far))
    ]

renewed_is : (plan : TalkPlan) (crf : CrfPlan) (packets : ℕ) (a b d : Place) → IsAudioPlan plan → plan.crf ≡ Some crf
    → Follows (clock_times crf plan packets) a b → Follows (clock_times crf plan packets) b d
    → IsBeside plan crf (number crf a) → IsRunEnd plan crf (number crf b)
    → point (clock_times crf plan packets) b + period (pair_at (clock_times crf plan packets) a b) ≤ point (clock_times crf plan packets) d
renewed_is plan crf packets a b d p e f g same new =
    let is = is_beat plan crf p e in
    let beat = beat_of crf plan in
    let s : ℕ = number crf a in
    let run : ℕ = run_at plan crf s in
    let m : ℕ = place_of plan crf s in
    let next = follows_is plan crf packets a b p e f in
    let here : run_at plan crf (number crf b) ≡ run = ap (run_at plan crf) next ∙ same.run in
    let there : place_of plan crf (number crf b) ≡ suc m = ap (place_of plan crf) next ∙ same.place in
    let at = first_later plan crf packets b d p e g new in
    let P : ℕ → ℕ → Type 0 = λ g k. IsNextStart beat (run_start plan g) (suc k * spacing_of crf plan.rate) (run_start plan (suc g)) in
    let far : P run (suc m) = subst (λ (g : ℕ). P g (suc m)) here (subst (λ (k : ℕ). P (run_at plan crf (number crf b)) k) there new.next) in
    let last : point (clock_times crf plan packets) b ≡ point_at beat (run_start plan run) (suc m) =
    at.0 ∙ ap (λ (g : ℕ). point_at beat (run_start plan g) (place_of plan crf (number crf b))) here ∙ ap (point_at beat (run_start plan run)) there in
    let first : point (clock_times crf plan packets) d ≡ run_start plan (suc run) = at.1 ∙ ap (λ (g : ℕ). run_start plan (suc g)) here in
    let pair = pair_is plan crf packets a b p e f same in
    let lasts : period (pair_at (clock_times crf plan packets) a b) ≡ period (pair_from beat (run_start plan run) m) = ap period pair in
    omega (arith, renewed beat (run_start plan run) m (run_start plan (suc run)) is far, last, first, lasts)

holds_is : (plan : TalkPlan) (crf : CrfPlan) (packets : ℕ) → IsAudioPlan plan → plan.crf ≡ Some crf → HoldsEight packets (λ m. clock_mr crf plan m)
holds_is plan crf packets p e m k other few within =
    let whole = whole_runs plan crf p e in
    let r = packets_per crf plan.rate plan.count plan.restart in
    elim (next_of r m (packets_eight plan.restart crf plan.rate plan.count whole)) [
      | inl same ↦ absurd (other (bit_is plan crf (suc m) p e ∙ ap (λ (g : ℕ). g % 2 == 1) same ∙ sym (bit_is plan crf m p e)))
      | inr new ↦
          let run : packet_run plan crf (suc m + k) ≡ packet_run plan crf (suc m) = new.kept k few ∙ sym new.run in
          bit_is plan crf (suc m + k) p e ∙ ap (λ (g : ℕ). g % 2 == 1) run ∙ sym (bit_is plan crf (suc m) p e)
    ]

pub point_small : (plan : TalkPlan) (crf : CrfPlan) (packets s : ℕ) → IsAudioPlan plan → plan.crf ≡ Some crf → AreFew plan packets
    → s < points_for crf plan packets
    → clock_point crf plan s < plan.lead + 2 ^ 32 * 1000000000
unfolding clock_point
point_small plan crf packets s p e few h =
    let at = point_at_frame plan crf packets s p e few h in
    in_time plan (frame_at crf plan s / plan.count) (frame_at crf plan s % plan.count) p at.frames at.within

clock_with : (plan : TalkPlan) (crf : CrfPlan) (packets : ℕ) → IsAudioPlan plan → plan.crf ≡ Some crf → AreFew plan packets
    → IsClock (clock_times crf plan packets)
clock_with plan crf packets p e few =
    let of = clock_of plan crf p e in
    let is = is_beat plan crf p e in
    let beat = beat_of crf plan in
    record {
      interval = of.some_interval;
      some = λ m h. record {
        packet = h;
        at = (let first = first_in plan crf packets m p e h in rw size_is
            (some_size crf.points (points_for crf plan packets) (first_point crf m) of.some_points first));
      };
      spaced = λ a b f. spaced_is plan crf packets a b p e f;
      even = λ a b f one. (let beside = one_run plan crf packets a b p e f one in
          subst IsJoined (sym (pair_is plan crf packets a b p e f beside))
          (joined beat (run_start plan (run_at plan crf (number crf a))) (place_of plan crf (number crf a)) is));
    }
  where
    some_size : (size points first : ℕ) → 1 ≤ size → first < points → 0 < min size (points - first)
    some_size size points first some h = omega arith

clock_regular_with : (plan : TalkPlan) (crf : CrfPlan) (packets : ℕ) → IsAudioPlan plan → plan.crf ≡ Some crf → AreFew plan packets
    → IsRegularClock (clock_times crf plan packets)
clock_regular_with plan crf packets p e few =
    let of = clock_of plan crf p e in
    let is = is_beat plan crf p e in
    let c = clock_times crf plan packets in
    let beat = beat_of crf plan in
    record {
      base = of.some_rate;
      pull = of.pull;
      instants = λ a at. (let k = known crf plan packets a at in omega (arith, k.value, point_small plan crf packets (number crf a) p e few k.below, p.lead));
      steady = λ a b d f g one two. (let first = one_run plan crf packets a b p e f one in
          let second = one_run plan crf packets b d p e g two in
          let start : ℕ = run_start plan (run_at plan crf (number crf a)) in
          let m : ℕ = place_of plan crf (number crf a) in
          subst (λ (x : Pair). IsSteady x (pair_at c b d)) (sym (pair_is plan crf packets a b p e f first))
          (subst (IsSteady (pair_from beat start m)) (sym (next_pair plan crf packets a b d p e f g first second)) (steady beat start m is)));
      renewed = λ a b d f g one other. renewed_is plan crf packets a b d p e f g (one_run plan crf packets a b p e f one)
          (other_run plan crf packets b d p e g other);
      holds = holds_is plan crf (clock_packets crf plan packets) p e;
    }

clock_is_by : (crf : Option CrfPlan) (plan : TalkPlan) (packets : ℕ) → IsAudioPlan plan → plan.crf ≡ crf → AreFew plan packets
    → IsClock (clock_by crf plan packets)
clock_is_by None plan packets p e few = no_clock-is
clock_is_by (Some crf) plan packets p e few = clock_with plan crf packets p e few

pub clock_is : (plan : TalkPlan) (packets : ℕ) → IsAudioPlan plan → AreFew plan packets → IsClock (clock_by plan.crf plan packets)
clock_is plan packets p few = clock_is_by plan.crf plan packets p refl few

clock_regular_by : (crf : Option CrfPlan) (plan : TalkPlan) (packets : ℕ) → IsAudioPlan plan → plan.crf ≡ crf → AreFew plan packets
    → IsRegularClock (clock_by crf plan packets)
clock_regular_by None plan packets p e few = no_clock-regular
clock_regular_by (Some crf) plan packets p e few = clock_regular_with plan crf packets p e few

pub clock_regular : (plan : TalkPlan) (packets : ℕ) → IsAudioPlan plan → AreFew plan packets → IsRegularClock (clock_by plan.crf plan packets)
clock_regular plan packets p few = clock_regular_by plan.crf plan packets p refl few
