-- At most one pair of timestamps of a plan's clock covers any given timestamp of the plan's stream.
use Rattle.std.proofs.Common.{◌≡◌, inl, inr, ℕ, suc, ◌+◌, ◌-◌, ◌*◌, ◌/◌, ◌<◌, ◌≤◌, Bool, true, false, pos, Some, None, refl, sym, subst, ap, ◌∙◌, arith}
use Rattle.std.specs.Prelude.{Option, if◌then◌else◌}
use Rattle.std.proofs.Math.Nat.{div-eq_of_lt-le, lt-div-mul-add, mul-le-mul_right}
use Rattle.std.proofs.lemmas.Bool.{cases_lt}
use Rattle.clock_track.specs.declared.pair.Pair.{Pair}
use Rattle.clock_track.specs.PairLines.{Covers, IsOfRate}
use Rattle.stream_journal.specs.Clocks.{Place, pair_at}
use Rattle.stream_journal.specs.Conforming.{AgreesWithClock, IsCovered, is_stamped}
use Rattle.stream_journal.specs.Journal.{Journal, Kind, rule_of}
use Rattle.time_unfold.specs.Heads.{stamped_index}
use Rattle.stream_journal.proofs.Worked.{no_clock-agrees}
use Rattle.talk_plan.specs.declared.plan.CrfPlan.{CrfPlan}
use Rattle.talk_plan.specs.declared.plan.TalkPlan.{TalkPlan}
use Rattle.talk_plan.specs.Beats.{IsOnEvent, pair_from, stamped_at}
use Rattle.talk_plan.specs.Stamps.{beat_of, stamped_by}
use Rattle.talk_clock.specs.Clock.{clock_by, clock_times}
use Rattle.talk_audio.specs.Journal.{audio_times}
use Rattle.talk_plan.specs.Plan.{IsAudioPlan, Restarts, spacing_of}
use Rattle.talk_plan.specs.Timing.{event_of, first_by, run_by, run_of, run_start}
use Rattle.talk_plan.proofs.BeatLemmas.{covering, exact, not_earlier_run, not_later_run}
use Rattle.talk_plan.proofs.StampLemmas.{is_beat}
use Rattle.talk_audio.proofs.DueLemmas.{IsKindOf, stamp_is}
use Rattle.talk_clock.proofs.ClockPoints.{AreWhole, IsBeside, begun_by, beside, follows_is, known, number, one_run, pair_is, per, place_of, points_per, run_at}
use Rattle.talk_clock.proofs.ClockPoints.{starts_apart, whole_runs}
use Rattle.talk_clock.proofs.ClockRules.{pair_from_at}

-- ---- the timestamps of a stream that follows a clock

-- the times of a stream whose plan has the clock `crf`, if any
abbrev pub times_with : Option CrfPlan → Kind → TalkPlan → ℕ → Journal
times_with crf kind plan packets = record (audio_times kind plan packets) {
  stamp = λ n. (if is_stamped (rule_of kind n) n plan.count then Some (stamped_by crf plan n (stamped_index (rule_of kind n))) else None);
  clock = clock_by crf plan packets;
}

abbrev stamped_event : Kind → TalkPlan → ℕ → ℕ
stamped_event kind plan n = event_of plan n (stamped_index (rule_of kind n))

record IsStampOf (kind : Kind) (plan : TalkPlan) (crf : CrfPlan) (n instant : ℕ) : Type 0 where
  within : stamped_index (rule_of kind n) < plan.count
  same : instant ≡ stamped_at (beat_of crf plan) (run_start plan (run_of plan n)) (stamped_event kind plan n)

stamp_by : (kind : Kind) (plan : TalkPlan) (crf : CrfPlan) (n instant : ℕ) (b : Bool) → IsKindOf plan kind → is_stamped (rule_of kind n) n plan.count ≡ b
    → (if b then Some (stamped_by (Some crf) plan n (stamped_index (rule_of kind n))) else None) ≡ Some instant → IsStampOf kind plan crf n instant
stamp_by kind plan crf n instant true k e h = record {
  within = k.within n e;
  same = sym (stamp_is true (stamped_by (Some crf) plan n (stamped_index (rule_of kind n))) instant h);
}
stamp_by kind plan crf n instant false k e h = absurd cc

-- the `spacing` sample frames that begin at a point belong to the point's run
points_in_run : (r : Option ℕ) (crf : CrfPlan) (rate count packets s : ℕ) → r ≡ Some packets → AreWhole crf rate count r
    → suc (s - first_by (points_per crf rate count r) (run_by (points_per crf rate count r) s)) * spacing_of crf rate ≤ packets * count
points_in_run None crf rate count packets s e is = absurd cc
points_in_run (Some k) crf rate count packets s e is =
    let same : k ≡ packets = cc in
    let size : ℕ = k * count / spacing_of crf rate in
    let some = is.some in
    let over : s < s / size * size + size = lt-div-mul-add (omega arith) in
    let times : suc (s - s / size * size) * spacing_of crf rate ≤ size * spacing_of crf rate = mul-le-mul_right (spacing_of crf rate) (omega arith) in
    let frames : size * spacing_of crf rate ≡ k * count = is.points in
    rw (← same) (omega (arith, times, frames))

events_in_run : (r : Option ℕ) (count jump packets n i : ℕ) → Restarts r jump → r ≡ Some packets → i < count
    → (n - first_by r (run_by r n)) * count + i < packets * count
events_in_run None count jump packets n i ok e within = absurd cc
events_in_run (Some k) count jump packets n i ok e within =
    let same : k ≡ packets = cc in
    let some = ok.some in
    let over : n < n / k * k + k = lt-div-mul-add (omega arith) in
    let times : (n - n / k * k + 1) * count ≤ k * count = mul-le-mul_right count (omega arith) in
    rw (← same) (omega arith)

-- Packet n is in the run of point s, and point s + 1 is the last point up to the event that the packet stamps.
record IsTold (kind : Kind) (plan : TalkPlan) (crf : CrfPlan) (n s : ℕ) : Type 0 where
  run : run_at plan crf s ≡ run_of plan n
  at : stamped_event kind plan n / spacing_of crf plan.rate ≡ suc (place_of plan crf s)

told_by : (r : Option ℕ) (kind : Kind) (plan : TalkPlan) (crf : CrfPlan) (n s : ℕ) → IsAudioPlan plan → plan.crf ≡ Some crf → plan.restart ≡ r
    → IsBeside plan crf s
    → stamped_index (rule_of kind n) < plan.count
    → Covers (pair_from (beat_of crf plan) (run_start plan (run_at plan crf s)) (place_of plan crf s)) plan.rate
    (pos (stamped_at (beat_of crf plan) (run_start plan (run_of plan n)) (stamped_event kind plan n)))
    → run_at plan crf s ≡ run_of plan n
told_by None kind plan crf n s p e restart beside within covers =
    ap (λ (r : Option ℕ). run_by (points_per crf plan.rate plan.count r) s) restart ∙ sym (ap (λ (r : Option ℕ). run_by r n) restart)
told_by (Some packets) kind plan crf n s p e restart beside within covers =
    let is = is_beat plan crf p e in
    let beat = beat_of crf plan in
    let m : ℕ = place_of plan crf s in
    elim (cases_lt (run_at plan crf s) (run_of plan n)) [
      | inl earlier ↦
          let whole = whole_runs plan crf p e in
          let last = points_in_run plan.restart crf plan.rate plan.count packets (suc s) restart whole in
          let place : suc (place_of plan crf (suc s)) * spacing_of crf plan.rate ≡ suc (suc m) * spacing_of crf
          plan.rate = ap (λ (k : ℕ). suc k * spacing_of crf plan.rate) beside.place in
          absurd (not_earlier_run beat (run_start plan (run_at plan crf s)) (packets * plan.count) (run_start plan (run_of plan n)) m
          (stamped_event kind plan n) is
          (starts_apart plan crf packets (run_at plan crf s) (run_of plan n) p e restart earlier) (omega (arith, last, place)) covers)
      | inr not ↦ elim (cases_lt (run_of plan n) (run_at plan crf s)) [
        | inl later ↦
            absurd (not_later_run beat (run_start plan (run_of plan n)) (packets * plan.count) (run_start plan (run_at plan crf s)) m
            (stamped_event kind plan n) is
            (starts_apart plan crf packets (run_of plan n) (run_at plan crf s) p e restart later)
            (events_in_run plan.restart plan.count plan.jump packets n (stamped_index (rule_of kind n)) p.restart restart within) covers)
        | inr neither ↦ omega arith
      ]
    ]

-- what follows if the pair of the clock's timestamps at `a` and `b` covers the timestamp of packet n
record IsCoveredBy (kind : Kind) (plan : TalkPlan) (crf : CrfPlan) (packets n instant : ℕ) (a b : Place) : Type 0 where
  told : IsTold kind plan crf n (number crf a)
  stamp : IsStampOf kind plan crf n instant
  pair : pair_at (clock_times crf plan packets) a b ≡ pair_from (beat_of crf plan) (run_start plan (run_of plan n)) (place_of plan crf (number crf a))
  covers : Covers (pair_from (beat_of crf plan) (run_start plan (run_of plan n)) (place_of plan crf (number crf a))) plan.rate
      (pos (stamped_at (beat_of crf plan) (run_start plan (run_of plan n)) (stamped_event kind plan n)))

covered_by : (kind : Kind) (plan : TalkPlan) (crf : CrfPlan) (packets n instant : ℕ) (a b : Place) → IsAudioPlan plan → plan.crf ≡ Some crf → IsKindOf plan kind
    → IsCovered (times_with (Some crf) kind plan packets) n instant a b → IsCoveredBy kind plan crf packets n instant a b
covered_by kind plan crf packets n instant a b p e k x =
    let is = is_beat plan crf p e in
    let s : ℕ = number crf a in
    let m : ℕ = place_of plan crf s in
    let beat = beat_of crf plan in
    let event : ℕ = stamped_event kind plan n in
    let stamp = stamp_by kind plan crf n instant (is_stamped (rule_of kind n) n plan.count) k refl x.stamped in
    let beside = one_run plan crf packets a b p e x.joined.follows x.joined.one_run in
    let pair = pair_is plan crf packets a b p e x.joined.follows beside in
    let here : Covers (pair_from beat (run_start plan (run_at plan crf s)) m) plan.rate (pos instant) = subst (λ (y : Pair). Covers y plan.rate (pos instant))
    pair x.covers in
    let there : Covers (pair_from beat (run_start plan (run_at plan crf s)) m) plan.rate (pos (stamped_at beat (run_start plan (run_of plan n)) event)) =
    subst (λ (i : ℕ). Covers (pair_from beat (run_start plan (run_at plan crf s)) m) plan.rate (pos i)) stamp.same here in
    let run = told_by plan.restart kind plan crf n s p e refl beside stamp.within there in
    let moved : Covers (pair_from beat (run_start plan (run_of plan n)) m) plan.rate (pos (stamped_at beat (run_start plan (run_of plan n)) event)) =
    subst (λ (g : ℕ). Covers (pair_from beat (run_start plan g) m) plan.rate (pos (stamped_at beat (run_start plan (run_of plan n)) event))) run there in
    record {
      told = record { run = run; at = covering beat (run_start plan (run_of plan n)) m event is moved };
      stamp = stamp;
      pair = pair ∙ pair_from_at plan crf (run_at plan crf s) m (run_of plan n) m run refl;
      covers = moved;
    }

one_place : (size : ℕ) (a b : Place) → a.at < size → b.at < size → a.packet * size + a.at ≡ b.packet * size + b.at → a ≡ b
one_place size a b first second same =
    let here : (a.packet * size + a.at) / size ≡ a.packet = div-eq_of_lt-le size (omega arith) (omega arith) in
    let there : (b.packet * size + b.at) / size ≡ b.packet = div-eq_of_lt-le size (omega arith) (omega arith) in
    let packet : a.packet ≡ b.packet = sym here ∙ ap (λ (n : ℕ). n / size) same ∙ there in
    let times : a.packet * size ≡ b.packet * size = ap (λ (n : ℕ). n * size) packet in
    let at : a.at ≡ b.at = omega arith in
    let P : ℕ → ℕ → Place = λ x y. record { packet = x; at = y } in
    ap (λ (x : ℕ). P x a.at) packet ∙ ap (P b.packet) at

-- points of the same run with the same index in the run are the same point
one_number : (plan : TalkPlan) (crf : CrfPlan) (s t : ℕ) → run_at plan crf s ≡ run_at plan crf t → place_of plan crf s ≡ place_of plan crf t → s ≡ t
one_number plan crf s t run place =
    let here = begun_by (per plan crf) s in
    let there = begun_by (per plan crf) t in
    let first : first_by (per plan crf) (run_at plan crf s) ≡ first_by (per plan crf) (run_at plan crf t) = ap (first_by (per plan crf)) run in
    omega arith

one_pair : (kind : Kind) (plan : TalkPlan) (crf : CrfPlan) (packets n instant : ℕ) (a b d f : Place) → IsAudioPlan plan → plan.crf ≡ Some crf
    → IsKindOf plan kind
    → IsCovered (times_with (Some crf) kind plan packets) n instant a b → IsCovered (times_with (Some crf) kind plan packets) n instant d f → (a ≡ d) × (b ≡ f)
one_pair kind plan crf packets n instant a b d f p e k x y =
    let first = covered_by kind plan crf packets n instant a b p e k x in
    let second = covered_by kind plan crf packets n instant d f p e k y in
    let run : run_at plan crf (number crf a) ≡ run_at plan crf (number crf d) = first.told.run ∙ sym second.told.run in
    let places : suc (place_of plan crf (number crf a)) ≡ suc (place_of plan crf (number crf d)) = sym first.told.at ∙ second.told.at in
    let same = one_number plan crf (number crf a) (number crf d) run (omega arith) in
    let here = follows_is plan crf packets a b p e x.joined.follows in
    let there = follows_is plan crf packets d f p e y.joined.follows in
    let next : number crf b ≡ number crf f = omega arith in
    let within_a = (known crf plan packets a x.joined.follows.first).within in
    let within_b = (known crf plan packets b x.joined.follows.second).within in
    let within_d = (known crf plan packets d y.joined.follows.first).within in
    let within_f = (known crf plan packets f y.joined.follows.second).within in
    (one_place crf.points a d within_a within_d same, one_place crf.points b f within_b within_f next)

exact_by : (kind : Kind) (plan : TalkPlan) (crf : CrfPlan) (packets n instant : ℕ) (a b : Place) → IsAudioPlan plan → plan.crf ≡ Some crf → IsKindOf plan kind
    → IsCovered (times_with (Some crf) kind plan packets) n instant a b → IsOfRate (pair_at (clock_times crf plan packets) a b) plan.rate
    → IsOnEvent (pair_at (clock_times crf plan packets) a b) plan.rate instant
exact_by kind plan crf packets n instant a b p e k x own =
    let is = is_beat plan crf p e in
    let by = covered_by kind plan crf packets n instant a b p e k x in
    let beat = beat_of crf plan in
    let start : ℕ = run_start plan (run_of plan n) in
    let m : ℕ = place_of plan crf (number crf a) in
    let event : ℕ = stamped_event kind plan n in
    let of : IsOfRate (pair_from beat start m) plan.rate = subst (λ (y : Pair). IsOfRate y plan.rate) by.pair own in
    subst (λ (y : Pair). IsOnEvent y plan.rate instant) (sym by.pair)
    (subst (IsOnEvent (pair_from beat start m) plan.rate) (sym by.stamp.same) (exact beat start m event is by.covers of))

agrees_by : (crf : Option CrfPlan) (kind : Kind) (plan : TalkPlan) (packets : ℕ) → IsAudioPlan plan → plan.crf ≡ crf → IsKindOf plan kind
    → AgreesWithClock (times_with crf kind plan packets)
agrees_by None kind plan packets p e k = no_clock-agrees (times_with None kind plan packets) refl
agrees_by (Some crf) kind plan packets p e k = record {
  one = λ n instant a b d f x y. one_pair kind plan crf packets n instant a b d f p e k x y;
  exact = λ n instant a b x own. exact_by kind plan crf packets n instant a b p e k x own;
}

pub clock_agrees : (kind : Kind) (plan : TalkPlan) (packets : ℕ) → IsAudioPlan plan → IsKindOf plan kind → AgreesWithClock (audio_times kind plan packets)
clock_agrees kind plan packets p k = agrees_by plan.crf kind plan packets p refl k
