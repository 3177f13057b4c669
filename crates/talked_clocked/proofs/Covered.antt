-- The timestamps that the clock of a plan without restarts covers, and the points that cover them.
use Rattle.std.proofs.Common.{◌≡◌, ℕ, zero, suc, ◌+◌, ◌-◌, ◌*◌, ◌/◌, ◌%◌, ◌^◌, ◌<◌, ◌≤◌, Bool, true, false, ℤ, pos, neg_ℤ, ◌+ℤ◌, List, drop, Some, None, zero-mul, refl, sym, ap, ◌∙◌, subst, inl, inr, arith}
use Rattle.std.specs.Prelude.{Contains, if◌then◌else◌, ◌==◌}
use Rattle.std.specs.List.{range_with_len}
use Rattle.std.proofs.Math.Nat.{div-eq_of_lt-le, div-mul-le_self, mod-lt, mul-le-mul_right, zero-div}
use Rattle.std.proofs.lemmas.List.FromFn.{length-range_with_len}
use Rattle.std.proofs.lemmas.Bool.{cases_lt, eqb-true}
use Rattle.std.proofs.lemmas.Grind.{div_ceil_times}
use Rattle.std.proofs.lemmas.Int.{ints}
use Rattle.std.proofs.lemmas.Nat.{div-add-mod'}
use Rattle.clock_track.specs.declared.pair.Pair.{Pair}
use Rattle.clock_track.specs.PairLines.{Covers, Spot, event_line, nearest_event, step_den, step_num}
use Rattle.time_unfold.specs.declared.head_rule.Head.{Head}
use Rattle.time_unfold.specs.Lines.{instant_at}
use Rattle.time_unfold.specs.Stamps.{last_of}
use Rattle.stream_journal.specs.Clocks.{ClockJournal, Follows, InOneRun, IsJoinedAt, IsNext, IsPlace, Place, pair_at, point}
use Rattle.stream_journal.specs.Conforming.{AgreesWithClock, IsClock, IsCovered}
use Rattle.stream_journal.specs.Journal.{IsAtByClock, Journal, head_of, instant_by, rule_of}
use Rattle.stream_journal.specs.Delivered.{IsAudioKind}
use Rattle.time_unfold.specs.Heads.{stamped_index}
use Rattle.stream_journal.specs.Known.{IsCoveredBy}
use Rattle.talk_plan.specs.declared.plan.CrfPlan.{CrfPlan}
use Rattle.talk_plan.specs.declared.plan.TalkPlan.{TalkPlan}
use Rattle.talk_plan.specs.Beats.{pair_from, stamped_at}
use Rattle.talk_plan.specs.Plan.{IsAudioPlan, spacing_of}
use Rattle.talk_plan.specs.Stamps.{beat_of}
use Rattle.talk_plan.specs.Timing.{run_start}
use Rattle.talk_plan.proofs.BeatLemmas.{covered, covering}
use Rattle.talk_plan.proofs.StampLemmas.{clock_of, is_beat}
use Rattle.talk_clock.specs.Clock.{AreFew, clock_mr, clock_packets, clock_times, points_for}
use Rattle.talk_clock.proofs.ClockPoints.{beside, known as known_place, number, pair_is, place_of, run_at, size_is}
use Rattle.talk_clock.proofs.ClockRules.{point_small}

-- `j` is the journal of a plan with a clock and without restarts, and each packet of the plan stamps its first sample.
pub record IsClocked (plan : TalkPlan) (crf : CrfPlan) (j : Journal) : Type 0 where
  pub talked : IsAudioPlan plan
  pub crf_is : plan.crf ≡ Some crf
  pub steady : plan.restart ≡ None
  pub few : AreFew plan j.packets
  pub kind : IsAudioKind j.kind
  pub first : (n : ℕ) → stamped_index (rule_of j.kind n) ≡ 0
  pub rate : j.rate ≡ plan.rate
  pub clock : j.clock ≡ clock_times crf plan j.packets
  pub stamp : (n : ℕ) → j.stamp n ≡ Some (stamped_at (beat_of crf plan) (run_start plan 0) (n * plan.count))

-- the instant in the timestamp of packet n
abbrev pub stamp_at : TalkPlan → CrfPlan → ℕ → ℕ
stamp_at plan crf n = stamped_at (beat_of crf plan) (run_start plan 0) (n * plan.count)

-- the packet of the clock that holds point s, and the index of point s in that packet
abbrev pub place_at : CrfPlan → ℕ → Place
place_at crf s = record { packet = s / crf.points; at = s % crf.points }

-- ---- the packets that hold points

is_place : (plan : TalkPlan) (crf : CrfPlan) (packets s : ℕ) → 1 ≤ crf.points → s < points_for crf plan packets → IsPlace (clock_times crf plan packets) (place_at crf s)
is_place plan crf packets s some lt =
    let split = div-add-mod' s crf.points in
    let bound = div_ceil_times (points_for crf plan packets) crf.points some in
    record {
      packet = elim (cases_lt (s / crf.points) (clock_packets crf plan packets)) [
        | inl below ↦ below
        | inr past ↦
            let times : clock_packets crf plan packets * crf.points ≤ s / crf.points * crf.points = mul-le-mul_right crf.points past in
            absurd (omega (arith, bound.0, times, split, lt))
      ];
      at = rw size_is (omega (arith, split, lt, mod-lt s some));
    }

next_place : (plan : TalkPlan) (crf : CrfPlan) (packets s : ℕ) → 1 ≤ crf.points → suc s < points_for crf plan packets → IsNext (clock_times crf plan packets) (place_at crf s) (place_at crf (suc s))
next_place plan crf packets s some lt =
    let w = crf.points in
    let split = div-add-mod' s w in
    let next = div-add-mod' (suc s) w in
    let small = mod-lt s some in
    elim (cases_lt (suc (s % w)) w) [
      | inl inside ↦
          let same : suc s / w ≡ s / w = div-eq_of_lt-le w (omega arith) (omega arith) in
          let times : suc s / w * w ≡ s / w * w = ap (λ (k : ℕ). k * w) same in
          inl (same, omega arith)
      | inr last ↦
          let same : suc s / w ≡ suc (s / w) = div-eq_of_lt-le w (omega arith) (omega arith) in
          let times : suc s / w * w ≡ suc (s / w) * w = ap (λ (k : ℕ). k * w) same in
          inr (same, omega arith, rw size_is (omega arith))
    ]

follows : (plan : TalkPlan) (crf : CrfPlan) (packets s : ℕ) → 1 ≤ crf.points → suc s < points_for crf plan packets → Follows (clock_times crf plan packets) (place_at crf s) (place_at crf (suc s))
follows plan crf packets s some lt = record {
  first = is_place plan crf packets s some (omega arith);
  second = is_place plan crf packets (suc s) some lt;
  next = next_place plan crf packets s some lt;
}

-- ---- without restarts there is one run

run_none : (plan : TalkPlan) (crf : CrfPlan) (s : ℕ) → plan.restart ≡ None → run_at plan crf s ≡ 0
run_none plan crf s r = rw r refl

place_none : (plan : TalkPlan) (crf : CrfPlan) (s : ℕ) → plan.restart ≡ None → place_of plan crf s ≡ s
place_none plan crf s r = rw r (omega arith)

one_bit : (plan : TalkPlan) (crf : CrfPlan) (m k : ℕ) → plan.restart ≡ None → clock_mr crf plan m ≡ clock_mr crf plan k
one_bit plan crf m k r = rw r refl

pair_none : (plan : TalkPlan) (crf : CrfPlan) (packets : ℕ) (a b : Place) → IsAudioPlan plan → plan.crf ≡ Some crf → plan.restart ≡ None → Follows (clock_times crf plan packets) a b
    → pair_at (clock_times crf plan packets) a b ≡ pair_from (beat_of crf plan) (run_start plan 0) (number crf a)
pair_none plan crf packets a b p e r f =
    let s = number crf a in
    pair_is plan crf packets a b p e f (beside plan crf s (run_none plan crf (suc s) r ∙ sym (run_none plan crf s r)))
    ∙ (ap (λ (g : ℕ). pair_from (beat_of crf plan) (run_start plan g) (place_of plan crf s)) (run_none plan crf s r)
    ∙ ap (pair_from (beat_of crf plan) (run_start plan 0)) (place_none plan crf s r))

-- ---- a timestamp from the second point on

-- points s and s + 1 cover the timestamp of packet n
pub record IsOverStamp (plan : TalkPlan) (crf : CrfPlan) (j : Journal) (n s : ℕ) : Type 0 where
  pub there : Follows j.clock (place_at crf s) (place_at crf (suc s))
  pub one_run : InOneRun j.clock (place_at crf s) (place_at crf (suc s))
  pub covers : Covers (pair_at j.clock (place_at crf s) (place_at crf (suc s))) j.rate (pos (stamp_at plan crf n))
  pub small : point j.clock (place_at crf s) < 2 ^ 62
  pub small_next : point j.clock (place_at crf (suc s)) < 2 ^ 62

few_points : (plan : TalkPlan) (crf : CrfPlan) (packets s : ℕ) → IsAudioPlan plan → plan.crf ≡ Some crf → s * spacing_of crf plan.rate < packets * plan.count → s < points_for crf plan packets
few_points plan crf packets s p e lt =
    let is = is_beat plan crf p e in
    let bound = div_ceil_times (packets * plan.count) (spacing_of crf plan.rate) is.some in
    elim (cases_lt s (points_for crf plan packets)) [
      | inl below ↦ below
      | inr past ↦ let times : points_for crf plan packets * spacing_of crf plan.rate ≤ s * spacing_of crf plan.rate = mul-le-mul_right (spacing_of crf plan.rate) past in absurd (omega (arith, bound.0, times, lt))
    ]

point_below : (plan : TalkPlan) (crf : CrfPlan) (packets s : ℕ) → IsAudioPlan plan → plan.crf ≡ Some crf → AreFew plan packets → 1 ≤ crf.points → s < points_for crf plan packets → point (clock_times crf plan packets) (place_at crf s) < 2 ^ 62
point_below plan crf packets s p e few some lt =
    let at = known_place crf plan packets (place_at crf s) (is_place plan crf packets s some lt) in
    let small = point_small plan crf packets (number crf (place_at crf s)) p e few at.below in
    let value = at.value in
    omega (arith, value, small, p.lead)

over_in : (plan : TalkPlan) (crf : CrfPlan) (c : ClockJournal) (rate packets n s : ℕ) → IsAudioPlan plan → plan.crf ≡ Some crf → plan.restart ≡ None → AreFew plan packets → c ≡ clock_times crf plan packets → rate ≡ plan.rate → n < packets → n * plan.count / spacing_of crf plan.rate ≡ suc s
    → (Follows c (place_at crf s) (place_at crf (suc s)) × InOneRun c (place_at crf s) (place_at crf (suc s)))
    × (Covers (pair_at c (place_at crf s) (place_at crf (suc s))) rate (pos (stamp_at plan crf n)) × ((point c (place_at crf s) < 2 ^ 62) × (point c (place_at crf (suc s)) < 2 ^ 62)))
over_in plan crf c rate packets n s p e r few same rate_is lt at =
    let of = clock_of plan crf p e in
    let is = is_beat plan crf p e in
    let beat = beat_of crf plan in
    let split = div-mul-le_self (n * plan.count) (spacing_of crf plan.rate) in
    let whole : n * plan.count / spacing_of crf plan.rate * spacing_of crf plan.rate ≡ suc s * spacing_of crf plan.rate = ap (λ (k : ℕ). k * spacing_of crf plan.rate) at in
    let frames : suc n * plan.count ≤ packets * plan.count = mul-le-mul_right plan.count (omega (arith, lt)) in
    let some = p.some_count in
    let below = few_points plan crf packets (suc s) p e (omega (arith, split, whole, frames, some)) in
    let f = follows plan crf packets s of.some_points below in
    let place = div-add-mod' s crf.points in
    let number_is : number crf (place_at crf s) ≡ s = omega (arith, place) in
    let pair = pair_none plan crf packets (place_at crf s) (place_at crf (suc s)) p e r f ∙ ap (pair_from beat (run_start plan 0)) number_is in
    let here = covered beat (run_start plan 0) s (n * plan.count) is at in
    rw (same, rate_is) (
      (f, one_bit plan crf (s / crf.points) (suc s / crf.points) r),
      (
        subst (λ (x : Pair). Covers x plan.rate (pos (stamp_at plan crf n))) (sym pair) here,
        (point_below plan crf packets s p e few of.some_points (omega arith), point_below plan crf packets (suc s) p e few of.some_points below),
      ),
    )

pub over_stamp : (plan : TalkPlan) (crf : CrfPlan) (j : Journal) (n s : ℕ) → IsClocked plan crf j → n < j.packets → n * plan.count / spacing_of crf plan.rate ≡ suc s → IsOverStamp plan crf j n s
over_stamp plan crf j n s c lt at =
    let all = over_in plan crf j.clock j.rate j.packets n s c.talked c.crf_is c.steady c.few c.clock c.rate lt at in
    record { there = all.0.0; one_run = all.0.1; covers = all.1.0; small = all.1.1.0; small_next = all.1.1.1 }

-- ---- a timestamp before the second point

not_in : (plan : TalkPlan) (crf : CrfPlan) (c : ClockJournal) (rate packets n : ℕ) (a b : Place) → IsAudioPlan plan → plan.crf ≡ Some crf → plan.restart ≡ None → c ≡ clock_times crf plan packets → rate ≡ plan.rate → n * plan.count < spacing_of crf plan.rate → Follows c a b
    → Covers (pair_at c a b) rate (pos (stamp_at plan crf n)) → ⊥
not_in plan crf c rate packets n a b p e r same rate_is early f covers =
    let is = is_beat plan crf p e in
    let there : Follows (clock_times crf plan packets) a b = rw (← same) f in
    let pair = pair_none plan crf packets a b p e r there in
    let here : Covers (pair_at (clock_times crf plan packets) a b) plan.rate (pos (stamp_at plan crf n)) =
    subst (λ (x : ClockJournal). Covers (pair_at x a b) plan.rate (pos (stamp_at plan crf n))) same (subst (λ (x : ℕ). Covers (pair_at c a b) x (pos (stamp_at plan crf n))) rate_is covers) in
    let at = covering (beat_of crf plan) (run_start plan 0) (number crf a) (n * plan.count) is (subst (λ (x : Pair). Covers x plan.rate (pos (stamp_at plan crf n))) pair here) in
    let split = div-mul-le_self (n * plan.count) (spacing_of crf plan.rate) in
    let whole : n * plan.count / spacing_of crf plan.rate * spacing_of crf plan.rate ≡ suc (number crf a) * spacing_of crf plan.rate = ap (λ (k : ℕ). k * spacing_of crf plan.rate) at in
    omega arith

pub not_over : (plan : TalkPlan) (crf : CrfPlan) (j : Journal) (n : ℕ) (a b : Place) → IsClocked plan crf j → n * plan.count < spacing_of crf plan.rate → IsJoinedAt j.clock a b → Covers (pair_at j.clock a b) j.rate (pos (stamp_at plan crf n)) → ⊥
not_over plan crf j n a b c early joined covers = not_in plan crf j.clock j.rate j.packets n a b c.talked c.crf_is c.steady c.clock c.rate early joined.follows covers

-- ---- the first sample of a packet

-- the head of a packet that stamps its first sample
abbrev pub first_head : ℕ → Head
first_head x = record { instant = pos x; first = neg_ℤ (pos 0) }

pub head_is : (plan : TalkPlan) (crf : CrfPlan) (j : Journal) (n : ℕ) → IsClocked plan crf j → head_of j n ≡ Some (first_head (stamp_at plan crf n))
head_is plan crf j n c = rw (c.stamp n, c.first n) refl

pub at_start : (instant : ℤ) (num den : ℕ) → instant_at (record { base = instant; num = num; den = den }) (pos 0) ≡ instant
at_start instant num den = rw (zero-mul num, zero-div den) (omega (arith, ints))

no_more : (z : ℤ) → (z +ℤ neg_ℤ (pos 0)) +ℤ pos 0 ≡ z
no_more z = omega (arith, ints)

-- the first sample of a covered packet is at the packet's timestamp
first_on : (j : Journal) (n x : ℕ) (a b : Place) → AgreesWithClock j → IsCovered j n x a b → instant_by (pair_at j.clock a b) j (first_head x) 0 ≡ pos x
first_on j n x a b agrees over = cases (pair.up == j.rate * pair.down) refl
  where
    pair : Pair
    pair = pair_at j.clock a b

    first : Spot → ℤ
    first spot = instant_at spot.line ((spot.from +ℤ neg_ℤ (pos 0)) +ℤ pos 0)

    cases : (own : Bool) → (pair.up == j.rate * pair.down) ≡ own → first (if own then record { line = event_line pair; from = nearest_event pair (pos x) } else record { line = record { base = pos x; num = step_num pair; den = step_den pair j.rate }; from = pos 0 }) ≡ pos x
    cases true e = ap (instant_at (event_line pair)) (no_more (nearest_event pair (pos x))) ∙ rw e at (agrees.exact n x a b over (eqb-true pair.up (j.rate * pair.down) e))
    cases false e = at_start (pos x) (step_num pair) (step_den pair j.rate)

pub at_stamp : (plan : TalkPlan) (crf : CrfPlan) (j : Journal) (n s : ℕ) → IsClocked plan crf j → IsClock j.clock → AgreesWithClock j → n < j.packets → IsOverStamp plan crf j n s → IsAtByClock j n 0 (pos (stamp_at plan crf n))
at_stamp plan crf j n s c clock agrees lt over =
    let joined : IsJoinedAt j.clock (place_at crf s) (place_at crf (suc s)) = record { follows = over.there; one_run = over.one_run; joined = clock.even (place_at crf s) (place_at crf (suc s)) over.there over.one_run } in
    record {
      head = first_head (stamp_at plan crf n);
      is_head = head_is plan crf j n c;
      earlier = place_at crf s;
      later = place_at crf (suc s);
      joined = joined;
      covers = over.covers;
      at = sym (first_on j n (stamp_at plan crf n) (place_at crf s) (place_at crf (suc s)) agrees (record { known = lt; stamped = c.stamp n; joined = joined; covers = over.covers }));
    }

-- ---- which points arrived

drop_range : (a k n : ℕ) → drop n (range_with_len a k) ≡ range_with_len (a + n) (k - n)
drop_range a k zero = let e : a + 0 ≡ a = omega arith in let f : k - 0 ≡ k = omega arith in rw (e, f) refl
drop_range a zero (suc n) = let none : 0 - suc n ≡ 0 = omega arith in rw none refl
drop_range a (suc k) (suc n) = let e : a + 1 + n ≡ a + suc n = omega arith in let f : k - n ≡ suc k - suc n = omega arith in drop_range (a + 1) k n ∙ (ap (λ (x : ℕ). range_with_len x (k - n)) e ∙ ap (range_with_len (a + suc n)) f)

in_range : (a k m : ℕ) → a ≤ m → m < a + k → Contains (range_with_len a k) m
in_range a zero m low high = absurd (omega arith)
in_range a (suc k) m low high = elim (cases_lt a m) [
  | inl later ↦ let rest = in_range (a + 1) k m (omega arith) (omega arith) in (suc rest.0, let lt = rest.1 in omega arith, rest.2)
  | inr not ↦ let same : a ≡ m = omega (arith, low) in (zero, omega arith, same)
]

last_in : (count m : ℕ) → m < count → count ≤ m + 64 → Contains (last_of 64 (range_with_len 0 count)) m
last_in count m lt near =
    let last : last_of 64 (range_with_len 0 count) ≡ range_with_len (0 + (count - 64)) (count - (count - 64)) = ap (λ (k : ℕ). drop (k - 64) (range_with_len 0 count)) (length-range_with_len 0 count) ∙ drop_range 0 count (count - 64) in
    subst (λ (l : List ℕ). Contains l m) (sym last) (in_range (0 + (count - 64)) (count - (count - 64)) m (omega arith) (omega arith))

pub covered_here : (plan : TalkPlan) (crf : CrfPlan) (j : Journal) (n s count : ℕ) → IsOverStamp plan crf j n s → 1 ≤ crf.points → suc s / crf.points < count → count ≤ suc s / crf.points + 1 → IsCoveredBy j.clock (pos 0) j.rate (range_with_len 0 count) (pos (stamp_at plan crf n))
covered_here plan crf j n s count over some low high =
    let here = div-add-mod' s crf.points in
    let next = div-add-mod' (suc s) crf.points in
    let small = mod-lt (suc s) some in
    let least : suc s / crf.points ≤ s / crf.points + 1 = elim (cases_lt (s / crf.points + 1) (suc s / crf.points)) [
      | inl far ↦
          let times : (s / crf.points + 2) * crf.points ≤ suc s / crf.points * crf.points = mul-le-mul_right crf.points (omega arith) in
          absurd (let own = mod-lt s some in omega arith)
      | inr not ↦ not
    ] in
    let most : s / crf.points ≤ suc s / crf.points = elim (cases_lt (suc s / crf.points) (s / crf.points)) [
      | inl far ↦ let times : (suc s / crf.points + 1) * crf.points ≤ s / crf.points * crf.points = mul-le-mul_right crf.points (omega arith) in absurd (omega arith)
      | inr not ↦ not
    ] in
    let taken = over.small in
    let taken_next = over.small_next in
    record {
      earlier = place_at crf s;
      later = place_at crf (suc s);
      follows = over.there;
      one_run = over.one_run;
      earlier_taken = omega (arith, ints, taken);
      later_taken = omega (arith, ints, taken_next);
      earlier_came = last_in count (s / crf.points) (omega arith) (omega arith);
      later_came = last_in count (suc s / crf.points) low (omega arith);
      covers = over.covers;
    }
