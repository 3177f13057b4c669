-- Examples at the limits of the rules.
use Rattle.std.proofs.Common.{◌≡◌, ◌⊎◌, inl, inr, ◌↔◌, ℕ, zero, suc, ◌+◌, ◌-◌, ◌*◌, ◌<◌, ◌≤◌, Some, refl, sym, ap, ◌∙◌, arith}
use Rattle.clock_track.specs.PairLines.{period}
use Rattle.stream_journal.specs.Clocks.{Follows, IsNext, Place, pair_at, point}
use Rattle.stream_journal.specs.Journal.{Single}
use Rattle.stream_journal.specs.Conforming.{AgreesWithClock, Conforms, IsCovered, IsVideo}
use Rattle.stream_journal.specs.Regular.{IsRegularClock}
use Rattle.stream_journal.specs.Examples.{one_access_unit, overlapped, pulled, unsteady}
use Rattle.stream_journal.proofs.TrueClock.{at_place, period_at}
use Rattle.stream_journal.proofs.Worked.{no_clock-is}

-- ---- pulls

pulled_is : (pull : ℕ) → pull ≤ 5 → IsRegularClock (pulled pull)
pulled_is pull few = record {
  base = omega arith;
  pull = few;
  instants = λ p is. absurd (omega arith);
  steady = λ p q r f g o u. let h = f.first in absurd (omega arith);
  renewed = λ p q r f g o u. let h = f.first in absurd (omega arith);
  holds = λ n k e h g. absurd (omega arith);
}

pub pulls : (pull : ℕ) → IsRegularClock (pulled pull) ↔ pull ≤ 5
pulls pull = ((λ is. is.pull), pulled_is pull)

-- ---- periods

-- the time from point `i` to the next point
abbrev gap : ℕ → ℕ → ℕ
gap late i = point (unsteady late) (at_place 0 (suc i)) - point (unsteady late) (at_place 0 i)

gaps : (late i : ℕ) → suc i < 3 → ((i ≡ 0) × (gap late i ≡ 2000000)) ⊎ ((i ≡ 1) × (gap late i ≡ 2000000 + late))
gaps late zero h = inl (refl, refl)
gaps late (suc zero) h = inr (refl, omega arith)
gaps late (suc (suc i)) h = absurd (omega arith)

next_at : (late : ℕ) (p q : Place) → Follows (unsteady late) p q → q.at ≡ suc p.at
next_at late p q f = by f.next
  where
    by : IsNext (unsteady late) p q → q.at ≡ suc p.at
    by (inl e) = e.1
    by (inr e) = let h = f.second.packet in let g = e.0 in absurd (omega arith)

period_is : (late : ℕ) (p q : Place) → Follows (unsteady late) p q → period (pair_at (unsteady late) p q) ≡ gap late p.at
period_is late p q f = period_at (unsteady late) p q ∙ ap (λ (i : ℕ). point (unsteady late) (at_place 0 i) - point (unsteady late) (at_place 0 p.at)) (next_at late p q f)

periods : (late : ℕ) (p q : Place) → Follows (unsteady late) p q
    → ((p.at ≡ 0) × (period (pair_at (unsteady late) p q) ≡ 2000000)) ⊎ ((p.at ≡ 1) × (period (pair_at (unsteady late) p q) ≡ 2000000 + late))
periods late p q f =
    let e = period_is late p q f in
    let n = next_at late p q f in
    let within : suc p.at < 3 = (let h = f.second.at in omega arith) in
    by (gaps late p.at within) e
  where
    by : ((p.at ≡ 0) × (gap late p.at ≡ 2000000)) ⊎ ((p.at ≡ 1) × (gap late p.at ≡ 2000000 + late)) → period (pair_at (unsteady late) p q) ≡ gap late p.at
        → ((p.at ≡ 0) × (period (pair_at (unsteady late) p q) ≡ 2000000)) ⊎ ((p.at ≡ 1) × (period (pair_at (unsteady late) p q) ≡ 2000000 + late))
    by (inl g) e = inl (g.0, e ∙ g.1)
    by (inr g) e = inr (g.0, e ∙ g.1)

-- the period is 2 ms, or at most `late` nanoseconds longer
record IsLong (late d : ℕ) : Type 0 where
  from : 2000000 ≤ d
  to : d ≤ 2000000 + late

long : (late : ℕ) (p q : Place) → Follows (unsteady late) p q → IsLong late (period (pair_at (unsteady late) p q))
long late p q f = by (periods late p q f)
  where
    by : ((p.at ≡ 0) × (period (pair_at (unsteady late) p q) ≡ 2000000)) ⊎ ((p.at ≡ 1) × (period (pair_at (unsteady late) p q) ≡ 2000000 + late)) → IsLong late (period (pair_at (unsteady late) p q))
    by (inl g) = rw g.1 (record { from = omega arith; to = omega arith })
    by (inr g) = rw g.1 (record { from = omega arith; to = omega arith })

steady_by : (late d e : ℕ) → late ≤ 5208 → IsLong late d → IsLong late e → 4 * (e * (48000 * 1)) ≤ 4 * (d * (48000 * 1)) + 1000000000 * 1
steady_by late d e few l m = let a = l.from in let b = m.to in omega arith

point_below : (late i : ℕ) → i < 3 → point (unsteady late) (at_place 0 i) ≤ 1006000000 + late
point_below late zero h = omega arith
point_below late (suc zero) h = omega arith
point_below late (suc (suc zero)) h = omega arith
point_below late (suc (suc (suc i))) h = absurd (omega arith)

unsteady_is : (late : ℕ) → late ≤ 5208 → IsRegularClock (unsteady late)
unsteady_is late few = record {
  base = omega arith;
  pull = omega arith;
  instants = λ p is. let b = point_below late p.at is.at in omega arith;
  steady = λ p q r f g o u. record {
    longer = steady_by late (period (pair_at (unsteady late) p q)) (period (pair_at (unsteady late) q r)) few (long late p q f) (long late q r g);
    shorter = steady_by late (period (pair_at (unsteady late) q r)) (period (pair_at (unsteady late) p q)) few (long late q r g) (long late p q f);
  };
  renewed = λ p q r f g o u. absurd (u refl);
  holds = λ n k e h g. refl;
}

follows_at : (late i : ℕ) → suc i < 3 → Follows (unsteady late) (at_place 0 i) (at_place 0 (suc i))
follows_at late i h = record {
  first = record { packet = omega arith; at = omega arith };
  second = record { packet = omega arith; at = omega arith };
  next = inl (refl, refl);
}

late_by : (late d e : ℕ) → d ≡ 2000000 → e ≡ 2000000 + late → 4 * (e * (48000 * 1)) ≤ 4 * (d * (48000 * 1)) + 1000000000 * 1 → late ≤ 5208
late_by late d e f g h = let h = rw (f, g) at h in omega arith

not_late : (late : ℕ) → IsRegularClock (unsteady late) → late ≤ 5208
not_late late is =
    let h = is.steady (at_place 0 0) (at_place 0 1) (at_place 0 2) (follows_at late 0 (omega arith)) (follows_at late 1 (omega arith)) refl refl in
    late_by late (period (pair_at (unsteady late) (at_place 0 0) (at_place 0 1))) (period (pair_at (unsteady late) (at_place 0 1) (at_place 0 2)))
    (period_is late (at_place 0 0) (at_place 0 1) (follows_at late 0 (omega arith)))
    (period_is late (at_place 0 1) (at_place 0 2) (follows_at late 1 (omega arith)) ∙ (let e : gap late 1 ≡ 2000000 + late = omega arith in e)) h.longer

pub steady : (late : ℕ) → IsRegularClock (unsteady late) ↔ late ≤ 5208
steady late = (not_late late, unsteady_is late)

-- ---- pairs that overlap

covered_at : (i : ℕ) → i < 2 → IsCovered overlapped 0 1005988000 (at_place 0 i) (at_place 0 (suc i))
covered_at zero h = record {
  known = omega arith;
  stamped = refl;
  joined = record {
    follows = record { first = record { packet = omega arith; at = omega arith }; second = record { packet = omega arith; at = omega arith }; next = inl (refl, refl) };
    one_run = refl;
    joined = record { least = omega arith; most = omega arith };
  };
  covers = record { from = omega arith; to = omega arith };
}
covered_at (suc zero) h = record {
  known = omega arith;
  stamped = refl;
  joined = record {
    follows = record { first = record { packet = omega arith; at = omega arith }; second = record { packet = omega arith; at = omega arith }; next = inl (refl, refl) };
    one_run = refl;
    joined = record { least = omega arith; most = omega arith };
  };
  covers = record { from = omega arith; to = omega arith };
}
covered_at (suc (suc i)) h = absurd (omega arith)

differ : (p q : Place) → p.at < q.at → p ≡ q → ⊥
differ p q h e = let same : p.at ≡ q.at = ap (λ (x : Place). x.at) e in omega arith

pub not_one : ¬ AgreesWithClock overlapped
not_one agrees =
    let one = agrees.one 0 1005988000 (at_place 0 0) (at_place 0 1) (at_place 0 1) (at_place 0 2) (covered_at 0 (omega arith)) (covered_at 1 (omega arith)) in
    differ (at_place 0 0) (at_place 0 1) (omega arith) one.0

-- ---- access units

unit_is : (packets : ℕ) → packets ≤ 255 → IsVideo (one_access_unit packets) (λ n. Single)
unit_is packets small = record {
  stamps = inl (λ n h. refl);
  one_instant = λ n i h e. sym (stamp_is i e);
  first = λ h. inl refl;
  last = λ n e. inl refl;
  beside = λ n h. ((λ e. inl refl), (λ e. inl refl));
  unit = λ n h e. refl;
  few = λ n m h e. omega arith;
}
  where
    stamp_is : (i : ℕ) → Some 1002000000 ≡ Some i → 1002000000 ≡ i
    stamp_is i e = cc

unit_conforms : (packets : ℕ) → packets ≤ 255 → Conforms (one_access_unit packets)
unit_conforms packets small = record {
  kind = unit_is packets small;
  holds = λ n k e h g. refl;
  clock = no_clock-is;
}

not_many : (packets : ℕ) → Conforms (one_access_unit packets) → packets ≤ 255
not_many zero is = omega arith
not_many (suc n) is = let h = is.kind.few 0 n (omega arith) refl in omega arith

pub few : (packets : ℕ) → Conforms (one_access_unit packets) ↔ packets ≤ 255
few packets = (not_many packets, (λ small. unit_conforms packets small))
