-- Let the timestamps of packets belong to the packets' first samples, and let the instants of the timestamps rise. The
-- packets then arrive in the order in which they are presented.
use Rattle.std.proofs.Common.{◌≡◌, ℕ, zero, suc, ◌<◌, ◌≤◌, true, false, ℤ, pos, ◌≤ℤ◌, ◌<ℤ◌, List, [], ◌∷◌, length, map, take, Some, refl, sym, ap, subst, ◌∙◌, inl, inr, arith}
use Rattle.std.specs.Prelude.{◌==◌, ◌⊎◌, ◌*ℤ◌, ◌+ℤ◌, fold, nat_lt, neg_ℤ, slice_get, Ok}
use Rattle.std.specs.Int.{int_max}
use Rattle.std.specs.List.{AllByRecursion}
use Rattle.std.proofs.lemmas.Bool.{cases_lt}
use Rattle.std.proofs.lemmas.Bool.Decides.{nat_tests}
use Rattle.std.proofs.lemmas.Int.{ints, int_max_is}
use Rattle.time_unfold.specs.Lines.{floor_of}
use Rattle.time_unfold.specs.Heads.{stamped_index}
use Rattle.time_unfold.proofs.Floors.{floor_above, floor_below, floor_only}
use Rattle.sample_schedule.specs.declared.accepted.Accepted.{Accepted}
use Rattle.sample_schedule.specs.declared.entry.Entry.{Entry}
use Rattle.sample_schedule.specs.declared.entry.Entry.TheVariants.{Item as OfItem}
use Rattle.sample_schedule.specs.declared.item.Item.TheVariants.{Packet as OfPacket}
use Rattle.sample_schedule.specs.declared.item.Packet.{Packet}
use Rattle.sample_schedule.specs.declared.plan.SchedulePlan.{SchedulePlan}
use Rattle.sample_schedule.specs.Batches.{Presented}
use Rattle.sample_schedule.specs.Laws.{presented}
use Rattle.sample_schedule.specs.Schedule.{arrival_of, given, latest, now_at, prefix_of, shown}
use Rattle.sample_schedule.specs.Verdicts.{Clock, first_instant, timed}
use Rattle.am824_gateway.specs.Laws.{Rise}
use Rattle.gateway_laws.specs.InOrder.{IsNotFull, IsTimedAt}
use Rattle.gateway_laws.specs.Stamped.{AreStamped, IsStamped, all_counted, counted_from_first, packet_entries}
use Rattle.gateway_laws.proofs.InOrder.{all_presented}

-- ---- one packet

no_steps : (den : ℕ) → 1 ≤ den → floor_of (pos 0) den ≡ pos 0
no_steps den some = floor_only (pos 0) (floor_of (pos 0) den) (pos 0) den (floor_below (pos 0) den some) (floor_above (pos 0) den some) (omega (arith, ints)) (omega (arith, ints, some))

pub starts_at : (p : Packet) (x : ℤ) → 1 ≤ p.rate → first_instant (counted_from_first p x) ≡ x
starts_at p x some =
    let none : (neg_ℤ (pos 0) +ℤ pos 0) *ℤ pos 1000000000 ≡ pos 0 = refl in
    ap (λ (z : ℤ). x +ℤ floor_of z p.rate) none ∙ (ap (λ (z : ℤ). x +ℤ z) (no_steps p.rate some) ∙ omega (arith, ints))

timed_so : (clock : Clock) (plan : SchedulePlan) (prefix : List Entry) (p : Packet) (x : ℤ) → plan.clock ≡ false → IsStamped p x → timed clock plan prefix (OfPacket p) ≡ Ok (counted_from_first p x)
unfolding timed
timed_so clock plan prefix p x without is =
    let some = is.some in
    let known_rate = is.known_rate in
    let index = is.index in
    let count : (p.count == 0) ≡ false = grind (arith, nat_tests) in
    let rate : (p.rate == 0) ≡ false = grind (arith, nat_tests) in
    let has : nat_lt (stamped_index p.rule) p.count ≡ true = rw index (grind (arith, nat_tests)) in
    rw (is.certain, count, rate, has, is.stamp, without, is.index, is.means) refl

-- ---- all packets

-- Packet i is stamped with this instant, and b is its batch.
pub record At (ps : List Packet) (xs : List ℤ) (i : ℕ) (b : Presented) : Type 0 where
  pub packet : Packet
  pub instant : ℤ
  pub there : slice_get (packet_entries ps) i ≡ Some (OfItem (OfPacket packet))
  pub at : slice_get xs i ≡ Some instant
  pub is : IsStamped packet instant
  pub batch_is : b ≡ counted_from_first packet instant

pub at_place : (ps : List Packet) (xs : List ℤ) (i : ℕ) (b : Presented) → AreStamped ps xs → slice_get (all_counted ps xs) i ≡ Some b → At ps xs i b
at_place [] [] i b all e = absurd cc
at_place [] (x ∷ xs) i b all e = absurd all
at_place (p ∷ ps) [] i b all e = absurd all
at_place (p ∷ ps) (x ∷ xs) zero b all e = (let same : counted_from_first p x ≡ b = cc in record { packet = p; instant = x; there = refl; at = refl; is = all.0; batch_is = sym same })
at_place (p ∷ ps) (x ∷ xs) (suc i) b all e =
    let rest = at_place ps xs i b all.1 e in
    record { packet = rest.packet; instant = rest.instant; there = rest.there; at = rest.at; is = rest.is; batch_is = rest.batch_is }

rises : (xs : List ℤ) (i j : ℕ) (x y : ℤ) → Rise xs → i < j → slice_get xs i ≡ Some x → slice_get xs j ≡ Some y → x <ℤ y
rises [] i j x y rise h at to = absurd cc
rises (z ∷ xs) zero zero x y rise h at to = absurd (omega arith)
rises (z ∷ xs) zero (suc j) x y rise h at to = (let same : z ≡ x = cc in subst (λ (k : ℤ). k <ℤ y) same (each xs j y (λ w. z <ℤ w) rise.0 to))
  where
    each : (ys : List ℤ) (k : ℕ) (w : ℤ) (P : ℤ → Type 0) → AllByRecursion P ys → slice_get ys k ≡ Some w → P w
    each [] k w P all e = absurd cc
    each (v ∷ ys) zero w P all e = (let same : v ≡ w = cc in subst P same all.0)
    each (v ∷ ys) (suc k) w P all e = each ys k w P all.1 e
rises (z ∷ xs) (suc i) zero x y rise h at to = absurd (omega arith)
rises (z ∷ xs) (suc i) (suc j) x y rise h at to = rises xs i j x y rise.1 (omega (arith, h)) at to

pub counted_length : (ps : List Packet) (xs : List ℤ) → AreStamped ps xs → length (all_counted ps xs) ≡ length (packet_entries ps)
counted_length [] [] all = refl
counted_length [] (x ∷ xs) all = absurd all
counted_length (p ∷ ps) [] all = absurd all
counted_length (p ∷ ps) (x ∷ xs) all = ap suc (counted_length ps xs all.1)

-- ---- no packet arrives late

latest_by : (es : List ℤ) (from x : ℤ) → from ≤ℤ x → AllByRecursion (λ a. a ≤ℤ x) es → fold int_max from es ≤ℤ x
latest_by [] from x h all = h
latest_by (a ∷ es) from x h all = latest_by es (int_max from a) x (let here = all.0 in omega (arith, ints, int_max_is, h, here)) all.1

arrivals_by : (ps : List Packet) (xs : List ℤ) (n : ℕ) (x : ℤ) → AreStamped ps xs → ((k : ℕ) (y : ℤ) → k < n → slice_get xs k ≡ Some y → y ≤ℤ x) → AllByRecursion (λ a. a ≤ℤ x) (map arrival_of (take n (packet_entries ps)))
arrivals_by [] [] zero x all h = tt
arrivals_by [] [] (suc n) x all h = tt
arrivals_by [] (y ∷ ys) n x all h = absurd all
arrivals_by (p ∷ ps) [] n x all h = absurd all
arrivals_by (p ∷ ps) (y ∷ ys) zero x all h = tt
arrivals_by (p ∷ ps) (y ∷ ys) (suc n) x all h =
    let here = h 0 y (omega arith) refl in
    let early = all.0.early in
    (omega (arith, ints, here, early), arrivals_by ps ys n x all.1 (λ k z below at. h (suc k) z (omega (arith, below)) at))

or_equal : (a b : ℕ) → a ≤ b → (a ≡ b) ⊎ (a < b)
or_equal a b h = elim (cases_lt a b) [ inl less ↦ inr less | inr not_less ↦ inl (omega (arith, h, not_less)) ]

not_after : (xs : List ℤ) (k i : ℕ) (y x : ℤ) → Rise xs → k ≤ i → slice_get xs k ≡ Some y → slice_get xs i ≡ Some x → y ≤ℤ x
not_after xs k i y x rise below e at = elim (or_equal k i below) [
  | inl same ↦ let here : Some y ≡ Some x = sym e ∙ (ap (slice_get xs) same ∙ at) in let equal : y ≡ x = cc in omega (arith, ints, equal)
  | inr less ↦ let after = rises xs k i y x rise less e at in omega (arith, ints, after)
]

pub now_early : (ps : List Packet) (xs : List ℤ) (i : ℕ) (x : ℤ) → AreStamped ps xs → Rise xs → slice_get xs i ≡ Some x → pos 0 ≤ℤ x → now_at (packet_entries ps) i ≤ℤ x
unfolding latest
now_early ps xs i x all rise at begun = latest_by (map arrival_of (take (suc i) (packet_entries ps))) (pos 0) x begun (arrivals_by ps xs (suc i) x all (λ k y below e. not_after xs k i y x rise (omega (arith, below)) e at))

pub stamped_at : (clock : Clock) (plan : SchedulePlan) (packets : List Packet) (instants : List ℤ) → plan.clock ≡ false → AreStamped packets instants → Rise instants
    → (i : ℕ) (b : Presented) → slice_get (all_counted packets instants) i ≡ Some b → IsTimedAt clock plan (packet_entries packets) i b
stamped_at clock plan packets instants without all rise i b e =
    let here = at_place packets instants i b all e in
    let first = ap first_instant here.batch_is ∙ starts_at here.packet here.instant here.is.known_rate in
    let now = now_early packets instants i here.instant all rise here.at here.is.begun in
    record {
      item = OfPacket here.packet;
      there = here.there;
      batch_is = timed_so clock plan (prefix_of plan (packet_entries packets) i) here.packet here.instant without here.is ∙ ap Ok (sym here.batch_is);
      early = omega (arith, ints, first, now);
    }

pub stamped_rise : (packets : List Packet) (instants : List ℤ) → AreStamped packets instants → Rise instants
    → (i j : ℕ) (a b : Presented) → i < j → slice_get (all_counted packets instants) i ≡ Some a → slice_get (all_counted packets instants) j ≡ Some b → first_instant a <ℤ first_instant b
stamped_rise packets instants all rise i j a b h at to =
    let one = at_place packets instants i a all at in
    let two = at_place packets instants j b all to in
    let from = ap first_instant one.batch_is ∙ starts_at one.packet one.instant one.is.known_rate in
    let later = ap first_instant two.batch_is ∙ starts_at two.packet two.instant two.is.known_rate in
    let less = rises instants i j one.instant two.instant rise h one.at two.at in
    omega (arith, ints, from, later, less)

pub stamped_presented : (clock : Clock) (plan : SchedulePlan) (packets : List Packet) (instants : List ℤ) → plan.clock ≡ false → AreStamped packets instants → Rise instants
    → AllByRecursion IsNotFull (shown clock plan (packet_entries packets)) → map (λ (a : Accepted). a.batch) (presented (given clock plan (packet_entries packets))) ≡ all_counted packets instants
stamped_presented clock plan packets instants without all rise room =
    all_presented clock plan (packet_entries packets) (all_counted packets instants)
    (record { all = counted_length packets instants all; timed_at = stamped_at clock plan packets instants without all rise; rise = stamped_rise packets instants all rise; room = room })
