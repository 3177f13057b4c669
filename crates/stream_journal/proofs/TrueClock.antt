-- Points that a listener joins are adjacent in the list of all points.
use Rattle.std.proofs.Common.{◌≡◌, inl, inr, ℕ, zero, suc, ◌+◌, ◌-◌, ◌*◌, ◌<◌, ◌≤◌, length, refl, sym, ap, subst, arith}
use Rattle.std.proofs.Math.Nat.{mul-le-mul_left}
use Rattle.std.proofs.lemmas.Bool.{cases_lt, cases_eq}
use Rattle.std.proofs.lemmas.Bool.Decides.{nat_tests}
use Rattle.clock_track.specs.PairLines.{IsJoined, period, pull_down, pull_up}
use Rattle.clock_track.proofs.Pairs.{period-natural}
use Rattle.stream_journal.specs.Clocks.{ClockJournal, Follows, IsJoinedAt, IsNext, Place, SeemNext, SeemsJoined, pair_at, point}
use Rattle.stream_journal.specs.Conforming.{IsClock}
use Rattle.clock_track.proofs.LineFacts.{product}

-- ---- a point and the next one

pub period_at : (c : ClockJournal) (p q : Place) → period (pair_at c p q) ≡ point c q - point c p
period_at c p q = period-natural (point c p) (point c q)

-- the numerator of the nominal time of the interval; `up_of` is the denominator
abbrev time_of : ClockJournal → ℕ
time_of c = c.interval * 1000000000 * pull_down c.pull

abbrev up_of : ClockJournal → ℕ
up_of c = c.base * pull_up c.pull

pub some_down : (pull : ℕ) → 1 ≤ pull_down pull
some_down pull = grind (arith, nat_tests)

some_time : (c : ClockJournal) → IsClock c → 1 ≤ time_of c
some_time c is =
    let interval = is.interval in
    product (c.interval * 1000000000) (pull_down c.pull) (omega arith) (some_down c.pull)

by_difference : (p d up time : ℕ) → 3 * time ≤ 4 * (d * up) → 4 * (p * up) + 3 * time ≤ 4 * ((p + d) * up)
by_difference p d up time h = omega arith

rises_by : (p q up time : ℕ) → 1 ≤ time → 3 * time ≤ 4 * ((q - p) * up) → 4 * (p * up) + 3 * time ≤ 4 * (q * up)
rises_by p q up time some h = elim (cases_lt p q) [
  | inl below ↦
      let e : p + (q - p) ≡ q = omega arith in
      subst (λ (x : ℕ). 4 * (p * up) + 3 * time ≤ 4 * (x * up)) e (by_difference p (q - p) up time h)
  | inr above ↦
      let none : q - p ≡ 0 = omega arith in
      let h = rw none at h in
      absurd (omega arith)
]

ordered_by : (p q up : ℕ) → p * up < q * up → p ≤ q
ordered_by p q up h = elim (cases_lt q p) [
  | inl below ↦ let times : up * q ≤ up * p = mul-le-mul_left up (omega arith) in absurd (omega arith)
  | inr above ↦ above
]

rises : (c : ClockJournal) → IsClock c → (p q : Place) → Follows c p q → 4 * (point c p * up_of c) + 3 * time_of c ≤ 4 * (point c q * up_of c)
rises c is p q f = rises_by (point c p) (point c q) (up_of c) (time_of c) (some_time c is) (rw (period_at c p q) at (is.spaced p q f))

goes_on : (c : ClockJournal) → IsClock c → (p q : Place) → Follows c p q → point c p ≤ point c q
goes_on c is p q f = let h = rises c is p q f in let some = some_time c is in ordered_by (point c p) (point c q) (up_of c) (omega arith)

-- ---- points further on

abbrev pub at_place : ℕ → ℕ → Place
at_place m i = record { packet = m; at = i }

inside : (c : ClockJournal) → IsClock c → (m i k : ℕ) → m < c.packets → i + k < length (c.points m) → point c (at_place m i) ≤ point c (at_place m (i + k))
inside c is m i zero known within = let e : i + 0 ≡ i = omega arith in rw e (omega arith)
inside c is m i (suc k) known within =
    let e : i + suc k ≡ suc (i + k) = omega arith in
    let before = inside c is m i k known (omega arith) in
    let next = goes_on c is (at_place m (i + k)) (at_place m (suc (i + k))) (record {
      first = record { packet = known; at = omega arith };
      second = record { packet = known; at = omega arith };
      next = inl (refl, refl);
    }) in
    rw e (omega arith)

-- within a packet, points never decrease
to_last : (c : ClockJournal) → IsClock c → (m i l : ℕ) → m < c.packets → i ≤ l → l < length (c.points m) → point c (at_place m i) ≤ point c (at_place m l)
to_last c is m i l known from within =
    let e : i + (l - i) ≡ l = omega arith in
    subst (λ (x : ℕ). point c (at_place m i) ≤ point c (at_place m x)) e (inside c is m i (l - i) known (omega arith))

across : (c : ClockJournal) → IsClock c → (m l : ℕ) → suc m < c.packets → suc l ≡ length (c.points m) → Follows c (at_place m l) (at_place (suc m) 0)
across c is m l known last = record {
  first = record { packet = omega arith; at = omega arith };
  second = is.some (suc m) known;
  next = inr (refl, refl, last);
}

add_up : (p r s q up time k : ℕ) → 4 * (p * up) + 3 * suc k * time ≤ 4 * (r * up) → r ≤ s → 4 * (s * up) + 3 * time ≤ 4 * (q * up) → 4 * (p * up) + 3 * suc (suc k) * time ≤ 4 * (q * up)
add_up p r s q up time k a b h = let times : up * r ≤ up * s = mul-le-mul_left up b in omega arith

span : (c : ClockJournal) → IsClock c → (m l k : ℕ) → suc m + k < c.packets → suc l ≡ length (c.points m)
    → 4 * (point c (at_place m l) * up_of c) + 3 * suc k * time_of c ≤ 4 * (point c (at_place (suc m + k) 0) * up_of c)
span c is m l zero known last =
    let e : suc m + 0 ≡ suc m = omega arith in
    let h = rises c is (at_place m l) (at_place (suc m) 0) (across c is m l (omega arith) last) in
    rw e (omega arith)
span c is m l (suc k) known last =
    let e : suc m + suc k ≡ suc (suc m + k) = omega arith in
    let before = span c is m l k (omega arith) last in
    let some = (is.some (suc m + k) (omega arith)).at in
    let end : ℕ = length (c.points (suc m + k)) - 1 in
    let within = to_last c is (suc m + k) 0 end (omega arith) (omega arith) (omega arith) in
    let next = rises c is (at_place (suc m + k) end) (at_place (suc (suc m + k)) 0) (across c is (suc m + k) end (omega arith) (omega arith)) in
    rw e (add_up (point c (at_place m l)) (point c (at_place (suc m + k) 0)) (point c (at_place (suc m + k) end)) (point c (at_place (suc (suc m + k)) 0)) (up_of c) (time_of c) k before within next)

-- ---- points that seem adjacent are adjacent

-- two points are not joined if the second is not later than the first
not_joined_back : (p q up time : ℕ) → 1 ≤ time → q ≤ p → 7 * time ≤ 8 * ((q - p) * up) → ⊥
not_joined_back p q up time some h least = let none : q - p ≡ 0 = omega arith in let least = rw none at least in omega arith

-- two points are not joined if the time between them is at least 3/2 of the nominal time of the interval
not_joined_far : (p q up time k : ℕ) → 1 ≤ time → 1 ≤ k → 4 * (p * up) + 3 * suc k * time ≤ 4 * (q * up) → 8 * ((q - p) * up) ≤ 9 * time → ⊥
not_joined_far p q up time k some more far most = elim (cases_lt p q) [
  | inl below ↦
      let e : p + (q - p) ≡ q = omega arith in
      far_by p (q - p) up time k some more (subst (λ (x : ℕ). 4 * (p * up) + 3 * suc k * time ≤ 4 * (x * up)) (sym e) far) most
  | inr above ↦
      let times : up * q ≤ up * p = mul-le-mul_left up above in
      let least : time * 2 ≤ time * suc k = mul-le-mul_left time (omega arith) in
      omega arith
]
  where
    far_by : (p d up time k : ℕ) → 1 ≤ time → 1 ≤ k → 4 * (p * up) + 3 * suc k * time ≤ 4 * ((p + d) * up) → 8 * (d * up) ≤ 9 * time → ⊥
    far_by p d up time k some more far most =
        let least : time * 2 ≤ time * suc k = mul-le-mul_left time (omega arith) in
        omega arith

back : (c : ClockJournal) → IsClock c → (m l n : ℕ) → m < c.packets → suc l ≡ length (c.points m) → n ≤ m → point c (at_place n 0) ≤ point c (at_place m l)
back c is m l n known last from = elim (cases_lt n m) [
  | inl below ↦
      let k : ℕ = m - suc n in
      let e : suc n + k ≡ m = omega arith in
      let some = (is.some n (omega arith)).at in
      let end : ℕ = length (c.points n) - 1 in
      let time = some_time c is in
      let first = to_last c is n 0 end (omega arith) (omega arith) (omega arith) in
      let far = subst (λ (x : ℕ). 4 * (point c (at_place n end) * up_of c) + 3 * suc k * time_of c ≤ 4 * (point c (at_place x 0) * up_of c)) e (span c is n end k (omega arith) (omega arith)) in
      let least : time_of c * 1 ≤ time_of c * suc k = mul-le-mul_left (time_of c) (omega arith) in
      let rise = ordered_by (point c (at_place n end)) (point c (at_place m 0)) (up_of c) (omega arith) in
      let end_of = to_last c is m 0 l known (omega arith) (omega arith) in
      omega arith
  | inr above ↦ let same : m ≡ n = omega arith in subst (λ (x : ℕ). point c (at_place x 0) ≤ point c (at_place m l)) same (to_last c is m 0 l known (omega arith) (omega arith))
]

neighbours : (c : ClockJournal) → IsClock c → (m l n : ℕ) → m < c.packets → n < c.packets → suc l ≡ length (c.points m) → IsJoined (pair_at c (at_place m l) (at_place n 0)) → n ≡ suc m
neighbours c is m l n known there last joined =
    let some = some_time c is in
    elim (cases_eq n (suc m)) [
      | inl e ↦ e
      | inr other ↦ elim (cases_lt n (suc m)) [
        | inl below ↦ absurd (not_joined_back (point c (at_place m l)) (point c (at_place n 0)) (up_of c) (time_of c) some (back c is m l n known last (omega arith)) (rw (period_at c (at_place m l) (at_place n 0)) at joined.least))
        | inr above ↦
            let k : ℕ = n - suc m in
            let e : suc m + k ≡ n = omega arith in
            let far = subst (λ (x : ℕ). 4 * (point c (at_place m l) * up_of c) + 3 * suc k * time_of c ≤ 4 * (point c (at_place x 0) * up_of c)) e (span c is m l k (omega arith) last) in
            absurd (not_joined_far (point c (at_place m l)) (point c (at_place n 0)) (up_of c) (time_of c) k some (omega arith) far (rw (period_at c (at_place m l) (at_place n 0)) at joined.most))
      ]
    ]

first_at : (q : Place) → q.at ≡ 0 → q ≡ at_place q.packet 0
first_at q e = ap (λ (i : ℕ). at_place q.packet i) e

really_next : (c : ClockJournal) → IsClock c → (p q : Place) → SeemsJoined c p q → SeemNext c p q → IsNext c p q
really_next c is p q s (inl same) = inl same
really_next c is p q s (inr over) =
    let joined : IsJoined (pair_at c (at_place p.packet p.at) (at_place q.packet 0)) = subst (λ (x : Place). IsJoined (pair_at c p x)) (first_at q over.1) s.joined in
    inr (neighbours c is p.packet p.at q.packet s.first.packet s.second.packet over.2 joined, over.1, over.2)

pub true_pairs : (c : ClockJournal) → IsClock c → (p q : Place) → SeemsJoined c p q → IsJoinedAt c p q
true_pairs c is p q s = record {
  follows = record { first = s.first; second = s.second; next = really_next c is p q s s.next };
  one_run = s.one_run;
  joined = s.joined;
}
