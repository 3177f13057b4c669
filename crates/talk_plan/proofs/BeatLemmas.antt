-- The points of a media clock in one run, and the timestamps of a stream with that clock.
use Rattle.std.proofs.Common.{eq-eqb, ◌≡◌, ℕ, suc, ◌+◌, ◌-◌, ◌*◌, ◌/◌, ◌%◌, ◌<◌, ◌≤◌, Bool, true, false, ℤ, pos, ◌+ℤ◌, ◌-ℤ◌, ◌*ℤ◌, ◌≤ℤ◌, ◌<ℤ◌, inl, inr, refl}
use Rattle.std.proofs.Common.{sym, ap, subst, ◌∙◌, arith}
use Rattle.std.specs.Prelude.{nat_lt, if◌then◌else◌}
use Rattle.std.proofs.Math.Nat.{div-eq_of_lt-le, div-mul-le_self, lt-div-mul-add, mod-lt, mul-le-mul_left, mul-le-mul_right}
use Rattle.std.proofs.lemmas.Bool.{cases_lt, lt-ltb}
use Rattle.std.proofs.lemmas.Bool.Decides.{nat_tests}
use Rattle.std.proofs.lemmas.Int.{ints}
use Rattle.std.proofs.lemmas.Nat.{div-add-mod'}
use Rattle.time_unfold.specs.Lines.{floor_of, instant_at}
use borrow.Author.Differences.{up, down}
use Rattle.clock_track.specs.PairLines.{Covers, IsJoined, IsOfRate, event_line, nearest_event, period, spot_by}
use Rattle.clock_track.proofs.Pairs.{period-natural}
use Rattle.stream_journal.specs.Regular.{IsSteady}
use Rattle.talk_plan.specs.Beats.{Beat, IsBeat, IsNextStart, pair_from, point_at, stamped_at}
use Rattle.talk_plan.specs.Timing.{nominal_offset}
use Rattle.talk_plan.proofs.TimingLemmas.{is_offset, sum_of}
use Rattle.clock_track.proofs.LineFacts.{less, at_most}

-- ---- the period from one point to the next

-- The time from point m to point m + 1 is `p` nanoseconds, and `p` differs by at most a nanosecond from the exact time
-- of `spacing` events.
pub record IsPeriod (b : Beat) (start m p : ℕ) : Type 0 where
  pub next : point_at b start m + p ≡ point_at b start (suc m)
  pub under : p * b.rate ≤ b.spacing * 1000000000 + b.rate
  pub over : b.spacing * 1000000000 < p * b.rate + b.rate
  pub from : nominal_offset b.rate b.spacing ≤ p
  pub to : p ≤ nominal_offset b.rate b.spacing + 1

pub is_period : (b : Beat) (start m : ℕ) → IsBeat b → IsPeriod b start m (period (pair_from b start m))
is_period b start m is =
    let some : 0 < b.rate = omega (arith, is.rate_from) in
    let x : ℕ = nominal_offset b.rate (m * b.spacing) in
    let y : ℕ = nominal_offset b.rate (suc m * b.spacing) in
    let sum = sum_of b.rate (m * b.spacing) b.spacing (suc m * b.spacing) some (omega arith) in
    let one = is_offset b.rate b.spacing some in
    let here = is_offset b.rate (m * b.spacing) some in
    let next = is_offset b.rate (suc m * b.spacing) some in
    let p : ℕ = y - x in
    let place : x + p ≡ y = omega (arith, sum.from) in
    let scaled : x * b.rate + p * b.rate ≡ y * b.rate = times x p y b.rate place in
    let same : period (pair_from b start m) ≡ p = period-natural (start + x) (start + y) ∙ (omega arith) in
    subst (IsPeriod b start m) (sym same) (record {
      next = omega arith;
      under = omega (arith, here.over, next.under, scaled);
      over = omega (arith, here.under, next.over, scaled);
      from = omega (arith, sum.from);
      to = omega (arith, sum.to);
    })
  where
    times : (a b c rate : ℕ) → a + b ≡ c → a * rate + b * rate ≡ c * rate
    times a b c rate e = subst (λ (n : ℕ). a * rate + b * rate ≡ n * rate) e (omega arith)

-- ---- the rules of clocks

least_by : (rate up down interval w p : ℕ) → 1 ≤ rate → w * up ≡ interval * rate * down → 7 * (w * 1000000000) ≤ 8 * (p * rate)
    → 7 * (interval * 1000000000 * down) ≤ 8 * (p * up)
least_by rate up down interval w p some e h =
    let times : up * (7 * (w * 1000000000)) ≤ up * (8 * (p * rate)) = mul-le-mul_left up h in
    at_most rate (7 * (interval * 1000000000 * down)) (8 * (p * up)) some (omega arith)

most_by : (rate up down interval w p : ℕ) → 1 ≤ rate → w * up ≡ interval * rate * down → 8 * (p * rate) ≤ 9 * (w * 1000000000)
    → 8 * (p * up) ≤ 9 * (interval * 1000000000 * down)
most_by rate up down interval w p some e h =
    let times : up * (8 * (p * rate)) ≤ up * (9 * (w * 1000000000)) = mul-le-mul_left up h in
    at_most rate (8 * (p * up)) (9 * (interval * 1000000000 * down)) some (omega arith)

pub joined : (b : Beat) (start m : ℕ) → IsBeat b → IsJoined (pair_from b start m)
joined b start m is =
    let p : ℕ = period (pair_from b start m) in
    let of = is_period b start m is in
    let under = of.under in
    let over = of.over in
    let most = is.rate_to in
    let least = is.rate_from in
    let some = is.some in
    record {
      least = least_by b.rate b.up b.down b.interval b.spacing p (omega arith) is.same_time (omega arith);
      most = most_by b.rate b.up b.down b.interval b.spacing p (omega arith) is.same_time (omega arith);
    }

little_more : (p q up down : ℕ) → p ≤ q + 1 → 4 * up ≤ 1000000000 * down → 4 * (p * up) ≤ 4 * (q * up) + 1000000000 * down
little_more p q up down h slow = let times : p * up ≤ (q + 1) * up = mul-le-mul_right up h in omega arith

pub steady : (b : Beat) (start m : ℕ) → IsBeat b → IsSteady (pair_from b start m) (pair_from b start (suc m))
steady b start m is =
    let p = is_period b start m is in
    let q = is_period b start (suc m) is in
    record {
      longer = little_more (period (pair_from b start (suc m))) (period (pair_from b start m)) b.up b.down (omega (arith, p.from, q.to)) is.slow;
      shorter = little_more (period (pair_from b start m)) (period (pair_from b start (suc m))) b.up b.down (omega (arith, q.from, p.to)) is.slow;
    }

pub renewed : (b : Beat) (start m next : ℕ) → IsBeat b → start + nominal_offset b.rate (suc (suc m) * b.spacing) + 4 ≤ next
    → point_at b start (suc m) + period (pair_from b start m) + 3 ≤ next
renewed b start m next is far =
    let p = is_period b start m is in
    let sum = sum_of b.rate (suc m * b.spacing) b.spacing (suc (suc m) * b.spacing) (omega (arith, is.rate_from)) (omega arith) in
    omega (arith, p.to, sum.from)

-- ---- the instant with which an event is stamped

-- the time from point k + 1 to the stamp of the r-th event after that point, in nanoseconds
abbrev pub part_of : Beat → ℕ → ℕ → ℕ → ℕ
part_of b start k r = r * (point_at b start (suc k) - point_at b start k) / b.spacing

late_by : (b : Beat) (start e m r k : ℕ) (early : Bool) → nat_lt e b.spacing ≡ early → m ≡ suc k → b.spacing ≤ e
    → (if early then start + nominal_offset b.rate e else point_at b start m + r * (point_at b start m - point_at b start (m - 1)) / b.spacing)
    ≡ point_at b start (suc k) + part_of b start k r
late_by b start e m r k true h i more = absurd (not_less h)
  where
    not_less : nat_lt e b.spacing ≡ true → ⊥
    not_less h = grind (arith, nat_tests)
late_by b start e m r k false h i more =
    let back : suc k - 1 ≡ k = omega arith in
    rw (i, back) refl

-- the stamp of the r-th event after point k + 1
pub stamped_late : (b : Beat) (start e k r : ℕ) → suc k * b.spacing + r ≡ e → r < b.spacing
    → stamped_at b start e ≡ point_at b start (suc k) + part_of b start k r
unfolding stamped_at
stamped_late b start e k r place small =
    let quotient : e / b.spacing ≡ suc k = div-eq_of_lt-le b.spacing (omega arith) (omega arith) in
    let split = div-add-mod' e b.spacing in
    let whole : e / b.spacing * b.spacing ≡ suc k * b.spacing = ap (λ (n : ℕ). n * b.spacing) quotient in
    let rest : e % b.spacing ≡ r = omega arith in
    let least : suc k * b.spacing ≡ b.spacing + k * b.spacing = omega arith in
    late_by b start e (e / b.spacing) (e % b.spacing) k (nat_lt e b.spacing) refl quotient (omega arith)
    ∙ ap (λ (n : ℕ). point_at b start (suc k) + part_of b start k n) rest

-- an event before the second point is stamped with its nominal instant
pub stamped_early : (b : Beat) (start e : ℕ) → e < b.spacing → stamped_at b start e ≡ start + nominal_offset b.rate e
unfolding stamped_at
stamped_early b start e h = rw (lt-ltb e b.spacing h) refl

part_under : (w rate r p f : ℕ) → 1 ≤ w → r < w → f * w ≤ r * p → p * rate ≤ w * 1000000000 + rate → f * rate ≤ r * 1000000000 + rate
part_under w rate r p f some small under slow = elim (cases_lt (r * 1000000000 + rate) (f * rate)) [
  | inl more ↦
      let a : w * (r * 1000000000 + rate + 1) ≤ w * (f * rate) = mul-le-mul_left w (omega arith) in
      let c : rate * (f * w) ≤ rate * (r * p) = mul-le-mul_left rate under in
      let d : r * (p * rate) ≤ r * (w * 1000000000 + rate) = mul-le-mul_left r slow in
      let e : rate * r ≤ rate * w = mul-le-mul_left rate (omega arith) in
      absurd (omega arith)
  | inr not ↦ not
]

part_over : (w rate r p f : ℕ) → 1 ≤ w → r < w → r * p < f * w + w → w * 1000000000 < p * rate + rate → r * 1000000000 < f * rate + 2 * rate + 1
part_over w rate r p f some small over fast = elim (cases_lt (f * rate + 2 * rate) (r * 1000000000)) [
  | inl more ↦
      let a : w * (f * rate + 2 * rate + 1) ≤ w * (r * 1000000000) = mul-le-mul_left w (omega arith) in
      let c : rate * (r * p + 1) ≤ rate * (f * w + w) = mul-le-mul_left rate (omega arith) in
      let d : r * (w * 1000000000) ≤ r * (p * rate + rate) = mul-le-mul_left r (omega arith) in
      let e : rate * r ≤ rate * w = mul-le-mul_left rate (omega arith) in
      absurd (omega arith)
  | inr not ↦ omega arith
]

-- The nominal instant of event e is start + e * 10^9 / rate. The event's stamp is at most 1 ns after the nominal
-- instant, and less than 3 ns before it.
pub record IsStamped (b : Beat) (start e instant : ℕ) : Type 0 where
  pub under : instant * b.rate ≤ start * b.rate + e * 1000000000 + b.rate
  pub over : start * b.rate + e * 1000000000 < instant * b.rate + 3 * b.rate

-- the time from point k + 1 to the stamp of the r-th event after that point is the period `p` times r / `spacing`,
-- rounded down
pub record IsPart (b : Beat) (start k r p : ℕ) : Type 0 where
  pub under : part_of b start k r * b.spacing ≤ r * p
  pub over : r * p < part_of b start k r * b.spacing + b.spacing

pub is_part : (b : Beat) (start k r : ℕ) → IsBeat b → IsPart b start k r (period (pair_from b start k))
is_part b start k r is =
    let p : ℕ = point_at b start (suc k) - point_at b start k in
    let same : period (pair_from b start k) ≡ p = period-natural (point_at b start k) (point_at b start (suc k)) in
    subst (IsPart b start k r) (sym same) (record { under = div-mul-le_self (r * p) b.spacing; over = lt-div-mul-add is.some })

late_near : (b : Beat) (start e k r : ℕ) → IsBeat b → suc k * b.spacing + r ≡ e → r < b.spacing
    → IsStamped b start e (point_at b start (suc k) + part_of b start k r)
late_near b start e k r is place small =
    let p = is_period b start k is in
    let part = is_part b start k r is in
    let f : ℕ = part_of b start k r in
    let x = is_offset b.rate (suc k * b.spacing) (omega (arith, is.rate_from)) in
    let under = part_under b.spacing b.rate r (period (pair_from b start k)) f is.some small part.under p.under in
    let over = part_over b.spacing b.rate r (period (pair_from b start k)) f is.some small part.over p.over in
    record { under = omega (arith, x.under, under); over = omega (arith, x.over, over) }

placed : (e w : ℕ) → 1 ≤ w → w ≤ e → (suc (e / w - 1) * w + e % w ≡ e) × (e % w < w)
placed e w some late =
    let split = div-add-mod' e w in
    let small : e % w < w = mod-lt e some in
    let one : suc (e / w - 1) ≡ e / w = elim (cases_lt (e / w) 1) [
      | inl none ↦ let zero_is : e / w ≡ 0 = omega arith in let z : e / w * w ≡ 0 * w = ap (λ (n : ℕ). n * w) zero_is in absurd (omega arith)
      | inr some ↦ omega arith
    ] in
    (rw one (omega arith), small)

pub is_stamped : (b : Beat) (start e : ℕ) → IsBeat b → IsStamped b start e (stamped_at b start e)
is_stamped b start e is = elim (cases_lt e b.spacing) [
  | inl early ↦
      let x = is_offset b.rate e (omega (arith, is.rate_from)) in
      rw (stamped_early b start e early) (record { under = omega (arith, x.under); over = omega (arith, x.over) })
  | inr late ↦
      let place = placed e b.spacing is.some late in
      rw (stamped_late b start e (e / b.spacing - 1) (e % b.spacing) place.0 place.1)
      (late_near b start e (e / b.spacing - 1) (e % b.spacing) is place.0 place.1)
]

-- ---- which pair covers a stamp

-- `Covers` in natural numbers, for instants of at least 0
record IsWithin (instant later den num p : ℕ) : Type 0 where
  from : later * (2 * den) ≤ instant * (2 * den) + num
  to : instant * (2 * den) + num < later * (2 * den) + 2 * (p * den)

difference_times : (x y d : ℕ) → (pos x -ℤ pos y) *ℤ pos d ≡ pos (x * d) -ℤ pos (y * d)
difference_times x y d =
    let z : ℤ = pos x -ℤ pos y in
    let e : up z + y ≡ down z + x = omega (arith, ints) in
    let f : d * (up z + y) ≡ d * (down z + x) = ap (λ (n : ℕ). d * n) e in
    omega (arith, ints)

within_so : (instant later den num p : ℕ) → pos 0 ≤ℤ ((pos instant -ℤ pos later) *ℤ pos (2 * den) +ℤ pos num)
    → ((pos instant -ℤ pos later) *ℤ pos (2 * den) +ℤ pos num) <ℤ pos (2 * (p * den)) → IsWithin instant later den num p
within_so instant later den num p from to =
    let e = difference_times instant later (2 * den) in
    let f = rw e at from in
    let g = rw e at to in
    record { from = omega (arith, ints, f); to = omega (arith, ints, g) }

lower_by : (up w x y p : ℕ) → 1 ≤ up → x * (2 * (w * up)) ≤ y * (2 * (w * up)) + p * up → x * (2 * w) ≤ y * (2 * w) + p
lower_by up w x y p some h = at_most up (x * (2 * w)) (y * (2 * w) + p) some (omega arith)

upper_by : (up w x y p : ℕ) → y * (2 * (w * up)) + p * up < x * (2 * (w * up)) + 2 * (p * (w * up)) → y * (2 * w) + p < x * (2 * w) + 2 * (p * w)
upper_by up w x y p h = less up (y * (2 * w) + p) (x * (2 * w) + 2 * (p * w)) (omega arith)

not_sooner : (w rate s t instant p e place : ℕ) → 1 ≤ w → rate ≤ 192000 → instant * rate ≤ s + e * 1000000000 + rate → s + place * 1000000000 < t * rate + rate
    → p * rate ≤ w * 1000000000 + rate → t * (2 * w) ≤ instant * (2 * w) + p → place ≤ e
not_sooner w rate s t instant p e place some slow under at long covers = elim (cases_lt e place) [
  | inl sooner ↦
      let a : w * (instant * rate) ≤ w * (s + e * 1000000000 + rate) = mul-le-mul_left w under in
      let b : w * (s + place * 1000000000 + 1) ≤ w * (t * rate + rate) = mul-le-mul_left w (omega arith) in
      let c : rate * (t * (2 * w)) ≤ rate * (instant * (2 * w) + p) = mul-le-mul_left rate covers in
      let d : w * (e + 1) ≤ w * place = mul-le-mul_left w (omega arith) in
      let f : w * rate ≤ w * 192000 = mul-le-mul_left w slow in
      absurd (omega arith)
  | inr not ↦ not
]

not_later : (w rate s t instant p e place : ℕ) → 1 ≤ w → rate ≤ 192000 → s + e * 1000000000 < instant * rate + 3 * rate → t * rate ≤ s + place * 1000000000
    → p * rate ≤ w * 1000000000 + rate → w * 1000000000 < p * rate + rate → instant * (2 * w) + p < t * (2 * w) + 2 * (p * w) → e < place + w
not_later w rate s t instant p e place some slow over at long short covers = elim (cases_lt e (place + w)) [
  | inl sooner ↦ sooner
  | inr later ↦
      let a : w * (s + e * 1000000000) ≤ w * (instant * rate + 3 * rate) = mul-le-mul_left w (omega arith) in
      let b : w * (t * rate) ≤ w * (s + place * 1000000000) = mul-le-mul_left w at in
      let c : rate * (instant * (2 * w) + p) ≤ rate * (t * (2 * w) + 2 * (p * w)) = mul-le-mul_left rate (omega arith) in
      let d : w * (place + w) ≤ w * e = mul-le-mul_left w later in
      let f : w * rate ≤ w * 192000 = mul-le-mul_left w slow in
      let g : w * (p * rate) ≤ w * (w * 1000000000 + rate) = mul-le-mul_left w long in
      absurd (omega arith)
]

pub covered_within : (b : Beat) (start m instant : ℕ) → IsBeat b → Covers (pair_from b start m) b.rate (pos instant)
    → (point_at b start (suc m) * (2 * b.spacing) ≤ instant * (2 * b.spacing) + period (pair_from b start m))
    × (instant * (2 * b.spacing) + period (pair_from b start m) < point_at b start (suc m) * (2 * b.spacing) + 2 * (period (pair_from b start m) * b.spacing))
covered_within b start m instant is c =
    let p : ℕ = period (pair_from b start m) in
    let t : ℕ = point_at b start (suc m) in
    let same : b.interval * b.rate * b.down ≡ b.spacing * b.up = sym is.same_time in
    let from = rw same at c.from in
    let to = rw same at c.to in
    let whole = within_so instant t (b.spacing * b.up) (p * b.up) p from to in
    (lower_by b.up b.spacing t instant p is.some_up whole.from, upper_by b.up b.spacing t instant p whole.to)

-- If the pair of points m and m + 1 covers the stamp of event e, point m + 1 is the last point up to event e.
pub covering : (b : Beat) (start m e : ℕ) → IsBeat b → Covers (pair_from b start m) b.rate (pos (stamped_at b start e)) → e / b.spacing ≡ suc m
covering b start m e is c =
    let instant : ℕ = stamped_at b start e in
    let p : ℕ = period (pair_from b start m) in
    let t : ℕ = point_at b start (suc m) in
    let of = is_period b start m is in
    let stamp = is_stamped b start e is in
    let x = is_offset b.rate (suc m * b.spacing) (omega (arith, is.rate_from)) in
    let whole = covered_within b start m instant is c in
    let from = not_sooner b.spacing b.rate (start * b.rate) t instant p e (suc m * b.spacing) is.some is.rate_to stamp.under (omega (arith, x.over)) of.under
    whole.0 in
    let to = not_later b.spacing b.rate (start * b.rate) t instant p e (suc m * b.spacing) is.some is.rate_to stamp.over (omega (arith, x.under)) of.under
    of.over whole.1 in
    div-eq_of_lt-le b.spacing (omega arith) (omega arith)

within_then : (instant later den num p : ℕ) → later * (2 * den) ≤ instant * (2 * den) + num → instant * (2 * den) + num < later * (2 * den) + 2 * (p * den)
    → (pos 0 ≤ℤ ((pos instant -ℤ pos later) *ℤ pos (2 * den) +ℤ pos num)) × (((pos instant -ℤ pos later) *ℤ pos (2 * den) +ℤ pos num) <ℤ pos (2 * (p * den)))
within_then instant later den num p from to =
    let e = difference_times instant later (2 * den) in
    rw e (omega (arith, ints), omega (arith, ints))

short_by : (up w r p f : ℕ) → 1 ≤ up → 1 ≤ p → r < w → f * w ≤ r * p → f * (2 * (w * up)) + p * up < 2 * (p * (w * up))
short_by up w r p f some one small under =
    let a : (r + 1) * p ≤ w * p = mul-le-mul_right p (omega arith) in
    let c : up * (2 * (f * w) + p + 1) ≤ up * (2 * (p * w)) = mul-le-mul_left up (omega arith) in
    omega arith

covers_by : (t f w up p : ℕ) → f * (2 * (w * up)) + p * up < 2 * (p * (w * up))
    → (t * (2 * (w * up)) ≤ (t + f) * (2 * (w * up)) + p * up) × ((t + f) * (2 * (w * up)) + p * up < t * (2 * (w * up)) + 2 * (p * (w * up)))
covers_by t f w up p h = (omega arith, omega arith)

some_period : (p rate w : ℕ) → 1 ≤ w → rate ≤ 192000 → w * 1000000000 < p * rate + rate → 1 ≤ p
some_period p rate w some slow over = elim (cases_lt p 1) [
  | inl none ↦ let z : p ≡ 0 = omega arith in let e : p * rate ≡ 0 * rate = ap (λ (n : ℕ). n * rate) z in absurd (omega arith)
  | inr one ↦ one
]

pub covers_late : (b : Beat) (start k r : ℕ) → IsBeat b → r < b.spacing
    → Covers (pair_from b start k) b.rate (pos (point_at b start (suc k) + part_of b start k r))
covers_late b start k r is small =
    let p : ℕ = period (pair_from b start k) in
    let t : ℕ = point_at b start (suc k) in
    let f : ℕ = part_of b start k r in
    let of = is_period b start k is in
    let part = is_part b start k r is in
    let one = some_period p b.rate b.spacing is.some is.rate_to of.over in
    let whole = covers_by t f b.spacing b.up p (short_by b.up b.spacing r p f is.some_up one small part.under) in
    let ints = within_then (t + f) t (b.spacing * b.up) (p * b.up) p whole.0 whole.1 in
    record { from = rw (← is.same_time) ints.0; to = rw (← is.same_time) ints.1 }

pub covered : (b : Beat) (start m e : ℕ) → IsBeat b → e / b.spacing ≡ suc m → Covers (pair_from b start m) b.rate (pos (stamped_at b start e))
covered b start m e is at =
    let split = div-add-mod' e b.spacing in
    let whole : e / b.spacing * b.spacing ≡ suc m * b.spacing = ap (λ (n : ℕ). n * b.spacing) at in
    let small : e % b.spacing < b.spacing = mod-lt e is.some in
    rw (stamped_late b start e m (e % b.spacing) (omega arith) small) (covers_late b start m (e % b.spacing) is small)

-- ---- if the clock's frequency is the stream's rate, the stamp is the instant of an event of the clock

own_spacing : (up w interval rate down : ℕ) → 1 ≤ up → w * up ≡ interval * rate * down → up ≡ rate * down → interval ≡ w
own_spacing up w interval rate down some e own =
    let times : interval * up ≡ interval * (rate * down) = ap (λ (n : ℕ). interval * n) own in
    let least = at_most up interval w some (omega arith) in
    let most = at_most up w interval some (omega arith) in
    omega arith

nearest_by : (w r p f : ℕ) → 2 * w ≤ p → f * w ≤ r * p → r * p < f * w + w → (f * (2 * w) + p) / (2 * p) ≡ r
nearest_by w r p f long under over = div-eq_of_lt-le (2 * p) (omega arith) (omega arith)

long_by : (p rate w : ℕ) → 1 ≤ w → rate ≤ 192000 → w * 1000000000 < p * rate + rate → 2 * w ≤ p
long_by p rate w some slow over = elim (cases_lt p (2 * w)) [
  | inl short ↦
      let a : p * rate ≤ 2 * w * rate = mul-le-mul_right rate (omega arith) in
      let c : w * rate ≤ w * 192000 = mul-le-mul_left w slow in
      absurd (omega arith)
  | inr long ↦ long
]

event_by : (t f w r p : ℕ) → 0 < p → (f * (2 * w) + p) / (2 * p) ≡ r → f ≡ r * p / w
    → instant_at (record { base = pos t; num = p; den = w }) (floor_of ((pos (t + f) -ℤ pos t) *ℤ pos (2 * w) +ℤ pos p) (2 * p)) ≡ pos (t + f)
event_by t f w r p some nearest part =
    let back : pos (t + f) -ℤ pos t ≡ pos f = omega (arith, ints) in
    rw (back, nearest, ← part) refl

pub exact_late : (b : Beat) (start k r : ℕ) → IsBeat b → r < b.spacing → b.interval ≡ b.spacing
    → instant_at (event_line (pair_from b start k)) (nearest_event (pair_from b start k) (pos (point_at b start (suc k) + part_of b start k r)))
    ≡ pos (point_at b start (suc k) + part_of b start k r)
exact_late b start k r is small own =
    let p : ℕ = period (pair_from b start k) in
    let f : ℕ = part_of b start k r in
    let of = is_period b start k is in
    let part = is_part b start k r is in
    let long = long_by p b.rate b.spacing is.some is.rate_to of.over in
    let nearest = nearest_by b.spacing r p f long part.under part.over in
    let same : p ≡ point_at b start (suc k) - point_at b start k = period-natural (point_at b start k) (point_at b start (suc k)) in
    let whole : f ≡ r * p / b.spacing = ap (λ (n : ℕ). r * n / b.spacing) (sym same) in
    rw own (event_by (point_at b start (suc k)) f b.spacing r p (omega (arith, is.some)) nearest whole)

pub exact : (b : Beat) (start m e : ℕ) → IsBeat b → Covers (pair_from b start m) b.rate (pos (stamped_at b start e)) → IsOfRate (pair_from b start m) b.rate
    → instant_at (spot_by (pair_from b start m) b.rate (pos (stamped_at b start e))).line (spot_by (pair_from b start m) b.rate (pos (stamped_at b start e))).from
    ≡ pos (stamped_at b start e)
exact b start m e is covers own =
    let at = covering b start m e is covers in
    let split = div-add-mod' e b.spacing in
    let whole : e / b.spacing * b.spacing ≡ suc m * b.spacing = ap (λ (n : ℕ). n * b.spacing) at in
    let small : e % b.spacing < b.spacing = mod-lt e is.some in
    let same = own_spacing b.up b.spacing b.interval b.rate b.down is.some_up is.same_time own in
    rw (stamped_late b start e m (e % b.spacing) (omega arith) small, eq-eqb b.up (b.rate * b.down) own) (exact_late b start m (e % b.spacing) is small same)

-- ---- runs: no pair of one run covers an instant of another run

pub stamped_from : (b : Beat) (start e : ℕ) → IsBeat b → start ≤ stamped_at b start e
stamped_from b start e is = elim (cases_lt e b.spacing) [
  | inl early ↦ rw (stamped_early b start e early) (omega arith)
  | inr late ↦
      let place = placed e b.spacing is.some late in
      rw (stamped_late b start e (e / b.spacing - 1) (e % b.spacing) place.0 place.1) (omega arith)
]

-- each stamp of a run is before the start of the next run
before_by : (rate instant start next q e events : ℕ) → 1 ≤ rate → rate ≤ 192000 → instant * rate ≤ start * rate + e * 1000000000 + rate → e < events
    → events * 1000000000 < q * rate + rate → start + q + 4 ≤ next → instant < next
before_by rate instant start next q e events some slow under within over far = elim (cases_lt instant next) [
  | inl sooner ↦ sooner
  | inr later ↦
      let a : (start + q + 4) * rate ≤ instant * rate = mul-le-mul_right rate (omega arith) in
      absurd (omega arith)
]

pub stamped_before : (b : Beat) (start events next e : ℕ) → IsBeat b → IsNextStart b start events next → e < events → stamped_at b start e < next
stamped_before b start events next e is far within =
    let stamp = is_stamped b start e is in
    let x = is_offset b.rate events (omega (arith, is.rate_from)) in
    before_by b.rate (stamped_at b start e) start next (nominal_offset b.rate events) e events (omega (arith, is.rate_from)) is.rate_to stamp.under within
    x.over far

pub more_offset : (rate a c : ℕ) → 0 < rate → a ≤ c → nominal_offset rate a ≤ nominal_offset rate c
more_offset rate a c some h = let sum = sum_of rate a (c - a) c some (omega arith) in omega (arith, sum.from)

passed : (w t p next instant : ℕ) → t + p ≤ next → next ≤ instant → instant * (2 * w) + p < t * (2 * w) + 2 * (p * w) → ⊥
passed w t p next instant h at covers =
    let times : (t + p) * (2 * w) ≤ instant * (2 * w) = mul-le-mul_right (2 * w) (omega arith) in
    omega arith

pub not_earlier_run : (b : Beat) (start events next m e : ℕ) → IsBeat b → IsNextStart b start events next → suc (suc m) * b.spacing ≤ events
    → ¬ Covers (pair_from b start m) b.rate (pos (stamped_at b next e))
not_earlier_run b start events next m e is far within covers =
    let more = more_offset b.rate (suc (suc m) * b.spacing) events (omega (arith, is.rate_from)) within in
    let last = renewed b start m next is (omega arith) in
    let instant : ℕ = stamped_at b next e in
    let from = stamped_from b next e is in
    let whole = covered_within b start m instant is covers in
    passed b.spacing (point_at b start (suc m)) (period (pair_from b start m)) next instant (omega arith) from whole.1

not_begun : (w t p next instant : ℕ) → 1 ≤ w → next ≤ t → instant < next → (t + p) * (2 * w) ≤ instant * (2 * w) + p → ⊥
not_begun w t p next instant some h before covers =
    let times : (instant + 1) * (2 * w) ≤ t * (2 * w) = mul-le-mul_right (2 * w) (omega arith) in
    let one : p * 1 ≤ p * w = mul-le-mul_left p some in
    omega arith

pub not_later_run : (b : Beat) (start events next m e : ℕ) → IsBeat b → IsNextStart b start events next → e < events
    → ¬ Covers (pair_from b next m) b.rate (pos (stamped_at b start e))
not_later_run b start events next m e is far within covers =
    let before = stamped_before b start events next e is far within in
    let instant : ℕ = stamped_at b start e in
    let of = is_period b next m is in
    let p : ℕ = period (pair_from b next m) in
    let whole = covered_within b next m instant is covers in
    let place : point_at b next m + p ≡ point_at b next (suc m) = of.next in
    let from : (point_at b next m + p) * (2 * b.spacing) ≤ instant * (2 * b.spacing) + p = subst (λ
    (t : ℕ). t * (2 * b.spacing) ≤ instant * (2 * b.spacing) + p) (sym place) whole.0 in
    not_begun b.spacing (point_at b next m) p next instant is.some (omega arith) before from

-- ---- the stamp as the code computes it

stamped_if : (b : Beat) (start e : ℕ) (early : Bool) → nat_lt e b.spacing ≡ early → b.spacing ≤ e
    → (if early then start + nominal_offset b.rate e else point_at b start (e / b.spacing)
    + e % b.spacing * (point_at b start (e / b.spacing) - point_at b start (e / b.spacing - 1)) / b.spacing)
    ≡ point_at b start (e / b.spacing) + e % b.spacing * (point_at b start (e / b.spacing) - point_at b start (e / b.spacing - 1)) / b.spacing
stamped_if b start e true h late = absurd (not_less h)
  where
    not_less : nat_lt e b.spacing ≡ true → ⊥
    not_less h = grind (arith, nat_tests)
stamped_if b start e false h late = refl

pub computed : (b : Beat) (start e x y part : ℕ) → b.spacing ≤ e → x ≡ nominal_offset b.rate (e / b.spacing * b.spacing)
    → y ≡ nominal_offset b.rate ((e / b.spacing - 1) * b.spacing) → part ≡ e % b.spacing * (x - y) / b.spacing → start + x + part ≡ stamped_at b start e
unfolding stamped_at
computed b start e x y part late at before is =
    let p : ℕ = point_at b start (e / b.spacing) - point_at b start (e / b.spacing - 1) in
    let period : x - y ≡ p = omega (arith, at, before) in
    let parts : part ≡ e % b.spacing * p / b.spacing = is ∙ ap (λ (n : ℕ). e % b.spacing * n / b.spacing) period in
    let sum : start + x + part ≡ point_at b start (e / b.spacing) + e % b.spacing * p / b.spacing = omega (arith, at, parts) in
    sum ∙ sym (stamped_if b start e (nat_lt e b.spacing) refl late)

pub rising : (b : Beat) (m n : ℕ) → IsBeat b → m ≤ n → nominal_offset b.rate (m * b.spacing) ≤ nominal_offset b.rate (n * b.spacing)
rising b m n is h = more_offset b.rate (m * b.spacing) (n * b.spacing) (omega (arith, is.rate_from)) (mul-le-mul_right b.spacing h)
