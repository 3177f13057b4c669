-- The time between the due instants of two packets, and the due instant of a sample that is counted from a stamp.
use Rattle.std.proofs.Common.{◌≡◌, ℕ, zero, suc, ◌+◌, ◌-◌, ◌*◌, ◌<◌, ◌≤◌, ℤ, pos, neg_ℤ, ◌+ℤ◌, ◌-ℤ◌, refl, ap, inl, inr, subst, arith}
use Rattle.std.proofs.Math.Nat.{mul-le-mul_left}
use Rattle.std.proofs.lemmas.Bool.{cases_lt}
use Rattle.std.proofs.lemmas.Int.{ints}
use borrow.Author.Differences.{up, down}
use Rattle.time_unfold.specs.Lines.{instant_at, nominal_line}
use Rattle.time_unfold.proofs.OnLine.{instant_at-at}
use Rattle.stream_journal.specs.Journal.{Journal}
use Rattle.stream_journal.specs.Conforming.{IsApart, IsAudio}
use Rattle.time_unfold.proofs.Floors.{one_more}

-- ---- spacings of adjacent packets add up

one_further : (r w m a b c : ℕ) → 4 * (a * r) + 3 * m * w ≤ 4 * (b * r) → 4 * (b * r) + 3 * w ≤ 4 * (c * r) → 4 * (a * r) + 3 * suc m * w ≤ 4 * (c * r)
one_further r w m a b c h g = omega arith

pub spaced : (j : Journal) → IsAudio j → (n m : ℕ) → n + m < j.packets → IsApart j (3 * m) (j.due n) (j.due (n + m))
spaced j is n zero h = let e : n + 0 ≡ n = omega arith in rw e (omega arith)
spaced j is n (suc m) h =
    let before = spaced j is n m (omega arith) in
    let next = is.spacing (n + m) (omega arith) in
    let e : n + suc m ≡ suc (n + m) = omega arith in
    rw e (one_further j.rate (j.count * 1000000000) m (j.due n) (j.due (n + m)) (j.due (suc (n + m))) before next)

-- ---- a packet and its own stamp

-- a packet is due `index` samples before its timestamp, up to a rounding error of one nanosecond
pub record IsBefore (rate due stamp index : ℕ) : Type 0 where
  pub from : due * rate + index * 1000000000 ≤ stamp * rate
  pub to : stamp * rate < due * rate + rate + index * 1000000000

pub scaled : (z : ℤ) (due stamp rate : ℕ) → z ≡ pos due -ℤ pos stamp → up z * rate + stamp * rate ≡ down z * rate + due * rate
scaled z due stamp rate e =
    let h : up z + stamp ≡ down z + due = omega (arith, ints) in
    let f : rate * (up z + stamp) ≡ rate * (down z + due) = ap (λ (x : ℕ). rate * x) h in
    omega arith

pub before_stamp : (due stamp index rate : ℕ) → 0 < rate → pos due ≡ instant_at (nominal_line (pos stamp) rate) (neg_ℤ (pos index) +ℤ pos 0) → IsBefore rate due stamp index
before_stamp due stamp index rate some e =
    let at = instant_at-at (nominal_line (pos stamp) rate) (neg_ℤ (pos index) +ℤ pos 0) some in
    let not_after = rw (← e) at at.not_after in
    let last = rw (← e) at at.last in
    let z : ℤ = pos due -ℤ pos stamp in
    let m = one_more z rate in
    let s = scaled z due stamp rate refl in
    record { from = omega (arith, ints); to = omega (arith, ints) }

-- ---- packets are due in their order

later_by : (a b rate w m : ℕ) → 1 ≤ w → 1 ≤ m → 4 * (a * rate) + 3 * m * w ≤ 4 * (b * rate) → a < b
later_by a b rate w m some more h = elim (cases_lt a b) [
  | inl below ↦ below
  | inr above ↦
      let times : rate * b ≤ rate * a = mul-le-mul_left rate above in
      let least : w * 1 ≤ w * m = mul-le-mul_left w more in
      absurd (omega arith)
]

pub rising : (j : Journal) → IsAudio j → (n m : ℕ) → n < m → m < j.packets → j.due n < j.due m
rising j is n m before known =
    let e : n + (m - n) ≡ m = omega arith in
    let some = is.some in
    later_by (j.due n) (j.due m) j.rate (j.count * 1000000000) (m - n) (omega arith) (omega arith)
    (subst (λ (x : ℕ). IsApart j (3 * (m - n)) (j.due n) (j.due x)) e (spaced j is n (m - n) (omega arith)))
