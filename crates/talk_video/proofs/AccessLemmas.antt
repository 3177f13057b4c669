-- Which packets carry which NAL units, and which access units these NAL units belong to.
use Rattle.std.proofs.Common.{◌≡◌, ◌⊎◌, inl, inr, ℕ, zero, suc, ◌+◌, ◌-◌, ◌<◌, ◌≤◌, Bool, true, false, List, length, refl, ap, arith}
use Rattle.std.specs.Prelude.{nat_lt, if◌then◌else◌}
use Rattle.std.proofs.lemmas.Bool.{cases_lt}
use Rattle.std.proofs.lemmas.Bool.Decides.{nat_tests}
use Rattle.avtp_base.proofs.BitLemmas.{flag-below}
use Rattle.cvf_format.specs.Packets.{packets_of}
use Rattle.talk_video.specs.AccessUnits.{access_unit, begins, begun_before}
use Rattle.talk_video.specs.Fragments.{Place, access_unit_of, all_packets, packets_at, packets_before, place_of}

-- ---- how many packets carry a unit

pub record IsSize (len packets : ℕ) : Type 0 where
  pub some : 1 ≤ packets
  pub few : 1 ≤ len → packets ≤ len
  pub whole : packets ≡ 1 → len ≤ 1400

pub size_of : (len : ℕ) → IsSize len (packets_of len)
size_of len = grind (arith, nat_tests)

pub some_packets : (units : List (ℕ × ℕ)) (i : ℕ) → 1 ≤ packets_at units i
some_packets units i = (size_of _).some

-- ---- the packets before a unit

pub before_rises : (units : List (ℕ × ℕ)) (i j : ℕ) → i ≤ j → packets_before units i ≤ packets_before units j
before_rises units zero j h = omega arith
before_rises units (suc i) zero h = absurd (omega arith)
before_rises units (suc i) (suc j) h = elim (cases_lt i j) [
  | inl less ↦ let rest = before_rises units (suc i) j less in omega arith
  | inr not ↦ let same : i ≡ j = omega arith in rw same (omega arith)
]

pub unit_rises : (units : List (ℕ × ℕ)) (i j : ℕ) → i < j → packets_before units i + packets_at units i ≤ packets_before units j
unit_rises units i j h = before_rises units (suc i) j h

-- ---- what packet n carries

pub record IsPlaced (units : List (ℕ × ℕ)) (p : Place) (n : ℕ) : Type 0 where
  pub number : packets_before units p.unit + p.fragment ≡ n
  pub within : p.fragment < packets_at units p.unit

next_placed : (units : List (ℕ × ℕ)) (p : Place) (n : ℕ) (b : Bool) → nat_lt (suc p.fragment) (packets_at units p.unit) ≡ b → IsPlaced units p n
    → IsPlaced units (if b then record { unit = p.unit; fragment = suc p.fragment } else record { unit = suc p.unit; fragment = 0 }) (suc n)
next_placed units p n true e is = record {
  number = omega (arith, is.number);
  within = (let more : suc p.fragment < packets_at units
      p.unit = grind (arith, nat_tests) in more);
}
next_placed units p n false e is =
    let last : packets_at units p.unit ≤ suc p.fragment = grind (arith, nat_tests) in
    record { number = omega (arith, is.number, is.within); within = some_packets units (suc p.unit) }

pub placed : (units : List (ℕ × ℕ)) (n : ℕ) → IsPlaced units (place_of units n) n
placed units zero = record { number = omega arith; within = some_packets units 0 }
placed units (suc n) =
    next_placed units (place_of units n) n (nat_lt (suc (place_of units n).fragment) (packets_at units (place_of units n).unit)) refl (placed units n)

not_later : (units : List (ℕ × ℕ)) (p q : Place) (n : ℕ) → IsPlaced units p n → IsPlaced units q n → ¬ (p.unit < q.unit)
not_later units p q n is other less = let rise = unit_rises units p.unit q.unit less in absurd (omega (arith, is.number, is.within, other.number))

pub one_unit : (units : List (ℕ × ℕ)) (p q : Place) (n : ℕ) → IsPlaced units p n → IsPlaced units q n → p.unit ≡ q.unit
one_unit units p q n is other = elim (cases_lt p.unit q.unit) [
  | inl less ↦ absurd (not_later units p q n is other less)
  | inr not ↦ elim (cases_lt q.unit p.unit) [
    | inl more ↦ absurd (not_later units q p n other is more)
    | inr same ↦ omega arith
  ]
]

pub unit_found : (units : List (ℕ × ℕ)) (i n : ℕ) → packets_before units i ≤ n → n < packets_before units (suc i) → (place_of units n).unit ≡ i
unit_found units i n from to =
    let here : IsPlaced units (record { unit = i; fragment = n - packets_before units i }) n = record { number = omega arith; within = omega arith } in
    one_unit units (place_of units n) (record { unit = i; fragment = n - packets_before units i }) n (placed units n) here

pub unit_known : (units : List (ℕ × ℕ)) (n : ℕ) → n < all_packets units → (place_of units n).unit < length units
unit_known units n h = elim (cases_lt (place_of units n).unit (length units)) [
  | inl less ↦ less
  | inr not ↦
      let rise = before_rises units (length units) (place_of units n).unit not in
      let is = placed units n in
      absurd (omega (arith, is.number))
]

-- ---- the next packet

-- packet n + 1 carries the next fragment of packet n's unit (`GoesOn`), or the first fragment of the next unit
-- (`Renews`)
pub record GoesOn (units : List (ℕ × ℕ)) (n : ℕ) : Type 0 where
  pub more : suc (place_of units n).fragment < packets_at units (place_of units n).unit
  pub unit : (place_of units (suc n)).unit ≡ (place_of units n).unit
  pub fragment : (place_of units (suc n)).fragment ≡ suc (place_of units n).fragment

pub record Renews (units : List (ℕ × ℕ)) (n : ℕ) : Type 0 where
  pub last : suc (place_of units n).fragment ≡ packets_at units (place_of units n).unit
  pub unit : (place_of units (suc n)).unit ≡ suc (place_of units n).unit
  pub fragment : (place_of units (suc n)).fragment ≡ 0

pub next_packet : (units : List (ℕ × ℕ)) (n : ℕ) → GoesOn units n ⊎ Renews units n
next_packet units n = by (nat_lt (suc (place_of units n).fragment) (packets_at units (place_of units n).unit)) refl
  where
    by : (b : Bool) → nat_lt (suc (place_of units n).fragment) (packets_at units (place_of units n).unit) ≡ b → GoesOn units n ⊎ Renews units n
    by true e = inl (record { more = grind (arith, nat_tests); unit = rw e refl; fragment = rw e refl })
    by false e = inr (record {
      last = (let least : packets_at units
          (place_of units n).unit ≤ suc (place_of units n).fragment = grind (arith, nat_tests) in let is = placed units
          n in omega (arith, is.within));
      unit = rw e refl;
      fragment = rw e refl;
    })

-- ---- access units

pub begun_few : (bytes : List ℕ) (units : List (ℕ × ℕ)) (i : ℕ) → begun_before bytes units i ≤ i
begun_few bytes units zero = omega arith
begun_few bytes units (suc i) = let flags = flag-below (begins bytes units i) in let rest = begun_few bytes units i in omega arith

-- among units 0 to i, at most i begin a new access unit
begun_fewer : (bytes : List ℕ) (units : List (ℕ × ℕ)) (i : ℕ) → begun_before bytes units (suc i) ≤ i
begun_fewer bytes units zero = omega arith
begun_fewer bytes units (suc i) = let flags = flag-below (begins bytes units (suc i)) in let rest = begun_fewer bytes units i in omega arith

pub access_few : (bytes : List ℕ) (units : List (ℕ × ℕ)) (i : ℕ) → access_unit bytes units i ≤ i
access_few bytes units i = begun_fewer bytes units i

pub begun_rises : (bytes : List ℕ) (units : List (ℕ × ℕ)) (i j : ℕ) → i ≤ j → begun_before bytes units i ≤ begun_before bytes units j
begun_rises bytes units zero j h = omega arith
begun_rises bytes units (suc i) zero h = absurd (omega arith)
begun_rises bytes units (suc i) (suc j) h = elim (cases_lt i j) [
  | inl less ↦ let rest = begun_rises bytes units (suc i) j less in omega arith
  | inr not ↦ let same : i ≡ j = omega arith in rw same (omega arith)
]

pub access_step : (bytes : List ℕ) (units : List (ℕ × ℕ)) (n : ℕ) → access_unit_of bytes units n ≤ access_unit_of bytes units (suc n)
access_step bytes units n = elim (next_packet units n) [
  | inl on ↦ let same = ap (access_unit bytes units) on.unit in omega (arith, same)
  | inr new ↦
      let same = ap (access_unit bytes units) new.unit in
      let rise = begun_rises bytes units (suc (place_of units n).unit) (suc (suc (place_of units n).unit)) (omega arith) in
      omega (arith, same, rise)
]

pub access_rises : (bytes : List ℕ) (units : List (ℕ × ℕ)) (n m : ℕ) → n ≤ m → access_unit_of bytes units n ≤ access_unit_of bytes units m
access_rises bytes units n zero h = let none : n ≡ 0 = omega arith in rw none (omega arith)
access_rises bytes units n (suc m) h = elim (cases_lt m n) [
  | inl last ↦ let same : n ≡ suc m = omega arith in rw same (omega arith)
  | inr not ↦ let rest = access_rises bytes units n m not in let step = access_step bytes units m in omega (arith, rest, step)
]
