-- The head that a listener finds among true stamps is the journal's head.
use Rattle.std.proofs.Common.{◌≡◌, ◌⊎◌, inl, inr, ℕ, ◌+◌, ◌-◌, ◌*◌, ◌%◌, ◌<◌, ◌≤◌, Bool, true, false, pos, ◌-ℤ◌, List, All, Option, Some, None, refl, sym, ap, ◌∙◌, arith}
use Rattle.std.specs.Prelude.{◌==◌, nat_le, if◌then◌else◌, unsigned_abs, IfSome}
use Rattle.std.proofs.Math.Nat.{mul-le-mul_left}
use Rattle.std.proofs.lemmas.Bool.{cases_eq}
use Rattle.std.proofs.lemmas.Bool.Decides.{nat_tests}
use Rattle.std.proofs.lemmas.Int.{ints}
use Rattle.time_unfold.specs.declared.stamp.Stamp.{Stamp}
use Rattle.time_unfold.specs.declared.stamp.Want.{Want}
use Rattle.time_unfold.specs.Stamps.{IsFound, candidate, fits, found, is_near, last_of, same_block, same_flag}
use Rattle.time_unfold.proofs.Found.{find_last-found, found_is}
use Rattle.time_unfold.specs.declared.head_rule.Distance.{Distance}
use Rattle.time_unfold.specs.Heads.{distance}
use Rattle.stream_journal.specs.Journal.{Journal, Kind, DenseAaf, SparseAaf, Am824, H264, head_of, rule_of}
use Rattle.stream_journal.specs.Conforming.{IsAudio}
use Rattle.stream_journal.specs.Delivered.{Copy, IsAudioKind}
use Rattle.stream_journal.specs.Heads.{IsCountedFrom, IsHeadOf, IsOther, IsStampOf, IsTrue, IsUnstamped, behind, wanted}
use Rattle.stream_journal.proofs.Apart.{apart, back_of}

-- ---- the stamp of another packet is refused

difference : (x y : ℕ) → unsigned_abs (pos x -ℤ pos y) ≡ (x - y) + (y - x)
difference x y = omega (arith, ints)

-- if x is near `due`, and p is far from `due`, then x and p differ by more than the time of 60 packets
refused_by : (x p due r w d : ℕ) → due * r < x * r + 128 * w → x * r < due * r + 128 * w → p ≤ x + d → x ≤ p + d
    → (due * r + 189 * w < p * r) ⊎ (p * r + 189 * w < due * r) → 60 * w < d * r
refused_by x p due r w d from to above below (inl h) =
    let times : r * p ≤ r * (x + d) = mul-le-mul_left r above in
    omega arith
refused_by x p due r w d from to above below (inr h) =
    let times : r * x ≤ r * (p + d) = mul-le-mul_left r below in
    omega arith

refused : (x p due r w : ℕ) → due * r < x * r + 128 * w → x * r < due * r + 128 * w
    → (due * r + 189 * w < p * r) ⊎ (p * r + 189 * w < due * r) → 60 * w < ((x - p) + (p - x)) * r
refused x p due r w from to far = refused_by x p due r w ((x - p) + (p - x)) from to (omega arith) (omega arith) far

audio_of : (kind : Kind) (n count : ℕ) (far : Distance) → distance (rule_of kind n) n count ≡ Some far → IsAudioKind kind
audio_of DenseAaf n count far e = tt
audio_of SparseAaf n count far e = tt
audio_of (Am824 interval dbc) n count far e = tt
audio_of (H264 part) n count far e = absurd cc

not_le : (a b : ℕ) → b < a → nat_le a b ≡ false
not_le a b h = grind (arith, nat_tests)

-- if x and p differ by more than the time of 60 packets, the comparison of `is_near` is false
near_by : (x p r count : ℕ) → 60 * (count * 1000000000) < ((x - p) + (p - x)) * r → nat_le (unsigned_abs (pos x -ℤ pos p) * r) (60 * count * 1000000000) ≡ false
near_by x p r count h = rw (difference x p) (not_le (((x - p) + (p - x)) * r) (60 * count * 1000000000) (omega arith))

pub refuses : (j : Journal) → IsAudio j → (lead : ℕ) (c : Copy) (far : Distance) (k : ℕ) (stamp : Stamp) → IsUnstamped j lead c far → IsStampOf j k stamp → IsOther c.number k far
    → is_near (wanted j lead c far) stamp ≡ false
refuses j is lead c far k stamp un of other =
    let within = un.came.unstamped (audio_of j.kind c.number j.count far un.back) un.none in
    let away = apart j is c.number k of.instant far un.came.known of.known of.stamped un.back other.same other.other in
    let short : 60 * (j.count * 1000000000) < (((c.arrival + lead) - behind j of.instant far.samples) + (behind j of.instant far.samples - (c.arrival + lead))) * j.rate =
    refused (c.arrival + lead) (behind j of.instant far.samples) (j.due c.number) j.rate (j.count * 1000000000) within.from within.to away in
    rw of.same (near_by (c.arrival + lead) (behind j of.instant far.samples) j.rate j.count short)

pub candidate_is : (j : Journal) (lead : ℕ) (c : Copy) (far : Distance) (k : ℕ) (stamp : Stamp) (is : IsStampOf j k stamp) → candidate (wanted j lead c far) stamp ≡ pos (behind j is.instant far.samples)
candidate_is j lead c far k stamp is = rw is.same refl

-- ---- what is found

record FitsSo (want : Want) (stamp : Stamp) : Type 0 where
  seq : stamp.seq ≡ want.seq
  mr : stamp.mr ≡ want.mr
  near : is_near want stamp ≡ true

all_true : (a b c d e : Bool) → (if a then if b then if c then if d then e else false else false else false else false) ≡ true → (a ≡ true) × (b ≡ true) × (e ≡ true)
all_true true true true true true h = (refl, refl, refl)
all_true true true true true false h = absurd cc
all_true true true true false e h = absurd cc
all_true true true false d e h = absurd cc
all_true true false c d e h = absurd cc
all_true false b c d e h = absurd cc

pub one_flag : (a b : Bool) → same_flag a b ≡ true → a ≡ b
one_flag true b h = sym h
one_flag false true h = absurd cc
one_flag false false h = refl

one_number : (a b : ℕ) → (a == b) ≡ true → a ≡ b
one_number a b h = grind (arith, nat_tests)

fits_so : (want : Want) (stamp : Stamp) → fits want stamp ≡ true → FitsSo want stamp
fits_so want stamp h =
    let parts = all_true (stamp.seq == want.seq) (same_flag stamp.mr want.mr) (stamp.rate == want.rate) (same_block stamp.block want.block) (is_near want stamp) h in
    record { seq = one_number stamp.seq want.seq parts.0; mr = one_flag stamp.mr want.mr parts.1; near = parts.2 }

-- if s equals both k and n - d modulo 256, k + d equals n modulo 256
in_circle : (k d n s : ℕ) → d ≤ 7 → s ≡ k % 256 → s ≡ (n % 256 + 256 - d) % 256 → (k + d) % 256 ≡ n % 256
in_circle k d n s few e f = omega arith

head_is : (j : Journal) → IsAudio j → (lead : ℕ) (c : Copy) (far : Distance) (stamp : Stamp) → IsUnstamped j lead c far → IsTrue j stamp → FitsSo (wanted j lead c far) stamp → IsHeadOf j c.number far stamp
head_is j is lead c far stamp un t so =
    let has = back_of (rule_of j.kind c.number) c.number j.count far is.some un.back in
    let few = has.few in
    let of = t.is in
    let seq : stamp.seq ≡ t.number % 256 = ap (λ (s : Stamp). s.seq) of.same in
    let mr : stamp.mr ≡ j.mr t.number = ap (λ (s : Stamp). s.mr) of.same in
    let same = in_circle t.number far.packets c.number stamp.seq few seq so.seq in
    elim (cases_eq (t.number + far.packets) c.number) [
      | inl e ↦
          let place : c.number - far.packets ≡ t.number = omega arith in
          record { back = omega arith; is = rw place of; one_run = rw place (sym mr ∙ so.mr) }
      | inr other ↦
          let away = refuses j is lead c far t.number stamp un of (record { same = same; other = other }) in
          absurd cc
    ]

found_by : (j : Journal) → IsAudio j → (lead room : ℕ) (c : Copy) (far : Distance) (stamps : List Stamp) (r : Option Stamp) → IsUnstamped j lead c far → All (IsTrue j) stamps
    → IsFound (wanted j lead c far) (last_of room stamps) r → IfSome r (IsHeadOf j c.number far)
found_by j is lead room c far stamps None un all f = tt
found_by j is lead room c far stamps (Some stamp) un all f =
    head_is j is lead c far stamp un (found_is (IsTrue j) (wanted j lead c far) room stamps stamp f all) (fits_so (wanted j lead c far) stamp f.this_fits)

pub true_heads : (j : Journal) → IsAudio j → (lead room : ℕ) (c : Copy) (far : Distance) (stamps : List Stamp) → IsUnstamped j lead c far → All (IsTrue j) stamps
    → IfSome (found room (wanted j lead c far) stamps) (IsHeadOf j c.number far)
true_heads j is lead room c far stamps un all =
    found_by j is lead room c far stamps (found room (wanted j lead c far) stamps) un all (find_last-found (wanted j lead c far) (last_of room stamps))

-- ---- the stamp gives the journal's head

pub flag_of : (a b : Bool) → a ≡ b → same_flag a b ≡ true
flag_of true true e = refl
flag_of true false e = absurd cc
flag_of false true e = absurd cc
flag_of false false e = refl

le_true : (a b : ℕ) → a ≤ b → nat_le a b ≡ true
le_true a b h = grind (arith, nat_tests)

pub head_back : (j : Journal) (n : ℕ) (far : Distance) (stamp : Stamp) → j.stamp n ≡ None → distance (rule_of j.kind n) n j.count ≡ Some far → IsHeadOf j n far stamp → IsCountedFrom j n far stamp
head_back j n far stamp none back is =
    let instant : stamp.instant ≡ pos is.is.instant = ap (λ (s : Stamp). s.instant) is.is.same in
    rw (instant, none, back, le_true far.packets n is.back, flag_of (j.mr (n - far.packets)) (j.mr n) is.one_run, is.is.stamped) refl

counted_by : (j : Journal) (n : ℕ) (far : Distance) (r : Option Stamp) → j.stamp n ≡ None → distance (rule_of j.kind n) n j.count ≡ Some far → IfSome r (IsHeadOf j n far) → IfSome r (IsCountedFrom j n far)
counted_by j n far None none back h = tt
counted_by j n far (Some stamp) none back h = head_back j n far stamp none back h

pub true_counts : (j : Journal) → IsAudio j → (lead room : ℕ) (c : Copy) (far : Distance) (stamps : List Stamp) → IsUnstamped j lead c far → All (IsTrue j) stamps
    → IfSome (found room (wanted j lead c far) stamps) (IsCountedFrom j c.number far)
true_counts j is lead room c far stamps un all =
    counted_by j c.number far (found room (wanted j lead c far) stamps) un.none un.back (true_heads j is lead room c far stamps un all)

none_by : (j : Journal) (n : ℕ) (far : Distance) (r : Option Stamp) → head_of j n ≡ None → IfSome r (IsCountedFrom j n far) → r ≡ None
none_by j n far None e h = refl
none_by j n far (Some stamp) e h = absurd cc

pub none_found : (j : Journal) → IsAudio j → (lead room : ℕ) (c : Copy) (far : Distance) (stamps : List Stamp) → IsUnstamped j lead c far → All (IsTrue j) stamps
    → head_of j c.number ≡ None → found room (wanted j lead c far) stamps ≡ None
none_found j is lead room c far stamps un all e =
    none_by j c.number far (found room (wanted j lead c far) stamps) e (true_counts j is lead room c far stamps un all)
