-- The packets of an H.264 stream keep the rules of streams.
use Rattle.std.proofs.Common.{◌≡◌, ◌≢◌, ◌⊎◌, inl, inr, ◌↔◌, ℕ, suc, ◌+◌, ◌*◌, ◌^◌, ◌<◌, ◌≤◌, Bool, true, false, not, List, length, nat_abs, Option, Some, None}
use Rattle.std.proofs.Common.{is_some, refl, ap, arith}
use Rattle.std.specs.Prelude.{◌==◌, if◌then◌else◌}
use Rattle.std.proofs.Math.Nat.{mul-le-mul_left, mul-le-mul_right}
use Rattle.std.proofs.lemmas.Bool.{cases_lt}
use Rattle.std.proofs.lemmas.Bool.Decides.{nat_tests}
use Rattle.std.proofs.lemmas.Int.{ints}
use Rattle.cvf_format.specs.declared.cvf.NalPart.{NalPart}
use Rattle.cvf_format.specs.declared.cvf.NalPart.TheVariants.{Single, First, Middle, Last}
use Rattle.cvf_format.specs.Cvf.{is_single_type}
use Rattle.cvf_format.specs.AnnexB.{nal_units}
use Rattle.stream_journal.specs.Journal.{Part, First as FirstPart, Middle as MiddlePart, Last as LastPart}
use Rattle.stream_journal.specs.Conforming.{Begins, Ends, IsVideo as IsVideoJournal, StampsUnits}
use Rattle.packet_journal.specs.Packets.{part_of}
use Rattle.talk_plan.specs.declared.fault.TalkFault.{TalkFault}
use Rattle.talk_plan.specs.declared.plan.TalkPlan.{TalkPlan}
use Rattle.talk_video.specs.AccessUnits.{access_unit, type_in, unit_at}
use Rattle.talk_video.specs.Fragments.{access_unit_of, all_packets, packets_at, part_at, part_by, place_of}
use Rattle.talk_plan.specs.Plan.{IsVideoPlan}
use Rattle.talk_plan.specs.Timing.{nominal_offset}
use Rattle.talk_video.specs.Units.{sent_units, units_by, units_fault}
use Rattle.talk_video.specs.Video.{access_instant, stamp_by, video_due, video_times}
use Rattle.talk_video.proofs.AccessLemmas.{access_few, access_rises, next_packet, placed, unit_known, unit_rises}
use Rattle.talk_video.proofs.FaultLemmas.{far_apart, types_are}
use Rattle.talk_plan.proofs.TimingLemmas.{is_offset}
use Rattle.talk_video.proofs.VideoLists.{units_few}

-- ---- the units that are sent

pub record AreSent (bytes : List ℕ) (units : List (ℕ × ℕ)) : Type 0 where
  pub types : (i : ℕ) → i < length units → is_single_type (type_in bytes (unit_at units i)) ≡ true
  pub few : (n : ℕ) → n + 255 < all_packets units → access_unit_of bytes units n ≢ access_unit_of bytes units (n + 255)
  pub count : length units ≤ length bytes

sent_by : (bytes : List ℕ) (fault : Option TalkFault) → units_fault bytes ≡ fault → AreSent bytes (units_by fault bytes)
sent_by bytes (Some fault) e = record { types = λ i h. absurd (omega arith); few = λ n h same. absurd (omega arith); count = omega arith }
sent_by bytes None e = record {
  types = λ i h. types_are bytes i e h;
  few = λ n h same. far_apart bytes n e h same;
  count = units_few bytes;
}

pub sent_are : (bytes : List ℕ) → AreSent bytes (sent_units bytes)
unfolding sent_units
sent_are bytes = sent_by bytes (units_fault bytes) refl

-- if a byte stream has no fault, all its units are sent
pub all_sent : (bytes : List ℕ) → units_fault bytes ≡ None → sent_units bytes ≡ nal_units bytes
unfolding sent_units
all_sent bytes e = rw e refl

-- ---- instants

later_by : (x y a b rate : ℕ) → rate ≤ 240 → a < b → x * rate ≤ a * 1000000000 → b * 1000000000 < y * rate + rate → x < y
later_by x y a b rate slow less under over = elim (cases_lt x y) [
  | inl h ↦ h
  | inr h ↦ let times : y * rate ≤ x * rate = mul-le-mul_right rate h in absurd (omega arith)
]

pub instant_later : (plan : TalkPlan) (a b : ℕ) → IsVideoPlan plan → a < b → access_instant plan a < access_instant plan b
unfolding access_instant
instant_later plan a b p less =
    let first = is_offset plan.rate a p.some_rate in
    let second = is_offset plan.rate b p.some_rate in
    let offset = later_by (nominal_offset plan.rate a) (nominal_offset plan.rate b) a b plan.rate p.rate less first.under second.over in
    omega arith

pub instant_rises : (plan : TalkPlan) (a b : ℕ) → IsVideoPlan plan → a ≤ b → access_instant plan a ≤ access_instant plan b
instant_rises plan a b p h = elim (cases_lt a b) [
  | inl less ↦ let later = instant_later plan a b p less in omega arith
  | inr not ↦ let same : a ≡ b = omega arith in rw same (omega arith)
]

-- access units at the same instant are the same access unit
pub one_access : (plan : TalkPlan) (a b : ℕ) → IsVideoPlan plan → access_instant plan a ≡ access_instant plan b → a ≡ b
one_access plan a b p e = elim (cases_lt a b) [
  | inl less ↦ let later = instant_later plan a b p less in absurd (omega arith)
  | inr not ↦ elim (cases_lt b a) [
    | inl more ↦ let later = instant_later plan b a p more in absurd (omega arith)
    | inr same ↦ omega arith
  ]
]

short_offset : (x a rate : ℕ) → 1 ≤ rate → x * rate ≤ a * 1000000000 → x ≤ a * 1000000000
short_offset x a rate some under =
    let times : x * 1 ≤ x * rate = mul-le-mul_left x some in
    omega arith

pub record IsInTime (plan : TalkPlan) (instant : ℕ) : Type 0 where
  pub from : plan.lead ≤ instant
  pub to : instant < plan.lead + 2 ^ 32 * 1000000000

pub in_time : (plan : TalkPlan) (a : ℕ) → IsVideoPlan plan → a ≤ 268435456 → IsInTime plan (access_instant plan a)
unfolding access_instant
in_time plan a p few =
    let is = is_offset plan.rate a p.some_rate in
    let offset = short_offset (nominal_offset plan.rate a) a plan.rate p.some_rate is.under in
    let start : nat_abs plan.start ≤ 4000000000000000000 = let started = p.started in let most = p.start in omega (arith, ints) in
    record { from = omega arith; to = omega arith }

pub access_known : (bytes : List ℕ) (units : List (ℕ × ℕ)) (n : ℕ) → AreSent bytes units → n < all_packets units → length bytes ≤ 268435456
    → access_unit_of bytes units n ≤ 268435456
access_known bytes units n sent h limit =
    let unit = unit_known units n h in
    let few = access_few bytes units (place_of units n).unit in
    omega (arith, sent.count)

-- ---- parts

-- fragment k begins its unit if and only if k is 0, and ends the unit if and only if it is the last fragment
pub record IsPartOf (part : NalPart) (packets k : ℕ) : Type 0 where
  pub begins : Begins (part_of part) → k ≡ 0
  pub begun : k ≡ 0 → Begins (part_of part)
  pub ends : Ends (part_of part) → suc k ≡ packets
  pub ended : suc k ≡ packets → Ends (part_of part)

not_begun : (part : Part) → (part ≡ MiddlePart) ⊎ (part ≡ LastPart) → ¬ Begins part
not_begun part (inl e) (inl f) = absurd cc
not_begun part (inl e) (inr f) = absurd cc
not_begun part (inr e) (inl f) = absurd cc
not_begun part (inr e) (inr f) = absurd cc

not_ended : (part : Part) → (part ≡ FirstPart) ⊎ (part ≡ MiddlePart) → ¬ Ends part
not_ended part (inl e) (inl f) = absurd cc
not_ended part (inl e) (inr f) = absurd cc
not_ended part (inr e) (inl f) = absurd cc
not_ended part (inr e) (inr f) = absurd cc

part_by_tests : (packets k : ℕ) (a b c : Bool) → (packets == 1) ≡ a → (k == 0) ≡ b → (k + 1 == packets) ≡ c → k < packets
    → IsPartOf (if a then Single else if b then First else if c then Last else Middle) packets k
part_by_tests packets k true b c p q r h =
    let one : packets ≡ 1 = grind (arith, nat_tests) in
    record { begins = λ is. omega arith; begun = λ e. inl refl; ends = λ is. omega arith; ended = λ e. inl refl }
part_by_tests packets k false true c p q r h =
    let more : packets ≢ 1 = grind (arith, nat_tests) in
    let first : k ≡ 0 = grind (arith, nat_tests) in
    record { begins = λ is. first; begun = λ e. inr refl; ends = λ is. absurd (not_ended FirstPart (inl refl) is); ended = λ e. absurd (more (omega arith)) }
part_by_tests packets k false false true p q r h =
    let later : k ≢ 0 = grind (arith, nat_tests) in
    let last : k + 1 ≡ packets = grind (arith, nat_tests) in
    record { begins = λ is. absurd (not_begun LastPart (inr refl) is); begun = λ e. absurd (later e); ends = λ is. omega arith; ended = λ e. inr refl }
part_by_tests packets k false false false p q r h =
    let later : k ≢ 0 = grind (arith, nat_tests) in
    let more : k + 1 ≢ packets = grind (arith, nat_tests) in
    record {
      begins = λ is. absurd (not_begun MiddlePart (inl refl) is);
      begun = λ e. absurd (later e);
      ends = λ is. absurd (not_ended MiddlePart (inr refl) is);
      ended = λ e. absurd (more (omega arith));
    }

pub part_tells : (units : List (ℕ × ℕ)) (n : ℕ)
    → IsPartOf (part_at units (place_of units n)) (packets_at units (place_of units n).unit) (place_of units n).fragment
unfolding part_by
part_tells units n =
    let p = place_of units n in
    let packets : ℕ = packets_at units p.unit in
    part_by_tests packets p.fragment (packets == 1) (p.fragment == 0) (p.fragment + 1 == packets) refl refl refl (placed units n).within

-- ---- stamps

stamp_ends : (part : NalPart) (instant : ℕ) → (is_some (stamp_by true part instant) ≡ true) ↔ Ends (part_of part)
stamp_ends Single instant = ((λ e. inl refl), (λ e. refl))
stamp_ends First instant = ((λ e. absurd cc), (λ e. absurd (not_ended FirstPart (inl refl) e)))
stamp_ends Middle instant = ((λ e. absurd cc), (λ e. absurd (not_ended MiddlePart (inr refl) e)))
stamp_ends Last instant = ((λ e. inr refl), (λ e. refl))

pub stamp_is : (last_stamp : Bool) (part : NalPart) (due instant : ℕ) → stamp_by last_stamp part due ≡ Some instant → instant ≡ due
stamp_is false part due instant e = cc
stamp_is true Single due instant e = cc
stamp_is true First due instant e = absurd cc
stamp_is true Middle due instant e = absurd cc
stamp_is true Last due instant e = cc

stamps : (last_stamp : Bool) (plan : TalkPlan) (bytes : List ℕ) (units : List (ℕ × ℕ))
    → StampsUnits (video_times last_stamp plan bytes units) (λ n. part_of (part_at units (place_of units n)))
stamps false plan bytes units = inl (λ n h. refl)
stamps true plan bytes units = inr (λ n h. stamp_ends (part_at units (place_of units n)) (video_due plan bytes units n))

-- ---- units and access units

last_ends : (units : List (ℕ × ℕ)) (n : ℕ) → all_packets units ≡ suc n → Ends (part_of (part_at units (place_of units n)))
last_ends units n e = elim (next_packet units n) [
  | inl on ↦
      let known = unit_known units n (omega arith) in
      let rise = unit_rises units (place_of units n).unit (length units) known in
      let at = placed units n in
      absurd (omega (arith, on.more, at.number))
  | inr new ↦ (part_tells units n).ended new.last
]

beside : (units : List (ℕ × ℕ)) (n : ℕ) → Ends (part_of (part_at units (place_of units n))) ↔ Begins (part_of (part_at units (place_of units (suc n))))
beside units n = elim (next_packet units n) [
  | inl on ↦ (
    (λ ends. absurd (let last = (part_tells units n).ends ends in omega (arith, on.more))),
    (λ begins. absurd (let first = (part_tells units (suc n)).begins begins in omega (arith, on.fragment))),
  )
  | inr new ↦ ((λ ends. (part_tells units (suc n)).begun new.fragment), (λ begins. (part_tells units n).ended new.last))
]

one_unit : (plan : TalkPlan) (bytes : List ℕ) (units : List (ℕ × ℕ)) (n : ℕ) → ¬ Ends (part_of (part_at units (place_of units n)))
    → video_due plan bytes units (suc n) ≡ video_due plan bytes units n
one_unit plan bytes units n more = elim (next_packet units n) [
  | inl on ↦ ap (λ (i : ℕ). access_instant plan (access_unit bytes units i)) on.unit
  | inr new ↦ absurd (more ((part_tells units n).ended new.last))
]

pub together : (plan : TalkPlan) (bytes : List ℕ) (units : List (ℕ × ℕ)) (n k m : ℕ) → IsVideoPlan plan → n ≤ k → k ≤ m
    → video_due plan bytes units n ≡ video_due plan bytes units m
    → video_due plan bytes units k ≡ video_due plan bytes units n
together plan bytes units n k m p low high e =
    let one = one_access plan (access_unit_of bytes units n) (access_unit_of bytes units m) p e in
    let first = access_rises bytes units n k low in
    let second = access_rises bytes units k m high in
    let same : access_unit_of bytes units k ≡ access_unit_of bytes units n = omega arith in
    ap (access_instant plan) same

few : (plan : TalkPlan) (bytes : List ℕ) (units : List (ℕ × ℕ)) (n m : ℕ) → IsVideoPlan plan → AreSent bytes units → m < all_packets units
    → video_due plan bytes units n ≡ video_due plan bytes units m → m < n + 255
few plan bytes units n m p sent h e = elim (cases_lt m (n + 255)) [
  | inl near ↦ near
  | inr far ↦
      let one = one_access plan (access_unit_of bytes units n) (access_unit_of bytes units m) p e in
      let first = access_rises bytes units n (n + 255) (omega arith) in
      let second = access_rises bytes units (n + 255) m far in
      absurd (sent.few n (omega arith) (omega arith))
]

pub video_is : (last_stamp : Bool) (plan : TalkPlan) (bytes : List ℕ) (units : List (ℕ × ℕ)) → IsVideoPlan plan → AreSent bytes units
    → IsVideoJournal (video_times last_stamp plan bytes units) (λ n. part_of (part_at units (place_of units n)))
video_is last_stamp plan bytes units p sent = record {
  stamps = stamps last_stamp plan bytes units;
  one_instant = λ n instant h e. stamp_is last_stamp (part_at units (place_of units n)) (video_due plan bytes units n) instant e;
  first = λ some. (part_tells units 0).begun refl;
  last = λ n e. last_ends units n e;
  beside = λ n h. beside units n;
  unit = λ n h more. one_unit plan bytes units n more;
  few = λ n m h e. few plan bytes units n m p sent h e;
}
