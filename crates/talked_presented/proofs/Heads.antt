-- Each packet of a plan without restarts has a timestamp or is counted from one.
use Rattle.std.proofs.Common.{◌≡◌, ℕ, ◌+◌, ◌-◌, ◌*◌, ◌%◌, ◌<◌, ◌≤◌, Bool, true, false, List, None, refl, inl, inr, arith}
use Rattle.std.specs.Prelude.{◌==◌, IsSome, nat_le, nat_lt}
use Rattle.std.specs.Int.{div_ceil}
use Rattle.std.proofs.lemmas.Bool.{cases_lt}
use Rattle.std.proofs.lemmas.Bool.Decides.{nat_tests}
use Rattle.std.proofs.lemmas.Grind.{div_ceil_times}
use Rattle.std.proofs.Math.Nat.{mul-le-mul_right}
use Rattle.stream_journal.specs.Conforming.{is_stamped}
use Rattle.stream_journal.specs.Journal.{Kind, SparseAaf, head_of, rule_of}
use Rattle.talk_plan.specs.declared.plan.TalkKind.{TalkKind}
use Rattle.talk_plan.specs.declared.plan.TalkKind.TheVariants.{Aaf, Am824, H264}
use Rattle.talk_plan.specs.declared.plan.TalkPlan.{TalkPlan}
use Rattle.talk_plan.specs.Plan.{FitsPacket, IsAudioKind, IsAudioPlan, interval_of}
use Rattle.talk_plan.specs.Timing.{mr_of}
use Rattle.talk_plan.proofs.RunLemmas.{whole}
use Rattle.talk_audio.specs.Audio.{audio_by}
use Rattle.talk_audio.specs.Journal.{nominal_times}
use Rattle.talk_audio.specs.Packets.{am824_kind, dbc_of}
use Rattle.talk_audio.proofs.DueLemmas.{IsFound}
use Rattle.stream_journal.proofs.TrueHeads.{flag_of}
use Rattle.talker.specs.Journal.{journal, stream_by}
use Rattle.talked_presented.specs.Whole.{HasEachHead}
use Rattle.talked_presented.proofs.Known.{IsInterval, interval_is, not_below}
use Rattle.talked_presented.proofs.Sent.{stamped_head}

-- Packet n is counted from a stamped packet at most n packets before it.
record IsFoundBefore (kind : Kind) (count n : ℕ) : Type 0 where
  is : IsFound kind count n
  before : is.far.packets ≤ n

is_within : (a b : ℕ) → a ≤ b → nat_le a b ≡ true
is_within a b h = grind (arith, nat_tests)

one_bit : (plan : TalkPlan) (m n : ℕ) → plan.restart ≡ None → mr_of plan m ≡ mr_of plan n
one_bit plan m n e = rw e refl

head_by : (kind : Kind) (plan : TalkPlan) (packets n : ℕ) (b : Bool) → plan.restart ≡ None → is_stamped (rule_of kind n) n plan.count ≡ b → (b ≡ false → IsFoundBefore kind plan.count n) → IsSome (head_of (nominal_times kind plan packets) n)
head_by kind plan packets n true alone e found = rw e refl
head_by kind plan packets n false alone e found =
    let f = found refl in
    let d : ℕ = f.is.far.packets in
    rw (e, f.is.is_far, is_within d n f.before, flag_of (mr_of plan (n - d)) (mr_of plan n) (one_bit plan (n - d) n alone), f.is.stamped) refl

-- ---- sparse PCM

eighth_found : (count n : ℕ) → (n % 8 == 0) ≡ false → IsFoundBefore SparseAaf count n
eighth_found count n e =
    let none : (n - n % 8) % 8 ≡ 0 = omega arith in
    record {
      is = record {
        far = record { packets = n % 8; samples = n % 8 * count };
        is_far = rw e refl;
        few = omega arith;
        stamped = rw none refl;
      };
      before = omega arith;
    }

-- ---- AM824

between : (x y n count interval : ℕ) → IsInterval interval → x + y ≡ n → count ≤ (interval - n % 256 % interval) % interval → 1 ≤ n % 256 % interval
    → n % 256 % interval ≤ y → y < n % 256 % interval + count → (interval - x % 256 % interval) % interval + n % 256 % interval ≡ y
between x y n count interval (inl e) sum unstamped some from to = rw e (between_8 (rw e at unstamped) (rw e at some) (rw e at from) (rw e at to))
  where
    between_8 : count ≤ (8 - n % 256 % 8) % 8 → 1 ≤ n % 256 % 8 → n % 256 % 8 ≤ y → y < n % 256 % 8 + count → (8 - x % 256 % 8) % 8 + n % 256 % 8 ≡ y
    between_8 unstamped some from to = omega arith
between x y n count interval (inr (inl e)) sum unstamped some from to = rw e (between_16 (rw e at unstamped) (rw e at some) (rw e at from) (rw e at to))
  where
    between_16 : count ≤ (16 - n % 256 % 16) % 16 → 1 ≤ n % 256 % 16 → n % 256 % 16 ≤ y → y < n % 256 % 16 + count → (16 - x % 256 % 16) % 16 + n % 256 % 16 ≡ y
    between_16 unstamped some from to = omega arith
between x y n count interval (inr (inr e)) sum unstamped some from to = rw e (between_32 (rw e at unstamped) (rw e at some) (rw e at from) (rw e at to))
  where
    between_32 : count ≤ (32 - n % 256 % 32) % 32 → 1 ≤ n % 256 % 32 → n % 256 % 32 ≤ y → y < n % 256 % 32 + count → (32 - x % 256 % 32) % 32 + n % 256 % 32 ≡ y
    between_32 unstamped some from to = omega arith

back_few : (r interval m count : ℕ) → IsInterval interval → r ≡ m % 256 % interval → interval ≤ 8 * count → count ≤ (interval - r) % interval → (1 ≤ r) × ((r ≤ 7 * count) × (r ≤ m))
back_few r interval m count (inl e) is eighth unstamped = back_few_8 (rw e at is) (rw e at eighth) (rw e at unstamped)
  where
    back_few_8 : r ≡ m % 256 % 8 → 8 ≤ 8 * count → count ≤ (8 - r) % 8 → (1 ≤ r) × ((r ≤ 7 * count) × (r ≤ m))
    back_few_8 is eighth unstamped = (omega arith, (omega arith, omega arith))
back_few r interval m count (inr (inl e)) is eighth unstamped = back_few_16 (rw e at is) (rw e at eighth) (rw e at unstamped)
  where
    back_few_16 : r ≡ m % 256 % 16 → 16 ≤ 8 * count → count ≤ (16 - r) % 16 → (1 ≤ r) × ((r ≤ 7 * count) × (r ≤ m))
    back_few_16 is eighth unstamped = (omega arith, (omega arith, omega arith))
back_few r interval m count (inr (inr e)) is eighth unstamped = back_few_32 (rw e at is) (rw e at eighth) (rw e at unstamped)
  where
    back_few_32 : r ≡ m % 256 % 32 → 32 ≤ 8 * count → count ≤ (32 - r) % 32 → (1 ≤ r) × ((r ≤ 7 * count) × (r ≤ m))
    back_few_32 is eighth unstamped = (omega arith, (omega arith, omega arith))

few_packets : (d r count most : ℕ) → 1 ≤ count → r ≤ most * count → d * count < r + count → d ≤ most
few_packets d r count most some few times = elim (cases_lt most d) [
  | inl more ↦ let least : (most + 1) * count ≤ d * count = mul-le-mul_right count (omega arith) in absurd (omega arith)
  | inr not ↦ not
]

not_zero : (r : ℕ) → 1 ≤ r → (r == 0) ≡ false
not_zero r some = grind (arith, nat_tests)

not_more : (d : ℕ) → d ≤ 7 → nat_lt 7 d ≡ false
not_more d few = grind (arith, nat_tests)

is_below : (i count : ℕ) → i < count → nat_lt i count ≡ true
is_below i count h = grind (arith, nat_tests)

blocks_found : (plan : TalkPlan) (n : ℕ) → 1 ≤ plan.count → interval_of plan.rate ≤ 8 * plan.count → plan.count ≤ (interval_of plan.rate - dbc_of plan n % interval_of plan.rate) % interval_of plan.rate → IsFoundBefore (am824_kind plan) plan.count n
blocks_found plan n some eighth unstamped =
    let interval : ℕ = interval_of plan.rate in
    let of = interval_is plan.rate in
    let r : ℕ = dbc_of plan n % interval in
    let d : ℕ = div_ceil r plan.count in
    let back = back_few r interval (n * plan.count) plan.count of refl eighth unstamped in
    let times = div_ceil_times r plan.count some in
    let few : d ≤ 7 = few_packets d r plan.count 7 some back.1.0 times.1 in
    let before : d ≤ n = few_packets d r plan.count n some back.1.1 times.1 in
    let parts : (n - d) * plan.count + d * plan.count ≡ n * plan.count = whole (n - d) d n plan.count (omega arith) in
    let place = between ((n - d) * plan.count) (d * plan.count) (n * plan.count) plan.count interval of parts unstamped back.0 times.0 times.1 in
    record {
      is = record {
        far = record { packets = d; samples = r };
        is_far = rw (not_zero r back.0, not_more d few) refl;
        few = few;
        stamped = is_below ((interval - dbc_of plan (n - d) % interval) % interval) plan.count (omega (arith, place, times.1));
      };
      before = before;
    }

-- ---- all kinds

heads_by : (kind : TalkKind) (plan : TalkPlan) (input : List ℕ) (n : ℕ) → IsAudioKind kind → FitsPacket kind plan → 1 ≤ plan.count → HasEachHead kind plan.restart → IsSome (head_of (stream_by (audio_by kind plan) plan input).journal.times n)
heads_by (Aaf format false) plan input n audio fits some each = stamped_head (stream_by (audio_by (Aaf format false) plan) plan input).journal.times n refl
heads_by (Aaf format true) plan input n audio fits some each = head_by SparseAaf plan (stream_by (audio_by (Aaf format true) plan) plan input).journal.times.packets n (n % 8 == 0) each refl (λ none. eighth_found plan.count n none)
heads_by Am824 plan input n audio fits some each =
    let index : ℕ = (interval_of plan.rate - dbc_of plan n % interval_of plan.rate) % interval_of plan.rate in
    head_by (am824_kind plan) plan (stream_by (audio_by Am824 plan) plan input).journal.times.packets n (nat_lt index plan.count) each refl (λ none. blocks_found plan n some fits.some (not_below index plan.count none))
heads_by (H264 last_stamp) plan input n audio fits some each = absurd audio

pub each_head : (plan : TalkPlan) (input : List ℕ) (n : ℕ) → IsAudioPlan plan → HasEachHead plan.kind plan.restart → IsSome (head_of (journal plan input).times n)
each_head plan input n p each = heads_by plan.kind plan input n p.kind p.fits p.some_count each
