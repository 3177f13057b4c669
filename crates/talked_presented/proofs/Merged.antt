-- The frames of a plan: those of its stream and of its clock, merged in the order of sending.
use Rattle.std.proofs.Common.{◌≡◌, ℕ, zero, suc, ◌+◌, ◌-◌, ◌<◌, ◌≤◌, List, [], ◌∷◌, map, take, Some, inl, inr, refl, sym, ap, ◌∙◌, subst, arith, append-nil}
use Rattle.std.specs.Prelude.{slice_get}
use Rattle.std.specs.List.{AllByRecursion, range_with_len}
use Rattle.std.proofs.lemmas.Bool.{cases_lt}
use Rattle.crf_format.specs.Crf.{crf_spelling}
use Rattle.packet_journal.specs.Packets.{spelling_of}
use Rattle.packet_journal.specs.Carried.{AllCarryFrom, CarriesFrom}
use Rattle.packet_journal.specs.Delivered.{Origin, OfClock, OfStream, stream_numbers}
use Rattle.listener.specs.Known.{clock_numbers}
use Rattle.talk_plan.specs.declared.plan.TalkPlan.{TalkPlan}
use Rattle.talk_plan.specs.Plan.{Expects}
use Rattle.talk_plan.proofs.CountLemmas.{rises}
use Rattle.talk_clock.specs.Clock.{clock_bytes}
use Rattle.talk_plan.specs.Ethernet.{ethernet, packet_bytes}
use Rattle.talker.specs.Frames.{SentFrame, clock_frame_of, frame_of, record_of}
use Rattle.talker.specs.Journal.{Stream}
use Rattle.talker.specs.state.Frames.{left_of}
use Rattle.talker.proofs.StreamLemmas.{IsStream, clock_first, clocks_in, packet_first, packets_in, writable_frame}

-- the frame of the packet that an origin names
abbrev pub frame_by : Stream → Origin → SentFrame
frame_by s (OfStream n) = frame_of s n
frame_by s (OfClock m) = clock_frame_of s m

pub stream_frames_are : (s : Stream) (ks : List ℕ) → map (frame_by s) (map OfStream ks) ≡ map (frame_of s) ks
stream_frames_are s [] = refl
stream_frames_are s (k ∷ ks) = ap (λ (l : List SentFrame). frame_of s k ∷ l) (stream_frames_are s ks)

-- the sending time of the packet that an origin names
abbrev pub sent_by : Stream → Origin → ℕ
sent_by s (OfStream n) = s.arrival n
sent_by s (OfClock m) = s.clock_arrival m

-- the stream or its clock has the packet that an origin names
abbrev pub IsSent : Stream → Origin → Type 0
IsSent s (OfStream n) = n < packets_in s
IsSent s (OfClock m) = m < clocks_in s

-- ---- each frame carries its packet

pub carried_by : (plan : TalkPlan) (s : Stream) (lead : ℕ) (o : Origin) → IsStream plan s → Expects plan lead → IsSent s o → CarriesFrom s.journal lead o (record_of (frame_by s o))
unfolding packet_bytes clock_bytes
carried_by plan s lead (OfStream n) is expects sent =
    let packet : List ℕ = spelling_of (s.journal.packet n) in
    record {
      frame = ethernet packet;
      writable = writable_frame packet;
      bytes = refl;
      avtp = refl;
      packet = record { trail = []; whole = sym (append-nil packet) };
      arrival = s.arrival n;
      arrived = refl;
      delivered = is.on_time lead n expects sent;
    }
carried_by plan s lead (OfClock m) is expects sent =
    let packet : List ℕ = crf_spelling (s.journal.clock_packet m) in
    record {
      known = sent;
      frame = ethernet packet;
      writable = writable_frame packet;
      bytes = refl;
      avtp = refl;
      packet = record { trail = []; whole = sym (append-nil packet) };
    }

pub all_by : (plan : TalkPlan) (s : Stream) (lead : ℕ) (os : List Origin) → IsStream plan s → Expects plan lead → AllByRecursion (IsSent s) os → AllCarryFrom s.journal lead os (map record_of (map (frame_by s) os))
all_by plan s lead [] is expects all = tt
all_by plan s lead (o ∷ os) is expects all = (carried_by plan s lead o is expects all.0, all_by plan s lead os is expects all.1)

-- ---- in the order of sending

-- after `a` packets of the clock and `b` packets of the stream, packet m of the clock is sent next
pub record IsClockNext (s : Stream) (a b m : ℕ) : Type 0 where
  pub same : m ≡ a
  pub known : a < clocks_in s
  pub first : (k : ℕ) → b ≤ k → k < packets_in s → s.clock_arrival a ≤ s.arrival k

-- after `a` packets of the clock and `b` packets of the stream, packet n of the stream is sent next
pub record IsStreamNext (s : Stream) (a b n : ℕ) : Type 0 where
  pub same : n ≡ b
  pub known : b < packets_in s
  pub first : (m : ℕ) → a ≤ m → m < clocks_in s → s.arrival b < s.clock_arrival m

-- after `a` packets of the clock and `b` packets of the stream, the list names the packets that remain, in the order of
-- sending
abbrev pub AreMerged : Stream → ℕ → ℕ → List Origin → Type 0
AreMerged s a b [] = (clocks_in s ≤ a) × (packets_in s ≤ b)
AreMerged s a b (OfClock m ∷ os) = IsClockNext s a b m × AreMerged s (a + 1) b os
AreMerged s a b (OfStream n ∷ os) = IsStreamNext s a b n × AreMerged s a (b + 1) os

pub record HasMerged (s : Stream) (a b : ℕ) : Type 0 where
  pub origins : List Origin
  pub merged : AreMerged s a b origins
  pub frames : left_of s a b ≡ map (frame_by s) origins
  pub sent : AllByRecursion (IsSent s) origins

none_left : (s : Stream) (a b : ℕ) → clocks_in s ≤ a → packets_in s ≤ b → left_of s a b ≡ []
none_left s a b clocks packets =
    let c : clocks_in s - a ≡ 0 = omega (arith, clocks) in
    let p : packets_in s - b ≡ 0 = omega (arith, packets) in
    rw (c, p) refl

clock_next : (plan : TalkPlan) (s : Stream) (a b : ℕ) → IsStream plan s → a < clocks_in s → ((k : ℕ) → b ≤ k → k < packets_in s → s.clock_arrival a ≤ s.arrival k) → HasMerged s (a + 1) b → HasMerged s a b
clock_next plan s a b is known first rest = record {
  origins = OfClock a ∷ rest.origins;
  merged = (record { same = refl; known = known; first = first }, rest.merged);
  frames = clock_first plan s a b is known first ∙ ap (λ (l : List SentFrame). clock_frame_of s a ∷ l) rest.frames;
  sent = (known, rest.sent);
}

stream_next : (plan : TalkPlan) (s : Stream) (a b : ℕ) → IsStream plan s → b < packets_in s → ((m : ℕ) → a ≤ m → m < clocks_in s → s.arrival b < s.clock_arrival m) → HasMerged s a (b + 1) → HasMerged s a b
stream_next plan s a b is known first rest = record {
  origins = OfStream b ∷ rest.origins;
  merged = (record { same = refl; known = known; first = first }, rest.merged);
  frames = packet_first plan s a b is known first ∙ ap (λ (l : List SentFrame). frame_of s b ∷ l) rest.frames;
  sent = (known, rest.sent);
}

merge : (fuel : ℕ) (plan : TalkPlan) (s : Stream) (a b : ℕ) → IsStream plan s → clocks_in s - a + (packets_in s - b) ≡ fuel → HasMerged s a b
merge zero plan s a b is e =
    record { origins = []; merged = (omega arith, omega arith); frames = none_left s a b (omega arith) (omega arith); sent = tt }
merge (suc fuel) plan s a b is e = elim (cases_lt a (clocks_in s)) [
  | inl clock ↦ elim (cases_lt b (packets_in s)) [
    | inl packet ↦ elim (cases_lt (s.arrival b) (s.clock_arrival a)) [
      | inl sooner ↦ stream_next plan s a b is packet (λ m from below. omega (arith, sooner, rises s.clock_arrival is.clock_rising a m from)) (merge fuel plan s a (b + 1) is (omega (arith, e, packet)))
      | inr not ↦ clock_next plan s a b is clock (λ k from below. omega (arith, not, rises s.arrival is.rising b k from)) (merge fuel plan s (a + 1) b is (omega (arith, e, clock)))
    ]
    | inr ended ↦ clock_next plan s a b is clock (λ k from below. absurd (omega (arith, ended, from, below))) (merge fuel plan s (a + 1) b is (omega (arith, e, clock)))
  ]
  | inr ended ↦ elim (cases_lt b (packets_in s)) [
    | inl packet ↦ stream_next plan s a b is packet (λ m from below. absurd (omega (arith, ended, from, below))) (merge fuel plan s a (b + 1) is (omega (arith, e, packet)))
    | inr done ↦ absurd (omega (arith, e, ended, done))
  ]
]

pub all_merged : (plan : TalkPlan) (s : Stream) → IsStream plan s → HasMerged s 0 0
all_merged plan s is = merge (clocks_in s - 0 + (packets_in s - 0)) plan s 0 0 is refl

-- ---- the index of a packet of the stream

-- Packet n of the stream is at index `i` of `os`. The entries before index `i` are packets of two kinds, in the order
-- of sending: the stream's packets from `b` to n - 1, and the clock's packets from `a` on that are sent before packet
-- n.
pub record IsPlaced (s : Stream) (a b : ℕ) (os : List Origin) (i n : ℕ) : Type 0 where
  pub low : b ≤ n
  pub known : n < packets_in s
  pub numbers : stream_numbers (take i os) ≡ range_with_len b (n - b)
  pub clocks : ℕ
  pub clocks_from : a ≤ clocks
  pub clocks_to : clocks ≤ clocks_in s
  pub clock_numbers_are : clock_numbers (take (suc i) os) ≡ range_with_len a (clocks - a)
  pub sent : (m : ℕ) → a ≤ m → m < clocks → s.clock_arrival m ≤ s.arrival n
  pub not_sent : (m : ℕ) → clocks ≤ m → m < clocks_in s → s.arrival n < s.clock_arrival m
  pub before : (j : ℕ) (o : Origin) → j ≤ i → slice_get os j ≡ Some o → sent_by s o ≤ s.arrival n

more_range : (a k : ℕ) (ns : List ℕ) → a < k → ns ≡ range_with_len (a + 1) (k - (a + 1)) → a ∷ ns ≡ range_with_len a (k - a)
more_range a k ns lt e = let long : k - a ≡ suc (k - (a + 1)) = omega (arith, lt) in rw long (ap (λ (l : List ℕ). a ∷ l) e)

pub placed : (plan : TalkPlan) (s : Stream) (a b : ℕ) (os : List Origin) (i n : ℕ) → IsStream plan s → a ≤ clocks_in s → AreMerged s a b os → slice_get os i ≡ Some (OfStream n) → IsPlaced s a b os i n
placed plan s a b [] i n is least merged at = absurd cc
placed plan s a b (OfClock m ∷ os) zero n is least merged at = absurd cc
placed plan s a b (OfClock m ∷ os) (suc i) n is least merged at =
    let here = merged.0 in
    let rest = placed plan s (a + 1) b os i n is (let k = here.known in omega arith) merged.1 at in
    let first = rest.clocks_from in
    record {
      low = rest.low;
      known = rest.known;
      numbers = rest.numbers;
      clocks = rest.clocks;
      clocks_from = omega arith;
      clocks_to = rest.clocks_to;
      clock_numbers_are = ap (λ (k : ℕ). k ∷ clock_numbers (take (suc i) os)) here.same ∙ more_range a rest.clocks (clock_numbers (take (suc i) os)) (omega arith) rest.clock_numbers_are;
      sent = λ k from below. elim (cases_lt a k) [
        | inl later ↦ rest.sent k (omega arith) below
        | inr not ↦ let same : a ≡ k = omega (arith, from) in subst (λ (x : ℕ). s.clock_arrival x ≤ s.arrival n) same (here.first n rest.low rest.known)
      ];
      not_sent = rest.not_sent;
      before = λ j o le there. before here.same (here.first n rest.low rest.known) (λ k o le there. rest.before k o le there) j o le there;
    }
  where
    before : m ≡ a → s.clock_arrival a ≤ s.arrival n → ((j : ℕ) (o : Origin) → j ≤ i → slice_get os j ≡ Some o → sent_by s o ≤ s.arrival n) → (j : ℕ) (o : Origin) → j ≤ suc i → slice_get (OfClock m ∷ os) j ≡ Some o → sent_by s o ≤ s.arrival n
    before e first rest zero o le there = let same : OfClock m ≡ o = cc in subst (λ (x : Origin). sent_by s x ≤ s.arrival n) same (rw e first)
    before e first rest (suc j) o le there = rest j o (omega arith) there
placed plan s a b (OfStream k ∷ os) zero n is least merged at =
    let here = merged.0 in
    let same : n ≡ b = (let e : k ≡ n = cc in sym e) ∙ here.same in
    let none : n - b ≡ 0 = omega (arith, same) in
    let no_clock : a - a ≡ 0 = omega arith in
    record {
      low = omega (arith, same);
      known = let lt = here.known in omega (arith, same);
      numbers = rw none refl;
      clocks = a;
      clocks_from = omega arith;
      clocks_to = least;
      clock_numbers_are = rw no_clock refl;
      sent = λ m from below. absurd (omega (arith, from, below));
      not_sent = λ m from below. subst (λ (x : ℕ). s.arrival x < s.clock_arrival m) (sym same) (here.first m from below);
      before = λ j o le there. only (let e : k ≡ n = cc in e) j o le there;
    }
  where
    only : k ≡ n → (j : ℕ) (o : Origin) → j ≤ 0 → slice_get (OfStream k ∷ os) j ≡ Some o → sent_by s o ≤ s.arrival n
    only e zero o le there = let same : OfStream k ≡ o = cc in subst (λ (x : Origin). sent_by s x ≤ s.arrival n) same (rw e (omega arith))
    only e (suc j) o le there = absurd (omega arith)
placed plan s a b (OfStream k ∷ os) (suc i) n is least merged at =
    let here = merged.0 in
    let rest = placed plan s a (b + 1) os i n is least merged.1 at in
    let low = rest.low in
    record {
      low = omega arith;
      known = rest.known;
      numbers = ap (λ (x : ℕ). x ∷ stream_numbers (take i os)) here.same ∙ more_range b n (stream_numbers (take i os)) (omega arith) rest.numbers;
      clocks = rest.clocks;
      clocks_from = rest.clocks_from;
      clocks_to = rest.clocks_to;
      clock_numbers_are = rest.clock_numbers_are;
      sent = rest.sent;
      not_sent = rest.not_sent;
      before = λ j o le there. before (omega (arith, here.same, low)) (λ k o le there. rest.before k o le there) j o le there;
    }
  where
    before : k ≤ n → ((j : ℕ) (o : Origin) → j ≤ i → slice_get os j ≡ Some o → sent_by s o ≤ s.arrival n) → (j : ℕ) (o : Origin) → j ≤ suc i → slice_get (OfStream k ∷ os) j ≡ Some o → sent_by s o ≤ s.arrival n
    before e rest zero o le there = let same : OfStream k ≡ o = cc in subst (λ (x : Origin). sent_by s x ≤ s.arrival n) same (rises s.arrival is.rising k n e)
    before e rest (suc j) o le there = rest j o (omega arith) there

-- each packet of the stream that is left has an index in the list
pub has_place : (s : Stream) (a b : ℕ) (os : List Origin) (n : ℕ) → AreMerged s a b os → b ≤ n → n < packets_in s → (i : ℕ) × (slice_get os i ≡ Some (OfStream n))
has_place s a b [] n merged low lt = absurd (omega (arith, merged.1))
has_place s a b (OfClock m ∷ os) n merged low lt = let rest = has_place s (a + 1) b os n merged.1 low lt in (suc rest.0, rest.1)
has_place s a b (OfStream k ∷ os) n merged low lt = elim (cases_lt b n) [
  | inl later ↦ let rest = has_place s a (b + 1) os n merged.1 (omega arith) lt in (suc rest.0, rest.1)
  | inr not ↦ let same : k ≡ n = omega (arith, merged.0.same, low) in (0, ap (λ (x : ℕ). Some (OfStream x)) same)
]
