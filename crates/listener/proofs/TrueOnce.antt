-- No packet is presented twice. If two listeners both use the clock, or neither does, they present the same samples of
-- a packet.
use Rattle.std.proofs.Common.{◌≡◌, ℕ, ◌+◌, ◌%◌, ◌<◌, Bool, true, false, ℤ, pos, List, [], ◌∷◌, All, refl, sym, ap, ◌∙◌, subst, inl, inr, arith}
use Rattle.std.specs.Prelude.{AllPairs, map}
use Rattle.std.specs.List.{AllByRecursion}
use Rattle.std.proofs.lemmas.Bool.{cases_lt}
use Rattle.std.proofs.lemmas.Int.{ints}
use Rattle.std.proofs.lemmas.List.Elements.{All-cons, All-head, All-nil, All-tail}
use Rattle.std.proofs.lemmas.List.Kept.{AllPairs-cons}
use Rattle.clock_track.specs.Rows.{clock_spot}
use Rattle.pcap_frames.specs.Capture.{Record}
use Rattle.stream_journal.specs.Journal.{IsAt, IsAtBy, IsAtNominal, Journal, Kind, DenseAaf, SparseAaf, Am824, H264, Part}
use Rattle.stream_journal.specs.Conforming.{Conforms, IsAudio, IsOfKind, IsVideo}
use Rattle.stream_journal.specs.Delivered.{IsAudioKind}
use Rattle.stream_journal.proofs.ByClock.{told_apart}
use Rattle.stream_journal.proofs.OneInstant.{one_instant}
use Rattle.stream_journal.proofs.Spacing.{rising}
use Rattle.sample_schedule.specs.declared.accepted.Accepted.{Accepted}
use Rattle.sample_schedule.specs.Batches.{Presented, sample_instant}
use Rattle.sample_schedule.specs.Laws.{IsNoCopy, Pairwise, presented}
use Rattle.sample_schedule.specs.Schedule.{given}
use Rattle.sample_schedule.proofs.LawLemmas.{presented-distinct}
use Rattle.packet_journal.specs.Packets.{PacketJournal}
use Rattle.packet_journal.specs.Units.{AreUnit, IsContent, IsContentBy, unit_bytes}
use Rattle.listener.specs.declared.plan.ListenPlan.{ListenPlan}
use Rattle.listener.specs.Heard.{entries_in, schedule_plan, shown_of}
use Rattle.listener.specs.Laws.{Agree, AreOther, AreSame, HearsTalker, IsOfPacket, by_clock, presented_of, sample_count}
use Rattle.listener.proofs.TrueList.{IsTrueAccepted, audio, batches_are, given_true}
use Rattle.listener.proofs.TrueUnits.{video}

-- ---- copies of one packet have the same samples

one_start : (part : ℕ → Part) (from other n : ℕ) → AreUnit part from n → AreUnit part other n → from ≡ other
one_start part from other n (inl a) (inl b) = a.0 ∙ sym b.0
one_start part from other n (inl a) (inr b) = absurd (let e = sym a.1 ∙ b.last in cc)
one_start part from other n (inr a) (inl b) = absurd (let e = sym b.1 ∙ a.last in cc)
one_start part from other n (inr a) (inr b) = elim (cases_lt from other) [
  | inl before ↦ absurd (let e = sym b.first ∙ a.middle other before b.some in cc)
  | inr past ↦ elim (cases_lt other from) [
    | inl before ↦ absurd (let e = sym a.first ∙ b.middle from before a.some in cc)
    | inr within ↦ omega arith
  ]
]

one_content : (kind : Kind) (p : PacketJournal) (n : ℕ) (a b : List ℕ) → IsContentBy kind p n a → IsContentBy kind p n b → a ≡ b
one_content DenseAaf p n a b x y = x ∙ sym y
one_content SparseAaf p n a b x y = x ∙ sym y
one_content (Am824 interval dbc) p n a b x y = x ∙ sym y
one_content (H264 part) p n a b x y = x.bytes ∙ (ap (λ (k : ℕ). unit_bytes p k n) (one_start part x.from y.from n x.packets y.packets) ∙ sym y.bytes)

pub same_content : (p : PacketJournal) (n : ℕ) (a b : List ℕ) → IsContent p n a → IsContent p n b → a ≡ b
same_content p n a b x y = one_content p.times.kind p n a b x y

pub same_samples : (by : Bool) (p : PacketJournal) (n : ℕ) (a b : Presented) → Conforms p.times → IsOfPacket by p n a → IsOfPacket by p n b → AreSame a b
same_samples by p n a b is x y = record {
  count = x.count ∙ sym y.count;
  bytes = same_content p n a.bytes b.bytes x.bytes y.bytes;
  instants = λ k lt. one_instant p.times is by n k (sample_instant a k) (sample_instant b k) x.known (x.instants k lt) (y.instants k (subst (λ (c : ℕ). k < c) (x.count ∙ sym y.count) lt));
}

-- ---- no packet is presented twice

some_samples : (kind : Kind) (j : Journal) → IsOfKind kind j → 0 < sample_count kind j.count
some_samples DenseAaf j is = let some = is.0.some in omega arith
some_samples SparseAaf j is = let some = is.0.some in omega arith
some_samples (Am824 interval dbc) j is = let some = is.0.some in omega arith
some_samples (H264 part) j is = omega arith

has_first : (by : Bool) (p : PacketJournal) (n : ℕ) (a : Presented) → Conforms p.times → IsOfPacket by p n a → 0 < a.count
has_first by p n a is x = rw x.count (some_samples p.times.kind p.times is.kind)

pub first_at : (by : Bool) (p : PacketJournal) (n : ℕ) (a : Presented) → Conforms p.times → IsOfPacket by p n a → IsAt by p.times n 0 (sample_instant a 0)
first_at by p n a is x = x.instants 0 (has_first by p n a is x)

differ : (by : Bool) (p : PacketJournal) (a b : Accepted) → Conforms p.times → IsTrueAccepted by p a → IsTrueAccepted by p b → IsNoCopy a b → AreOther by p a.batch b.batch
differ by p a b is s t other n x y =
    let same = (same_samples by p n a.batch b.batch is x y).instants 0 (has_first by p n a.batch is x) in
    other (s.instant ∙ (same ∙ sym t.instant)) (x.seq ∙ sym y.seq)

differ_all : (by : Bool) (p : PacketJournal) (a : Accepted) (rest : List Accepted) → Conforms p.times → IsTrueAccepted by p a → All (IsTrueAccepted by p) rest → AllByRecursion (IsNoCopy a) rest
    → All (AreOther by p a.batch) (map (λ (b : Accepted). b.batch) rest)
differ_all by p a [] is s all others = All-nil (AreOther by p a.batch)
differ_all by p a (b ∷ rest) is s all others =
    All-cons (AreOther by p a.batch) b.batch (map (λ (b : Accepted). b.batch) rest) (differ by p a b is s (All-head (IsTrueAccepted by p) b rest all) others.0)
    (differ_all by p a rest is s (All-tail (IsTrueAccepted by p) b rest all) others.1)

each_once : (by : Bool) (p : PacketJournal) (xs : List Accepted) → Conforms p.times → All (IsTrueAccepted by p) xs → Pairwise IsNoCopy xs → AllPairs (AreOther by p) (map (λ (a : Accepted). a.batch) xs)
each_once by p [] is all others = λ i j d lt within. absurd (omega arith)
each_once by p (a ∷ rest) is all others =
    AllPairs-cons (AreOther by p) a.batch (map (λ (b : Accepted). b.batch) rest)
    (differ_all by p a rest is (All-head (IsTrueAccepted by p) a rest all) (All-tail (IsTrueAccepted by p) a rest all) others.0)
    (each_once by p rest is (All-tail (IsTrueAccepted by p) a rest all) others.1)

pub presented_once : (shift : ℤ) (p : PacketJournal) (plan : ListenPlan) (records : List Record) → HearsTalker shift p plan records
    → AllPairs (AreOther (by_clock plan) p) (presented_of (shown_of plan records))
presented_once shift p plan records h =
    let es = entries_in plan records in
    let gs = given clock_spot (schedule_plan plan) es in
    subst (λ (l : List Presented). AllPairs (AreOther (by_clock plan) p) l) (sym (batches_are gs))
    (each_once (by_clock plan) p (presented gs) h.conforming.times (given_true shift p plan records h) (presented-distinct clock_spot (schedule_plan plan) es))

-- ---- no batch is two different packets

at_nominal : (kind : Kind) (j : Journal) (n k : ℕ) (instant : ℤ) → IsAudioKind kind → IsAtBy kind false j n k instant → IsAtNominal j n k instant
at_nominal DenseAaf j n k instant heard at = at
at_nominal SparseAaf j n k instant heard at = at
at_nominal (Am824 interval dbc) j n k instant heard at = at
at_nominal (H264 part) j n k instant heard at = absurd heard

pub nominal_due : (j : Journal) (n : ℕ) (instant : ℤ) → IsAudioKind j.kind → IsAudio j → n < j.packets → IsAt false j n 0 instant → instant ≡ pos (j.due n)
nominal_due j n instant heard is known at =
    let x = at_nominal j.kind j n 0 instant heard at in
    x.at ∙ sym (is.first_instants n x.head known x.is_head)

pub one_due : (a b : ℕ) (z : ℤ) → z ≡ pos a → z ≡ pos b → a ≡ b
one_due a b z e f = omega (arith, ints)

due_once : (j : Journal) (n m : ℕ) → IsAudio j → n < j.packets → m < j.packets → j.due n ≡ j.due m → n ≡ m
due_once j n m is here there same = elim (cases_lt n m) [
  | inl before ↦ let later = rising j is n m before there in absurd (omega arith)
  | inr behind ↦ elim (cases_lt m n) [
    | inl before ↦ let later = rising j is m n before here in absurd (omega arith)
    | inr within ↦ omega arith
  ]
]

audio_packet : (by : Bool) (p : PacketJournal) (n m : ℕ) (x : ℤ) → IsAudioKind p.times.kind → Conforms p.times → n < p.times.packets → m < p.times.packets → n % 256 ≡ m % 256 → IsAt by p.times n 0 x → IsAt by p.times m 0 x → n ≡ m
audio_packet true p n m x heard is here there seq a b = told_apart p.times n m x is heard here there seq a b
audio_packet false p n m x heard is here there seq a b =
    let sound = audio p heard is in
    due_once p.times n m sound here there (one_due (p.times.due n) (p.times.due m) x (nominal_due p.times n x heard sound here a) (nominal_due p.times m x heard sound there b))

-- An access unit has at most 255 packets, so its packets have different sequence numbers.
few_apart : (n m : ℕ) → n % 256 ≡ m % 256 → n < m + 255 → m < n + 255 → n ≡ m
few_apart n m e low high = omega arith

video_packet : (by : Bool) (p : PacketJournal) (part : ℕ → Part) (n m : ℕ) (x : ℤ) → p.times.kind ≡ H264 part → IsVideo p.times part → n < p.times.packets → m < p.times.packets → n % 256 ≡ m % 256 → IsAt by p.times n 0 x → IsAt by p.times m 0 x → n ≡ m
video_packet by p part n m x kind is here there seq a b =
    let first : IsAtBy (H264 part) by p.times n 0 x = subst (λ (k : Kind). IsAtBy k by p.times n 0 x) kind a in
    let second : IsAtBy (H264 part) by p.times m 0 x = subst (λ (k : Kind). IsAtBy k by p.times m 0 x) kind b in
    let same = one_due (p.times.due n) (p.times.due m) x first.1 second.1 in
    few_apart n m seq (is.few m n here (sym same)) (is.few n m there same)

packet_by : (kind : Kind) (by : Bool) (p : PacketJournal) (n m : ℕ) (x : ℤ) → p.times.kind ≡ kind → Conforms p.times → n < p.times.packets → m < p.times.packets → n % 256 ≡ m % 256 → IsAt by p.times n 0 x → IsAt by p.times m 0 x → n ≡ m
packet_by DenseAaf by p n m x kind is here there seq a b = audio_packet by p n m x (rw kind tt) is here there seq a b
packet_by SparseAaf by p n m x kind is here there seq a b = audio_packet by p n m x (rw kind tt) is here there seq a b
packet_by (Am824 interval dbc) by p n m x kind is here there seq a b = audio_packet by p n m x (rw kind tt) is here there seq a b
packet_by (H264 part) by p n m x kind is here there seq a b = video_packet by p part n m x kind (video p part kind is) here there seq a b

pub one_packet : (by : Bool) (p : PacketJournal) (n m : ℕ) (x : ℤ) → Conforms p.times → n < p.times.packets → m < p.times.packets → n % 256 ≡ m % 256 → IsAt by p.times n 0 x → IsAt by p.times m 0 x → n ≡ m
one_packet by p n m x is here there seq a b = packet_by p.times.kind by p n m x refl is here there seq a b

pub one_number : (by : Bool) (p : PacketJournal) (n m : ℕ) (a : Presented) → Conforms p.times → IsOfPacket by p n a → IsOfPacket by p m a → n ≡ m
one_number by p n m a is x y =
    one_packet by p n m (sample_instant a 0) is x.known y.known (sym x.seq ∙ y.seq) (first_at by p n a is x) (first_at by p m a is y)

-- ---- two listeners

agree_all : (by : Bool) (p : PacketJournal) (a : Presented) (bs : List Presented) → Conforms p.times → All (Agree by p a) bs
agree_all by p a [] is = All-nil (Agree by p a)
agree_all by p a (b ∷ bs) is = All-cons (Agree by p a) b bs (λ n x y. same_samples by p n a b is x y) (agree_all by p a bs is)

pub all_agree : (by : Bool) (p : PacketJournal) (xs bs : List Presented) → Conforms p.times → All (λ a. All (Agree by p a) bs) xs
all_agree by p [] bs is = All-nil (λ a. All (Agree by p a) bs)
all_agree by p (a ∷ xs) bs is = All-cons (λ a. All (Agree by p a) bs) a xs (agree_all by p a bs is) (all_agree by p xs bs is)
