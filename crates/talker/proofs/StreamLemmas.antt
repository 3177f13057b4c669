-- What holds for the stream of every plan, and what follows for its frames and their captures.
use Rattle.std.proofs.Common.{◌≡◌, ◌⊎◌, inl, inr, ℕ, zero, suc, ◌+◌, ◌-◌, ◌*◌, ◌^◌, ◌<◌, ◌≤◌, true, false, List, [], ◌∷◌, ◌++◌, map, length, Option, Some, None}
use Rattle.std.proofs.Common.{pos, refl, sym, subst, ap, ◌∙◌, arith}
use Rattle.std.specs.Prelude.{int_le, slice_get, IfSome}
use Rattle.std.specs.List.{AllByRecursion, cons_option, filter_map, list_any, range_with_len}
use Rattle.std.proofs.Math.Nat.{mod-one}
use Rattle.std.proofs.lemmas.Bool.{le-leb, lt-leb}
use Rattle.std.proofs.lemmas.Int.{ints}
use Rattle.std.proofs.lemmas.List.{append-nil, length-append}
use Rattle.std.proofs.lemmas.List.FromFn.{length-map-range_with_len}
use Rattle.pcap_frames.specs.Capture.{HasSpelling}
use Rattle.pcap_frames.specs.Frame.{IsWritableFrame, SpellsFrame}
use Rattle.pcap_frames.proofs.FrameLemmas.{frame_again}
use Rattle.stream_journal.specs.Delivered.{AreNear, IsDelivered}
use Rattle.crf_format.specs.Crf.{crf_spelling}
use Rattle.stream_journal.specs.Regular.{IsRegular}
use Rattle.packet_journal.specs.Carried.{AllCarry, AllCarryFrom, Carries, CarriesClock}
use Rattle.packet_journal.specs.Delivered.{OfClock, OfStream, Origin, stream_numbers}
use Rattle.stream_journal.specs.Journal.{Journal}
use Rattle.packet_journal.specs.Packets.{IsConforming, PacketJournal, PacketView, spelling_of}
use Rattle.talk_plan.specs.declared.plan.TalkPlan.{TalkPlan}
use Rattle.talker.specs.Frames.{SentFrame, StaysNearBy, by_arrival, capture_style, clock_frame_of, frame_of, numbered_clock, numbered_frames, packet_numbers}
use Rattle.talker.specs.Frames.{record_of}
use Rattle.talk_clock.specs.Clock.{clock_bytes}
use Rattle.talk_plan.specs.Ethernet.{ethernet, packet_bytes}
use Rattle.talker.specs.state.Frames.{left_of}
use Rattle.talker.specs.Journal.{Stream}
use Rattle.talk_plan.specs.Plan.{Expects, IsAhead}
use Rattle.talker.proofs.FrameLemmas.{AllLater, NotBefore, all_of, comes_first, each, each_from, in_order, length_sorted, none_of, numbered, sorted_all}
use Rattle.talker.proofs.FrameLemmas.{stays_first}
use Rattle.talk_plan.proofs.CountLemmas.{rises}

abbrev pub packets_in : Stream → ℕ
packets_in s = s.journal.times.packets

abbrev pub clocks_in : Stream → ℕ
clocks_in s = s.journal.times.clock.packets

-- What holds for the stream of every plan.
pub record IsStream (plan : TalkPlan) (s : Stream) : Type 0 where
  -- No packet is sent before its predecessor. Each packet is sent before the instant 2^32 seconds, so a capture can
  -- record it.
  pub rising : (n : ℕ) → s.arrival n ≤ s.arrival (n + 1)
  pub sent : (n : ℕ) → n < packets_in s → s.arrival n < 2 ^ 32 * 1000000000
  -- no packet is sent after it is due
  pub early : (n : ℕ) → IsAhead plan.crf plan.lead → n < packets_in s → s.arrival n ≤ s.journal.times.due n
  -- the frame of each packet fits Ethernet
  pub size : (n : ℕ) → n < packets_in s → length (packet_bytes (s.journal.packet n)) ≤ 1518
  -- No packet of the clock is sent before its predecessor. Each packet of the clock is sent before the instant 2^32
  -- seconds, and its frame fits Ethernet.
  pub clock_rising : (m : ℕ) → s.clock_arrival m ≤ s.clock_arrival (m + 1)
  pub clock_sent : (m : ℕ) → m < clocks_in s → s.clock_arrival m < 2 ^ 32 * 1000000000
  pub clock_size : (m : ℕ) → m < clocks_in s → length (clock_bytes (s.journal.clock_packet m)) ≤ 1518
  -- the journal keeps the rules of talkers
  pub conforms : plan.id < 2 ^ 64 → IsConforming (pos 0) s.journal
  pub regular : IsRegular s.journal.times
  -- each packet is delivered to a listener that expects `lead`
  pub on_time : (lead n : ℕ) → Expects plan lead → n < packets_in s → IsDelivered s.journal.times lead (record { number = n; arrival = s.arrival n })
  pub near : (numbers : List ℕ) → StaysNearBy plan.kind s.journal.times numbers → AreNear s.journal.times numbers

-- ---- the frames of a stream

pub in_turn : (plan : TalkPlan) (s : Stream) → IsStream plan s → by_arrival (numbered_frames s) ≡ numbered_frames s
in_turn plan s is =
    let rises : (k : ℕ) → int_le (pos (s.arrival k)) (pos (s.arrival (k + 1))) ≡ true = λ k. le-leb _ _ (is.rising k) in
    in_order (frame_of s) rises 0 (packets_in s)

pub count_of : (s : Stream) → length (numbered_frames s) ≡ packets_in s
count_of s = length-map-range_with_len (frame_of s) 0 (packets_in s)

pub at_number : (s : Stream) (n : ℕ) → n < packets_in s → slice_get (numbered_frames s) n ≡ Some (frame_of s n)
at_number s n h = numbered (frame_of s) 0 (packets_in s) n n h (omega arith)

pub writable_frame : (packet : List ℕ) → IsWritableFrame (ethernet packet)
writable_frame packet = record {
  dst = omega arith;
  src = omega arith;
  ethertype = omega arith;
  tag = (omega arith, omega arith);
  untagged = tt;
}

pub frame_spells : (packet : PacketView) → SpellsFrame (packet_bytes packet) (ethernet (spelling_of packet))
unfolding packet_bytes
frame_spells packet = frame_again (ethernet (spelling_of packet)) (writable_frame (spelling_of packet))

pub has_spelling : (plan : TalkPlan) (s : Stream) (n : ℕ) → IsStream plan s → n < packets_in s → HasSpelling capture_style (record_of (frame_of s n))
has_spelling plan s n is h =
    let sent = is.sent n h in
    let size = is.size n h in
    record {
      begun = omega (arith, ints);
      ended = omega (arith, ints);
      whole = mod-one (s.arrival n);
      orig_len = omega arith;
      limit = omega arith;
    }

pub clock_has_spelling : (plan : TalkPlan) (s : Stream) (m : ℕ) → IsStream plan s → m < clocks_in s → HasSpelling capture_style (record_of (clock_frame_of s m))
clock_has_spelling plan s m is h =
    let sent = is.clock_sent m h in
    let size = is.clock_size m h in
    record {
      begun = omega (arith, ints);
      ended = omega (arith, ints);
      whole = mod-one (s.clock_arrival m);
      orig_len = omega arith;
      limit = omega arith;
    }

-- ---- all frames

pub record IsStreamFrame (s : Stream) (f : SentFrame) : Type 0 where
  pub number : ℕ
  pub known : number < packets_in s
  pub same : f ≡ frame_of s number

pub record IsClockFrame (s : Stream) (f : SentFrame) : Type 0 where
  pub number : ℕ
  pub known : number < clocks_in s
  pub same : f ≡ clock_frame_of s number

-- `f` is the frame of a packet of the stream or of the clock
abbrev pub IsFrameOf : Stream → SentFrame → Type 0
IsFrameOf s f = IsStreamFrame s f ⊎ IsClockFrame s f

abbrev pub frames_of : Stream → List SentFrame
frames_of s = by_arrival (numbered_clock s ++ numbered_frames s)

pub all_frames : (s : Stream) → AllByRecursion (IsFrameOf s) (frames_of s)
all_frames s =
    sorted_all (IsFrameOf s) (numbered_clock s ++ numbered_frames s)
    (all_of (IsFrameOf s) (numbered_clock s) (numbered_frames s)
    (each (clock_frame_of s) (IsFrameOf s) 0 (clocks_in s) (λ k h. inr (record { number = k; known = omega arith; same = refl })))
    (each (frame_of s) (IsFrameOf s) 0 (packets_in s) (λ k h. inl (record { number = k; known = omega arith; same = refl }))))

not_late : (plan : TalkPlan) (s : Stream) (f : SentFrame) → IsStream plan s → IsFrameOf s f → int_le (pos (2 ^ 32 * 1000000000)) f.arrival ≡ false
not_late plan s f is (inl of) =
    let P : SentFrame → Type 0 = λ f. int_le (pos (2 ^ 32 * 1000000000)) f.arrival ≡ false in
    subst P (sym of.same) (lt-leb (2 ^ 32 * 1000000000) (s.arrival of.number) (is.sent of.number of.known))
not_late plan s f is (inr of) =
    let P : SentFrame → Type 0 = λ f. int_le (pos (2 ^ 32 * 1000000000)) f.arrival ≡ false in
    subst P (sym of.same) (lt-leb (2 ^ 32 * 1000000000) (s.clock_arrival of.number) (is.clock_sent of.number of.known))

mapped : (P Q : SentFrame → Type 0) (fs : List SentFrame) → ((f : SentFrame) → P f → Q f) → AllByRecursion P fs → AllByRecursion Q fs
mapped P Q [] each all = tt
mapped P Q (f ∷ fs) each all = (each f all.0, mapped P Q fs each all.1)

pub never_late : (plan : TalkPlan) (s : Stream) → IsStream plan s → list_any (λ f. int_le (pos (2 ^ 32 * 1000000000)) f.arrival) (frames_of s) ≡ false
never_late plan s is =
    none_of (λ f. int_le (pos (2 ^ 32 * 1000000000)) f.arrival) (frames_of s)
    (mapped (IsFrameOf s) (λ f. int_le (pos (2 ^ 32 * 1000000000)) f.arrival ≡ false) (frames_of s) (λ f of. not_late plan s f is of) (all_frames s))

-- ---- some frames of a stream

pub at_place : {X : Type 0} (P : X → Type 0) (xs : List X) (k : ℕ) → AllByRecursion P xs → IfSome (slice_get xs k) P
at_place P [] k all = tt
at_place P (x ∷ xs) zero all = all.0
at_place P (x ∷ xs) (suc k) all = at_place P xs k all.1

kept : {X Y : Type 0} (P : Y → Type 0) (h : X → Option Y) (xs : List X) → ((x : X) → IfSome (h x) P) → AllByRecursion P (filter_map h xs)
kept P h [] each = tt
kept P h (x ∷ xs) each = kept_by P (h x) (filter_map h xs) (each x) (kept P h xs each)
  where
    kept_by : {Y : Type 0} (P : Y → Type 0) (r : Option Y) (ys : List Y) → IfSome r P → AllByRecursion P ys → AllByRecursion P (cons_option r ys)
    kept_by P None ys here rest = rest
    kept_by P (Some y) ys here rest = (here, rest)

-- each frame at an index in `places` is the frame of a packet
pub frames_in : (s : Stream) (places : List ℕ) → AllByRecursion (IsFrameOf s) (filter_map (slice_get (frames_of s)) places)
frames_in s places = kept (IsFrameOf s) (slice_get (frames_of s)) places (λ k. at_place (IsFrameOf s) (frames_of s) k (all_frames s))

-- the record of each frame can be written to a capture
spells : (plan : TalkPlan) (s : Stream) (f : SentFrame) → IsStream plan s → IsFrameOf s f → HasSpelling capture_style (record_of f)
spells plan s f is (inl of) =
    let P : SentFrame → Type 0 = λ f. HasSpelling capture_style (record_of f) in
    subst P (sym of.same) (has_spelling plan s of.number is of.known)
spells plan s f is (inr of) =
    let P : SentFrame → Type 0 = λ f. HasSpelling capture_style (record_of f) in
    subst P (sym of.same) (clock_has_spelling plan s of.number is of.known)

pub spelled : (plan : TalkPlan) (s : Stream) (given : List SentFrame) → IsStream plan s → AllByRecursion (IsFrameOf s) given
    → AllByRecursion (HasSpelling capture_style) (map record_of given)
spelled plan s [] is all = tt
spelled plan s (f ∷ given) is all = (spells plan s f is all.0, spelled plan s given is all.1)

-- ---- captures of a stream

carried : (plan : TalkPlan) (s : Stream) (lead n : ℕ) → IsStream plan s → Expects plan lead → n < packets_in s
    → Carries s.journal lead n (record_of (frame_of s n))
unfolding packet_bytes
carried plan s lead n is expects h =
    let packet : List ℕ = spelling_of (s.journal.packet n) in
    record {
      frame = ethernet packet;
      writable = writable_frame packet;
      bytes = refl;
      avtp = refl;
      packet = record { trail = []; whole = sym (append-nil packet) };
      arrival = s.arrival n;
      arrived = refl;
      delivered = is.on_time lead n expects h;
    }

all_by : (j : PacketJournal) (lead : ℕ) (f : ℕ → SentFrame) (a k : ℕ) → ((n : ℕ) → n < a + k → Carries j lead n (record_of (f n)))
    → AllCarry j lead (range_with_len a k) (map record_of (map f (range_with_len a k)))
all_by j lead f a zero each = tt
all_by j lead f a (suc k) each = (each a (omega arith), all_by j lead f (a + 1) k (λ n h. each n (omega arith)))

pub all_carried : (plan : TalkPlan) (s : Stream) (lead : ℕ) → IsStream plan s → Expects plan lead
    → AllCarry s.journal lead (range_with_len 0 (packets_in s)) (map record_of (numbered_frames s))
all_carried plan s lead is expects =
    all_by s.journal lead (frame_of s) 0 (packets_in s) (λ n h. let known : n < packets_in s = omega arith in carried plan s lead n is expects known)

clock_carried : (plan : TalkPlan) (s : Stream) (m : ℕ) → m < clocks_in s → CarriesClock s.journal m (record_of (clock_frame_of s m))
unfolding clock_bytes
clock_carried plan s m h =
    let packet : List ℕ = crf_spelling (s.journal.clock_packet m) in
    record {
      known = h;
      frame = ethernet packet;
      writable = writable_frame packet;
      bytes = refl;
      avtp = refl;
      packet = record { trail = []; whole = sym (append-nil packet) };
    }

-- The records of the frames `given` carry the packets that `origins` lists. `origins` and the frames `given` have the
-- packets of the stream with the same numbers in the same order.
pub record AreCarried (j : PacketJournal) (lead : ℕ) (given : List SentFrame) : Type 0 where
  pub origins : List Origin
  pub carry : AllCarryFrom j lead origins (map record_of given)
  pub numbers : stream_numbers origins ≡ packet_numbers given

one_more : (plan : TalkPlan) (s : Stream) (lead : ℕ) (f : SentFrame) (given : List SentFrame) → IsStream plan s → Expects plan lead → IsFrameOf s f
    → AreCarried s.journal lead given → AreCarried s.journal lead (f ∷ given)
one_more plan s lead f given is expects (inl of) rest =
    subst (λ (f : SentFrame). AreCarried s.journal lead (f ∷ given)) (sym of.same) (record {
      origins = OfStream of.number ∷ rest.origins;
      carry = (carried plan s lead of.number is expects of.known, rest.carry);
      numbers = ap (λ (numbers : List ℕ). of.number ∷ numbers) rest.numbers;
    })
one_more plan s lead f given is expects (inr of) rest =
    subst (λ (f : SentFrame). AreCarried s.journal lead (f ∷ given)) (sym of.same) (record {
      origins = OfClock of.number ∷ rest.origins;
      carry = (clock_carried plan s of.number of.known, rest.carry);
      numbers = rest.numbers;
    })

pub some_carried : (plan : TalkPlan) (s : Stream) (lead : ℕ) (given : List SentFrame) → IsStream plan s → Expects plan lead → AllByRecursion (IsFrameOf s) given
    → AreCarried s.journal lead given
some_carried plan s lead [] is expects all = record { origins = []; carry = tt; numbers = refl }
some_carried plan s lead (f ∷ given) is expects all = one_more plan s lead f given is expects all.0 (some_carried plan s lead given is expects all.1)

pub numbers_of : (s : Stream) (a n : ℕ) → packet_numbers (map (frame_of s) (range_with_len a n)) ≡ range_with_len a n
numbers_of s a zero = refl
numbers_of s a (suc n) = ap (λ (numbers : List ℕ). a ∷ numbers) (numbers_of s (a + 1) n)

-- consecutive packets are near each other
pub next_near : (j : Journal) (a n : ℕ) → AreNear j (range_with_len a n)
next_near j a zero = tt
next_near j a (suc zero) = tt
next_near j a (suc (suc n)) = ((λ first second unstamped. (omega arith, omega arith)), next_near j (a + 1) (suc n))

-- ---- one frame after another

unrolled : (f : ℕ → SentFrame) (a n : ℕ) → a < n → map f (range_with_len a (n - a)) ≡ f a ∷ map f (range_with_len (a + 1) (n - (a + 1)))
unrolled f a n h = let more : n - a ≡ suc (n - (a + 1)) = omega arith in rw more refl

pub clock_first : (plan : TalkPlan) (s : Stream) (a b : ℕ) → IsStream plan s → a < clocks_in s
    → ((k : ℕ) → b ≤ k → k < packets_in s → s.clock_arrival a ≤ s.arrival k)
    → left_of s a b ≡ clock_frame_of s a ∷ left_of s (a + 1) b
clock_first plan s a b is h sooner =
    let f = clock_frame_of s a in
    let clocks : List SentFrame = map (clock_frame_of s) (range_with_len (a + 1) (clocks_in s - (a + 1))) in
    let packets : List SentFrame = map (frame_of s) (range_with_len b (packets_in s - b)) in
    let later : NotBefore f clocks =
    each_from (clock_frame_of s) (λ g. int_le f.arrival g.arrival ≡ true) (a + 1) (clocks_in s - (a + 1))
    (λ k from below. le-leb (s.clock_arrival a) (s.clock_arrival k) (rises s.clock_arrival is.clock_rising a k (omega arith))) in
    let others : NotBefore f packets =
    each_from (frame_of s) (λ g. int_le f.arrival g.arrival ≡ true) b (packets_in s - b)
    (λ k from below. le-leb (s.clock_arrival a) (s.arrival k) (sooner k from (omega arith))) in
    rw (unrolled (clock_frame_of s) a (clocks_in s) h)
    (stays_first f (clocks ++ packets) (all_of (λ g. int_le f.arrival g.arrival ≡ true) clocks packets later others))

pub packet_first : (plan : TalkPlan) (s : Stream) (a b : ℕ) → IsStream plan s → b < packets_in s
    → ((m : ℕ) → a ≤ m → m < clocks_in s → s.arrival b < s.clock_arrival m)
    → left_of s a b ≡ frame_of s b ∷ left_of s a (b + 1)
packet_first plan s a b is h sooner =
    let f = frame_of s b in
    let clocks : List SentFrame = map (clock_frame_of s) (range_with_len a (clocks_in s - a)) in
    let packets : List SentFrame = map (frame_of s) (range_with_len (b + 1) (packets_in s - (b + 1))) in
    let later : AllLater f clocks =
    each_from (clock_frame_of s) (λ g. int_le g.arrival f.arrival ≡ false) a (clocks_in s - a)
    (λ m from below. lt-leb (s.clock_arrival m) (s.arrival b) (sooner m from (omega arith))) in
    let others : NotBefore f packets =
    each_from (frame_of s) (λ g. int_le f.arrival g.arrival ≡ true) (b + 1) (packets_in s - (b + 1))
    (λ k from below. le-leb (s.arrival b) (s.arrival k) (rises s.arrival is.rising b k (omega arith))) in
    rw (unrolled (frame_of s) b (packets_in s) h) (comes_first f clocks packets later others)

pub count_all : (s : Stream) → length (frames_of s) ≡ clocks_in s + packets_in s
count_all s =
    length_sorted (numbered_clock s ++ numbered_frames s)
    ∙ length-append (numbered_clock s) (numbered_frames s)
    ∙ ap (λ (n : ℕ). n + length (numbered_frames s)) (length-map-range_with_len (clock_frame_of s) 0 (clocks_in s))
    ∙ ap (λ (n : ℕ). clocks_in s + n) (count_of s)

pub count_clock : (s : Stream) → length (numbered_clock s) ≡ clocks_in s
count_clock s = length-map-range_with_len (clock_frame_of s) 0 (clocks_in s)

pub clock_at_number : (s : Stream) (m : ℕ) → m < clocks_in s → slice_get (numbered_clock s) m ≡ Some (clock_frame_of s m)
clock_at_number s m h = numbered (clock_frame_of s) 0 (clocks_in s) m m h (omega arith)
