-- Which frame is sent next, and which packet it carries.
use Rattle.std.proofs.Common.{◌≡◌, ◌⊎◌, inl, inr, ℕ, ℤ, pos, ◌+◌, ◌*◌, ◌^◌, ◌<◌, ◌≤◌, Bool, true, false, List, length, drop, Option, Some, None, refl, sym, ap}
use Rattle.std.proofs.Common.{subst, ◌∙◌, arith}
use Rattle.std.specs.Prelude.{slice_get, option_map, IfSome}
use Rattle.std.proofs.lemmas.Bool.{cases_lt}
use Rattle.std.proofs.lemmas.Int.{ints}
use Rattle.std.proofs.lemmas.Option.{slice_get_past}
use Rattle.pcap_frames.specs.Capture.{HasSpelling}
use Rattle.crf_format.specs.Crf.{Crf}
use Rattle.talk_clock.specs.declared.clock.ClockStream.{ClockStream}
use Rattle.talk_plan.specs.declared.plan.TalkPlan.{TalkPlan}
use Rattle.talker.specs.declared.source.Source.{Source}
use Rattle.talker.specs.declared.turn.Turn.{Turn}
use Rattle.talk_clock.specs.Clock.{clock_frame_size, clock_bytes}
use Rattle.talker.specs.Frames.{SentFrame, capture_style, clock_frame_of, frame_of, frames, record_of}
use Rattle.talker.specs.state.Frames.{left_of}
use Rattle.talker.specs.Journal.{Stream, stream_of}
use Rattle.talker.specs.Talking.{Talking}
use Rattle.talk_clock.specs.Streams.{IsClockIn, IsClockOf}
use Rattle.talker.specs.state.Talking.{IsSource, plan_in, stream_in}
use Rattle.talker.specs.Turns.{IsTurn, frame_in, turn_of}
use Rattle.talker.specs.state.Turns.{SendsPacket, frame_by, packets_by, turn_frame}
use Rattle.talk_clock.proofs.ClockPackets.{clock_size}
use Rattle.talker.proofs.StreamLemmas.{IsFrameOf, all_frames, at_place, clock_has_spelling, clocks_in, count_all, frames_of, has_spelling, packets_in}
use Rattle.talk_plan.proofs.CountLemmas.{rises}
use Rattle.talker.proofs.TalkLemmas.{IsBeside, IsFirst, IsOf, beside, clock_step, packet_step, source_is}

-- ---- the clock that a talker has

pub beside_is : (source : Source) (clock : Option ClockStream) (c : ClockStream) (packets : ℕ) → clock ≡ Some c → IsSource source
    → packets ≡ packets_in (stream_in source) → IsClockOf clock (plan_in source) packets
    → IsBeside c (stream_in source)
beside_is source clock c packets e is count of =
    let there : IsClockIn c (plan_in source) packets = subst (λ (o : Option ClockStream). IsClockOf o (plan_in source) packets) e of in
    beside c (plan_in source) (stream_in source) packets (source_is source is) count there

pub clock_sized : (s : Stream) (c : ClockStream) (m : ℕ) → IsBeside c s
    → length (clock_bytes (s.journal.clock_packet m)) ≡ clock_frame_size c.crf c.plan c.stream m
clock_sized s c m by = ap (λ (v : Crf). length (clock_bytes v)) (by.packet m) ∙ clock_size c.crf c.plan c.stream m

-- ---- the frame of a packet

framed_by : (clock : Bool) (s : Stream) (n : ℕ) (arrival : ℤ) → arrival ≡ (frame_by clock s n).arrival
    → record { arrival = arrival; number = n; clock = clock; bytes = (frame_by clock s n).bytes } ≡ frame_by clock s n
framed_by true s n arrival e = rw e refl
framed_by false s n arrival e = rw e refl

pub framed : (s : Stream) (turn : Turn) → SendsPacket s turn → frame_in turn (turn_frame s turn).bytes ≡ turn_frame s turn
framed s turn is = framed_by turn.clock s turn.number turn.arrival is.arrival

fits_by : (clock : Bool) (plan : TalkPlan) (s : Stream) (n : ℕ) → IsOf plan s → n < packets_by clock s
    → HasSpelling capture_style (record_of (frame_by clock s n))
fits_by true plan s m of known = clock_has_spelling plan s m of.keeps known
fits_by false plan s n of known = has_spelling plan s n of.keeps known

most_by : (clock : Bool) (plan : TalkPlan) (s : Stream) (n : ℕ) → IsOf plan s → n < packets_by clock s → length (frame_by clock s n).bytes ≤ 1518
most_by true plan s m of known = of.keeps.clock_size m known
most_by false plan s n of known = of.keeps.size n known

-- a capture can record the arrival: it is at least 0 and below 2^32 seconds
pub record IsEarly (arrival : ℤ) : Type 0 where
  pub at : ℕ
  pub is : arrival ≡ pos at
  pub early : at < 2 ^ 32 * 1000000000

early_by : (clock : Bool) (plan : TalkPlan) (s : Stream) (n : ℕ) → IsOf plan s → n < packets_by clock s → IsEarly (frame_by clock s n).arrival
early_by true plan s m of known = record { at = s.clock_arrival m; is = refl; early = of.keeps.clock_sent m known }
early_by false plan s n of known = record { at = s.arrival n; is = refl; early = of.keeps.sent n known }

pub turn_early : (plan : TalkPlan) (s : Stream) (turn : Turn) → IsOf plan s → SendsPacket s turn → IsEarly turn.arrival
turn_early plan s turn of is = subst (λ (z : ℤ). IsEarly z) (sym is.arrival) (early_by turn.clock plan s turn.number of is.known)

pub turn_fits : (plan : TalkPlan) (s : Stream) (turn : Turn) → IsOf plan s → SendsPacket s turn → HasSpelling capture_style (record_of (turn_frame s turn))
turn_fits plan s turn of is = fits_by turn.clock plan s turn.number of is.known

pub turn_most : (plan : TalkPlan) (s : Stream) (turn : Turn) → IsOf plan s → SendsPacket s turn → turn.size ≤ 1518
turn_most plan s turn of is = let most = most_by turn.clock plan s turn.number of is.known in omega (arith, is.size)

pub turn_within : (source : Source) (turn : Turn) → IsSource source → SendsPacket (stream_in source) turn → turn.size ≤ 1518
turn_within source turn is sends = turn_most (plan_in source) (stream_in source) turn (source_is source is) sends

-- ---- a packet's turn

-- `o` is a frame with the fields of `turn`, and the length of the frame is the size in `turn`
pub record HasFrame (o : Option SentFrame) (turn : Turn) : Type 0 where
  pub bytes : List ℕ
  pub next : o ≡ Some (frame_in turn bytes)
  pub size : length bytes ≡ turn.size

same_turn : (a b : Turn) → Some a ≡ Some b → a ≡ b
same_turn a b e = cc

framed_as : (o : Option SentFrame) (turn : Turn) → option_map turn_of o ≡ Some turn → HasFrame o turn
framed_as None turn e = absurd cc
framed_as (Some f) turn e =
    let same = same_turn (turn_of f) turn e in
    record {
      bytes = f.bytes;
      next = ap (λ (t : Turn). Some (frame_in t f.bytes)) same;
      size = ap (λ (t : Turn). t.size) same;
    }

pub frame_next : (t : Talking) (turn : Turn) → IsTurn t turn → HasFrame (slice_get (frames t.plan t.input) t.given) turn
frame_next t turn is = framed_as (slice_get (frames t.plan t.input) t.given) turn is.next

turned : (s : Stream) (turn : Turn) → SendsPacket s turn → turn_of (turn_frame s turn) ≡ turn
turned s turn is = ap turn_of (sym (framed s turn is)) ∙ ap (λ (k : ℕ). record { arrival = turn.arrival; number = turn.number; clock = turn.clock; size = k })
    (sym is.size)

pub is_turn : (t : Talking) (turn : Turn) → IsOf t.plan (stream_of t.plan t.input) → SendsPacket (stream_of t.plan t.input) turn
    → slice_get (frames t.plan t.input) t.given ≡ Some (turn_frame (stream_of t.plan t.input) turn) → IsTurn t turn
is_turn t turn of sends at =
    let s = stream_of t.plan t.input in
    let early = turn_early t.plan s turn of sends in
    record {
      next = ap (option_map turn_of) at ∙ ap (λ (u : Turn). Some u) (turned s turn sends);
      begun = omega (arith, ints, early.is);
      ended = omega (arith, ints, early.is, early.early);
      most = turn_most t.plan s turn of sends;
    }

-- the number and the clock flag of `f` identify a packet, and `f` is the frame of that packet
record IsKnown (s : Stream) (f : SentFrame) : Type 0 where
  known : f.number < packets_by f.clock s
  same : f ≡ frame_by f.clock s f.number

known_by : (s : Stream) (f : SentFrame) → IsFrameOf s f → IsKnown s f
known_by s f (inl of) = subst (λ (f : SentFrame). IsKnown s f) (sym of.same) (record { known = of.known; same = refl })
known_by s f (inr of) = subst (λ (f : SentFrame). IsKnown s f) (sym of.same) (record { known = of.known; same = refl })

known_at : (s : Stream) (k : ℕ) (f : SentFrame) → slice_get (frames_of s) k ≡ Some f → IsKnown s f
known_at s k f e =
    let P : Option SentFrame → Type 0 = λ o. IfSome o (IsFrameOf s) in
    known_by s f (subst P e (at_place (IsFrameOf s) (frames_of s) k (all_frames s)))

pub record IsSending (s : Stream) (turn : Turn) (bytes : List ℕ) : Type 0 where
  pub sends : SendsPacket s turn
  pub same : frame_in turn bytes ≡ turn_frame s turn

pub sending : (t : Talking) (turn : Turn) (is : IsTurn t turn) → IsSending (stream_of t.plan t.input) turn (frame_next t turn is).bytes
sending t turn is =
    let has = frame_next t turn is in
    let of = known_at (stream_of t.plan t.input) t.given (frame_in turn has.bytes) has.next in
    record {
      sends = record {
        known = of.known;
        arrival = ap (λ (f : SentFrame). f.arrival) of.same;
        size = sym has.size ∙ ap (λ (f : SentFrame). length f.bytes) of.same;
      };
      same = of.same;
    }

pub sent_next : (t : Talking) (turn : Turn) (out : List ℕ) → IsTurn t turn → out ≡ (turn_frame (stream_of t.plan t.input) turn).bytes
    → slice_get (frames t.plan t.input) t.given ≡ Some (frame_in turn out)
sent_next t turn out is e =
    let has = frame_next t turn is in
    let same : has.bytes ≡ out = ap (λ (f : SentFrame). f.bytes) (sending t turn is).same ∙ sym e in
    has.next ∙ ap (λ (bytes : List ℕ). Some (frame_in turn bytes)) same

-- ---- one turn after another

pub record IsClockStep (s : Stream) (a b : ℕ) : Type 0 where
  pub more : a < clocks_in s
  pub step : IsFirst (frames_of s) (a + b) (clock_frame_of s a) (left_of s (a + 1) b)

pub record IsPacketStep (s : Stream) (a b : ℕ) : Type 0 where
  pub more : b < packets_in s
  pub step : IsFirst (frames_of s) (a + b) (frame_of s b) (left_of s a (b + 1))

step_of : (plan : TalkPlan) (s : Stream) (a b : ℕ) (f : SentFrame) → IsOf plan s → a ≤ clocks_in s → b ≤ packets_in s
    → drop (a + b) (frames_of s) ≡ left_of s a b → slice_get (frames_of s) (a + b) ≡ Some f
    → IsClockStep s a b ⊎ IsPacketStep s a b
step_of plan s a b f of clocks packets left at =
    elim (cases_lt a (clocks_in s)) [
      | inl clock ↦ (elim (cases_lt b (packets_in s)) [
        | inl packet ↦ (elim (cases_lt (s.arrival b) (s.clock_arrival a)) [
          | inl before ↦ inr (record {
            more = packet;
            step = packet_step plan s a b of packet
                (λ m from below. let rise = rises s.clock_arrival of.keeps.clock_rising a m from in omega (arith, rise, before)) left;
          })
          | inr not ↦ inl (record {
            more = clock;
            step = clock_step plan s a b of clock
                (λ k from below. let rise = rises s.arrival of.keeps.rising b k from in omega (arith, rise, not)) left;
          })
        ])
        | inr none ↦ inl (record { more = clock; step = clock_step plan s a b of clock (λ k from below. absurd (omega (arith, none, from, below))) left })
      ])
      | inr none ↦ (elim (cases_lt b (packets_in s)) [
        | inl packet ↦ inr (record { more = packet; step = packet_step plan s a b of packet (λ m from below. absurd (omega (arith, none, from, below))) left })
        | inr past ↦ absurd (let end = slice_get_past (frames_of s) (a + b) (let count = count_all s in omega (arith, count, none, past)) in cc)
      ])
    ]

same_frame : (f g : SentFrame) (o : Option SentFrame) → o ≡ Some f → o ≡ Some g → f ≡ g
same_frame f g o e h = cc

other_clock : (f g : SentFrame) (b c : Bool) → f ≡ g → f.clock ≡ b → g.clock ≡ c → b ≡ c
other_clock f g b c e h k = sym h ∙ ap (λ (f : SentFrame). f.clock) e ∙ k

pub clock_turn : (plan : TalkPlan) (s : Stream) (a b : ℕ) (f : SentFrame) → IsOf plan s → a ≤ clocks_in s → b ≤ packets_in s
    → drop (a + b) (frames_of s) ≡ left_of s a b → slice_get (frames_of s) (a + b) ≡ Some f
    → f.clock ≡ true → IsClockStep s a b
clock_turn plan s a b f of clocks packets left at clock =
    elim (step_of plan s a b f of clocks packets left at) [
      | inl is ↦ is
      | inr is ↦ absurd (let no : true ≡ false = other_clock f (frame_of s b) true false (same_frame f (frame_of s b) _ at is.step.at) clock refl in cc)
    ]

pub packet_turn : (plan : TalkPlan) (s : Stream) (a b : ℕ) (f : SentFrame) → IsOf plan s → a ≤ clocks_in s → b ≤ packets_in s
    → drop (a + b) (frames_of s) ≡ left_of s a b → slice_get (frames_of s) (a + b) ≡ Some f
    → f.clock ≡ false → IsPacketStep s a b
packet_turn plan s a b f of clocks packets left at clock =
    elim (step_of plan s a b f of clocks packets left at) [
      | inl is ↦ absurd (let no : true ≡ false = other_clock (clock_frame_of s a) f true false (sym (same_frame f (clock_frame_of s a) _ at is.step.at)) refl
          clock in cc)
      | inr is ↦ is
    ]
