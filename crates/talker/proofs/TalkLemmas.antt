-- The stream of each plan fulfils `IsStream`.
use Rattle.std.proofs.Common.{sym, ◌≡◌, inl, inr, pos, ℕ, zero, suc, ◌+◌, ◌-◌, ◌*◌, ◌<◌, ◌≤◌, ◌^◌, Bool, true, false, List, [], ◌∷◌, length, drop, min, Option}
use Rattle.std.proofs.Common.{Some, None, refl, subst, ap, ◌∙◌, arith}
use Rattle.std.specs.Prelude.{IsSome, slice_get}
use Rattle.std.proofs.lemmas.Bool.{cases_lt}
use Rattle.pcap_frames.specs.Capture.{HasSpelling}
use Rattle.stream_journal.specs.Journal.{head_of}
use Rattle.talk_audio.specs.declared.audio.AudioStream.{AudioStream}
use Rattle.talk_plan.specs.declared.plan.TalkKind.{TalkKind}
use Rattle.talk_plan.specs.declared.plan.TalkKind.TheVariants.{Aaf, Am824, H264}
use Rattle.talk_plan.specs.declared.plan.TalkPlan.{TalkPlan}
use Rattle.talk_clock.specs.declared.clock.ClockStream.{ClockStream}
use Rattle.talk_plan.specs.declared.plan.CrfPlan.{CrfPlan}
use Rattle.talk_audio.specs.Audio.{Audio, audio_by}
use Rattle.talk_clock.specs.Clock.{clock_arrival, clock_by, clock_packet, clock_packets, clock_bytes, clock_arrival_by, clock_packet_by}
use Rattle.crf_format.specs.Crf.{Crf}
use Rattle.talker.specs.Faults.{arrives_too_late}
use Rattle.talker.specs.Frames.{SentFrame, capture_style, clock_frame_of, frame_of, frames, numbered_clock, record_of, stream_frames}
use Rattle.talker.specs.state.Frames.{left_of}
use Rattle.talker.specs.Journal.{Stream, journal, stamps_last, stream_by, stream_of, video_stream}
use Rattle.talk_plan.specs.Plan.{IsAudioKind, IsAudioPlan, IsPlan, IsPlanOf, IsVideoPlan, most_input}
use Rattle.talker.specs.Talking.{Talking, gone_on}
use Rattle.talk_audio.specs.Streams.{IsAudio, audio_of, headers_of, packets_of}
use Rattle.talker.specs.state.Talking.{IsClockFirst, IsSource, input_in, plan_in, stream_in as stream_in_source}
use Rattle.talk_clock.specs.Streams.{IsClockIn, IsClockOf, IsClockStream}
use Rattle.talk_video.specs.Units.{sent_units}
use Rattle.talk_plan.specs.Timing.{run_of}
use Rattle.talker.specs.declared.source.Source.{Source}
use Rattle.talker.specs.declared.source.Source.TheVariants.{Audio as OfAudio, Video as OfVideo}
use Rattle.talk_audio.proofs.FormatLemmas.{format_of, audio_found, has_format}
use Rattle.talker.proofs.AudioLemmas.{audio_stream, stream_in}
use Rattle.talk_audio.proofs.DueLemmas.{has_head}
use Rattle.talker.proofs.StreamLemmas.{IsStream, clock_at_number, clock_first, clock_has_spelling, clocks_in, frames_of, in_turn, never_late, packet_first}
use Rattle.talker.proofs.StreamLemmas.{packets_in}
use Rattle.talk_plan.proofs.CountLemmas.{rises}
use Rattle.talker.proofs.VideoLemmas.{video_stream_keeps}
use Rattle.talk_video.proofs.VideoRules.{sent_are}

-- ---- an audio plan with its format

pub stream_is : (s : AudioStream) (input : List ℕ) → IsAudio s → stream_of s.plan input ≡ stream_in (audio_of s) s.plan input
stream_is s input is = rw (audio_found s is) refl

-- ---- `IsStream` holds

stream_keeps : (s : AudioStream) (input : List ℕ) → IsAudio s → length input ≤ most_input → IsStream s.plan (stream_of s.plan input)
stream_keeps s input is limit = rw (stream_is s input is) (audio_stream s.plan (audio_of s) (headers_of s) input is.plan (format_of s is) limit)

audio_keeps : (plan : TalkPlan) (input : List ℕ) → IsAudioPlan plan → length input ≤ most_input → IsStream plan (stream_of plan input)
audio_keeps plan input p limit =
    let has = has_format plan p in
    subst (λ (plan : TalkPlan). IsStream plan (stream_of plan input)) has.plan_is (stream_keeps has.stream input has.audio limit)

-- the stream of an H.264 plan
pub video_is : (plan : TalkPlan) (input : List ℕ) (last_stamp : Bool) → plan.kind ≡ H264 last_stamp
    → stream_of plan input ≡ video_stream last_stamp plan input (sent_units input)
video_is plan input last_stamp kind =
    ap (λ (k : TalkKind). stream_by (audio_by k plan) plan input) kind
    ∙ ap (λ (k : TalkKind). video_stream (stamps_last k) plan input (sent_units input)) kind

video_keeps : (plan : TalkPlan) (input : List ℕ) (last_stamp : Bool) → IsVideoPlan plan → plan.kind ≡ H264 last_stamp → length input ≤ most_input
    → IsStream plan (stream_of plan input)
video_keeps plan input last_stamp p kind limit =
    subst (λ (s : Stream). IsStream plan s) (sym (video_is plan input last_stamp kind))
    (video_stream_keeps last_stamp plan input (sent_units input) p kind (sent_are input) limit)

keeps_by : (kind : TalkKind) (plan : TalkPlan) (input : List ℕ) → plan.kind ≡ kind → IsPlanOf kind plan → length input ≤ most_input
    → IsStream plan (stream_of plan input)
keeps_by (Aaf format sparse) plan input e p limit = audio_keeps plan input p limit
keeps_by Am824 plan input e p limit = audio_keeps plan input p limit
keeps_by (H264 last_stamp) plan input e p limit = video_keeps plan input last_stamp p e limit

pub plan_keeps : (plan : TalkPlan) (input : List ℕ) → IsPlan plan → length input ≤ most_input → IsStream plan (stream_of plan input)
plan_keeps plan input p limit = keeps_by plan.kind plan input refl p limit

-- ---- plans of audio

plan_by : (kind : TalkKind) (plan : TalkPlan) → IsAudioKind kind → IsAudioPlan plan → IsPlanOf kind plan
plan_by (Aaf format sparse) plan kind p = p
plan_by Am824 plan kind p = p
plan_by (H264 last_stamp) plan kind p = absurd kind

pub audio_plan : (plan : TalkPlan) → IsAudioPlan plan → IsPlan plan
audio_plan plan p = plan_by plan.kind plan p.kind p

clocked_by : (kind : TalkKind) (plan : TalkPlan) (crf : CrfPlan) → plan.crf ≡ Some crf → IsPlanOf kind plan → IsAudioPlan plan
clocked_by (Aaf format sparse) plan crf e p = p
clocked_by Am824 plan crf e p = p
clocked_by (H264 last_stamp) plan crf e p = absurd (let none = p.crf in cc)

-- only a plan of audio has a media clock
pub clocked_plan : (plan : TalkPlan) (crf : CrfPlan) → IsPlan plan → plan.crf ≡ Some crf → IsAudioPlan plan
clocked_plan plan crf p e = clocked_by plan.kind plan crf e p

-- ---- packets of audio have heads

pub plan_heads : (plan : TalkPlan) (input : List ℕ) (n : ℕ) → IsAudioPlan plan → 7 ≤ n → run_of plan (n - 7) ≡ run_of plan n
    → IsSome (head_of (journal plan input).times n)
plan_heads plan input n p behind same =
    let has = has_format plan p in
    let s = has.stream in
    let P : TalkPlan → Type 0 = λ plan. run_of plan (n - 7) ≡ run_of plan n → IsSome (head_of (journal plan input).times n) in
    let here : P s.plan = λ same.
    subst (λ (stream : Stream). IsSome (head_of stream.journal.times n)) (sym (stream_is s input has.audio))
    (has_head (audio_of s).kind s.plan (packets_of s input) n has.audio.plan (format_of s has.audio).kind behind same) in
    subst P has.plan_is here same

-- ---- all frames

pub none_late : (plan : TalkPlan) (input : List ℕ) → IsPlan plan → length input ≤ most_input → arrives_too_late plan input ≡ false
none_late plan input p limit = never_late plan (stream_of plan input) (plan_keeps plan input p limit)

-- without a media clock, there are no frames of a clock
no_clock_by : (audio : Option Audio) (crf : Option CrfPlan) (plan : TalkPlan) (input : List ℕ) → plan.crf ≡ crf → crf ≡ None
    → numbered_clock (stream_by audio plan input) ≡ []
no_clock_by None crf plan input e none = rw (e, none) refl
no_clock_by (Some a) crf plan input e none = rw (e, none) refl

pub frames_alone : (plan : TalkPlan) (input : List ℕ) → IsPlan plan → plan.crf ≡ None → length input ≤ most_input → frames plan input ≡ stream_frames plan input
frames_alone plan input p none limit =
    rw (no_clock_by (audio_by plan.kind plan) plan.crf plan input refl none) (in_turn plan (stream_of plan input) (plan_keeps plan input p limit))

pub went_on : (t : Talking) → t.given < length (frames t.plan t.input) → record t { given = t.given + 1 } ≡ gone_on t
went_on t h = let one : t.given + 1 ≡ min (t.given + 1) (length (frames t.plan t.input)) = omega arith in ap (λ (k : ℕ). record t { given = k }) one

-- ---- the clock beside a stream

pub record HasPlanClock (plan : TalkPlan) (s : Stream) : Type 0 where
  pub packets : clocks_in s ≡ (clock_by plan.crf plan (packets_in s)).packets
  pub arrival : (m : ℕ) → s.clock_arrival m ≡ clock_arrival_by plan.crf plan m
  pub packet : (m : ℕ) → s.journal.clock_packet m ≡ clock_packet_by plan.crf plan (packets_in s) m

clock_by_kind : (audio : Option Audio) (plan : TalkPlan) (input : List ℕ) → HasPlanClock plan (stream_by audio plan input)
clock_by_kind None plan input = record { packets = refl; arrival = λ m. refl; packet = λ m. refl }
clock_by_kind (Some a) plan input = record { packets = refl; arrival = λ m. refl; packet = λ m. refl }

-- what holds for the stream of a plan and for its clock
pub record IsOf (plan : TalkPlan) (s : Stream) : Type 0 where
  pub keeps : IsStream plan s
  pub clock : HasPlanClock plan s

pub is_of : (plan : TalkPlan) (input : List ℕ) → IsPlan plan → length input ≤ most_input → IsOf plan (stream_of plan input)
is_of plan input p limit = record { keeps = plan_keeps plan input p limit; clock = clock_by_kind (audio_by plan.kind plan) plan input }

source_plan : (source : Source) → IsSource source → IsPlan (plan_in source)
source_plan (OfAudio stream input) is = audio_plan stream.plan is.0.plan
source_plan (OfVideo v) is = let P : TalkKind → Type 0 = λ k. IsPlanOf k v.plan in subst P (sym is.kind) is.plan

source_limit : (source : Source) → IsSource source → length (input_in source) ≤ most_input
source_limit (OfAudio stream input) is = is.1
source_limit (OfVideo v) is = is.limit

pub source_is : (source : Source) → IsSource source → IsOf (plan_in source) (stream_in_source source)
source_is source is = is_of (plan_in source) (input_in source) (source_plan source is) (source_limit source is)

crf_is : (c : ClockStream) (plan : TalkPlan) (packets : ℕ) → IsClockIn c plan packets → plan.crf ≡ Some c.crf
crf_is c plan packets is = ap (λ (plan : TalkPlan). plan.crf) (sym is.plan_is) ∙ is.clock.clock

clocks_in_is : (c : ClockStream) (plan : TalkPlan) (packets : ℕ) → IsClockIn c plan packets
    → (clock_by plan.crf plan packets).packets ≡ clock_packets c.crf c.plan c.stream
clocks_in_is c plan packets is =
    let F : Option CrfPlan → TalkPlan → ℕ → ℕ = λ o plan n. (clock_by o plan n).packets in
    ap (λ (o : Option CrfPlan). F o plan packets) (crf_is c plan packets is)
    ∙ ap (λ (plan : TalkPlan). F (Some c.crf) plan packets) (sym is.plan_is)
    ∙ ap (λ (n : ℕ). F (Some c.crf) c.plan n) (sym is.stream)

arrival_in_is : (c : ClockStream) (plan : TalkPlan) (packets m : ℕ) → IsClockIn c plan packets → clock_arrival_by plan.crf plan m ≡ clock_arrival c.crf c.plan m
arrival_in_is c plan packets m is =
    ap (λ (o : Option CrfPlan). clock_arrival_by o plan m) (crf_is c plan packets is)
    ∙ ap (λ (plan : TalkPlan). clock_arrival_by (Some c.crf) plan m) (sym is.plan_is)

packet_in_is : (c : ClockStream) (plan : TalkPlan) (packets m : ℕ) → IsClockIn c plan packets
    → clock_packet_by plan.crf plan packets m ≡ clock_packet c.crf c.plan c.stream m
packet_in_is c plan packets m is =
    ap (λ (o : Option CrfPlan). clock_packet_by o plan packets m) (crf_is c plan packets is)
    ∙ ap (λ (plan : TalkPlan). clock_packet_by (Some c.crf) plan packets m) (sym is.plan_is)
    ∙ ap (λ (n : ℕ). clock_packet_by (Some c.crf) c.plan n m) (sym is.stream)

-- the clock `c` makes the clock packets of the stream `s`
pub record IsBeside (c : ClockStream) (s : Stream) : Type 0 where
  pub clock : IsClockStream c
  pub count : clocks_in s ≡ clock_packets c.crf c.plan c.stream
  pub arrival : (m : ℕ) → s.clock_arrival m ≡ clock_arrival c.crf c.plan m
  pub packet : (m : ℕ) → s.journal.clock_packet m ≡ clock_packet c.crf c.plan c.stream m

pub beside : (c : ClockStream) (plan : TalkPlan) (s : Stream) (packets : ℕ) → IsOf plan s → packets ≡ packets_in s → IsClockIn c plan packets → IsBeside c s
beside c plan s packets of e clock =
    let there : IsClockIn c plan (packets_in s) = subst (λ (n : ℕ). IsClockIn c plan n) e clock in
    record {
      clock = there.clock;
      count = of.clock.packets ∙ clocks_in_is c plan (packets_in s) there;
      arrival = λ m. of.clock.arrival m ∙ arrival_in_is c plan (packets_in s) m there;
      packet = λ m. of.clock.packet m ∙ packet_in_is c plan (packets_in s) m there;
    }

none_sent : (plan : TalkPlan) (s : Stream) → IsOf plan s → plan.crf ≡ None → clocks_in s ≡ 0
none_sent plan s of e = of.clock.packets ∙ ap (λ (o : Option CrfPlan). (clock_by o plan (packets_in s)).packets) e

-- ---- packet n of the stream and packet m of the clock, as they are sent

pub record IsClockSent (s : Stream) (c : ClockStream) (m : ℕ) : Type 0 where
  pub early : clock_arrival c.crf c.plan m < 2 ^ 32 * 1000000000
  pub frame : slice_get (numbered_clock s) m ≡ Some (clock_frame_of s m)
  pub same : clock_frame_of s m
      ≡ record { arrival = pos (clock_arrival c.crf c.plan m); number = m; clock = true; bytes = clock_bytes (clock_packet c.crf c.plan c.stream m) }
  pub fits : HasSpelling capture_style (record_of (clock_frame_of s m))
  pub size : length (clock_bytes (clock_packet c.crf c.plan c.stream m)) ≤ 1518

pub clock_sent_as : (plan : TalkPlan) (s : Stream) (c : ClockStream) (m : ℕ) → IsOf plan s → IsBeside c s → m < clocks_in s → IsClockSent s c m
clock_sent_as plan s c m of by known =
    let arrival = by.arrival m in
    let packet = by.packet m in
    record {
      early = omega (arith, arrival, of.keeps.clock_sent m known);
      frame = clock_at_number s m known;
      same = ap (λ (x : ℕ). record { arrival = pos x; number = m; clock = true; bytes = clock_bytes (s.journal.clock_packet m) }) arrival
          ∙ ap (λ (v : Crf). record { arrival = pos (clock_arrival c.crf c.plan m); number = m; clock = true; bytes = clock_bytes v }) packet;
      fits = clock_has_spelling plan s m of.keeps known;
      size = subst (λ (v : Crf). length (clock_bytes v) ≤ 1518) packet (of.keeps.clock_size m known);
    }

-- ---- which frame comes next

pub sooner : (clock : Option ClockStream) (plan : TalkPlan) (s : Stream) (packets a b : ℕ) → IsOf plan s → packets ≡ packets_in s
    → IsClockOf clock plan packets → IsClockFirst clock s a b
    → (a < clocks_in s) × ((k : ℕ) → b ≤ k → k < packets_in s → s.clock_arrival a ≤ s.arrival k)
sooner None plan s packets a b of e clock first = absurd first
sooner (Some c) plan s packets a b of e clock first =
    let by = beside c plan s packets of e clock in
    let count = by.count in
    let arrival = by.arrival a in (
      omega (arith, count, first.0),
      λ j from below. (elim first.1 [
        | inl ended ↦ absurd (omega arith)
        | inr before ↦ let rise = rises s.arrival of.keeps.rising b j from in omega (arith, arrival, before, rise)
      ]),
    )

pub later : (clock : Option ClockStream) (plan : TalkPlan) (s : Stream) (packets a b : ℕ) → IsOf plan s → packets ≡ packets_in s → IsClockOf clock plan packets
    → ¬ IsClockFirst clock s a b → b < packets
    → (m : ℕ) → a ≤ m → m < clocks_in s → s.arrival b < s.clock_arrival m
later None plan s packets a b of e clock other more m from known = absurd (let none = none_sent plan s of clock in omega (arith, none, known))
later (Some c) plan s packets a b of e clock other more m from known =
    let by = beside c plan s packets of e clock in
    let count = by.count in
    let arrival = by.arrival a in
    let rise = rises s.clock_arrival of.keeps.clock_rising a m from in
    elim (cases_lt (s.arrival b) (s.clock_arrival a)) [
      | inl before ↦ omega (arith, rise, before)
      | inr not ↦ absurd (other (omega (arith, count, known), inr (omega (arith, arrival, not))))
    ]

pub ended : (clock : Option ClockStream) (plan : TalkPlan) (s : Stream) (packets a b : ℕ) → IsOf plan s → packets ≡ packets_in s → IsClockOf clock plan packets
    → ¬ IsClockFirst clock s a b → b ≡ packets
    → a ≤ clocks_in s → a ≡ clocks_in s
ended None plan s packets a b of e clock other at most = let none = none_sent plan s of clock in omega (arith, none, most)
ended (Some c) plan s packets a b of e clock other at most =
    let by = beside c plan s packets of e clock in
    let count = by.count in
    elim (cases_lt a (clocks_in s)) [
      | inl more ↦ absurd (other (omega (arith, count, more), inl (omega arith)))
      | inr not ↦ omega arith
    ]

-- `f` is at index `k` of `xs`, and `rest` is what follows `f` in `xs`
pub record IsFirst (xs : List SentFrame) (k : ℕ) (f : SentFrame) (rest : List SentFrame) : Type 0 where
  pub at : slice_get xs k ≡ Some f
  pub next : drop (k + 1) xs ≡ rest
  pub below : k < length xs

first_is : (xs : List SentFrame) (k : ℕ) (f : SentFrame) (rest : List SentFrame) → drop k xs ≡ f ∷ rest → IsFirst xs k f rest
first_is [] zero f rest e = absurd cc
first_is [] (suc k) f rest e = absurd cc
first_is (x ∷ xs) zero f rest e =
    let head : x ≡ f = ap (λ (ys : List SentFrame). head_or x ys) e in
    let tail : xs ≡ rest = ap (λ (ys : List SentFrame). drop 1 ys) e in
    record { at = ap (λ (y : SentFrame). Some y) head; next = tail; below = omega arith }
  where
    head_or : SentFrame → List SentFrame → SentFrame
    head_or x [] = x
    head_or x (y ∷ ys) = y
first_is (x ∷ xs) (suc k) f rest e =
    let is = first_is xs k f rest e in
    let more : suc k + 1 ≡ suc (k + 1) = omega arith in
    record { at = is.at; next = rw more is.next; below = (let below = is.below in omega arith) }

pub clock_step : (plan : TalkPlan) (s : Stream) (a b : ℕ) → IsOf plan s → a < clocks_in s
    → ((k : ℕ) → b ≤ k → k < packets_in s → s.clock_arrival a ≤ s.arrival k)
    → drop (a + b) (frames_of s) ≡ left_of s a b → IsFirst (frames_of s) (a + b) (clock_frame_of s a) (left_of s (a + 1) b)
clock_step plan s a b of more soon left =
    first_is (frames_of s) (a + b) (clock_frame_of s a) (left_of s (a + 1) b) (left ∙ clock_first plan s a b of.keeps more soon)

pub packet_step : (plan : TalkPlan) (s : Stream) (a b : ℕ) → IsOf plan s → b < packets_in s
    → ((m : ℕ) → a ≤ m → m < clocks_in s → s.arrival b < s.clock_arrival m)
    → drop (a + b) (frames_of s) ≡ left_of s a b → IsFirst (frames_of s) (a + b) (frame_of s b) (left_of s a (b + 1))
packet_step plan s a b of more soon left =
    first_is (frames_of s) (a + b) (frame_of s b) (left_of s a (b + 1)) (left ∙ packet_first plan s a b of.keeps more soon)

pub moved : {k n : ℕ} (xs rest : List SentFrame) → k ≡ n → drop k xs ≡ rest → drop n xs ≡ rest
moved xs rest e h = rw (← e) h
