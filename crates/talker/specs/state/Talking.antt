-- Only private functions and proofs use these definitions. The source and the clock of a talker.
use Rattle.std.specs.Prelude.{◌≡◌, ◌⊎◌, ℕ, ℤ, pos, ◌<◌, ◌≤◌, List, length, Option, Some, None, IfSome, Result, Err, IfErr, IfOk, OnOk}
use Rattle.talk_clock.specs.declared.clock.ClockStream.{ClockStream}
use Rattle.talk_plan.specs.declared.fault.TalkFault.{TalkFault}
use Rattle.talk_plan.specs.declared.fault.TalkFault.TheVariants.{Memory}
use Rattle.talk_plan.specs.declared.plan.TalkPlan.{TalkPlan}
use Rattle.talker.specs.declared.source.Source.{Source}
use Rattle.talker.specs.declared.source.Source.TheVariants.{Audio as OfAudio, Video as OfVideo}
use Rattle.talk_clock.specs.Clock.{clock_arrival, clock_packets}
use Rattle.talker.specs.Faults.{fault_of}
use Rattle.talker.specs.Journal.{Stream, stream_of}
use Rattle.talk_clock.specs.Streams.{IsClockOf}
use Rattle.talk_plan.specs.Ethernet.{packet_bytes}
use Rattle.talk_plan.specs.Plan.{IsPlan, most_input}
use Rattle.talk_audio.specs.Streams.{IsAudio}
use Rattle.talk_video.specs.Streams.{IsVideo}

-- packet m of the clock exists, and packet n of the stream, if it exists, is sent at the same time or later
abbrev pub IsClockFirst : Option ClockStream → Stream → ℕ → ℕ → Type 0
IsClockFirst None s m n = ⊥
IsClockFirst (Some c) s m n = (m < clock_packets c.crf c.plan c.stream) × ((s.journal.times.packets ≤ n) ⊎ (clock_arrival c.crf c.plan m ≤ s.arrival n))

-- ---- what makes the packets of a stream

abbrev pub IsSource : Source → Type 0
IsSource (OfAudio stream input) = IsAudio stream × (length input.now ≤ most_input)
IsSource (OfVideo stream) = IsVideo stream

abbrev pub plan_in : Source → TalkPlan
plan_in (OfAudio stream input) = stream.plan
plan_in (OfVideo stream) = stream.plan

abbrev pub input_in : Source → List ℕ
input_in (OfAudio stream input) = input.now
input_in (OfVideo stream) = stream.input.now

abbrev pub stream_in : Source → Stream
stream_in source = stream_of (plan_in source) (input_in source)

-- `source` is made from `plan` and `input`
pub record IsSourceOf (plan : TalkPlan) (input : List ℕ) (source : Source) : Type 0 where
  pub source_is : IsSource source
  pub plan_is : plan_in source ≡ plan
  pub input_is : input_in source ≡ input

-- the plan is valid, and the input is not too long
pub record CanBegin (plan : TalkPlan) (input : List ℕ) : Type 0 where
  pub valid : IsPlan plan
  pub limit : length input ≤ most_input

-- `result` is the source of a plan and an input, or why there is none. If the plan or the input has a fault, the fault
-- is returned, even if memory runs out.
pub record BeginsSource (plan : TalkPlan) (input : List ℕ) (result : Result Source TalkFault) : Type 0 where
  pub made : IfOk result (IsSourceOf plan input)
  pub accepted : OnOk result (fault_of plan input ≡ None)
  pub fault : IfSome (fault_of plan input) (λ fault. result ≡ Err fault)
  pub only : IfErr result (λ fault. (fault_of plan input ≡ Some fault) ⊎ (fault ≡ Memory))

-- the stream of the source has a packet with number n
pub record IsPacketOfSource (source : Source) (n : ℕ) : Type 0 where
  pub source_is : IsSource source
  pub known : n < (stream_in source).journal.times.packets

-- packet n of the source's stream is sent at the instant `sent`, and `out` has the length of the packet's frame
pub record IsSentFrom (source : Source) (n : ℕ) (sent : ℤ) (out : List ℕ) : Type 0 where
  pub packet : IsPacketOfSource source n
  pub arrival : sent ≡ pos ((stream_in source).arrival n)
  pub room : length out ≡ length (packet_bytes ((stream_in source).journal.packet n))

-- the stream of the source `from` has `number` packets
pub record HasPackets (from : Source) (number : ℕ) : Type 0 where
  pub source : IsSource from
  pub packets : number ≡ (stream_in from).journal.times.packets

-- `beside` is the clock of the source `from`, whose stream has `number` packets
pub record IsClockBeside (from : Source) (beside : Option ClockStream) (number : ℕ) : Type 0 where
  pub source : IsSource from
  pub clock : IsClockOf beside (plan_in from) number
  pub packets : number ≡ (stream_in from).journal.times.packets
