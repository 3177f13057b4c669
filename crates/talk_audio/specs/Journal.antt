-- The journal of a plan of audio: its packets with their true numbers and instants.
use Rattle.std.specs.Prelude.{ℕ, nat_abs, List, Option, Some, None}
use Rattle.time_unfold.specs.declared.head_rule.Head.{Head}
use Rattle.stream_journal.specs.Journal.{Journal, Kind, head_of, nominal_instant}
use Rattle.packet_journal.specs.Packets.{PacketJournal}
use Rattle.talk_plan.specs.declared.plan.TalkPlan.{TalkPlan}
use Rattle.talk_audio.specs.Audio.{Audio}
use Rattle.talk_clock.specs.Clock.{clock_by, clock_id, clock_packet_by}
use Rattle.talk_audio.specs.Packets.{stamp_of}
use Rattle.talk_audio.specs.Samples.{packets_for, samples_of}
use Rattle.talk_plan.specs.Timing.{first_instant, mr_of}

-- the times of `packets` packets of this kind, each due at its nominal first instant
abbrev pub nominal_times : Kind → TalkPlan → ℕ → Journal
nominal_times kind plan packets = record {
  kind = kind;
  rate = plan.rate;
  count = plan.count;
  packets = packets;
  due = λ n. first_instant plan n;
  stamp = λ n. stamp_of kind plan n;
  mr = λ n. mr_of plan n;
  clock = clock_by plan.crf plan packets;
}

-- When packet n with this head is due: at the instant of its first sample, counted from the head. A packet without a
-- head is due at the time that `j` lists for the packet.
abbrev pub due_by : Journal → ℕ → Option Head → ℕ
due_by j n None = j.due n
due_by j n (Some head) = nat_abs (nominal_instant j head 0)

-- when packet n is due, counted from its head in the journal `j`
abbrev pub due_in : Journal → ℕ → ℕ
due_in j n = due_by j n (head_of j n)

-- the times of `packets` packets of audio; each packet is due at the instant of its first sample, counted from its head
abbrev pub audio_times : Kind → TalkPlan → ℕ → Journal
audio_times kind plan packets = record (nominal_times kind plan packets) { due = λ n. due_in (nominal_times kind plan packets) n }

-- how many packets hold the input
abbrev pub packets_of : Audio → TalkPlan → List ℕ → ℕ
packets_of audio plan input = packets_for audio.frame plan.count input

-- the samples of packet n, with silence after the end of the input
abbrev pub samples_in : Audio → TalkPlan → List ℕ → ℕ → List ℕ
samples_in audio plan input n = samples_of audio.silence audio.frame plan.count input n

-- the journal of a plan of audio: the packets that its input makes, and those of its clock
abbrev pub audio_journal : Audio → TalkPlan → List ℕ → PacketJournal
audio_journal audio plan input = record {
  times = audio_times audio.kind plan (packets_of audio plan input);
  stream = plan.id;
  packet = λ n. audio.packet n (samples_in audio plan input n);
  clock = clock_id plan.crf;
  clock_packet = λ m. clock_packet_by plan.crf plan (packets_of audio plan input) m;
}
