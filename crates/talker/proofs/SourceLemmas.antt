-- Lemmas about `Source`, which makes the packets of a stream.
use Rattle.std.proofs.Common.{◌≡◌, inl, inr, ℕ, ◌+◌, ◌*◌, ◌^◌, ◌<◌, ◌≤◌, Bool, true, false, not, List, [], ◌∷◌, ◌++◌, length, refl, sym, ap, subst, ◌∙◌, arith}
use Rattle.std.proofs.lemmas.Bool.{cases_lt}
use Rattle.cvf_format.specs.AnnexB.{nal_units}
use Rattle.talk_audio.specs.declared.audio.AudioStream.{AudioStream}
use Rattle.talk_plan.specs.declared.fault.TalkFault.TheVariants.{Arrival, NalType, Packets, StartCode}
use Rattle.talk_plan.specs.declared.plan.TalkKind.{TalkKind}
use Rattle.talk_plan.specs.declared.plan.TalkKind.TheVariants.{H264}
use Rattle.talk_plan.specs.declared.plan.TalkPlan.{TalkPlan}
use Rattle.talker.specs.declared.source.Source.{Source}
use Rattle.talker.specs.declared.source.Source.TheVariants.{Audio as OfAudio, Video as OfVideo}
use Rattle.talk_video.specs.declared.video.VideoStream.{VideoStream}
use Rattle.talk_audio.specs.Audio.{audio_by}
use Rattle.talk_clock.specs.Clock.{AreFew}
use Rattle.talker.specs.Faults.{arrives_too_late, fault_of, faults_by}
use Rattle.talk_plan.specs.Ethernet.{packet_bytes}
use Rattle.talker.specs.Journal.{Stream, stream_of, video_stream}
use Rattle.talk_audio.specs.Journal.{samples_in}
use Rattle.talk_plan.specs.Plan.{IsPlan, IsPlanOf, IsVideoPlan, most_input}
use Rattle.talk_plan.specs.Rows.{first_of, row}
use Rattle.talk_audio.specs.Streams.{IsAudio, audio_of, headers_of, packets_of, samples_size}
use Rattle.talker.specs.state.Talking.{IsSource, stream_in}
use Rattle.talk_video.specs.Streams.{IsVideo}
use Rattle.talk_video.specs.Units.{has_long_access_unit, has_other_type, has_start_code, units_fault}
use Rattle.talker.proofs.AudioLemmas.{timely}
use Rattle.talk_audio.proofs.SampleLemmas.{samples_whole}
use Rattle.talker.proofs.StreamLemmas.{packets_in}
use Rattle.talk_audio.proofs.FormatLemmas.{format_of}
use Rattle.talker.proofs.TalkLemmas.{none_late, plan_keeps, stream_is, video_is}
use Rattle.talk_video.proofs.VideoRules.{all_sent}

-- ---- audio

pub audio_packets : (s : AudioStream) (input : List ℕ) → IsAudio s → packets_in (stream_of s.plan input) ≡ packets_of s input
audio_packets s input is = ap packets_in (stream_is s input is)

-- at most 2^28 sample frames precede each packet of an audio source
pub audio_few : (s : AudioStream) (input : List ℕ) (packets : ℕ) → IsAudio s → length input ≤ most_input → packets ≡ packets_in (stream_of s.plan input)
    → AreFew s.plan packets
audio_few s input packets is limit e n h =
    timely s.plan (audio_of s) (headers_of s) input n is.plan (format_of s is) limit (omega (arith, audio_packets s input is))

-- the length of each frame of an audio stream
pub audio_size : (s : AudioStream) (input : List ℕ) (n : ℕ) → IsAudio s
    → length (packet_bytes ((stream_of s.plan input).journal.packet n)) ≡ headers_of s + samples_size s
audio_size s input n is =
    let a = audio_of s in
    ap (λ (stream : Stream). length (packet_bytes (stream.journal.packet n))) (stream_is s input is)
    ∙ (format_of s is).bytes n (samples_in a s.plan input n) (samples_whole a.silence a.frame s.plan.count n input (format_of s is).silence)

-- ---- H.264

pub video_stream_is : (v : VideoStream) → IsVideo v → stream_of v.plan v.input.now ≡ video_stream v.last_stamp v.plan v.input.now (nal_units v.input.now)
video_stream_is v is = video_is v.plan v.input.now v.last_stamp is.kind ∙ ap (video_stream v.last_stamp v.plan v.input.now) (all_sent v.input.now is.accepted)

pub video_packets : (v : VideoStream) → IsVideo v → v.packets ≡ packets_in (stream_of v.plan v.input.now)
video_packets v is = is.packets ∙ sym (ap packets_in (video_stream_is v is))

none_more : (a b c late : Bool) → late ≡ false
    → first_of ((row StartCode (not a) ∷ row NalType b ∷ row Packets c ∷ []) ++ row Arrival late ∷ [])
    ≡ first_of (row StartCode (not a) ∷ row NalType b ∷ row Packets c ∷ [])
none_more false b c late e = refl
none_more true true c late e = refl
none_more true false true late e = refl
none_more true false false late e = rw e refl

pub video_fault : (plan : TalkPlan) (input : List ℕ) (last_stamp : Bool) → IsVideoPlan plan → plan.kind ≡ H264 last_stamp → length input ≤ most_input
    → fault_of plan input ≡ units_fault input
unfolding fault_of units_fault
video_fault plan input last_stamp p kind limit =
    let plan_is : IsPlan plan = subst (λ (k : TalkKind). IsPlanOf k plan) (sym kind) p in
    ap (λ (k : TalkKind). first_of (faults_by (audio_by k plan) plan input)) kind
    ∙ none_more (has_start_code input) (has_other_type input) (has_long_access_unit input) (arrives_too_late plan input) (none_late plan input plan_is limit)

-- each packet of H.264 is sent before the instant 2^32 seconds, so a capture can record it
pub video_early : (v : VideoStream) (n : ℕ) → IsVideo v → n < v.packets → (stream_of v.plan v.input.now).arrival n < 2 ^ 32 * 1000000000
video_early v n is h =
    let plan_is : IsPlan v.plan = subst (λ (k : TalkKind). IsPlanOf k v.plan) (sym is.kind) is.plan in
    (plan_keeps v.plan v.input.now plan_is is.limit).sent n (omega (arith, video_packets v is))

-- ---- audio and H.264

-- a source has at most 2^29 packets
pub few_packets : (source : Source) → IsSource source → packets_in (stream_in source) ≤ 2 ^ 29
few_packets (OfAudio s input) is =
    elim (cases_lt (2 ^ 29) (packets_in (stream_of s.plan input.now))) [
      | inl more ↦ absurd (let few = audio_few s input.now (packets_in (stream_of s.plan input.now)) is.0 is.1 refl (2 ^ 29)
          more in omega (arith, few, is.0.plan.some_count))
      | inr few ↦ few
    ]
few_packets (OfVideo v) is = omega (arith, is.few, video_packets v is)
