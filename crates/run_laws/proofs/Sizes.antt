-- A capture of audio without a clock is far shorter than the default limit of `listen`.
use Rattle.std.proofs.Common.{◌≡◌, ℕ, ◌+◌, ◌*◌, ◌/◌, ◌^◌, ◌≤◌, List, [], ◌∷◌, ◌++◌, map, flat_map, length, Option, None, Some, IsSome, refl, arith, length-append}
use Rattle.std.specs.List.{AllByRecursion}
use Rattle.std.proofs.Math.Nat.{div-le_self}
use Rattle.byteorder.specs.Numbers.{length-bytes_low_first}
use Rattle.pcap_frames.specs.declared.style.Order.TheVariants.{Little}
use Rattle.pcap_frames.specs.Capture.{Record, header_spelling, record_spelling}
use Rattle.pcap_frames.specs.Layout.{number_bytes}
use Rattle.talk_audio.specs.Audio.{Audio, audio_by}
use Rattle.talk_plan.specs.declared.plan.TalkKind.{TalkKind}
use Rattle.talk_plan.specs.declared.plan.TalkKind.TheVariants.{Aaf, Am824, H264}
use Rattle.talk_plan.specs.declared.plan.TalkPlan.{TalkPlan}
use Rattle.talk_plan.specs.Plan.{IsAudioKind}
use Rattle.talker.specs.Frames.{SentFrame, capture, capture_style, clock_frame_of, clock_frames, frame_of, frames, record_of, stream_frames}
use Rattle.talker.specs.Journal.{stream_by, stream_of}
use Rattle.talker.proofs.FrameLemmas.{all_of, each, sorted_all}
use Rattle.talker.proofs.StreamLemmas.{clocks_in, count_all, packets_in}
use Rattle.talker.proofs.TalkLemmas.{audio_plan, plan_keeps}
use Rattle.talked_presented.specs.Whole.{HasDefaultLead}

number_size : (size n : ℕ) → length (number_bytes Little size n) ≡ size
unfolding number_bytes
number_size size n = length-bytes_low_first 0 size n

record_long : (r : Record) → length (record_spelling capture_style r) ≡ 16 + length r.bytes
record_long r = simp (length-append, number_size)

-- the frame is short enough for Ethernet
abbrev IsShort : SentFrame → Type 0
IsShort f = length f.bytes ≤ 1518

records_long : (sent : List SentFrame) → AllByRecursion IsShort sent → length (flat_map (record_spelling capture_style) (map record_of sent)) ≤ 1534 * length sent
records_long [] short = omega arith
records_long (f ∷ sent) short =
    omega (arith, length-append (record_spelling capture_style (record_of f)) (flat_map (record_spelling capture_style) (map record_of sent)), record_long (record_of f), short.0, records_long sent short.1)

-- ---- how many frames there are

is_audio : (kind : TalkKind) (plan : TalkPlan) → IsAudioKind kind → IsSome (audio_by kind plan)
is_audio (Aaf format sparse) plan is = refl
is_audio Am824 plan is = refl
is_audio (H264 last_stamp) plan is = absurd is

few : (audio : Option Audio) (plan : TalkPlan) (input : List ℕ) → IsSome audio → plan.crf ≡ None → clocks_in (stream_by audio plan input) + packets_in (stream_by audio plan input) ≤ length input + 1
few None plan input is none = absurd cc
few (Some audio) plan input is none = rw none (omega (arith, div-le_self (length input) audio.frame, div-le_self (length input / audio.frame) plan.count))

pub capture_short : (plan : TalkPlan) (input : List ℕ) → HasDefaultLead plan input → length (capture plan input) ≤ 2 ^ 40
capture_short plan input h =
    let s = stream_of plan input in
    let is = plan_keeps plan input (audio_plan plan h.talked) h.limit in
    let short = sorted_all IsShort (clock_frames plan input ++ stream_frames plan input) (all_of IsShort (clock_frames plan input) (stream_frames plan input)
    (each (clock_frame_of s) IsShort 0 (clocks_in s) (λ m below. is.clock_size m (omega (arith, below)))) (each (frame_of s) IsShort 0 (packets_in s) (λ n below. is.size n (omega (arith, below))))) in
    let body = records_long (frames plan input) short in
    let header : length (header_spelling capture_style) ≡ 24 = simp (length-append, number_size) in
    let limit : length input ≤ 268435456 = h.limit in
    omega (arith, length-append (header_spelling capture_style) (flat_map (record_spelling capture_style) (map record_of (frames plan input))), header, body, count_all s, few (audio_by plan.kind plan) plan input (is_audio plan.kind plan h.talked.kind) h.alone, limit)
