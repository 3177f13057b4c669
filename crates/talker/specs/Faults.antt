-- Why a plan and its input make no stream.
use Rattle.std.specs.Prelude.{ℕ, ◌*◌, ◌^◌, Bool, not, pos, int_le, List, [], ◌∷◌, ◌++◌, Option, Some, None}
use Rattle.std.specs.List.{list_any}
use Rattle.talk_plan.specs.declared.fault.TalkFault.{TalkFault}
use Rattle.talk_plan.specs.declared.fault.TalkFault.TheVariants.{Frames, Arrival}
use Rattle.talk_plan.specs.declared.plan.TalkPlan.{TalkPlan}
use Rattle.talk_audio.specs.Audio.{Audio, audio_by}
use Rattle.talk_audio.specs.Samples.{is_whole}
use Rattle.talker.specs.Frames.{frames}
use Rattle.talk_plan.specs.Rows.{Row, first_of, row}
use Rattle.talk_video.specs.Units.{unit_faults}

-- a frame would arrive at 2^32 seconds or later, which a capture cannot record
abbrev pub arrives_too_late : TalkPlan → List ℕ → Bool
arrives_too_late plan input = list_any (λ f. int_le (pos (2 ^ 32 * 1000000000)) f.arrival) (frames plan input)

-- The possible faults, in the order of their tests: the faults of audio if there is an audio format, otherwise the
-- faults of H.264.
abbrev pub faults_by : Option Audio → TalkPlan → List ℕ → List Row
faults_by (Some audio) plan input =
    row Frames (not (is_whole audio.frame input)) ∷
    row Arrival (arrives_too_late plan input) ∷ []
faults_by None plan input = unit_faults input ++ row Arrival (arrives_too_late plan input) ∷ []

-- the first fault of a plan and its input, if there is one
unfoldable pub fault_of : TalkPlan → List ℕ → Option TalkFault
fault_of plan input = first_of (faults_by (audio_by plan.kind plan) plan input)
