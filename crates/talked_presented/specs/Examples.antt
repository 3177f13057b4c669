-- Plans and captures that meet the premises.
use Rattle.std.specs.Prelude.{ℕ, Bool, List, [], ◌∷◌, replicate, None}
use Rattle.aaf_format.specs.declared.aaf.AafFormat.TheVariants.{Int16}
use Rattle.talk_plan.specs.declared.plan.TalkKind.TheVariants.{Aaf, H264}
use Rattle.talk_plan.specs.declared.plan.TalkPlan.{TalkPlan}
use Rattle.talker.specs.Examples.{restarting}

-- PCM of 16 bits at 48 kHz in packets of 6 stereo sample frames, without restarts; the argument says whether the stream
-- is sparse
abbrev pub plain : Bool → TalkPlan
plain sparse = record restarting { kind = Aaf Int16 sparse; restart = None }

-- 30 access units of H.264 a second; if the argument is `true`, only the last packet of each NAL unit has a timestamp
abbrev pub thirty : Bool → TalkPlan
thirty last_stamp = record restarting { kind = H264 last_stamp; rate = 30; restart = None }

-- silence for three packets of the `plain` plan
abbrev pub silence : List ℕ
silence = replicate 72 0

-- a byte stream of H.264 (ITU-T H.264, annex B) with one NAL unit of two bytes, an IDR slice
abbrev pub one_unit : List ℕ
one_unit = 0 ∷ 0 ∷ 1 ∷ 0x65 ∷ 0x88 ∷ []
