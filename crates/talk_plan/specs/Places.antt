-- The packets of a plan, their sample frames, and when packets are sent.
use Rattle.std.specs.Prelude.{◌≡◌, ℕ, ℤ, pos, ◌*◌, ◌^◌, ◌<◌, ◌≤◌}
use Rattle.talk_plan.specs.declared.plan.TalkPlan.{TalkPlan}
use Rattle.talk_plan.specs.Plan.{IsAudioPlan}
use Rattle.talk_plan.specs.Timing.{arrival_of}

-- Packet n of a plan of audio. At most 2^28 sample frames precede the packet, because the longest input has 2^28 bytes.
pub record IsPacketOf (plan : TalkPlan) (n : ℕ) : Type 0 where
  pub talked : IsAudioPlan plan
  pub frames : n * plan.count ≤ 2 ^ 28

-- Sample frame i of packet n of a plan of audio.
pub record IsFrameOf (plan : TalkPlan) (n i : ℕ) : Type 0 where
  pub packet : IsPacketOf plan n
  pub within : i < plan.count

-- Packet n of a plan of audio is sent at `arrival`.
pub record IsSentAt (plan : TalkPlan) (n : ℕ) (arrival : ℤ) : Type 0 where
  pub packet : IsPacketOf plan n
  pub sent : arrival ≡ pos (arrival_of plan n)
