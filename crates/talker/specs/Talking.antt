-- A talker, as its contracts see it.
use Rattle.std.specs.Prelude.{ℕ, ◌+◌, min, List, length}
use Rattle.talk_plan.specs.declared.plan.TalkPlan.{TalkPlan}
use Rattle.talker.specs.Frames.{frames}

-- A talker: its plan, its input, and how many frames it has given.
pub record Talking : Type 0 where
  pub plan : TalkPlan
  pub input : List ℕ
  pub given : ℕ

-- the talker after it gives one more frame; if it has given all frames, nothing changes
abbrev pub gone_on : Talking → Talking
gone_on t = record t { given = min (t.given + 1) (length (frames t.plan t.input)) }
