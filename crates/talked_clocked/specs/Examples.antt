-- Plans that meet the premises.
use Rattle.std.specs.Prelude.{false, Some}
use Rattle.talk_plan.specs.declared.plan.CrfPlan.{CrfPlan}
use Rattle.talk_plan.specs.declared.plan.TalkPlan.{TalkPlan}
use Rattle.talker.specs.Examples.{six_blocks}
use Rattle.talked_presented.specs.Examples.{plain}

-- a clock of 48 kHz; each of its packets has six timestamps, which are 160 sample frames apart
abbrev pub six_points : CrfPlan
six_points = record { id = 0x0200000000010002; rate = 48000; pull = 0; interval = 160; points = 6 }

-- the `plain` plan of dense PCM with the clock `six_points`
abbrev pub with_clock : TalkPlan
with_clock = record (plain false) { crf = Some six_points }

-- AM824 at 48 kHz, in packets of 8 data blocks (one SYT interval), with the clock `six_points`
abbrev pub blocking : TalkPlan
blocking = record (six_blocks 48000) { count = 8; crf = Some six_points }
