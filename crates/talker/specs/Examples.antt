-- Plans whose times are worked out by hand.
use Rattle.std.specs.Prelude.{◌≡◌, ℕ, true, pos, Some, None}
use Rattle.aaf_format.specs.declared.aaf.AafFormat.TheVariants.{Int16}
use Rattle.stream_journal.specs.Journal.{Journal, rule_of}
use Rattle.talk_plan.specs.declared.plan.TalkKind.TheVariants.{Aaf, Am824}
use Rattle.talk_plan.specs.declared.plan.TalkPlan.{TalkPlan}

-- Sparse PCM of 16 bits at 48 kHz, in packets of 6 stereo sample frames, with a restart after every ten packets.
abbrev pub restarting : TalkPlan
restarting = record {
  kind = Aaf Int16 true;
  rate = 48000;
  channels = 2;
  count = 6;
  id = 0x0200000000010001;
  start = pos 1000000000;
  lead = 2000000;
  restart = Some 10;
  jump = 1000000;
  crf = None;
}

-- AM824 at the given rate, in packets of 6 stereo data blocks.
abbrev pub six_blocks : ℕ → TalkPlan
six_blocks rate = record restarting { kind = Am824; rate = rate; restart = None }

-- packet n has the same times, restart bit and stamped sample in the journals `a` and `b`
pub record HasSameTimes (a b : Journal) (n : ℕ) : Type 0 where
  pub due : a.due n ≡ b.due n
  pub stamp : a.stamp n ≡ b.stamp n
  pub mr : a.mr n ≡ b.mr n
  pub rule : rule_of a.kind n ≡ rule_of b.kind n
