-- How far the head of a packet can be from the packet's samples. The distance from a packet's head to its samples
-- bounds the instants that are counted from the head.
use Rattle.std.specs.Prelude.{◌+◌, ◌*◌, ◌^◌, pos, neg_ℤ, ◌≤ℤ◌, ◌<ℤ◌}
use Rattle.time_unfold.specs.declared.head_rule.Head.{Head}

-- A head from which samples can be counted. The head's instant is from -2^62 to 2^62 + 2^31 ns. If the stamped sample
-- is after the packet's first sample, the head's instant is at least -2^31 ns. The stamped sample is at most 65,535
-- samples after the packet's first sample, or at most 7 * 65,535 samples before it.
pub record IsCountable (head : Head) : Type 0 where
  pub from : neg_ℤ (pos (2 ^ 62)) ≤ℤ head.instant
  pub to : head.instant <ℤ pos (2 ^ 62 + 2 ^ 31)
  pub own : head.first <ℤ pos 0 → neg_ℤ (pos (2 ^ 31)) ≤ℤ head.instant
  pub first_from : neg_ℤ (pos 65535) ≤ℤ head.first
  pub first_to : head.first ≤ℤ pos (7 * 65535)
