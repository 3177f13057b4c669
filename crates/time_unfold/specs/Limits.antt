-- The conditions on a packet's rule, and on a search for a stamp.
use Rattle.std.specs.Prelude.{◌≡◌, ◌≤◌, ◌*◌, ◌^◌, ◌+◌, ◌⊎◌, ⊤, ℕ, pos, neg_ℤ, ◌≤ℤ◌, ◌<ℤ◌}
use Rattle.time_unfold.specs.declared.head_rule.Distance.{Distance}
use Rattle.time_unfold.specs.declared.head_rule.HeadRule.{HeadRule}
use Rattle.time_unfold.specs.declared.head_rule.HeadRule.TheVariants.{Own, Eight, Blocks}
use Rattle.time_unfold.specs.declared.stamp.Stamp.{Stamp}
use Rattle.time_unfold.specs.declared.stamp.Want.{Want}
use Rattle.time_unfold.specs.Time.{IsArrival}

-- the instant of a stamp is from -2^62 to below 2^62 + 2^31 ns: an arrival is at most 2^62 ns, and the instant is less
-- than 2^31 ns after the arrival of its packet
pub record IsStamp (stamp : Stamp) : Type 0 where
  pub from : neg_ℤ (pos (2 ^ 62)) ≤ℤ stamp.instant
  pub to : stamp.instant <ℤ pos (2 ^ 62 + 2 ^ 31)

-- The packet's arrival is valid, its rate is at least 1 Hz, and it has at most 65,535 samples. The stamped sample is at
-- most 7 * `count` samples before the packet's first sample; `count` is the packet's number of samples.
pub record IsWant (want : Want) : Type 0 where
  pub arrival : IsArrival want.arrival
  pub rate : 1 ≤ want.rate
  pub count : want.count ≤ 65535
  pub back : want.back ≤ 7 * want.count

-- the interval of a rule is a SYT_INTERVAL of IEC 61883-6: 8, 16 or 32
abbrev pub IsRule : HeadRule → Type 0
IsRule Own = ⊤
IsRule Eight = ⊤
IsRule (Blocks dbc interval) = (interval ≡ 8) ⊎ ((interval ≡ 16) ⊎ (interval ≡ 32))

-- the distance is at most 7 packets, and at most 7 * `count` samples
pub record IsBehind (count : ℕ) (far : Distance) : Type 0 where
  pub packets : far.packets ≤ 7
  pub samples : far.samples ≤ 7 * count
