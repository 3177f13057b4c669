-- When a listener finds the stamp that a packet is counted from.
use Rattle.std.specs.Prelude.{◌≡◌, ℕ, ◌+◌, ◌-◌, ◌*◌, ◌≤◌, List, Contains}
use Rattle.time_unfold.specs.declared.head_rule.Distance.{Distance}
use Rattle.time_unfold.specs.declared.stamp.Stamp.{Stamp}
use Rattle.time_unfold.specs.Stamps.{last_of}
use Rattle.stream_journal.specs.Journal.{Journal}
use Rattle.stream_journal.specs.Delivered.{Copy}
use Rattle.stream_journal.specs.Heads.{IsStampOf}

-- A listener expects packets `lead` nanoseconds before their first instant. The arrival of this copy, plus `lead`,
-- differs from the packet's first instant by at most the time of 60 packets.
pub record IsExpected (j : Journal) (lead : ℕ) (c : Copy) : Type 0 where
  pub from : j.due c.number * j.rate ≤ (c.arrival + lead) * j.rate + 60 * (j.count * 1000000000)
  pub to : (c.arrival + lead) * j.rate ≤ j.due c.number * j.rate + 60 * (j.count * 1000000000)

-- There is no restart between packets k and n: all packets from k to n have the same restart bit.
abbrev pub HasNoRestart : Journal → ℕ → ℕ → Type 0
HasNoRestart j k n = (i : ℕ) → k ≤ i → i ≤ n → j.mr i ≡ j.mr n

-- Packet n is counted from `stamp`, and `stamp` is at hand: it is among the last `room` stamps. The stamp belongs to
-- the packet that was sent `far.packets` packets before packet n. There is no restart between packet n and the earlier
-- packet.
pub record IsAtHand (j : Journal) (room n : ℕ) (far : Distance) (stamps : List Stamp) (stamp : Stamp) : Type 0 where
  pub back : far.packets ≤ n
  pub is : IsStampOf j (n - far.packets) stamp
  pub no_restart : HasNoRestart j (n - far.packets) n
  pub kept : Contains (last_of room stamps) stamp
