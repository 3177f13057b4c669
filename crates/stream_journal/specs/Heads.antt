-- The stamps that a listener notes for copies, and the stamps that a listener searches for.
use Rattle.std.specs.Prelude.{◌≡◌, ◌≢◌, ℕ, ◌+◌, ◌-◌, ◌*◌, ◌/◌, ◌%◌, ◌<◌, ◌≤◌, ◌⊎◌, pos, List, Some, None, IfSome}
use Rattle.time_unfold.specs.declared.head_rule.Distance.{Distance}
use Rattle.time_unfold.specs.declared.stamp.Stamp.{Stamp}
use Rattle.time_unfold.specs.declared.stamp.Want.{Want}
use Rattle.time_unfold.specs.Heads.{counted_block, distance, stamped_block}
use Rattle.time_unfold.specs.Stamps.{found}
use Rattle.stream_journal.specs.Journal.{Journal, head_of, rule_of}
use Rattle.stream_journal.specs.Delivered.{Copy, IsDelivered}

-- the stamp that a listener notes for a copy of packet k; the timestamp of packet k is this instant
abbrev pub stamp_at : Journal → ℕ → ℕ → Stamp
stamp_at j k instant = record {
  seq = k % 256;
  mr = j.mr k;
  block = stamped_block (rule_of j.kind k);
  rate = j.rate;
  instant = pos instant;
}

-- the stamp is what a listener notes for a copy of packet k, which has a timestamp in the journal
pub record IsStampOf (j : Journal) (k : ℕ) (stamp : Stamp) : Type 0 where
  pub known : k < j.packets
  pub instant : ℕ
  pub stamped : j.stamp k ≡ Some instant
  pub same : stamp ≡ stamp_at j k instant

-- the stamp is that of some packet of the journal
pub record IsTrue (j : Journal) (stamp : Stamp) : Type 0 where
  pub number : ℕ
  pub is : IsStampOf j number stamp

-- The stamp that a listener searches for if it has a copy of a packet without a timestamp. `far` says how far back the
-- wanted stamp is.
abbrev pub wanted : Journal → ℕ → Copy → Distance → Want
wanted j lead c far = record {
  seq = (c.number % 256 + 256 - far.packets) % 256;
  mr = j.mr c.number;
  block = counted_block (rule_of j.kind c.number);
  rate = j.rate;
  arrival = pos c.arrival;
  lead = lead;
  back = far.samples;
  count = j.count;
}

-- A copy of a packet without a timestamp reached a listener, which expects packets `lead` nanoseconds before their
-- first instant. The packet is counted from a stamp at the distance `far`.
pub record IsUnstamped (j : Journal) (lead : ℕ) (c : Copy) (far : Distance) : Type 0 where
  pub came : IsDelivered j lead c
  pub none : j.stamp c.number ≡ None
  pub back : distance (rule_of j.kind c.number) c.number j.count ≡ Some far

-- packet n is counted from a packet; packet k is another packet with the sequence number of that packet
pub record IsOther (n k : ℕ) (far : Distance) : Type 0 where
  pub same : (k + far.packets) % 256 ≡ n % 256
  pub other : k + far.packets ≢ n

-- The stamp belongs to an earlier packet, the one that was sent `far.packets` packets before packet n. Both packets
-- have the same `mr`.
pub record IsHeadOf (j : Journal) (n : ℕ) (far : Distance) (stamp : Stamp) : Type 0 where
  pub back : far.packets ≤ n
  pub is : IsStampOf j (n - far.packets) stamp
  pub one_run : j.mr (n - far.packets) ≡ j.mr n

-- the instant of the sample that is `samples` samples after the sample at `instant`, at the stream's rate
abbrev pub behind : Journal → ℕ → ℕ → ℕ
behind j instant samples = instant + samples * 1000000000 / j.rate

-- the instant `to` is later than the instant `from` by more than the time of `times` packets
abbrev pub IsFarther : Journal → ℕ → ℕ → ℕ → Type 0
IsFarther j times from to = from * j.rate + times * (j.count * 1000000000) < to * j.rate

-- the two instants differ by more than the time of `times` packets
abbrev pub AreApart : Journal → ℕ → ℕ → ℕ → Type 0
AreApart j times x y = IsFarther j times x y ⊎ IsFarther j times y x

-- Packet n is counted from this stamp: the packet's first sample is `far.samples` samples after the stamp's instant.
abbrev pub IsCountedFrom : Journal → ℕ → Distance → Stamp → Type 0
IsCountedFrom j n far stamp = head_of j n ≡ Some (record { instant = stamp.instant; first = pos far.samples })

-- Some stamps are searched for a packet without a timestamp, and the stamp that is found is the packet's head. The packet
-- is counted from that stamp. If the packet has no head, nothing is found.
pub record FindsHead (j : Journal) (lead room : ℕ) (c : Copy) (far : Distance) (stamps : List Stamp) : Type 0 where
  pub stamp : IfSome (found room (wanted j lead c far) stamps) (IsHeadOf j c.number far)
  pub head : IfSome (found room (wanted j lead c far) stamps) (IsCountedFrom j c.number far)
  pub none : head_of j c.number ≡ None → found room (wanted j lead c far) stamps ≡ None
