-- Packets whose timestamps belong to their first samples. Each packet arrives at or before the instant of its first
-- sample.
use Rattle.std.specs.Prelude.{◌≡◌, ℕ, ◌≤◌, false, ℤ, pos, neg_ℤ, ◌≤ℤ◌, List, [], ◌∷◌, map, Some, ⊤}
use Rattle.time_unfold.specs.Heads.{stamped_index}
use Rattle.time_unfold.specs.Time.{unfolded}
use Rattle.sample_schedule.specs.declared.entry.Entry.{Entry}
use Rattle.sample_schedule.specs.declared.entry.Entry.TheVariants.{Item as OfItem}
use Rattle.sample_schedule.specs.declared.item.Item.TheVariants.{Packet as OfPacket}
use Rattle.sample_schedule.specs.declared.item.Packet.{Packet}
use Rattle.sample_schedule.specs.Batches.{Presented}
use Rattle.sample_schedule.specs.Verdicts.{nominal_spot, samples_at}

-- The packet has samples, a known rate, and a timestamp that is not marked as uncertain. The timestamp belongs to the
-- first sample and means `instant`, which is 0 or later. The packet arrives at or before `instant`.
pub record IsStamped (p : Packet) (instant : ℤ) : Type 0 where
  pub certain : p.tu ≡ false
  pub some : 1 ≤ p.count
  pub known_rate : 1 ≤ p.rate
  pub index : stamped_index p.rule ≡ 0
  pub timestamp : ℕ
  pub stamp : p.stamp ≡ Some timestamp
  pub means : unfolded timestamp p.arrival ≡ instant
  pub early : p.arrival ≤ℤ instant
  pub begun : pos 0 ≤ℤ instant

-- packet i is stamped with instant i, and there are as many packets as instants
abbrev pub AreStamped : List Packet → List ℤ → Type 0
AreStamped [] [] = ⊤
AreStamped [] (x ∷ xs) = ⊥
AreStamped (p ∷ ps) [] = ⊥
AreStamped (p ∷ ps) (x ∷ xs) = IsStamped p x × AreStamped ps xs

-- the samples of a packet; their instants are counted at the nominal rate from the instant of the first sample
abbrev pub counted_from_first : Packet → ℤ → Presented
counted_from_first p instant = samples_at p (nominal_spot p.rate (record { instant = instant; first = neg_ℤ (pos 0) }))

-- the batches of all packets; the instants of the samples of packet i are counted from instant i
abbrev pub all_counted : List Packet → List ℤ → List Presented
all_counted [] xs = []
all_counted (p ∷ ps) [] = []
all_counted (p ∷ ps) (x ∷ xs) = counted_from_first p x ∷ all_counted ps xs

-- the entries of a schedule that consists of packets
abbrev pub packet_entries : List Packet → List Entry
packet_entries ps = map (λ (p : Packet). OfItem (OfPacket p)) ps
