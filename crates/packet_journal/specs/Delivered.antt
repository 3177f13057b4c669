-- A list of records delivers the packets of a journal to a listener.
use Rattle.std.specs.Prelude.{◌≡◌, ℕ, ◌<◌, pos, List, [], ◌∷◌, ◌++◌, Option, ⊤}
use Rattle.pcap_frames.specs.Capture.{Record}
use Rattle.crf_format.specs.Crf.{crf_spelling}
use Rattle.stream_journal.specs.Delivered.{AreNear, IsDelivered}
use Rattle.packet_journal.specs.Deliveries.{Delivery, deliveries}
use Rattle.packet_journal.specs.Packets.{PacketJournal, spelling_of}

-- the bytes are those of a packet, followed by trailing bytes that belong to no field
pub record Spells (packet bytes : List ℕ) : Type 0 where
  pub trail : List ℕ
  pub whole : bytes ≡ packet ++ trail

-- The delivery is a copy of packet n. The copy arrived near enough to the packet's instant for a listener to tell which
-- packet was sent.
pub record IsCopyOf (p : PacketJournal) (lead n : ℕ) (d : Delivery) : Type 0 where
  pub arrival : ℕ
  pub arrived : d.arrival ≡ pos arrival
  pub delivered : IsDelivered p.times lead (record { number = n; arrival = arrival })
  pub spelled : Spells (spelling_of (p.packet n)) d.packet

-- the delivery is a copy of the clock's packet m
pub record IsClockCopyOf (p : PacketJournal) (m : ℕ) (d : Delivery) : Type 0 where
  pub known : m < p.times.clock.packets
  pub spelled : Spells (crf_spelling (p.clock_packet m)) d.packet

-- the packet that a delivery copies: a packet of the stream, or a packet of the clock
pub data Origin : Type 0 where
  OfStream : ℕ → Origin
  OfClock : ℕ → Origin

-- the delivery is a copy of the stream's packet n, or of the clock's packet m
abbrev pub IsFrom : PacketJournal → ℕ → Origin → Delivery → Type 0
IsFrom p lead (OfStream n) d = IsCopyOf p lead n d
IsFrom p lead (OfClock m) d = IsClockCopyOf p m d

-- the deliveries are copies of the packets of these origins, in the same order
abbrev pub AreFrom : PacketJournal → ℕ → List Origin → List Delivery → Type 0
AreFrom p lead [] [] = ⊤
AreFrom p lead [] (d ∷ ds) = ⊥
AreFrom p lead (o ∷ os) [] = ⊥
AreFrom p lead (o ∷ os) (d ∷ ds) = IsFrom p lead o d × AreFrom p lead os ds

-- the numbers of the stream's packets among the origins, in the same order
abbrev pub stream_numbers : List Origin → List ℕ
stream_numbers [] = []
stream_numbers (OfStream n ∷ os) = n ∷ stream_numbers os
stream_numbers (OfClock m ∷ os) = stream_numbers os

-- Each delivery is a copy of a packet of the journal. Packets can be missing, can arrive more than once, and can arrive
-- in any order.
pub record AreDelivered (p : PacketJournal) (lead : ℕ) (ds : List Delivery) : Type 0 where
  pub origins : List Origin
  pub copies : AreFrom p lead origins ds
  pub near : AreNear p.times (stream_numbers origins)

-- The records deliver the journal's packets to a listener of its stream. If `clock` names a clock stream, the listener
-- listens to that stream, too. The listener expects each packet `lead` nanoseconds before the packet's first instant.
abbrev pub Delivers : PacketJournal → Option ℕ → ℕ → List Record → Type 0
Delivers p clock lead records = AreDelivered p lead (deliveries p.stream clock records)
