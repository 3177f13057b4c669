-- Records whose frames carry a journal's packets.
use Rattle.std.specs.Prelude.{◌≡◌, ◌<◌, ℕ, pos, List, [], ◌∷◌, ⊤}
use Rattle.pcap_frames.specs.Capture.{Record}
use Rattle.pcap_frames.specs.Frame.{Frame, IsWritableFrame, frame_spelling}
use Rattle.crf_format.specs.Crf.{crf_spelling}
use Rattle.stream_journal.specs.Delivered.{IsDelivered}
use Rattle.packet_journal.specs.Deliveries.{avtp_ethertype}
use Rattle.packet_journal.specs.Delivered.{Origin, OfClock, OfStream, Spells}
use Rattle.packet_journal.specs.Packets.{PacketJournal, spelling_of}

-- The record holds an Ethernet frame of AVTP with packet n. The record was captured near enough to the packet's instant
-- for a listener to tell which packet the record holds.
pub record Carries (p : PacketJournal) (lead n : ℕ) (r : Record) : Type 0 where
  pub frame : Frame
  pub writable : IsWritableFrame frame
  pub bytes : r.bytes ≡ frame_spelling frame
  pub avtp : frame.ethertype ≡ avtp_ethertype
  pub packet : Spells (spelling_of (p.packet n)) frame.payload
  pub arrival : ℕ
  pub arrived : r.arrival ≡ pos arrival
  pub delivered : IsDelivered p.times lead (record { number = n; arrival = arrival })

-- the records carry the packets with these numbers, in the same order
abbrev pub AllCarry : PacketJournal → ℕ → List ℕ → List Record → Type 0
AllCarry p lead [] [] = ⊤
AllCarry p lead [] (r ∷ rs) = ⊥
AllCarry p lead (n ∷ ns) [] = ⊥
AllCarry p lead (n ∷ ns) (r ∷ rs) = Carries p lead n r × AllCarry p lead ns rs

-- ---- records of the stream and of its clock

-- The record holds an Ethernet frame of AVTP with packet m of the clock.
pub record CarriesClock (p : PacketJournal) (m : ℕ) (r : Record) : Type 0 where
  pub known : m < p.times.clock.packets
  pub frame : Frame
  pub writable : IsWritableFrame frame
  pub bytes : r.bytes ≡ frame_spelling frame
  pub avtp : frame.ethertype ≡ avtp_ethertype
  pub packet : Spells (crf_spelling (p.clock_packet m)) frame.payload

-- the record carries the stream's packet n, or the clock's packet m
abbrev pub CarriesFrom : PacketJournal → ℕ → Origin → Record → Type 0
CarriesFrom p lead (OfStream n) r = Carries p lead n r
CarriesFrom p lead (OfClock m) r = CarriesClock p m r

-- the records carry the packets of these origins, in the same order
abbrev pub AllCarryFrom : PacketJournal → ℕ → List Origin → List Record → Type 0
AllCarryFrom p lead [] [] = ⊤
AllCarryFrom p lead [] (r ∷ rs) = ⊥
AllCarryFrom p lead (o ∷ os) [] = ⊥
AllCarryFrom p lead (o ∷ os) (r ∷ rs) = CarriesFrom p lead o r × AllCarryFrom p lead os rs
