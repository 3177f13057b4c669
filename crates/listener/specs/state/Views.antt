-- Only private functions and proofs use these definitions. A delivery as the code holds it.
use Rattle.std.specs.Prelude.{ℕ, Bool, false, List, Option, Some, None}
use Rattle.avtp_header.specs.declared.header.Peeked.{Peeked}
use Rattle.packet_journal.specs.Deliveries.{Delivery, clock_kinds, is_wanted}
use Rattle.listener.specs.declared.delivery.AvtpPacket.{AvtpPacket}
use Rattle.listener.specs.declared.delivery_view.DeliveryView.{DeliveryView}

-- An AVTP packet and its first fields, without the packet's location in memory.
pub record Found : Type 0 where
  pub peeked : Peeked
  pub bytes : List ℕ

abbrev pub avtp_shape : AvtpPacket → Found
avtp_shape p = record { peeked = p.peeked; bytes = p.bytes.now }

-- a delivery, without its packet's location in memory
abbrev pub delivery_shape : DeliveryView → Delivery
delivery_shape d = record { frame = d.frame; arrival = d.arrival; subtype = d.subtype; seq = d.seq; packet = d.packet.now }

-- A packet that begins with these fields belongs to the clock. If there is no clock, this is false.
abbrev pub is_of_clock : Option ℕ → Peeked → Bool
is_of_clock None peeked = false
is_of_clock (Some id) peeked = is_wanted clock_kinds id peeked
