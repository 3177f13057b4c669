-- The Ethernet frames that carry packets.
use Rattle.std.specs.Prelude.{ℕ, false, List, Some}
use Rattle.pcap_frames.specs.Frame.{Frame, frame_spelling}
use Rattle.avtp_header.specs.Numbers.{avtp_ethertype}
use Rattle.packet_journal.specs.Packets.{PacketView, spelling_of}

-- The frame that carries a packet of AVTP. Both addresses are administered locally; the destination is one of AVTP's
-- multicast addresses. Priority 3 and VLAN 2 are the defaults of stream reservation class A (IEEE 802.1Q).
abbrev pub ethernet : List ℕ → Frame
ethernet packet = record {
  dst = 0x91E0F000FE00;
  src = 0x020000000001;
  tag = Some (record { pcp = 3; dei = false; vid = 2 });
  ethertype = avtp_ethertype;
  start = 18;
  payload = packet;
}

-- the bytes of a packet's frame
unfoldable pub packet_bytes : PacketView → List ℕ
packet_bytes packet = frame_spelling (ethernet (spelling_of packet))
