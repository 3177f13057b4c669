-- What `show` says of a record: the text after the record's number and arrival, up to the end of its line.
use Rattle.std.specs.Prelude.{ℕ, List, Option, Some, None, ◌==◌, if◌then◌else◌}
use Rattle.std.specs.Option.{option_map}
use Rattle.avtp_base.specs.declared.refusal.Refusal.{Refusal}
use Rattle.avtp_text.specs.Show.{refused_content, other_content, iec_content, aaf_content, h264_content, crf_content, ethertype_content}
use Rattle.avtp_packet.specs.Packet.{AnyPacket, OfAaf, OfCrf, OfH264, OfIec, OfOther, packet_of, packet_refusal}
use Rattle.pcap_frames.specs.Frame.{Frame, frame_refusal, frame_of}
use Rattle.packet_journal.specs.Deliveries.{avtp_ethertype}
use Rattle.run_report.specs.Frame.{inside}

-- the text of the refusal if there is one, otherwise the text of what was read
abbrev pub refused_or : Option Refusal → List ℕ → List ℕ
refused_or (Some refusal) content = refused_content refusal
refused_or None content = content

-- what `show` says of a packet's fields, depending on its format
abbrev pub fields_content : AnyPacket → List ℕ
fields_content (OfIec v) = iec_content v
fields_content (OfAaf v) = aaf_content v
fields_content (OfH264 v) = h264_content v
fields_content (OfCrf v) = crf_content v
fields_content (OfOther subtype) = other_content subtype

-- what `show` says of an AVTP packet that begins at offset `start` of its frame
unfoldable pub packet_content : ℕ → List ℕ → List ℕ
packet_content start pdu = refused_or (option_map (inside start) (packet_refusal pdu)) (fields_content (packet_of pdu))

-- what `show` says of a frame that was read
unfoldable pub frame_content : Frame → List ℕ
frame_content frame =
    if frame.ethertype == avtp_ethertype then packet_content frame.start frame.payload else ethertype_content frame

-- what `show` says of a record, given its bytes
unfoldable pub record_content : List ℕ → List ℕ
record_content bytes = refused_or (frame_refusal bytes) (frame_content (frame_of bytes))
