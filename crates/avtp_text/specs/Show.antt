-- The lines of `show`: one for each record of a capture, and one at the end of the capture.
use Rattle.std.specs.Prelude.{List, ℕ, ℤ, ◌/◌, ◌%◌, ◌++◌, length, codes, decimal, unwrap_or}
use Rattle.std.specs.Fmt.{signed_decimal}
use Rattle.avtp_base.specs.declared.refusal.Refusal.{Refusal}
use Rattle.pcap_frames.specs.Frame.{Frame}
use Rattle.avtp_header.specs.declared.header.StreamHeader.{StreamHeader}
use Rattle.aaf_format.specs.declared.aaf.AafFormat.{AafFormat}
use Rattle.aaf_format.specs.declared.aaf.AafFormat.TheVariants.{Float32, Int32, Int24, Int16}
use Rattle.aaf_format.specs.Aaf.{Aaf, rate_of}
use Rattle.iec61883_format.specs.Iec.{Iec}
use Rattle.cvf_format.specs.declared.cvf.NalPart.{NalPart}
use Rattle.cvf_format.specs.declared.cvf.NalPart.TheVariants.{Single, First, Middle, Last}
use Rattle.cvf_format.specs.Cvf.{Cvf}
use Rattle.crf_format.specs.Crf.{Crf, point_at}
use Rattle.avtp_text.specs.Pieces.{newline, flag_text, id_text, refusal_text}

-- how the line of a record begins: the record's number, counted from 1, and the record's arrival in nanoseconds
unfoldable pub frame_start : ℕ → ℤ → List ℕ
frame_start number arrival = codes "frame " ++ decimal number ++ codes " at " ++ signed_decimal arrival ++ codes " "

-- the line of a record: the record's number, arrival and content
abbrev pub frame_line : ℕ → ℤ → List ℕ → List ℕ
frame_line number arrival content = frame_start number arrival ++ content ++ newline

-- the line at the end of a capture, with the number of its records
unfoldable pub end_frames_line : ℕ → List ℕ
end_frames_line frames = codes "end frames " ++ decimal frames ++ newline

-- the text of a frame or packet that is refused, with the refused field and the field's offset from the start of the
-- frame
unfoldable pub refused_content : Refusal → List ℕ
refused_content r = codes "refused " ++ refusal_text r

-- the text of a frame whose EtherType is not AVTP's: the EtherType, and the length of the payload
unfoldable pub ethertype_content : Frame → List ℕ
ethertype_content f = codes "ethertype " ++ decimal f.ethertype ++ codes " bytes " ++ decimal (length f.payload)

-- the text of a packet whose AVTP subtype is not supported
unfoldable pub other_content : ℕ → List ℕ
other_content subtype = codes "other " ++ decimal subtype

-- the name of a sample format of AAF
abbrev pub format_text : AafFormat → List ℕ
format_text Float32 = codes "float32"
format_text Int32 = codes "int32"
format_text Int24 = codes "int24"
format_text Int16 = codes "int16"

-- the text of the stream header of AAF, IEC 61883 and CVF packets
unfoldable pub header_text : StreamHeader → List ℕ
header_text h =
    codes "id " ++ id_text h.stream_id
    ++ codes " seq " ++ decimal h.seq
    ++ codes " ts " ++ decimal h.timestamp
    ++ codes " tv " ++ flag_text h.tv
    ++ codes " tu " ++ flag_text h.tu
    ++ codes " mr " ++ flag_text h.mr

-- the text of an AAF packet; a user-specified rate is shown as 0
unfoldable pub aaf_content : Aaf → List ℕ
aaf_content v =
    codes "aaf " ++ header_text v.header
    ++ codes " sp " ++ flag_text v.sparse
    ++ codes " evt " ++ decimal v.evt
    ++ codes " format " ++ format_text v.format
    ++ codes " rate " ++ decimal (unwrap_or (rate_of v.nsr) 0)
    ++ codes " channels " ++ decimal v.channels
    ++ codes " depth " ++ decimal v.depth
    ++ codes " count " ++ decimal v.count
    ++ codes " bytes " ++ decimal v.header.data_length

-- the text of an IEC 61883-6 packet
unfoldable pub iec_content : Iec → List ℕ
iec_content v =
    codes "iec " ++ header_text v.header
    ++ codes " dbs " ++ decimal v.cip.dbs
    ++ codes " dbc " ++ decimal v.cip.dbc
    ++ codes " fdf " ++ decimal v.cip.fdf
    ++ codes " count " ++ decimal v.count
    ++ codes " bytes " ++ decimal v.header.data_length

-- the name of the part of a NAL unit that a packet carries
abbrev pub part_text : NalPart → List ℕ
part_text Single = codes "single"
part_text First = codes "first"
part_text Middle = codes "middle"
part_text Last = codes "last"

-- the type of a NAL unit, given the unit's first byte
abbrev pub nal_type : ℕ → ℕ
nal_type nal = nal % 32

-- the text of an H.264 packet
unfoldable pub h264_content : Cvf → List ℕ
h264_content v =
    codes "h264 " ++ header_text v.header
    ++ codes " ptv " ++ flag_text v.ptv
    ++ codes " pt " ++ decimal v.h264_timestamp
    ++ codes " marker " ++ flag_text v.marker
    ++ codes " nal " ++ decimal (nal_type v.nal)
    ++ codes " part " ++ part_text v.part
    ++ codes " bytes " ++ decimal v.header.data_length

-- the text of a CRF packet; the text ends with the number of timestamps and the first timestamp
unfoldable pub crf_content : Crf → List ℕ
crf_content v =
    codes "crf id " ++ id_text v.stream_id
    ++ codes " seq " ++ decimal v.seq
    ++ codes " mr " ++ flag_text v.mr
    ++ codes " tu " ++ flag_text v.tu
    ++ codes " type " ++ decimal v.kind
    ++ codes " base " ++ decimal v.base_frequency
    ++ codes " pull " ++ decimal v.pull
    ++ codes " interval " ++ decimal v.interval
    ++ codes " points " ++ decimal (length v.payload / 8)
    ++ codes " first " ++ decimal (point_at 0 v.payload)
