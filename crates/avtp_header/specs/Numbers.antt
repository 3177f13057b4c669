-- The numbers that identify AVTP frames and the formats of AVTP packets.
use Rattle.std.specs.Prelude.{ℕ}

-- the EtherType of AVTP (IEEE 1722-2016, 4.2)
abbrev pub avtp_ethertype : ℕ
avtp_ethertype = 0x22F0

-- the subtype of IEC 61883 and IIDC (IEEE 1722-2016, table 6)
abbrev pub iec_subtype : ℕ
iec_subtype = 0x00

-- the subtype of the AVTP audio format (IEEE 1722-2016, table 6)
abbrev pub aaf_subtype : ℕ
aaf_subtype = 0x02

-- the subtype of the compressed video format (IEEE 1722-2016, table 6)
abbrev pub cvf_subtype : ℕ
cvf_subtype = 0x03

-- the subtype of the clock reference format (IEEE 1722-2016, table 6)
abbrev pub crf_subtype : ℕ
crf_subtype = 0x04
