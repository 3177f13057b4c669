-- Only private functions and proofs use these definitions. The headers of a packet while it is read or written.
use Rattle.std.specs.Prelude.{◌≡◌, ℕ, ◌+◌, ◌<◌, ◌≤◌, List, length, Option, IfNone}
use Rattle.avtp_base.specs.Layout.{Fits, spelling}
use Rattle.avtp_base.specs.Rows.{first_row}
use Rattle.avtp_base.specs.declared.refusal.Refusal.{Refusal}
use Rattle.iec61883_format.specs.declared.iec.Cip.{Cip}
use Rattle.iec61883_format.specs.Iec.{Iec, carrier_rows, cip_of, dbs_of, iec_layout, stated_block, stated_data}

-- a data block has `quadlets` quadlets, at least 1 and at most 256, and the byte DBS says so
pub record IsDbs (byte quadlets : ℕ) : Type 0 where
  pub exact : quadlets ≡ dbs_of byte
  pub some : 0 < quadlets
  pub few : quadlets ≤ 256

-- the CIP header of a packet; a data block has at least 1 quadlet, and at most 256
pub record IsCipOf (pdu : List ℕ) (cip : Cip) : Type 0 where
  pub exact : cip ≡ cip_of pdu
  pub some : 0 < cip.dbs
  pub few : cip.dbs ≤ 256

-- `refusal` is the first refusal of the tag and the stated length, if any. If there is none, the packet has the stated
-- bytes, and these begin with a CIP header.
pub record IsCarrierRefusal (pdu : List ℕ) (stated : ℕ) (refusal : Option Refusal) : Type 0 where
  pub exact : refusal ≡ first_row (carrier_rows pdu)
  pub header : IfNone refusal (8 ≤ stated)
  pub fits : IfNone refusal (24 + stated ≤ length pdu)

-- the sizes in bytes that the headers state: that of all data blocks, and that of one block, at least 1
pub record AreStated (pdu : List ℕ) (total one : ℕ) : Type 0 where
  pub some : 0 < one
  pub all : total ≡ stated_data pdu
  pub block : one ≡ stated_block pdu

-- the bytes spell the header of a packet, and each field of the header fits
pub record IsHeader (packet : Iec) (bytes : List ℕ) : Type 0 where
  pub spelled : bytes ≡ spelling iec_layout packet
  pub fits : Fits iec_layout packet
