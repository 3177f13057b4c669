-- Only private functions and proofs use these definitions. What is known of a packet once its stated
-- length was accepted.
use Rattle.std.specs.Prelude.{◌≡◌, ℕ, ◌+◌, ◌≤◌, List, length, take, IfOk}
use Rattle.std.specs.declared.result.Result.{Result}
use Rattle.avtp_base.specs.Layout.{Fits, spelling}
use Rattle.avtp_base.specs.Octets.{bits}
use Rattle.avtp_base.specs.Rows.{Reads, first_row}
use Rattle.avtp_base.specs.declared.refusal.Refusal.{Refusal}
use Rattle.cvf_format.specs.declared.cvf.NalPart.{NalPart}
use Rattle.cvf_format.specs.Cvf.{Cvf, header_size, layout_of, nal_rows, part_of}

-- `stated` is the stated length of a packet; it is at least 5, and the packet has that many bytes after its first 24
pub record IsStated (pdu : List ℕ) (stated : ℕ) : Type 0 where
  pub inside : 24 + stated ≤ length pdu
  pub some : 5 ≤ stated
  pub same : stated ≡ bits 20 0 16 pdu

-- what a packet carries of a NAL unit; the headers of an accepted part are within the stated length
pub record ReadsPart (pdu : List ℕ) (stated : ℕ) (answer : Result NalPart Refusal) : Type 0 where
  pub read : Reads (λ part. part) (first_row (nal_rows pdu)) (part_of pdu) answer
  pub whole : IfOk answer (λ part. header_size part ≤ 24 + stated)

-- the bytes begin with the headers of a packet, and each of its fields fits
pub record IsHead (v : Cvf) (bytes : List ℕ) : Type 0 where
  pub spelled : take (header_size v.part) bytes ≡ spelling (layout_of v.part) v
  pub fits : Fits (layout_of v.part) v
