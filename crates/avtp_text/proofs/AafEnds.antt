-- The end of an AAF packet's line.
use Rattle.std.proofs.Common.{◌≡◌, ℕ, ◌-◌, List, ◌++◌, length, drop, codes, decimal, unwrap_or, subst, arith, append_assoc, length-append}
use Rattle.std.proofs.Math.Seq.{drop-append_seam}
use Rattle.aaf_format.specs.Aaf.{Aaf, rate_of}
use Rattle.avtp_text.specs.state.AafLines.{IsEnd, aaf_start, end_of}
use Rattle.avtp_text.specs.declared.aaf_line.AafEnd.{AafEnd}
use Rattle.avtp_text.specs.Pieces.{newline, flag_text, id_text}
use Rattle.avtp_text.specs.Show.{aaf_content, header_text, format_text}

-- the text of a line's end, field by field
abbrev pub spelled : AafEnd → List ℕ
spelled e =
    codes " tv " ++ flag_text e.tv
    ++ codes " tu " ++ flag_text e.tu
    ++ codes " mr " ++ flag_text e.mr
    ++ codes " sp " ++ flag_text e.sparse
    ++ codes " evt " ++ decimal e.evt
    ++ codes " format " ++ format_text e.format
    ++ codes " rate " ++ decimal (unwrap_or (rate_of e.nsr) 0)
    ++ codes " channels " ++ decimal e.channels
    ++ codes " depth " ++ decimal e.depth
    ++ codes " count " ++ decimal e.count
    ++ codes " bytes " ++ decimal e.data_length
    ++ newline

start_then : (v : Aaf) (rest : List ℕ) → aaf_start v ++ rest
    ≡ codes "aaf " ++ (codes "id " ++ (id_text v.header.stream_id ++ (codes " seq " ++ (decimal v.header.seq ++ (codes " ts " ++ (decimal v.header.timestamp ++ rest))))))
unfolding aaf_start
start_then v rest = simp append_assoc

ends : (v : Aaf) → aaf_content v ++ newline ≡ aaf_start v ++ spelled (end_of v)
unfolding aaf_content header_text
ends v = rw (start_then v (spelled (end_of v))) (simp append_assoc)

pub is_end : (e : AafEnd) → IsEnd e (spelled e)
is_end e v same = subst (λ (k : AafEnd). aaf_content v ++ newline ≡ aaf_start v ++ spelled k) same (ends v)

-- if `len` is the length of `text`, the last `len` bytes of `start ++ text` are `text`
pub last_of : (start text : List ℕ) (len : ℕ) → len ≡ length text → drop (length (start ++ text) - len) (start ++ text) ≡ text
last_of start text len whole =
    let seam : length (start ++ text) - len ≡ length start = omega (arith, whole, length-append start text) in
    rw seam (drop-append_seam start text)

pub same : (a b : AafEnd) → a.tv ≡ b.tv → a.tu ≡ b.tu → a.mr ≡ b.mr → a.sparse ≡ b.sparse → a.evt ≡ b.evt → a.format ≡ b.format → a.nsr ≡ b.nsr
    → a.channels ≡ b.channels → a.depth ≡ b.depth → a.count ≡ b.count → a.data_length ≡ b.data_length → a ≡ b
same a b tv tu mr sparse evt format nsr channels depth count bytes = λ i. record {
  tv = tv i;
  tu = tu i;
  mr = mr i;
  sparse = sparse i;
  evt = evt i;
  format = format i;
  nsr = nsr i;
  channels = channels i;
  depth = depth i;
  count = count i;
  data_length = bytes i;
}
