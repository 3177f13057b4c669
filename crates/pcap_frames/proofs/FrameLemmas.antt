-- Bytes spell at most one frame.
use Rattle.std.proofs.Common.{◌≡◌, ℕ, ◌≤◌, Bool, true, false, List, [], ◌++◌, length, map, drop, Option, Some, None, refl, sym, ap, eq-eqb, ◌∙◌, arith}
use Rattle.std.specs.Prelude.{is_some}
use Rattle.std.proofs.lemmas.Bool.{eqb-true, le-ltb, ltb-false}
use Rattle.std.proofs.lemmas.List.{length-append}
use Rattle.avtp_base.specs.Octets.{AreBytes, bits, flag, is_set}
use Rattle.avtp_base.specs.Layout.{Fits, Spells, first_short, spelling, short_row}
use Rattle.avtp_base.proofs.BitLemmas.{bit_of_flag, bit_shown, flag-below}
use Rattle.avtp_base.proofs.RowLemmas.{rows_passed, unequal}
use Rattle.avtp_base.proofs.OnlySpelling.{only_spelling}
use Rattle.avtp_base.proofs.LayoutLemmas.{Holds, IsLaid, holds_spelled}
use Rattle.pcap_frames.specs.declared.frame.Tag.{Tag}
use Rattle.pcap_frames.specs.Frame.{Frame, SpellsFrame, IsWritableFrame, frame_layout, frame_of, frame_refusal, frame_spelling, header_len, is_tagged, plain_frame, tag_ethertype, tag_in}

-- ---- the frame that is read is spelled by the bytes

spelled_by : (tagged : Bool) (bytes : List ℕ) → is_tagged bytes ≡ tagged → frame_refusal bytes ≡ None → SpellsFrame bytes (frame_of bytes)
spelled_by false bytes e accepted = record {
  accepted = accepted;
  tagged = rw e refl;
  fields = rw e ((refl, tt), ((refl, tt), ((refl, tt), tt)));
  start = rw e refl;
  payload = refl;
}
spelled_by true bytes e accepted = record {
  accepted = accepted;
  tagged = rw e refl;
  fields =
      let ethertype : bits 12 0 16 bytes ≡ tag_ethertype = eqb-true (bits 12 0 16 bytes) tag_ethertype e in
      rw e ((refl, tt), ((refl, tt), ((ethertype, tt), ((refl, (bit_shown 14 3 bytes, (refl, tt))), ((refl, tt), tt)))));
  start = rw e refl;
  payload = refl;
}

pub frame_spelled : (bytes : List ℕ) → frame_refusal bytes ≡ None → SpellsFrame bytes (frame_of bytes)
frame_spelled bytes accepted = spelled_by (is_tagged bytes) bytes refl accepted

-- ---- the bytes spell no other frame

abbrev frame : ℕ → ℕ → Option Tag → ℕ → ℕ → List ℕ → Frame
frame dst src tag ethertype start payload =
    record { dst = dst; src = src; tag = tag; ethertype = ethertype; start = start; payload = payload }

same_frame : (a a' b b' : ℕ) (c c' : Option Tag) (d d' e e' : ℕ) (f f' : List ℕ)
    → a ≡ a' → b ≡ b' → c ≡ c' → d ≡ d' → e ≡ e' → f ≡ f' → frame a b c d e f ≡ frame a' b' c' d' e' f'
same_frame a a' b b' c c' d d' e e' f f' p q r s t u = rw (p, q, r, s, t, u) refl

same_tag : (t : Tag) (a : ℕ) (b : Bool) (c : ℕ) → t.pcp ≡ a → t.dei ≡ b → t.vid ≡ c → t ≡ record { pcp = a; dei = b; vid = c }
same_tag t a b c p q r = rw (← p, ← q, ← r) refl

-- The bits of a tagged frame hold the fields of the frame.
record Tagged (bytes : List ℕ) (v : Frame) (t : Tag) : Type 0 where
  dst : bits 0 0 48 bytes ≡ v.dst
  src : bits 6 0 48 bytes ≡ v.src
  pcp : bits 14 0 3 bytes ≡ t.pcp
  dei : bits 14 3 1 bytes ≡ flag t.dei
  vid : bits 14 4 12 bytes ≡ t.vid
  ethertype : bits 16 0 16 bytes ≡ v.ethertype

tagged_so : (bytes : List ℕ) (dst src : ℕ) (t : Tag) (ethertype start : ℕ) (payload : List ℕ)
    → Spells (frame_layout true) (frame dst src (Some t) ethertype start payload) bytes → Tagged bytes (frame dst src (Some t) ethertype start payload) t
tagged_so bytes dst src t ethertype start payload ((to, _), ((from, _), (_, ((pcp, (dei, (vid, _))), ((kind, _), _))))) =
    record { dst = to; src = from; pcp = pcp; dei = dei; vid = vid; ethertype = kind }

one_by : (bytes : List ℕ) (dst src : ℕ) (tag : Option Tag) (ethertype start : ℕ) (payload : List ℕ)
    → SpellsFrame bytes (frame dst src tag ethertype start payload) → frame dst src tag ethertype start payload ≡ frame_of bytes
one_by bytes dst src None ethertype start payload s =
    let e : is_tagged bytes ≡ false = sym s.tagged in
    let f = s.fields in
    let whole : frame_of bytes ≡ frame (bits 0 0 48 bytes) (bits 6 0 48 bytes) None (bits 12 0 16 bytes) 14 (drop 14 bytes) = rw e refl in
    let rest : payload ≡ drop 14 bytes = s.payload ∙ ap (λ (n : ℕ). drop n bytes) s.start in
    same_frame _ _ _ _ _ _ _ _ _ _ _ _ (sym f.0.0) (sym f.1.0.0) refl (sym f.1.1.0.0) s.start rest ∙ sym whole
one_by bytes dst src (Some t) ethertype start payload s =
    let e : is_tagged bytes ≡ true = sym s.tagged in
    let f = tagged_so bytes dst src t ethertype start payload s.fields in
    let whole : frame_of bytes ≡ frame (bits 0 0 48 bytes) (bits 6 0 48 bytes) (Some (tag_in bytes)) (bits 16 0 16 bytes) 18 (drop 18 bytes) = rw e refl in
    let rest : payload ≡ drop 18 bytes = s.payload ∙ ap (λ (n : ℕ). drop n bytes) s.start in
    let tag : t ≡ tag_in bytes =
    same_tag t (bits 14 0 3 bytes) (is_set 14 3 bytes) (bits 14 4 12 bytes)
    (sym f.pcp) (sym (bit_of_flag (bits 14 3 1 bytes) t.dei f.dei)) (sym f.vid) in
    same_frame _ _ _ _ _ _ _ _ _ _ _ _ (sym f.dst) (sym f.src) (ap (λ (x : Tag). Some x) tag) (sym f.ethertype) s.start rest ∙ sym whole

pub one_frame : (bytes : List ℕ) (v : Frame) → SpellsFrame bytes v → v ≡ frame_of bytes
one_frame bytes v s = one_by bytes v.dst v.src v.tag v.ethertype v.start v.payload s

-- ---- a written frame is read back

long_by : (tagged : Bool) (n : ℕ) → header_len tagged ≤ n → first_short (frame_layout tagged) n ≡ None
long_by false n long = rw (le-ltb n 6 (omega arith), le-ltb n 12 (omega arith), le-ltb n 14 (omega arith)) refl
long_by true n long =
    rw (le-ltb n 6 (omega arith), le-ltb n 12 (omega arith), le-ltb n 14 (omega arith), le-ltb n 16 (omega arith), le-ltb n 18 (omega arith)) refl

accepted_by : (tagged : Bool) (bytes : List ℕ) → is_tagged bytes ≡ tagged → header_len tagged ≤ length bytes → frame_refusal bytes ≡ None
accepted_by tagged bytes e long = rw e (long_by tagged (length bytes) long)

laid_by : (tagged : Bool) → IsLaid 0 (frame_layout tagged)
laid_by false = (refl, refl, (refl, refl, (refl, refl, tt)))
laid_by true = (refl, refl, (refl, refl, (refl, refl, (refl, refl, (refl, refl, tt)))))

held_by : (bytes : List ℕ) (dst src : ℕ) (tag : Option Tag) (ethertype start : ℕ) (payload : List ℕ)
    → IsWritableFrame (frame dst src tag ethertype start payload)
    → Holds (frame_layout (is_some tag)) (frame dst src tag ethertype start payload) bytes → header_len (is_some tag) ≤ length bytes
    → payload ≡ drop (header_len (is_some tag)) bytes → SpellsFrame bytes (frame dst src tag ethertype (header_len (is_some tag)) payload)
held_by bytes dst src None ethertype start payload whole f long rest =
    let e : is_tagged bytes ≡ false = unequal (bits 12 0 16 bytes) tag_ethertype (λ q. whole.untagged (sym f.1.1.0.0 ∙ q)) in
    record { accepted = accepted_by false bytes e long; tagged = sym e; fields = f; start = refl; payload = rest }
held_by bytes dst src (Some t) ethertype start payload whole f long rest =
    let e : is_tagged bytes ≡ true = eq-eqb (bits 12 0 16 bytes) tag_ethertype f.1.1.0.0 in
    record { accepted = accepted_by true bytes e long; tagged = sym e; fields = f; start = refl; payload = rest }

fits_by : (dst src : ℕ) (tag : Option Tag) (ethertype start : ℕ) (payload : List ℕ)
    → IsWritableFrame (frame dst src tag ethertype start payload) → Fits (frame_layout (is_some tag)) (frame dst src tag ethertype start payload)
fits_by dst src None ethertype start payload whole = ((whole.dst, tt), ((whole.src, tt), ((whole.ethertype, tt), tt)))
fits_by dst src (Some t) ethertype start payload whole = (
  (whole.dst, tt),
  (
    (whole.src, tt),
    (
      (omega arith, tt),
      ((whole.tag.0, (flag-below t.dei, (whole.tag.1, tt))), ((whole.ethertype, tt), tt)),
    ),
  ),
)

again_by : (dst src : ℕ) (tag : Option Tag) (ethertype start : ℕ) (payload : List ℕ) → IsWritableFrame (frame dst src tag ethertype start payload)
    → SpellsFrame (frame_spelling (frame dst src tag ethertype start payload)) (frame dst src tag ethertype (header_len (is_some tag)) payload)
again_by dst src None ethertype start payload whole =
    let v : Frame = frame dst src None ethertype start payload in
    held_by (frame_spelling v) dst src None ethertype start payload whole
    (holds_spelled (frame_layout false) v 0 [] payload refl (laid_by false) (fits_by dst src None ethertype start payload whole))
    (omega (arith, length-append (spelling (frame_layout false) v) payload)) refl
again_by dst src (Some t) ethertype start payload whole =
    let v : Frame = frame dst src (Some t) ethertype start payload in
    held_by (frame_spelling v) dst src (Some t) ethertype start payload whole
    (holds_spelled (frame_layout true) v 0 [] payload refl (laid_by true) (fits_by dst src (Some t) ethertype start payload whole))
    (omega (arith, length-append (spelling (frame_layout true) v) payload)) refl

pub frame_again : (v : Frame) → IsWritableFrame v → SpellsFrame (frame_spelling v) (plain_frame v)
frame_again v whole = again_by v.dst v.src v.tag v.ethertype v.start v.payload whole

-- ---- if bytes spell a frame, they are the bytes that are written for that frame

only_by : (bytes : List ℕ) (dst src : ℕ) (tag : Option Tag) (ethertype start : ℕ) (payload : List ℕ) → AreBytes bytes
    → header_len (is_some tag) ≤ length bytes → SpellsFrame bytes (frame dst src tag ethertype start payload)
    → bytes ≡ frame_spelling (frame dst src tag ethertype start payload)
only_by bytes dst src None ethertype start payload fits long s =
    let v : Frame = frame dst src None ethertype start payload in
    let rest : payload ≡ drop 14 bytes = s.payload ∙ ap (λ (n : ℕ). drop n bytes) s.start in
    only_spelling (frame_layout false) v bytes 14 (laid_by false) refl fits long s.fields
    ∙ ap (λ (xs : List ℕ). spelling (frame_layout false) v ++ xs) (sym rest)
only_by bytes dst src (Some t) ethertype start payload fits long s =
    let v : Frame = frame dst src (Some t) ethertype start payload in
    let rest : payload ≡ drop 18 bytes = s.payload ∙ ap (λ (n : ℕ). drop n bytes) s.start in
    only_spelling (frame_layout true) v bytes 18 (laid_by true) refl fits long s.fields
    ∙ ap (λ (xs : List ℕ). spelling (frame_layout true) v ++ xs) (sym rest)

-- if no part of a header is cut off, the header is whole
whole_by : (tagged : Bool) (n : ℕ) → first_short (frame_layout tagged) n ≡ None → header_len tagged ≤ n
whole_by false n e = ltb-false n 14 (rows_passed (map (short_row n) (frame_layout false)) e).1.1.0
whole_by true n e = ltb-false n 18 (rows_passed (map (short_row n) (frame_layout true)) e).1.1.1.1.0

pub frame_only : (bytes : List ℕ) (v : Frame) → AreBytes bytes → SpellsFrame bytes v → bytes ≡ frame_spelling v
frame_only bytes v fits s =
    let accepted : first_short (frame_layout (is_some v.tag)) (length bytes) ≡ None = rw (s.tagged) s.accepted in
    only_by bytes v.dst v.src v.tag v.ethertype v.start v.payload fits (whole_by (is_some v.tag) (length bytes) accepted) s
