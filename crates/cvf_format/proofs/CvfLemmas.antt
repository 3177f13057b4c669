-- Bytes spell at most one packet, and a packet that is written is read back.
use Rattle.std.proofs.Common.{◌≡◌, ℕ, ◌+◌, ◌-◌, ◌*◌, ◌<◌, ◌≤◌, Bool, true, false, cond, not, eqb, List, [], ◌∷◌, ◌++◌, length, drop, None, refl, sym, ap, subst, ◌∙◌, append_assoc, arith}
use Rattle.std.specs.Prelude.{◌&&◌, ◌||◌}
use Rattle.std.proofs.lemmas.Bool.{le-ltb, ltb-false}
use Rattle.std.proofs.lemmas.Bool.Decides.{nat_tests}
use Rattle.std.proofs.lemmas.List.{drop_at, length-append, length-drop, take_all, take_at}
use Rattle.avtp_base.specs.Octets.{AreBytes, bits, flag, is_set}
use Rattle.avtp_base.specs.Rows.{first_row, or_else}
use Rattle.avtp_base.specs.Layout.{Layout, Spells, Fits, spelling, first_short}
use Rattle.avtp_base.proofs.BitLemmas.{bit_of_flag, bit_shown, bits-below}
use Rattle.avtp_base.proofs.RowLemmas.{or_else-none, rows_passed, passed_rows, not_other, or_else-accepted, same_not_other, unequal}
use Rattle.avtp_base.proofs.HoldLemmas.{held_spells, is_plain, is_told, spelled_holds}
use Rattle.avtp_base.proofs.OnlySpelling.{layout_size, only_spelling}
use Rattle.avtp_base.proofs.LayoutLemmas.{Holds, IsLaid, holds_spelled, unset_spelled}
use Rattle.avtp_header.specs.declared.header.StreamHeader.{StreamHeader}
use Rattle.avtp_header.specs.Header.{SpellsHeader, header_layout, header_of, header_refusal, kind_refusal, subtype_row, version_row}
use Rattle.avtp_header.proofs.HeaderLemmas.{header_spelled, header_version, header_whole, one_header}
use Rattle.cvf_format.specs.declared.cvf.NalPart.{NalPart}
use Rattle.cvf_format.specs.declared.cvf.NalPart.TheVariants.{Single, First, Middle, Last}
use Rattle.cvf_format.specs.Cvf.{Cvf, SpellsCvf, IsWritableCvf, body_of, cvf_layout, cvf_of, cvf_refusal, cvf_spelling, cvf_subtype, ends, format_rows, fragment_headers, fragment_of, fu_a, header_size, headers_of, is_fragment, is_single_type, layout_of, nal_of, nal_rows, part_of, plain_cvf, reference_of, sets_reserved, single_headers, starts, type_of}

-- ---- the part of the table that all packets share

record Shared (v : Cvf) (bytes : List ℕ) : Type 0 where
  header : Spells header_layout v.header bytes
  subtype : bits 0 0 8 bytes ≡ v.header.subtype
  version : bits 1 1 3 bytes ≡ 0
  stated : bits 20 0 16 bytes ≡ v.header.data_length
  format : bits 16 0 8 bytes ≡ 2
  format_subtype : bits 17 0 8 bytes ≡ 1
  ptv : bits 22 2 1 bytes ≡ flag v.ptv
  marker : bits 22 3 1 bytes ≡ flag v.marker
  evt : bits 22 4 4 bytes ≡ v.evt
  h264_timestamp : bits 24 0 32 bytes ≡ v.h264_timestamp

spells_from : (nal_headers : Layout Cvf) (v : Cvf) (bytes : List ℕ) → Shared v bytes → Spells header_layout v.header bytes → Spells nal_headers v bytes → Spells (cvf_layout nal_headers) v bytes
spells_from nal_headers v bytes s (subtype, (second, (seq, (tu, (id, (timestamp, (_, (stated, _)))))))) rest =
    (subtype, (second, (seq, (tu, (id, (timestamp, ((s.format, tt), ((s.format_subtype, tt), ((tt, tt), (stated, ((tt, (s.ptv, (s.marker, (s.evt, tt)))), ((tt, tt), ((s.h264_timestamp, tt), rest)))))))))))))

spells_shared : (nal_headers : Layout Cvf) (v : Cvf) (bytes : List ℕ) → Shared v bytes → Spells nal_headers v bytes → Spells (cvf_layout nal_headers) v bytes
spells_shared nal_headers v bytes s rest = spells_from nal_headers v bytes s s.header rest

shared_so : (nal_headers : Layout Cvf) (v : Cvf) (bytes : List ℕ) → Spells (cvf_layout nal_headers) v bytes → Shared v bytes
shared_so nal_headers v bytes ((subtype, _), ((sv, (version, shown)), (seq, (tu, (id, (timestamp, ((format, _), ((format_subtype, _), (_, ((stated, _), ((_, (ptv, (marker, (evt, _)))), (_, ((h264_timestamp, _), _))))))))))))) = record {
  header = ((subtype, tt), ((sv, (version, shown)), (seq, (tu, (id, (timestamp, ((tt, tt), ((stated, tt), ((tt, tt), tt)))))))));
  subtype = subtype;
  version = version;
  stated = stated;
  format = format;
  format_subtype = format_subtype;
  ptv = ptv;
  marker = marker;
  evt = evt;
  h264_timestamp = h264_timestamp;
}

-- bytes that spell a packet spell the headers of its NAL unit
rest_so : (nal_headers : Layout Cvf) (v : Cvf) (bytes : List ℕ) → Spells (cvf_layout nal_headers) v bytes → Spells nal_headers v bytes
rest_so nal_headers v bytes (_, (_, (_, (_, (_, (_, (_, (_, (_, (_, (_, (_, (_, rest))))))))))))) = rest

-- The header bits of a fragment (RFC 6184, 5.8).
record Fragment (v : Cvf) (bytes : List ℕ) : Type 0 where
  reference : bits 28 0 3 bytes ≡ reference_of v.nal
  kind : bits 28 3 5 bytes ≡ fu_a
  start : bits 29 0 1 bytes ≡ flag (starts v.part)
  end : bits 29 1 1 bytes ≡ flag (ends v.part)
  type : bits 29 3 5 bytes ≡ type_of v.nal

fragment_so : (v : Cvf) (bytes : List ℕ) → Spells fragment_headers v bytes → Fragment v bytes
fragment_so v bytes ((reference, (kind, _)), ((start, (end, (_, (type, _)))), _)) = record { reference = reference; kind = kind; start = start; end = end; type = type }

-- ---- what follows if no row refuses the bytes

-- What is known of bytes that no row refuses.
record Accepted (bytes : List ℕ) : Type 0 where
  header : header_refusal bytes ≡ None
  format : bits 16 0 8 bytes ≡ 2
  format_subtype : bits 17 0 8 bytes ≡ 1
  type : is_fragment bytes ≡ false → is_single_type (bits 28 3 5 bytes) ≡ true
  not_both : is_fragment bytes ≡ true → is_set 29 0 bytes ≡ true → is_set 29 1 bytes ≡ false
  fragment_type : is_fragment bytes ≡ true → is_single_type (bits 29 3 5 bytes) ≡ true
  within : header_size (part_of bytes) ≤ 24 + bits 20 0 16 bytes

type_known : (single fragment : Bool) → not (single || fragment) ≡ false → fragment ≡ false → single ≡ true
type_known true fragment e f = refl
type_known false true e f = absurd cc
type_known false false e f = absurd cc

not_both_known : (fragment start end : Bool) → (fragment && start && end) ≡ false → fragment ≡ true → start ≡ true → end ≡ false
not_both_known true true end e f g = e
not_both_known true false end e f g = absurd cc
not_both_known false start end e f g = absurd cc

single_known : (fragment single : Bool) → (fragment && not single) ≡ false → fragment ≡ true → single ≡ true
single_known true true e f = refl
single_known true false e f = absurd cc
single_known false single e f = absurd cc

one_more : (n : ℕ) → 5 ≤ n → eqb n 5 ≡ false → 6 ≤ n
one_more n some e = grind (arith, nat_tests)

within_known : (fragment start end : Bool) (stated : ℕ) → 5 ≤ stated → (fragment && eqb stated 5) ≡ false
    → header_size (cond fragment (fragment_of start end) Single) ≤ 24 + stated
within_known false start end stated some e = omega arith
within_known true true end stated some e = let more = one_more stated some e in omega arith
within_known true false true stated some e = let more = one_more stated some e in omega arith
within_known true false false stated some e = let more = one_more stated some e in omega arith

accepted_so : (bytes : List ℕ) → cvf_refusal bytes ≡ None → Accepted bytes
accepted_so bytes e =
    let kind = or_else-none (kind_refusal cvf_subtype bytes) (or_else (first_row (format_rows bytes)) (first_row (nal_rows bytes))) e in
    let rows = or_else-none (first_row (format_rows bytes)) (first_row (nal_rows bytes)) kind.1 in
    let start = or_else-none (first_short header_layout (length bytes)) (first_row (subtype_row cvf_subtype bytes ∷ version_row bytes ∷ [])) kind.0 in
    let shared = rows_passed (subtype_row cvf_subtype bytes ∷ version_row bytes ∷ []) start.1 in
    let format = rows_passed (format_rows bytes) rows.0 in
    let nal = rows_passed (nal_rows bytes) rows.1 in
    let after = passed_rows (version_row bytes ∷ []) shared.1 in
    record {
      header = or_else-accepted (first_short header_layout (length bytes)) (first_row (version_row bytes ∷ [])) start.0 after;
      format = not_other (bits 16 0 8 bytes) 2 format.0;
      format_subtype = not_other (bits 17 0 8 bytes) 1 format.1.0;
      type = type_known (is_single_type (bits 28 3 5 bytes)) (is_fragment bytes) nal.0;
      not_both = not_both_known (is_fragment bytes) (is_set 29 0 bytes) (is_set 29 1 bytes) nal.1.1.0;
      fragment_type = single_known (is_fragment bytes) (is_single_type (bits 29 3 5 bytes)) nal.1.1.1.0;
      within =
          within_known (is_fragment bytes) (is_set 29 0 bytes) (is_set 29 1 bytes) (bits 20 0 16 bytes)
          (ltb-false (bits 20 0 16 bytes) 5 format.1.1.0) nal.1.0;
    }

-- ---- the part and the first byte of a NAL unit

-- the packet's part of a NAL unit determines two things: the bits S and E, and whether the packet's type is FU-A
abbrev AreBits : NalPart → Bool → Bool → Bool → Type 0
AreBits Single fragment start end = fragment ≡ false
AreBits First fragment start end = (fragment ≡ true) × (start ≡ true)
AreBits Middle fragment start end = (fragment ≡ true) × (start ≡ false) × (end ≡ false)
AreBits Last fragment start end = (fragment ≡ true) × (start ≡ false) × (end ≡ true)

bits_of : (fragment start end : Bool) → AreBits (cond fragment (fragment_of start end) Single) fragment start end
bits_of false start end = refl
bits_of true true end = (refl, refl)
bits_of true false true = (refl, refl, refl)
bits_of true false false = (refl, refl, refl)

part_bits : (bytes : List ℕ) (part : NalPart) → part_of bytes ≡ part → AreBits part (is_fragment bytes) (is_set 29 0 bytes) (is_set 29 1 bytes)
part_bits bytes part is =
    subst (λ (p : NalPart). AreBits p (is_fragment bytes) (is_set 29 0 bytes) (is_set 29 1 bytes)) is (bits_of (is_fragment bytes) (is_set 29 0 bytes) (is_set 29 1 bytes))

not_fu_a : (type : ℕ) → is_single_type type ≡ true → eqb type fu_a ≡ false
not_fu_a type single = unequal type fu_a (λ e. let there : is_single_type fu_a ≡ true = subst (λ (t : ℕ). is_single_type t ≡ true) e single in absurd cc)

nal_fragment : (bytes : List ℕ) → is_fragment bytes ≡ true → nal_of bytes ≡ bits 28 0 3 bytes * 32 + bits 29 3 5 bytes
nal_fragment bytes e = rw e refl

nal_single : (bytes : List ℕ) → is_fragment bytes ≡ false → nal_of bytes ≡ bits 28 0 3 bytes * 32 + bits 28 3 5 bytes
nal_single bytes e = rw e refl

reference_there : (reference type nal : ℕ) → nal ≡ reference * 32 + type → type < 32 → reference ≡ reference_of nal
reference_there reference type nal e below = omega arith

type_there : (reference type nal : ℕ) → nal ≡ reference * 32 + type → type < 32 → type ≡ type_of nal
type_there reference type nal e below = omega arith

nal_whole : (nal reference type : ℕ) → reference ≡ reference_of nal → type ≡ type_of nal → nal ≡ reference * 32 + type
nal_whole nal reference type e f = omega arith

-- accepted bytes of a fragment spell the fragment's headers
fragment_spelled : (part : NalPart) (bytes : List ℕ) → Accepted bytes → part_of bytes ≡ part → is_fragment bytes ≡ true
    → is_set 29 0 bytes ≡ starts part → is_set 29 1 bytes ≡ ends part → Shared (cvf_of bytes) bytes → Spells (cvf_layout fragment_headers) (cvf_of bytes) bytes
fragment_spelled part bytes known is fragment start end shared =
    let below = bits-below 29 3 5 bytes in
    let nal = nal_fragment bytes fragment in
    let s : bits 29 0 1 bytes ≡ flag (starts (part_of bytes)) = rw is (bit_shown 29 0 bytes ∙ ap flag start) in
    let e : bits 29 1 1 bytes ≡ flag (ends (part_of bytes)) = rw is (bit_shown 29 1 bytes ∙ ap flag end) in
    spells_shared fragment_headers (cvf_of bytes) bytes shared (
      (reference_there (bits 28 0 3 bytes) (bits 29 3 5 bytes) (nal_of bytes) nal below, (not_other (bits 28 3 5 bytes) fu_a (ap not fragment), tt)),
      ((s, (e, (tt, (type_there (bits 28 0 3 bytes) (bits 29 3 5 bytes) (nal_of bytes) nal below, tt)))), tt),
    )

nal_spelled : (part : NalPart) (bytes : List ℕ) → Accepted bytes → part_of bytes ≡ part → Shared (cvf_of bytes) bytes
    → Spells (layout_of part) (cvf_of bytes) bytes
nal_spelled Single bytes known is shared =
    let fragment = part_bits bytes Single is in
    let below = bits-below 28 3 5 bytes in
    let nal = nal_single bytes fragment in
    spells_shared single_headers (cvf_of bytes) bytes shared (
      (
        reference_there (bits 28 0 3 bytes) (bits 28 3 5 bytes) (nal_of bytes) nal below,
        (type_there (bits 28 0 3 bytes) (bits 28 3 5 bytes) (nal_of bytes) nal below, tt),
      ),
      tt,
    )
nal_spelled First bytes known is shared =
    let b = part_bits bytes First is in
    fragment_spelled First bytes known is b.0 b.1 (known.not_both b.0 b.1) shared
nal_spelled Middle bytes known is shared =
    let b = part_bits bytes Middle is in
    fragment_spelled Middle bytes known is b.0 b.1 b.2 shared
nal_spelled Last bytes known is shared =
    let b = part_bits bytes Last is in
    fragment_spelled Last bytes known is b.0 b.1 b.2 shared

-- the type of the NAL unit in accepted bytes is 1 to 23
type_accepted : (fragment : Bool) (bytes : List ℕ) → Accepted bytes → is_fragment bytes ≡ fragment → is_single_type (type_of (nal_of bytes)) ≡ true
type_accepted true bytes known is =
    rw (← type_there (bits 28 0 3 bytes) (bits 29 3 5 bytes) (nal_of bytes) (nal_fragment bytes is) (bits-below 29 3 5 bytes)) (known.fragment_type is)
type_accepted false bytes known is =
    rw (← type_there (bits 28 0 3 bytes) (bits 28 3 5 bytes) (nal_of bytes) (nal_single bytes is) (bits-below 28 3 5 bytes)) (known.type is)

pub cvf_spelled : (bytes : List ℕ) → cvf_refusal bytes ≡ None → SpellsCvf bytes (cvf_of bytes)
cvf_spelled bytes e =
    let known = accepted_so bytes e in
    let header = header_spelled bytes known.header in
    let shared : Shared (cvf_of bytes) bytes = record {
      header = header.fields;
      subtype = refl;
      version = header_version bytes known.header;
      stated = refl;
      format = known.format;
      format_subtype = known.format_subtype;
      ptv = bit_shown 22 2 bytes;
      marker = bit_shown 22 3 bytes;
      evt = refl;
      h264_timestamp = refl;
    } in
    record {
      accepted = e;
      fields = nal_spelled (part_of bytes) bytes known refl shared;
      type = type_accepted (is_fragment bytes) bytes known refl;
      body = refl;
      reserved = refl;
    }

-- the packet with these fields
abbrev packet : StreamHeader → Bool → Bool → ℕ → ℕ → ℕ → NalPart → List ℕ → Bool → Cvf
packet header ptv marker evt h264_timestamp nal part body reserved = record {
  header = header;
  ptv = ptv;
  marker = marker;
  evt = evt;
  h264_timestamp = h264_timestamp;
  nal = nal;
  part = part;
  body = body;
  reserved = reserved;
}

same_packet : (a a' : StreamHeader) (b b' c c' : Bool) (d d' e e' f f' : ℕ) (g g' : NalPart) (h h' : List ℕ) (i i' : Bool)
    → a ≡ a' → b ≡ b' → c ≡ c' → d ≡ d' → e ≡ e' → f ≡ f' → g ≡ g' → h ≡ h' → i ≡ i'
    → packet a b c d e f g h i ≡ packet a' b' c' d' e' f' g' h' i'
same_packet a a' b b' c c' d d' e e' f f' g g' h h' i i' p q r s t u v w x = rw (p, q, r, s, t, u, v, w, x) refl

-- The bytes name `part` as the part of the NAL unit, and `nal` as the unit's first byte.
record Named (part : NalPart) (nal : ℕ) (bytes : List ℕ) : Type 0 where
  part_is : part ≡ part_of bytes
  nal_is : nal ≡ nal_of bytes

bit_there : (at bit : ℕ) (bytes : List ℕ) (b : Bool) → bits at bit 1 bytes ≡ flag b → is_set at bit bytes ≡ b
bit_there at bit bytes b e = bit_of_flag (bits at bit 1 bytes) b e

fragment_named : (part : NalPart) (v : Cvf) (bytes : List ℕ) → v.part ≡ part → Spells (cvf_layout fragment_headers) v bytes
    → part ≡ fragment_of (starts part) (ends part) → Named part v.nal bytes
fragment_named part v bytes is f fragment =
    let h = fragment_so v bytes (rest_so fragment_headers v bytes f) in
    let kind : is_fragment bytes ≡ true = rw (h.kind) refl in
    let s : is_set 29 0 bytes ≡ starts part = bit_there 29 0 bytes (starts part) (h.start ∙ ap (λ (p : NalPart). flag (starts p)) is) in
    let e : is_set 29 1 bytes ≡ ends part = bit_there 29 1 bytes (ends part) (h.end ∙ ap (λ (p : NalPart). flag (ends p)) is) in
    record {
      part_is = rw (kind, s, e) fragment;
      nal_is = nal_whole v.nal (bits 28 0 3 bytes) (bits 29 3 5 bytes) h.reference h.type ∙ sym (nal_fragment bytes kind);
    }

named : (part : NalPart) (v : Cvf) (bytes : List ℕ) → v.part ≡ part → Spells (layout_of part) v bytes
    → is_single_type (type_of v.nal) ≡ true → Named part v.nal bytes
named Single v bytes is f single =
    let rest = rest_so single_headers v bytes f in
    let kind : is_fragment bytes ≡ false = rw (rest.0.1.0) (not_fu_a (type_of v.nal) single) in
    record {
      part_is = rw kind refl;
      nal_is = nal_whole v.nal (bits 28 0 3 bytes) (bits 28 3 5 bytes) rest.0.0 rest.0.1.0 ∙ sym (nal_single bytes kind);
    }
named First v bytes is f single = fragment_named First v bytes is f refl
named Middle v bytes is f single = fragment_named Middle v bytes is f refl
named Last v bytes is f single = fragment_named Last v bytes is f refl

pub one_packet : (bytes : List ℕ) (v : Cvf) → SpellsCvf bytes v → v ≡ cvf_of bytes
one_packet bytes v s =
    let known = accepted_so bytes s.accepted in
    let shared = shared_so (headers_of v.part) v bytes s.fields in
    let spelled : SpellsHeader bytes v.header = record { accepted = known.header; fields = shared.header } in
    let header : v.header ≡ header_of bytes = one_header bytes v.header spelled in
    let n = named v.part v bytes refl s.fields s.type in
    let length : v.header.data_length ≡ bits 20 0 16 bytes = ap (λ (h : StreamHeader). h.data_length) header in
    let part = n.part_is in
    let body : v.body ≡ body_of (part_of bytes) (bits 20 0 16 bytes) bytes =
    s.body ∙ ap (λ (p : NalPart). body_of p v.header.data_length bytes) part ∙ ap (λ (n : ℕ). body_of (part_of bytes) n bytes) length in
    let reserved : v.reserved ≡ sets_reserved (part_of bytes) bytes = s.reserved ∙ ap (λ (p : NalPart). sets_reserved p bytes) part in
    same_packet _ _ _ _ _ _ _ _ _ _ _ _ _ _ _ _ _ _ header
    (sym (bit_there 22 2 bytes v.ptv shared.ptv))
    (sym (bit_there 22 3 bytes v.marker shared.marker))
    (sym shared.evt)
    (sym shared.h264_timestamp)
    n.nal_is part body reserved

-- ---- a packet that was written is read back, whatever follows it

single_laid : IsLaid 0 (layout_of Single)
single_laid = (refl, refl, (refl, refl, (refl, refl, (refl, refl, (refl, refl, (refl, refl, (refl, refl, (refl, refl, (refl, refl, (refl, refl, (refl, refl, (refl, refl, (refl, refl, (refl, refl, tt))))))))))))))

fragment_laid : IsLaid 0 (cvf_layout fragment_headers)
fragment_laid = (refl, refl, (refl, refl, (refl, refl, (refl, refl, (refl, refl, (refl, refl, (refl, refl, (refl, refl, (refl, refl, (refl, refl, (refl, refl, (refl, refl, (refl, refl, (refl, refl, (refl, refl, tt)))))))))))))))

-- what is known of the table of each kind of packet
record IsTable (part : NalPart) : Type 0 where
  laid : IsLaid 0 (layout_of part)
  told : is_told (layout_of part) ≡ true
  size : layout_size (layout_of part) ≡ header_size part
  some : 29 ≤ header_size part
  plain : (v : Cvf) → is_plain (layout_of part) (plain_cvf v) ≡ true
  same : (v : Cvf) (bytes : List ℕ) → Holds (layout_of part) v bytes → Holds (layout_of part) (plain_cvf v) bytes

table : (part : NalPart) → IsTable part
table Single = record { laid = single_laid; told = refl; size = refl; some = omega arith; plain = λ v. refl; same = λ v bytes h. h }
table First = record { laid = fragment_laid; told = refl; size = refl; some = omega arith; plain = λ v. refl; same = λ v bytes h. h }
table Middle = record { laid = fragment_laid; told = refl; size = refl; some = omega arith; plain = λ v. refl; same = λ v bytes h. h }
table Last = record { laid = fragment_laid; told = refl; size = refl; some = omega arith; plain = λ v. refl; same = λ v bytes h. h }

pub length_of_headers : (part : NalPart) (v : Cvf) → length (spelling (layout_of part) v) ≡ header_size part
length_of_headers Single v = refl
length_of_headers First v = refl
length_of_headers Middle v = refl
length_of_headers Last v = refl

-- no row of the NAL unit's headers refuses the bytes of a fragment
fragment_accepted : (part : NalPart) (v : Cvf) (bytes : List ℕ) → v.part ≡ part → (starts part && ends part) ≡ false
    → is_single_type (type_of v.nal) ≡ true → 6 ≤ bits 20 0 16 bytes → Spells fragment_headers (plain_cvf v) bytes → first_row (nal_rows bytes) ≡ None
fragment_accepted part v bytes is apart single long spells =
    let h = fragment_so (plain_cvf v) bytes spells in
    let kind : is_fragment bytes ≡ true = rw (h.kind) refl in
    let s : is_set 29 0 bytes ≡ starts part = bit_there 29 0 bytes (starts part) (h.start ∙ ap (λ (p : NalPart). flag (starts p)) is) in
    let e : is_set 29 1 bytes ≡ ends part = bit_there 29 1 bytes (ends part) (h.end ∙ ap (λ (p : NalPart). flag (ends p)) is) in
    let type : is_single_type (bits 29 3 5 bytes) ≡ true = rw (h.type) single in
    passed_rows (nal_rows bytes) (
      rw (h.kind) refl,
      (
        rw (kind, unequal (bits 20 0 16 bytes) 5 (λ q. omega arith)) refl,
        (
          rw (kind, s, e) apart,
          (rw (kind, type) refl, tt),
        ),
      ),
    )

headers_accepted : (part : NalPart) (v : Cvf) (bytes : List ℕ) → v.part ≡ part → is_single_type (type_of v.nal) ≡ true
    → header_size part ≤ 24 + bits 20 0 16 bytes → Spells (headers_of part) (plain_cvf v) bytes → first_row (nal_rows bytes) ≡ None
headers_accepted Single v bytes is single long h =
    let kind : is_fragment bytes ≡ false = rw (h.0.1.0) (not_fu_a (type_of v.nal) single) in
    let type : is_single_type (bits 28 3 5 bytes) ≡ true = rw (h.0.1.0) single in
    passed_rows (nal_rows bytes) (rw type refl, (rw kind refl, (rw kind refl, (rw kind refl, tt))))
headers_accepted First v bytes is single long h = fragment_accepted First v bytes is refl single (omega arith) h
headers_accepted Middle v bytes is single long h = fragment_accepted Middle v bytes is refl single (omega arith) h
headers_accepted Last v bytes is single long h = fragment_accepted Last v bytes is refl single (omega arith) h

accepted_again : (bytes : List ℕ) (v : Cvf) → IsWritableCvf v → Shared (plain_cvf v) bytes → Spells (headers_of v.part) (plain_cvf v) bytes
    → 24 + v.header.data_length ≤ length bytes → cvf_refusal bytes ≡ None
accepted_again bytes v whole s h long =
    let stated : bits 20 0 16 bytes ≡ v.header.data_length = s.stated in
    let some = (table v.part).some in
    let start = header_whole (length bytes) (omega arith) in
    let shared : first_row (subtype_row cvf_subtype bytes ∷ version_row bytes ∷ []) ≡ None =
    passed_rows (subtype_row cvf_subtype bytes ∷ version_row bytes ∷ [])
    (same_not_other (bits 0 0 8 bytes) cvf_subtype (s.subtype ∙ whole.subtype), (same_not_other (bits 1 1 3 bytes) 0 s.version, tt)) in
    let format : first_row (format_rows bytes) ≡ None =
    passed_rows (format_rows bytes) (
      same_not_other (bits 16 0 8 bytes) 2 s.format,
      (
        same_not_other (bits 17 0 8 bytes) 1 s.format_subtype,
        (
          le-ltb (bits 20 0 16 bytes) 5 (omega (arith, whole.data_length)),
          (rw stated (le-ltb (length bytes) (24 + v.header.data_length) long), tt),
        ),
      ),
    ) in
    let nal = headers_accepted v.part v bytes refl whole.type (omega (arith, whole.data_length)) h in
    or_else-accepted _ _ (or_else-accepted _ _ start shared) (or_else-accepted _ _ format nal)

-- if bytes hold the headers as they are written for `v`, followed by the body of `v`, these bytes spell `plain_cvf v`
held : (bytes : List ℕ) (v : Cvf) → IsWritableCvf v → Holds (layout_of v.part) v bytes → 24 + v.header.data_length ≤ length bytes
    → v.body ≡ body_of v.part v.header.data_length bytes → SpellsCvf bytes (plain_cvf v)
held bytes v whole f long body =
    let spells = held_spells (layout_of v.part) (plain_cvf v) bytes ((table v.part).plain v) ((table v.part).same v bytes f) in
    record {
      accepted = accepted_again bytes v whole (shared_so (headers_of v.part) (plain_cvf v) bytes spells) (rest_so (headers_of v.part) (plain_cvf v) bytes spells) long;
      fields = spells;
      type = whole.type;
      body = body;
      reserved = sym (unset_spelled (layout_of v.part) v bytes f);
    }

pub cvf_again : (v : Cvf) (rest : List ℕ) → IsWritableCvf v → Fits (layout_of v.part) v → SpellsCvf (cvf_spelling v ++ rest) (plain_cvf v)
cvf_again v rest whole fits =
    let head : List ℕ = spelling (layout_of v.part) v in
    let bytes : List ℕ = head ++ (v.body ++ rest) in
    let regrouped : cvf_spelling v ++ rest ≡ bytes = append_assoc head v.body rest in
    let f : Holds (layout_of v.part) v bytes = holds_spelled (layout_of v.part) v 0 [] (v.body ++ rest) refl ((table v.part).laid) fits in
    let size = length_of_headers v.part v in
    let long : 24 + v.header.data_length ≤ length bytes =
    omega (arith, length-append head (v.body ++ rest), length-append v.body rest, whole.data_length) in
    let behind : drop (header_size v.part) bytes ≡ v.body ++ rest = drop_at head (v.body ++ rest) (header_size v.part) size in
    let body : v.body ≡ body_of v.part v.header.data_length bytes = rw behind (sym (take_at v.body rest (24 + v.header.data_length - header_size v.part) (omega (arith, whole.data_length)))) in
    rw regrouped (held bytes v whole f long body)

-- ---- if bytes set no reserved bit and end with their packet, they are the packet's `cvf_spelling`

pub cvf_only : (bytes : List ℕ) (v : Cvf) → AreBytes bytes → SpellsCvf bytes v → v.reserved ≡ false → length bytes ≡ 24 + v.header.data_length
    → bytes ≡ cvf_spelling v
cvf_only bytes v fits s plain len =
    let size : ℕ = header_size v.part in
    let h = spelled_holds (layout_of v.part) v bytes ((table v.part).told) s.fields (sym s.reserved ∙ plain) in
    let known = accepted_so bytes s.accepted in
    let same : v.header.data_length ≡ bits 20 0 16 bytes = sym (shared_so (headers_of v.part) v bytes s.fields).stated in
    let part = (named v.part v bytes refl s.fields s.type).part_is in
    let within : size ≤ 24 + v.header.data_length = rw (part, same) (known.within) in
    let body : v.body ≡ drop size bytes = s.body ∙ take_all (24 + v.header.data_length - size) (drop size bytes) (omega (arith, length-drop size bytes)) in
    only_spelling (layout_of v.part) v bytes size ((table v.part).laid) ((table v.part).size) fits (omega arith) h
    ∙ ap (λ (xs : List ℕ). spelling (layout_of v.part) v ++ xs) (sym body)
