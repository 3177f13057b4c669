-- Bytes spell at most one packet, and a packet that is written is read back.
use Rattle.std.proofs.Common.{◌≡◌, ℕ, zero, suc, ◌+◌, ◌-◌, ◌*◌, ◌/◌, ◌%◌, ◌^◌, ◌<◌, ◌≤◌, Bool, true, false, not, ltb, eqb, List, [], ◌∷◌, ◌++◌, length, take, drop, None, refl, sym, ap, ◌∙◌, inl, inr, append_assoc, arith}
use Rattle.std.specs.Prelude.{◌&&◌}
use Rattle.std.proofs.Math.Nat.{mul-div_cancel, mul-mod_left}
use Rattle.std.proofs.lemmas.Bool.{cases_lt, le-ltb, lt-ltb, or_parts}
use Rattle.std.proofs.lemmas.Bool.Decides.{eqb_tells}
use Rattle.std.proofs.lemmas.List.{length-append, length-drop, length-take, take_all, take_at}
use Rattle.std.proofs.lemmas.Nat.{div-add-mod'}
use Rattle.avtp_base.specs.Octets.{AreBytes, bits}
use Rattle.avtp_base.specs.Rows.{first_row, or_else}
use Rattle.avtp_base.specs.Layout.{Spells, Fits, spelling, first_short}
use Rattle.avtp_base.proofs.BitLemmas.{bit_shown, bits-below}
use Rattle.avtp_base.proofs.RowLemmas.{or_else-none, rows_passed, passed_rows, not_other, or_else-accepted, same_not_other, unequal}
use Rattle.avtp_base.proofs.HoldLemmas.{held_spells, is_plain, spelled_holds}
use Rattle.avtp_base.proofs.OnlySpelling.{only_spelling}
use Rattle.avtp_base.proofs.LayoutLemmas.{Holds, IsLaid, holds_spelled, unset_spelled}
use Rattle.avtp_header.specs.declared.header.StreamHeader.{StreamHeader}
use Rattle.avtp_header.specs.Header.{SpellsHeader, header_layout, header_of, header_refusal, kind_refusal, subtype_row, version_row}
use Rattle.avtp_header.specs.state.Header.{filled_layout}
use Rattle.avtp_header.proofs.HeaderLemmas.{header_whole, one_header, version_accepted}
use Rattle.iec61883_format.specs.declared.iec.Cip.{Cip}
use Rattle.iec61883_format.specs.Iec.{Iec, IsFdf, IsWritableIec, SpellsIec, audio_format, block_rows, block_size, carrier_rows, cip_layout, cip_of, cip_refusal, cip_tag, data_size, dbs_byte, dbs_of, first_quadlet_rows, iec_layout, iec_of, iec_refusal, iec_spelling, iec_subtype, no_data, plain_iec, second_mark, second_quadlet_rows, stated_block, stated_data}

-- ---- the two format bits

format_bits_split : (bytes : List ℕ) → bits 1 5 2 bytes ≡ 2 * bits 1 5 1 bytes + bits 1 6 1 bytes
unfolding bits
format_bits_split bytes = omega arith

reserved_bit : (bytes : List ℕ) → bits 1 5 1 bytes ≡ bits 1 5 2 bytes / 2
reserved_bit bytes = omega (arith, format_bits_split bytes, bits-below 1 6 1 bytes)

gateway_bit : (bytes : List ℕ) → bits 1 6 1 bytes ≡ bits 1 5 2 bytes % 2
gateway_bit bytes = omega (arith, format_bits_split bytes, bits-below 1 6 1 bytes)

format_bits_shown : (bytes : List ℕ) (n : ℕ) → bits 1 5 1 bytes ≡ n / 2 → bits 1 6 1 bytes ≡ n % 2 → bits 1 5 2 bytes ≡ n
format_bits_shown bytes n high low = omega (arith, format_bits_split bytes)

-- ---- the quadlets of a block

dbs_byte-few : (dbs : ℕ) → dbs < 256 → dbs_byte dbs ≡ dbs
dbs_byte-few dbs few = rw (unequal dbs 256 (λ e. omega arith)) refl

dbs_byte-below : (dbs : ℕ) → dbs ≤ 256 → dbs_byte dbs < 256
dbs_byte-below dbs most = elim (eqb_tells dbs 256) [
  | inl same ↦ rw (same.0) (omega arith)
  | inr other ↦ rw (other.0) (omega arith)
]

dbs_of-some : (byte : ℕ) → 0 < byte → dbs_of byte ≡ byte
dbs_of-some byte some = rw (unequal byte 0 (λ e. omega arith)) refl

quadlets_shown : (byte : ℕ) → byte < 256 → byte ≡ dbs_byte (dbs_of byte)
quadlets_shown zero below = refl
quadlets_shown (suc n) below = rw (dbs_of-some (suc n) (omega arith)) (sym (dbs_byte-few (suc n) below))

some_quadlets : (byte : ℕ) → 0 < dbs_of byte
some_quadlets zero = omega arith
some_quadlets (suc n) = rw (dbs_of-some (suc n) (omega arith)) (omega arith)

few_quadlets : (byte : ℕ) → byte < 256 → dbs_of byte ≤ 256
few_quadlets zero below = omega arith
few_quadlets (suc n) below = rw (dbs_of-some (suc n) (omega arith)) (omega arith)

quadlets_told : (byte dbs : ℕ) → byte ≡ dbs_byte dbs → 0 < dbs → dbs ≡ dbs_of byte
quadlets_told byte dbs e some = elim (eqb_tells dbs 256) [
  | inl same ↦
      let none : byte ≡ 0 = rw (same.0) at e in
      rw none (same.1)
  | inr other ↦
      let told : byte ≡ dbs = rw (other.0) at e in
      let not_zero : eqb byte 0 ≡ false = unequal byte 0 (λ z. omega arith) in
      rw not_zero (sym told)
]

some_block : (byte : ℕ) → 0 < block_size (dbs_of byte)
some_block byte = let some = some_quadlets byte in omega arith

-- ---- what follows if no row refuses the bytes

-- What is known of bytes that no row refuses.
record Accepted (bytes : List ℕ) : Type 0 where
  header : header_refusal bytes ≡ None
  version : bits 1 1 3 bytes ≡ 0
  subtype : bits 0 0 8 bytes ≡ iec_subtype
  tag : bits 22 0 2 bytes ≡ cip_tag
  header_there : 8 ≤ bits 20 0 16 bytes
  long : 24 + bits 20 0 16 bytes ≤ length bytes
  qi_1 : bits 24 0 2 bytes ≡ 0
  fraction : bits 26 0 2 bytes ≡ 0
  padding : bits 26 2 3 bytes ≡ 0
  stamped : bits 26 5 1 bytes ≡ 0
  qi_2 : bits 28 0 2 bytes ≡ second_mark
  format : bits 28 2 6 bytes ≡ audio_format
  fdf : IsFdf (bits 29 0 8 bytes)
  multiple : stated_data bytes % stated_block bytes ≡ 0

not_below : (n least : ℕ) → ltb n least ≡ false → least ≤ n
not_below n least e = elim (cases_lt n least) [
  | inl below ↦ let t = lt-ltb n least below in absurd cc
  | inr above ↦ above
]

fdf_told : (fdf : ℕ) → (ltb 6 fdf && not (eqb fdf no_data)) ≡ false → IsFdf fdf
fdf_told fdf e = elim (cases_lt 6 fdf) [
  | inl above ↦
      let t = lt-ltb 6 fdf above in
      let none : not (eqb fdf no_data) ≡ false = rw t at e in
      inr (not_other fdf no_data none)
  | inr rate ↦ inl rate
]

accepted_so : (bytes : List ℕ) → iec_refusal bytes ≡ None → Accepted bytes
accepted_so bytes e =
    let kind = or_else-none (kind_refusal iec_subtype bytes) (or_else (first_row (carrier_rows bytes)) (cip_refusal bytes)) e in
    let carried = or_else-none (first_row (carrier_rows bytes)) (cip_refusal bytes) kind.1 in
    let quadlets = or_else-none (first_row (first_quadlet_rows bytes)) (or_else (first_row (second_quadlet_rows bytes)) (first_row (block_rows bytes))) carried.1 in
    let rest = or_else-none (first_row (second_quadlet_rows bytes)) (first_row (block_rows bytes)) quadlets.1 in
    let start = or_else-none (first_short header_layout (length bytes)) (first_row (subtype_row iec_subtype bytes ∷ version_row bytes ∷ [])) kind.0 in
    let shared = rows_passed (subtype_row iec_subtype bytes ∷ version_row bytes ∷ []) start.1 in
    let carrier = rows_passed (carrier_rows bytes) carried.0 in
    let stated : ℕ = bits 20 0 16 bytes in
    let reaches = or_parts (ltb stated 8) (ltb (length bytes) (24 + stated)) carrier.1.0 in
    let first = rows_passed (first_quadlet_rows bytes) quadlets.0 in
    let second = rows_passed (second_quadlet_rows bytes) rest.0 in
    let blocks = rows_passed (block_rows bytes) rest.1 in
    let after = passed_rows (version_row bytes ∷ []) shared.1 in
    record {
      header = or_else-accepted (first_short header_layout (length bytes)) (first_row (version_row bytes ∷ [])) start.0 after;
      version = version_accepted bytes after;
      subtype = not_other (bits 0 0 8 bytes) iec_subtype shared.0;
      tag = not_other (bits 22 0 2 bytes) cip_tag carrier.0;
      header_there = not_below stated 8 reaches.0;
      long = not_below (length bytes) (24 + stated) reaches.1;
      qi_1 = not_other (bits 24 0 2 bytes) 0 first.0;
      fraction = not_other (bits 26 0 2 bytes) 0 first.1.0;
      padding = not_other (bits 26 2 3 bytes) 0 first.1.1.0;
      stamped = not_other (bits 26 5 1 bytes) 0 first.1.1.1.0;
      qi_2 = not_other (bits 28 0 2 bytes) second_mark second.0;
      format = not_other (bits 28 2 6 bytes) audio_format second.1.0;
      fdf = fdf_told (bits 29 0 8 bytes) second.1.1.0;
      multiple = not_other (stated_data bytes % stated_block bytes) 0 blocks.0;
    }

pub iec_spelled : (bytes : List ℕ) → iec_refusal bytes ≡ None → SpellsIec bytes (iec_of bytes)
iec_spelled bytes e =
    let known = accepted_so bytes e in
    let data_bytes : ℕ = stated_data bytes in
    let block : ℕ = stated_block bytes in
    let split = div-add-mod' data_bytes block in
    let cip : Spells (cip_layout (λ (v : Iec). v.cip)) (iec_of bytes) bytes = (
      (known.qi_1, (refl, tt)),
      (
        (quadlets_shown (bits 25 0 8 bytes) (bits-below 25 0 8 bytes), tt),
        (
          (known.fraction, (known.padding, (known.stamped, (tt, tt)))),
          (
            (refl, tt),
            (
              (known.qi_2, (known.format, tt)),
              ((refl, tt), ((refl, tt), tt)),
            ),
          ),
        ),
      ),
    ) in
    record {
      accepted = e;
      fields = (
        (refl, tt),
        (
          (bit_shown 1 0 bytes, (known.version, (bit_shown 1 4 bytes, (reserved_bit bytes, (gateway_bit bytes, (bit_shown 1 7 bytes, tt)))))),
          (
            (refl, tt),
            (
              (tt, (bit_shown 3 7 bytes, tt)),
              (
                (refl, tt),
                (
                  (refl, tt),
                  (
                    (refl, tt),
                    (
                      (refl, tt),
                      (
                        (known.tag, (refl, tt)),
                        ((refl, (refl, tt)), cip),
                      ),
                    ),
                  ),
                ),
              ),
            ),
          ),
        ),
      );
      some_quadlets = some_quadlets (bits 25 0 8 bytes);
      count = omega (arith, split, known.multiple);
      payload = refl;
      reserved = refl;
    }

-- ---- packets with equal fields are equal

abbrev cip : ℕ → ℕ → ℕ → ℕ → ℕ → Cip
cip sid dbs dbc fdf syt = record { sid = sid; dbs = dbs; dbc = dbc; fdf = fdf; syt = syt }

same_cip : (a a' b b' c c' d d' e e' : ℕ) → a ≡ a' → b ≡ b' → c ≡ c' → d ≡ d' → e ≡ e' → cip a b c d e ≡ cip a' b' c' d' e'
same_cip a a' b b' c c' d d' e e' p q r s t = rw (p, q, r, s, t) refl

abbrev packet : StreamHeader → ℕ → ℕ → ℕ → ℕ → Cip → ℕ → List ℕ → Bool → Iec
packet header gateway_info channel tcode sy cip count payload reserved = record {
  header = header;
  gateway_info = gateway_info;
  channel = channel;
  tcode = tcode;
  sy = sy;
  cip = cip;
  count = count;
  payload = payload;
  reserved = reserved;
}

same_packet : (a a' : StreamHeader) (b b' c c' d d' e e' : ℕ) (f f' : Cip) (g g' : ℕ) (h h' : List ℕ) (i i' : Bool)
    → a ≡ a' → b ≡ b' → c ≡ c' → d ≡ d' → e ≡ e' → f ≡ f' → g ≡ g' → h ≡ h' → i ≡ i'
    → packet a b c d e f g h i ≡ packet a' b' c' d' e' f' g' h' i'
same_packet a a' b b' c c' d d' e e' f f' g g' h h' i i' p q r s t u v w x = rw (p, q, r, s, t, u, v, w, x) refl

-- The fields of a packet, as bits of the bytes that spell it.
record Fields (bytes : List ℕ) (v : Iec) : Type 0 where
  subtype : bits 0 0 8 bytes ≡ v.header.subtype
  version : bits 1 1 3 bytes ≡ 0
  gateway_info : bits 16 0 32 bytes ≡ v.gateway_info
  length : bits 20 0 16 bytes ≡ v.header.data_length
  tag : bits 22 0 2 bytes ≡ cip_tag
  channel : bits 22 2 6 bytes ≡ v.channel
  tcode : bits 23 0 4 bytes ≡ v.tcode
  sy : bits 23 4 4 bytes ≡ v.sy
  qi_1 : bits 24 0 2 bytes ≡ 0
  sid : bits 24 2 6 bytes ≡ v.cip.sid
  dbs : bits 25 0 8 bytes ≡ dbs_byte v.cip.dbs
  fraction : bits 26 0 2 bytes ≡ 0
  padding : bits 26 2 3 bytes ≡ 0
  stamped : bits 26 5 1 bytes ≡ 0
  dbc : bits 27 0 8 bytes ≡ v.cip.dbc
  qi_2 : bits 28 0 2 bytes ≡ second_mark
  format : bits 28 2 6 bytes ≡ audio_format
  fdf : bits 29 0 8 bytes ≡ v.cip.fdf
  syt : bits 30 0 16 bytes ≡ v.cip.syt

fields_of : (bytes : List ℕ) (v : Iec) → Spells iec_layout v bytes → Fields bytes v
fields_of bytes v ((subtype, _), ((_, (version, _)), (_, (_, (_, (_, ((gateway_info, _), ((stated, _), ((tag, (channel, _)), ((tcode, (sy, _)), ((qi_1, (sid, _)), ((dbs, _), ((fraction, (padding, (stamped, _))), ((dbc, _), ((qi_2, (format, _)), ((fdf, _), ((syt, _), _))))))))))))))))) = record {
  subtype = subtype;
  version = version;
  gateway_info = gateway_info;
  length = stated;
  tag = tag;
  channel = channel;
  tcode = tcode;
  sy = sy;
  qi_1 = qi_1;
  sid = sid;
  dbs = dbs;
  fraction = fraction;
  padding = padding;
  stamped = stamped;
  dbc = dbc;
  qi_2 = qi_2;
  format = format;
  fdf = fdf;
  syt = syt;
}

header_within : (bytes : List ℕ) (v : Iec) → header_refusal bytes ≡ None → Spells iec_layout v bytes → SpellsHeader bytes v.header
header_within bytes v accepted (subtype, ((sv, (version, (mr, (high, (low, tv))))), (seq, (tu, (id, (timestamp, (_, (stated, _)))))))) = record {
  accepted = accepted;
  fields = (subtype, ((sv, (version, (mr, (format_bits_shown bytes v.header.format_bits high low, tv)))), (seq, (tu, (id, (timestamp, ((tt, tt), (stated, ((tt, tt), tt)))))))));
}

counted : (count block size : ℕ) → 0 < block → count * block ≡ size → count ≡ size / block
counted count block size some e = rw (← e) (sym (mul-div_cancel count some))

pub one_packet : (bytes : List ℕ) (v : Iec) → SpellsIec bytes v → v ≡ iec_of bytes
one_packet bytes v s =
    let known = accepted_so bytes s.accepted in
    let f = fields_of bytes v s.fields in
    let header : v.header ≡ header_of bytes = one_header bytes v.header (header_within bytes v known.header s.fields) in
    let length : v.header.data_length ≡ bits 20 0 16 bytes = ap (λ (h : StreamHeader). h.data_length) header in
    let dbs : v.cip.dbs ≡ dbs_of (bits 25 0 8 bytes) = quadlets_told (bits 25 0 8 bytes) v.cip.dbs f.dbs s.some_quadlets in
    let fdf : v.cip.fdf ≡ bits 29 0 8 bytes = sym f.fdf in
    let cip : v.cip ≡ cip_of bytes = same_cip _ _ _ _ _ _ _ _ _ _ (sym f.sid) dbs (sym f.dbc) fdf (sym f.syt) in
    let block : block_size v.cip.dbs ≡ stated_block bytes = ap block_size dbs in
    let data_bytes : data_size v.cip.fdf (v.header.data_length - 8) ≡ stated_data bytes = rw (fdf, length) refl in
    let whole : v.count * stated_block bytes ≡ stated_data bytes = rw (← block, ← data_bytes) s.count in
    let count : v.count ≡ stated_data bytes / stated_block bytes = counted v.count _ (stated_data bytes) (some_block (bits 25 0 8 bytes)) whole in
    let payload : v.payload ≡ take (bits 20 0 16 bytes - 8) (drop 32 bytes) = s.payload ∙ ap (λ (n : ℕ). take (n - 8) (drop 32 bytes)) length in
    same_packet _ _ _ _ _ _ _ _ _ _ _ _ _ _ _ _ _ _ header (sym f.gateway_info) (sym f.channel) (sym f.tcode) (sym f.sy) cip count payload s.reserved

cip_laid : IsLaid 24 (cip_layout (λ (v : Iec). v.cip))
cip_laid = (refl, refl, (refl, refl, (refl, refl, (refl, refl, (refl, refl, (refl, refl, (refl, refl, tt)))))))

pub iec_writable : (bytes : List ℕ) (v : Iec) → SpellsIec bytes v → IsWritableIec v
iec_writable bytes v s =
    let known = accepted_so bytes s.accepted in
    let f = fields_of bytes v s.fields in
    let stated : bits 20 0 16 bytes ≡ v.header.data_length = f.length in
    let size : length v.payload ≡ v.header.data_length - 8 =
    rw (s.payload) (omega (arith, length-take (v.header.data_length - 8) (drop 32 bytes), length-drop 32 bytes, known.long, known.header_there, stated)) in
    let dbs : v.cip.dbs ≡ dbs_of (bits 25 0 8 bytes) = quadlets_told (bits 25 0 8 bytes) v.cip.dbs f.dbs s.some_quadlets in
    record {
      subtype = sym f.subtype ∙ known.subtype;
      channel = rw (← f.channel) (bits-below 22 2 6 bytes);
      tcode = rw (← f.tcode) (bits-below 23 0 4 bytes);
      sy = rw (← f.sy) (bits-below 23 4 4 bytes);
      sid = rw (← f.sid) (bits-below 24 2 6 bytes);
      some_quadlets = s.some_quadlets;
      quadlets = rw dbs (few_quadlets (bits 25 0 8 bytes) (bits-below 25 0 8 bytes));
      fdf = rw (← f.fdf) known.fdf;
      data_length = omega (arith, size, known.header_there, stated);
      count = rw size s.count;
    }

iec_laid : IsLaid 0 iec_layout
iec_laid =
    (refl, refl, (refl, refl, (refl, refl, (refl, refl, (refl, refl, (refl, refl, (refl, refl, (refl, refl, (refl, refl, (refl, refl, cip_laid))))))))))

-- ---- a packet that was written is read back, whatever follows it

whole_blocks : (count block size : ℕ) → count * block ≡ size → size % block ≡ 0
whole_blocks count block size e = rw (← e) (mul-mod_left count block)

fdf_accepted : (fdf : ℕ) → IsFdf fdf → (ltb 6 fdf && not (eqb fdf no_data)) ≡ false
fdf_accepted fdf (inl rate) = rw (le-ltb 6 fdf rate) refl
fdf_accepted fdf (inr none) = rw none refl

accepted_again : (bytes : List ℕ) (v : Iec) → IsWritableIec v → Fields bytes (plain_iec v) → 24 + v.header.data_length ≤ length bytes → iec_refusal bytes ≡ None
accepted_again bytes v whole j long =
    let start = header_whole (length bytes) (omega arith) in
    let shared : first_row (subtype_row iec_subtype bytes ∷ version_row bytes ∷ []) ≡ None =
    passed_rows (subtype_row iec_subtype bytes ∷ version_row bytes ∷ []) (same_not_other (bits 0 0 8 bytes) iec_subtype (j.subtype ∙ whole.subtype), (same_not_other (bits 1 1 3 bytes) 0 j.version, tt)) in
    let stated : bits 20 0 16 bytes ≡ 8 + length v.payload = j.length ∙ whole.data_length in
    let carrier : first_row (carrier_rows bytes) ≡ None =
    passed_rows (carrier_rows bytes) (
      same_not_other (bits 22 0 2 bytes) cip_tag j.tag,
      (
        rw (
          stated,
          le-ltb (8 + length v.payload) 8 (omega arith),
          le-ltb (length bytes) (24 + (8 + length v.payload)) (omega (arith, long, whole.data_length)),
        ) refl,
        tt,
      ),
    ) in
    let first : first_row (first_quadlet_rows bytes) ≡ None =
    passed_rows (first_quadlet_rows bytes) (
      same_not_other (bits 24 0 2 bytes) 0 j.qi_1,
      (
        same_not_other (bits 26 0 2 bytes) 0 j.fraction,
        (same_not_other (bits 26 2 3 bytes) 0 j.padding, (same_not_other (bits 26 5 1 bytes) 0 j.stamped, tt)),
      ),
    ) in
    let second : first_row (second_quadlet_rows bytes) ≡ None =
    passed_rows (second_quadlet_rows bytes) (
      same_not_other (bits 28 0 2 bytes) second_mark j.qi_2,
      (
        same_not_other (bits 28 2 6 bytes) audio_format j.format,
        (rw (j.fdf) (fdf_accepted v.cip.fdf whole.fdf), tt),
      ),
    ) in
    let dbs : dbs_of (bits 25 0 8 bytes) ≡ v.cip.dbs = sym (quadlets_told (bits 25 0 8 bytes) v.cip.dbs j.dbs whole.some_quadlets) in
    let size : bits 20 0 16 bytes - 8 ≡ length v.payload = omega arith in
    let multiple : data_size v.cip.fdf (length v.payload) % block_size v.cip.dbs ≡ 0 =
    whole_blocks v.count (block_size v.cip.dbs) (data_size v.cip.fdf (length v.payload)) whole.count in
    let blocks : first_row (block_rows bytes) ≡ None =
    passed_rows (block_rows bytes) (
      rw (j.fdf, size, dbs) (same_not_other (data_size v.cip.fdf (length v.payload) % block_size v.cip.dbs) 0 multiple),
      tt,
    ) in
    or_else-accepted _ _ (or_else-accepted _ _ start shared)
    (or_else-accepted _ _ carrier (or_else-accepted _ _ first (or_else-accepted _ _ second blocks)))

-- if bytes hold the headers as the writer writes them, followed by the payload, they spell the packet with every
-- reserved bit 0
held : (bytes : List ℕ) (v : Iec) → IsWritableIec v → Holds iec_layout v bytes → 24 + v.header.data_length ≤ length bytes
    → v.payload ≡ take (v.header.data_length - 8) (drop 32 bytes) → SpellsIec bytes (plain_iec v)
held bytes v whole f long payload =
    let size : v.header.data_length - 8 ≡ length v.payload = omega (arith, whole.data_length) in
    let high : v.header.format_bits % 2 / 2 ≡ 0 = omega arith in
    let low : v.header.format_bits % 2 % 2 ≡ v.header.format_bits % 2 = omega arith in
    let plain : is_plain iec_layout (plain_iec v) ≡ true = rw high refl in
    let holds : Holds iec_layout (plain_iec v) bytes = rw low f in
    let spells = held_spells iec_layout (plain_iec v) bytes plain holds in
    record {
      accepted = accepted_again bytes v whole (fields_of bytes (plain_iec v) spells) long;
      fields = spells;
      some_quadlets = whole.some_quadlets;
      count = rw size whole.count;
      payload = payload;
      reserved = sym (unset_spelled iec_layout v bytes f);
    }

pub iec_again : (v : Iec) (rest : List ℕ) → IsWritableIec v → Fits iec_layout v → SpellsIec (iec_spelling v ++ rest) (plain_iec v)
iec_again v rest whole fits =
    let regrouped : iec_spelling v ++ rest ≡ spelling iec_layout v ++ (v.payload ++ rest) = append_assoc (spelling iec_layout v) v.payload rest in
    let f : Holds iec_layout v (spelling iec_layout v ++ (v.payload ++ rest)) = holds_spelled iec_layout v 0 [] (v.payload ++ rest) refl iec_laid fits in
    let long : 24 + v.header.data_length ≤ length (spelling iec_layout v ++ (v.payload ++ rest)) =
    omega (arith, length-append (spelling iec_layout v) (v.payload ++ rest), length-append v.payload rest, whole.data_length) in
    let size : length v.payload ≡ v.header.data_length - 8 = omega (arith, whole.data_length) in
    rw regrouped (held (spelling iec_layout v ++ (v.payload ++ rest)) v whole f long (sym (take_at v.payload rest (v.header.data_length - 8) size)))

-- ---- the fields that only this format has, as bytes

pub cip_fits : (c : Cip) → c.sid < 2 ^ 6 → c.dbs ≤ 256 → c.dbc < 256 → c.fdf < 256 → c.syt < 65536 → Fits (cip_layout (λ (c : Cip). c)) c
cip_fits c sid dbs dbc fdf syt = (
  (omega arith, (sid, tt)),
  (
    (dbs_byte-below c.dbs dbs, tt),
    (
      (omega arith, (omega arith, (omega arith, (omega arith, tt)))),
      (
        (dbc, tt),
        (
          (omega arith, (omega arith, tt)),
          ((fdf, tt), ((syt, tt), tt)),
        ),
      ),
    ),
  ),
)

pub fits_whole : (v : Iec) (gv info flags : ℕ) → IsWritableIec v → info ≡ v.gateway_info
    → Fits (filled_layout gv info flags) v.header → Fits (cip_layout (λ (c : Cip). c)) v.cip → Fits iec_layout v
fits_whole v gv info flags whole e (subtype, ((sv, (version, (mr, (_, tv)))), (seq, (tu, (id, (timestamp, ((gateway, _), (stated, _)))))))) c = (
  subtype,
  (
    (sv, (version, (mr, (omega arith, (omega arith, tv))))),
    (seq, (tu, (id, (timestamp, ((rw (← e) gateway, tt), (stated, ((omega arith, (whole.channel, tt)), ((whole.tcode, (whole.sy, tt)), c)))))))),
  ),
)

-- ---- if no reserved bit is set and the bytes end where their packet ends, the bytes are those that are written for
-- the packet

pub iec_only : (bytes : List ℕ) (v : Iec) → AreBytes bytes → SpellsIec bytes v → v.reserved ≡ false → length bytes ≡ 24 + v.header.data_length
    → bytes ≡ iec_spelling v
iec_only bytes v fits s plain len =
    let known = accepted_so bytes s.accepted in
    let h : Holds iec_layout v bytes = spelled_holds iec_layout v bytes refl s.fields (sym s.reserved ∙ plain) in
    let stated : bits 20 0 16 bytes ≡ v.header.data_length = (fields_of bytes v s.fields).length in
    let header : 8 ≤ v.header.data_length = rw (← stated) known.header_there in
    let rest : v.payload ≡ drop 32 bytes =
    s.payload ∙ take_all (v.header.data_length - 8) (drop 32 bytes) (omega (arith, length-drop 32 bytes)) in
    only_spelling iec_layout v bytes 32 iec_laid refl fits (omega arith) h ∙ ap (λ (xs : List ℕ). spelling iec_layout v ++ xs) (sym rest)
