-- Bytes spell at most one packet, and a packet that is written is read back.
use Rattle.std.proofs.Common.{◌≡◌, ℕ, zero, suc, ◌+◌, ◌*◌, ◌/◌, ◌%◌, ◌^◌, ◌<◌, ◌≤◌, Bool, true, false, eqb, List, [], ◌∷◌, ◌++◌, length, take, drop, Some, None, refl, sym, ap, ◌∙◌, append_assoc, arith}
use Rattle.std.specs.Prelude.{is_none, unwrap_or}
use Rattle.std.proofs.Math.Nat.{mul-div_cancel, mul-mod_left, mul-pos}
use Rattle.std.proofs.lemmas.Bool.{le-ltb}
use Rattle.std.proofs.lemmas.List.{length-append, length-drop, take_all, take_at}
use Rattle.std.proofs.lemmas.Nat.{div-add-mod'}
use Rattle.avtp_base.specs.Octets.{AreBytes, bits, flag, is_set}
use Rattle.avtp_base.specs.Rows.{first_row, or_else}
use Rattle.avtp_base.specs.Layout.{Spells, Fits, spelling, first_short}
use Rattle.avtp_base.proofs.BitLemmas.{bit_of_flag, bit_shown, flag-below}
use Rattle.avtp_base.proofs.RowLemmas.{or_else-none, rows_passed, passed_rows, not_other, or_else-accepted, same_not_other, unequal}
use Rattle.avtp_base.proofs.HoldLemmas.{held_spells, spelled_holds}
use Rattle.avtp_base.proofs.OnlySpelling.{only_spelling}
use Rattle.avtp_base.proofs.LayoutLemmas.{Holds, IsLaid, holds_spelled, unset_spelled}
use Rattle.avtp_header.specs.declared.header.StreamHeader.{StreamHeader}
use Rattle.avtp_header.specs.Header.{SpellsHeader, header_layout, header_of, header_refusal, kind_refusal, subtype_row, version_row}
use Rattle.avtp_header.specs.state.Header.{filled_layout}
use Rattle.avtp_header.proofs.HeaderLemmas.{header_whole, one_header, version_accepted}
use Rattle.aaf_format.specs.declared.aaf.AafFormat.{AafFormat}
use Rattle.aaf_format.specs.declared.aaf.AafFormat.TheVariants.{Float32, Int32, Int24, Int16}
use Rattle.aaf_format.specs.Aaf.{Aaf, SpellsAaf, IsWritableAaf, aaf_layout, aaf_of, aaf_refusal, aaf_spelling, aaf_subtype, code_of, format_of, frame_size, length_rows, named_format, plain_aaf, sample_rows, width_of}

-- ---- formats

named-code : (f : AafFormat) → named_format (code_of f) ≡ Some f
named-code Float32 = refl
named-code Int32 = refl
named-code Int24 = refl
named-code Int16 = refl

code-named : (code : ℕ) → is_none (named_format code) ≡ false → code ≡ code_of (unwrap_or (named_format code) Int16)
code-named zero e = absurd cc
code-named (suc zero) e = refl
code-named (suc (suc zero)) e = refl
code-named (suc (suc (suc zero))) e = refl
code-named (suc (suc (suc (suc zero)))) e = refl
code-named (suc (suc (suc (suc (suc n))))) e =
    let code : ℕ = suc (suc (suc (suc (suc n)))) in
    let none : is_none (named_format code) ≡ true =
    rw (unequal code 1 (λ q. omega arith), unequal code 2 (λ q. omega arith), unequal code 3 (λ q. omega arith), unequal code 4 (λ q. omega arith)) refl in
    absurd cc

some_channels : (n : ℕ) → eqb n 0 ≡ false → 0 < n
some_channels zero e = absurd cc
some_channels (suc n) e = omega arith

pub width-some : (f : AafFormat) → 0 < width_of f
width-some Float32 = omega arith
width-some Int32 = omega arith
width-some Int24 = omega arith
width-some Int16 = omega arith

format_shown : (bytes : List ℕ) (f : AafFormat) → bits 16 0 8 bytes ≡ code_of f → f ≡ format_of bytes
format_shown bytes f e = rw (e, named-code f) refl

-- ---- what follows if no row refuses the bytes

-- What is known about bytes that no row refuses.
record Accepted (bytes : List ℕ) : Type 0 where
  header : header_refusal bytes ≡ None
  version : bits 1 1 3 bytes ≡ 0
  format : is_none (named_format (bits 16 0 8 bytes)) ≡ false
  channels : eqb (bits 17 6 10 bytes) 0 ≡ false
  multiple : bits 20 0 16 bytes % frame_size (bits 17 6 10 bytes) (format_of bytes) ≡ 0

accepted_so : (bytes : List ℕ) → aaf_refusal bytes ≡ None → Accepted bytes
accepted_so bytes e =
    let kind = or_else-none (kind_refusal aaf_subtype bytes) (or_else (first_row (sample_rows bytes)) (first_row (length_rows bytes))) e in
    let rows = or_else-none (first_row (sample_rows bytes)) (first_row (length_rows bytes)) kind.1 in
    let start = or_else-none (first_short header_layout (length bytes)) (first_row (subtype_row aaf_subtype bytes ∷ version_row bytes ∷ [])) kind.0 in
    let shared = rows_passed (subtype_row aaf_subtype bytes ∷ version_row bytes ∷ []) start.1 in
    let samples = rows_passed (sample_rows bytes) rows.0 in
    let lengths = rows_passed (length_rows bytes) rows.1 in
    let after = passed_rows (version_row bytes ∷ []) shared.1 in
    record {
      header = or_else-accepted (first_short header_layout (length bytes)) (first_row (version_row bytes ∷ [])) start.0 after;
      version = version_accepted bytes after;
      format = samples.0;
      channels = samples.1.1.0;
      multiple = not_other (bits 20 0 16 bytes % frame_size (bits 17 6 10 bytes) (format_of bytes)) 0 lengths.1.0;
    }

pub aaf_spelled : (bytes : List ℕ) → aaf_refusal bytes ≡ None → SpellsAaf bytes (aaf_of bytes)
aaf_spelled bytes e =
    let known = accepted_so bytes e in
    let stated : ℕ = bits 20 0 16 bytes in
    let frame : ℕ = frame_size (bits 17 6 10 bytes) (format_of bytes) in
    let split = div-add-mod' stated frame in
    record {
      accepted = e;
      fields = (
        (refl, tt),
        (
          (bit_shown 1 0 bytes, (known.version, (bit_shown 1 4 bytes, (refl, (bit_shown 1 7 bytes, tt))))),
          (
            (refl, tt),
            (
              (tt, (bit_shown 3 7 bytes, tt)),
              (
                (refl, tt),
                (
                  (refl, tt),
                  (
                    (code-named (bits 16 0 8 bytes) known.format, tt),
                    (
                      (refl, (tt, (refl, tt))),
                      (
                        (refl, tt),
                        (
                          (refl, tt),
                          (
                            (tt, (bit_shown 22 3 bytes, (refl, tt))),
                            ((tt, tt), tt),
                          ),
                        ),
                      ),
                    ),
                  ),
                ),
              ),
            ),
          ),
        ),
      );
      count = omega (arith, split, known.multiple);
      payload = refl;
      reserved = refl;
    }

-- the packet with these fields
abbrev packet : StreamHeader → AafFormat → ℕ → ℕ → ℕ → Bool → ℕ → ℕ → List ℕ → Bool → Aaf
packet header format nsr channels depth sparse evt count payload reserved = record {
  header = header;
  format = format;
  nsr = nsr;
  channels = channels;
  depth = depth;
  sparse = sparse;
  evt = evt;
  count = count;
  payload = payload;
  reserved = reserved;
}

same_packet : (a a' : StreamHeader) (b b' : AafFormat) (c c' d d' e e' : ℕ) (f f' : Bool) (g g' h h' : ℕ) (i i' : List ℕ) (j j' : Bool)
    → a ≡ a' → b ≡ b' → c ≡ c' → d ≡ d' → e ≡ e' → f ≡ f' → g ≡ g' → h ≡ h' → i ≡ i' → j ≡ j'
    → packet a b c d e f g h i j ≡ packet a' b' c' d' e' f' g' h' i' j'
same_packet a a' b b' c c' d d' e e' f f' g g' h h' i i' j j' p q r s t u v w x y = rw (p, q, r, s, t, u, v, w, x, y) refl

-- The fields of a packet, as bits of the bytes that spell it.
record Fields (bytes : List ℕ) (v : Aaf) : Type 0 where
  subtype : bits 0 0 8 bytes ≡ v.header.subtype
  version : bits 1 1 3 bytes ≡ 0
  format : bits 16 0 8 bytes ≡ code_of v.format
  nsr : bits 17 0 4 bytes ≡ v.nsr
  channels : bits 17 6 10 bytes ≡ v.channels
  depth : bits 19 0 8 bytes ≡ v.depth
  length : bits 20 0 16 bytes ≡ v.header.data_length
  sparse : bits 22 3 1 bytes ≡ flag v.sparse
  evt : bits 22 4 4 bytes ≡ v.evt

fields_of : (bytes : List ℕ) (v : Aaf) → Spells aaf_layout v bytes → Fields bytes v
fields_of bytes v ((subtype, _), ((_, (version, _)), (_, (_, (_, (_, ((format, _), ((nsr, (_, (channels, _))), ((depth, _), ((stated, _), ((_, (sparse, (evt, _))), _))))))))))) = record {
  subtype = subtype;
  version = version;
  format = format;
  nsr = nsr;
  channels = channels;
  depth = depth;
  length = stated;
  sparse = sparse;
  evt = evt;
}

header_within : (bytes : List ℕ) (v : Aaf) → header_refusal bytes ≡ None → Spells aaf_layout v bytes → SpellsHeader bytes v.header
header_within bytes v accepted (subtype, (second, (seq, (tu, (id, (timestamp, (_, (_, (_, (stated, _)))))))))) = record {
  accepted = accepted;
  fields = (subtype, (second, (seq, (tu, (id, (timestamp, ((tt, tt), (stated, ((tt, tt), tt)))))))));
}

counted : (count frame stated : ℕ) → 0 < frame → count * frame ≡ stated → count ≡ stated / frame
counted count frame stated some e = rw (← e) (sym (mul-div_cancel count some))

pub one_packet : (bytes : List ℕ) (v : Aaf) → SpellsAaf bytes v → v ≡ aaf_of bytes
one_packet bytes v s =
    let known = accepted_so bytes s.accepted in
    let f = fields_of bytes v s.fields in
    let header : v.header ≡ header_of bytes = one_header bytes v.header (header_within bytes v known.header s.fields) in
    let format : v.format ≡ format_of bytes = format_shown bytes v.format f.format in
    let channels : v.channels ≡ bits 17 6 10 bytes = sym f.channels in
    let length : v.header.data_length ≡ bits 20 0 16 bytes = ap (λ (h : StreamHeader). h.data_length) header in
    let sparse : v.sparse ≡ is_set 22 3 bytes = sym (bit_of_flag (bits 22 3 1 bytes) v.sparse f.sparse) in
    let some : 0 < frame_size (bits 17 6 10 bytes) (format_of bytes) =
    mul-pos (some_channels (bits 17 6 10 bytes) known.channels) (width-some (format_of bytes)) in
    let same_frame : frame_size v.channels v.format ≡ frame_size (bits 17 6 10 bytes) (format_of bytes) = rw (channels, format) refl in
    let whole : v.count * frame_size (bits 17 6 10 bytes) (format_of bytes) ≡ bits 20 0 16 bytes = rw (← same_frame, ← length) s.count in
    let count : v.count ≡ bits 20 0 16 bytes / frame_size (bits 17 6 10 bytes) (format_of bytes) = counted v.count _ (bits 20 0 16 bytes) some whole in
    let payload : v.payload ≡ take (bits 20 0 16 bytes) (drop 24 bytes) = s.payload ∙ ap (λ (n : ℕ). take n (drop 24 bytes)) length in
    same_packet _ _ _ _ _ _ _ _ _ _ _ _ _ _ _ _ _ _ _ _ header format (sym f.nsr) channels (sym f.depth) sparse (sym f.evt) count payload s.reserved

aaf_laid : IsLaid 0 aaf_layout
aaf_laid = (refl, refl, (refl, refl, (refl, refl, (refl, refl, (refl, refl, (refl, refl, (refl, refl, (refl, refl, (refl, refl, (refl, refl, (refl, refl, (refl, refl, tt))))))))))))

-- ---- a packet that was written is read back, whatever follows it

named-some : (f : AafFormat) → is_none (named_format (code_of f)) ≡ false
named-some Float32 = refl
named-some Int32 = refl
named-some Int24 = refl
named-some Int16 = refl

some_not_zero : (n : ℕ) → 0 < n → eqb n 0 ≡ false
some_not_zero n some = unequal n 0 (λ e. omega arith)

whole_frames : (count frame stated : ℕ) → count * frame ≡ stated → stated % frame ≡ 0
whole_frames count frame stated e = rw (← e) (mul-mod_left count frame)

accepted_again : (bytes : List ℕ) (v : Aaf) → IsWritableAaf v → Fields bytes (plain_aaf v) → 24 + v.header.data_length ≤ length bytes → aaf_refusal bytes ≡ None
accepted_again bytes v whole j long =
    let named : format_of bytes ≡ v.format = sym (format_shown bytes v.format j.format) in
    let start = header_whole (length bytes) (omega arith) in
    let shared : first_row (subtype_row aaf_subtype bytes ∷ version_row bytes ∷ []) ≡ None =
    passed_rows (subtype_row aaf_subtype bytes ∷ version_row bytes ∷ []) (same_not_other (bits 0 0 8 bytes) aaf_subtype (j.subtype ∙ whole.subtype), (same_not_other (bits 1 1 3 bytes) 0 j.version, tt)) in
    let samples : first_row (sample_rows bytes) ≡ None =
    passed_rows (sample_rows bytes) (
      rw (j.format) (named-some v.format),
      (
        rw (j.nsr) (le-ltb 10 v.nsr (omega (arith, whole.nsr))),
        (
          rw (j.channels) (some_not_zero v.channels whole.some_channels),
          (rw (j.depth, named) (le-ltb (8 * width_of v.format) v.depth whole.depth), tt),
        ),
      ),
    ) in
    let multiple : v.header.data_length % frame_size v.channels v.format ≡ 0 =
    whole_frames v.count (frame_size v.channels v.format) v.header.data_length (whole.count ∙ sym whole.data_length) in
    let lengths : first_row (length_rows bytes) ≡ None =
    passed_rows (length_rows bytes) (
      rw (j.length) (le-ltb (length bytes) (24 + v.header.data_length) long),
      (rw (j.length, j.channels, named) (same_not_other (v.header.data_length % frame_size v.channels v.format) 0 multiple), tt),
    ) in
    or_else-accepted _ _ (or_else-accepted _ _ start shared) (or_else-accepted _ _ samples lengths)

-- If bytes hold the header as the writer writes it, and then the payload, the bytes spell the packet. The reserved bits
-- of the spelled packet are 0.
held : (bytes : List ℕ) (v : Aaf) → IsWritableAaf v → Holds aaf_layout v bytes → 24 + v.header.data_length ≤ length bytes
    → v.payload ≡ take v.header.data_length (drop 24 bytes) → SpellsAaf bytes (plain_aaf v)
held bytes v whole f long payload =
    let spells : Spells aaf_layout (plain_aaf v) bytes = held_spells aaf_layout (plain_aaf v) bytes refl f in
    record {
      accepted = accepted_again bytes v whole (fields_of bytes (plain_aaf v) spells) long;
      fields = spells;
      count = whole.count ∙ sym whole.data_length;
      payload = payload;
      reserved = sym (unset_spelled aaf_layout v bytes f);
    }

pub aaf_again : (v : Aaf) (rest : List ℕ) → IsWritableAaf v → Fits aaf_layout v → SpellsAaf (aaf_spelling v ++ rest) (plain_aaf v)
aaf_again v rest whole fits =
    let regrouped : aaf_spelling v ++ rest ≡ spelling aaf_layout v ++ (v.payload ++ rest) = append_assoc (spelling aaf_layout v) v.payload rest in
    let f : Holds aaf_layout v (spelling aaf_layout v ++ (v.payload ++ rest)) = holds_spelled aaf_layout v 0 [] (v.payload ++ rest) refl aaf_laid fits in
    let long : 24 + v.header.data_length ≤ length (spelling aaf_layout v ++ (v.payload ++ rest)) =
    omega (arith, length-append (spelling aaf_layout v) (v.payload ++ rest), length-append v.payload rest, whole.data_length) in
    rw regrouped (held (spelling aaf_layout v ++ (v.payload ++ rest)) v whole f long (sym (take_at v.payload rest v.header.data_length (sym whole.data_length))))

-- ---- the fields that only this format has, as bytes

code-below : (f : AafFormat) → code_of f < 5
code-below Float32 = omega arith
code-below Int32 = omega arith
code-below Int24 = omega arith
code-below Int16 = omega arith

-- The bounds of the numbers in a packet whose fields fit into their bits.
record Bounds (v : Aaf) : Type 0 where
  nsr : v.nsr < 16
  channels : v.channels < 1024
  depth : v.depth < 256
  evt : v.evt < 16

bounds_of : (v : Aaf) → Fits aaf_layout v → Bounds v
bounds_of v (_, (_, (_, (_, (_, (_, (_, ((nsr, (_, (channels, _))), ((depth, _), (_, ((_, (_, (evt, _))), _))))))))))) = record { nsr = nsr; channels = channels; depth = depth; evt = evt }

pub same_spelling : (v : Aaf) (samples flags : ℕ) → Fits aaf_layout v
    → samples ≡ code_of v.format * 2 ^ 24 + v.nsr * 2 ^ 20 + v.channels * 2 ^ 8 + v.depth → flags ≡ flag v.sparse * 2 ^ 12 + v.evt * 2 ^ 8
    → spelling (filled_layout 0 samples flags) v.header ≡ spelling aaf_layout v
same_spelling v samples flags fits samples_is flags_is =
    let small = bounds_of v fits in
    let code = code-below v.format in
    let sparse = flag-below v.sparse in
    let a : samples / 16777216 % 256 ≡ code_of v.format % 256 = omega arith in
    let b : samples / 65536 % 256 ≡ ((v.nsr * 4 + 0) * 1024 + v.channels) / 256 % 256 = omega arith in
    let c : samples / 256 % 256 ≡ ((v.nsr * 4 + 0) * 1024 + v.channels) % 256 = omega arith in
    let d : samples % 256 ≡ v.depth % 256 = omega arith in
    let e : flags / 256 % 256 ≡ ((0 * 2 + flag v.sparse) * 16 + v.evt) % 256 = omega arith in
    let f : flags % 256 ≡ 0 = omega arith in
    rw (a, b, c, d, e, f) refl

width-few : (f : AafFormat) → width_of f ≤ 4
width-few Float32 = omega arith
width-few Int32 = omega arith
width-few Int24 = omega arith
width-few Int16 = omega arith

pub fits_whole : (v : Aaf) (samples flags : ℕ) → IsWritableAaf v → Fits (filled_layout 0 samples flags) v.header → Fits aaf_layout v
fits_whole v samples flags whole (subtype, (second, (seq, (tu, (id, (timestamp, (_, (stated, _)))))))) =
    let depth : v.depth < 256 = omega (arith, whole.depth, width-few v.format) in
    let code = code-below v.format in (
      subtype,
      (
        second,
        (
          seq,
          (
            tu,
            (
              id,
              (
                timestamp,
                (
                  (omega arith, tt),
                  (
                    (omega (arith, whole.nsr), (omega arith, (whole.channels, tt))),
                    ((depth, tt), (stated, ((omega arith, (flag-below v.sparse, (whole.evt, tt))), ((omega arith, tt), tt)))),
                  ),
                ),
              ),
            ),
          ),
        ),
      ),
    )

-- ---- if a packet has no trailing bytes and no reserved bit set, its bytes are exactly what a writer writes for it

pub aaf_only : (bytes : List ℕ) (v : Aaf) → AreBytes bytes → SpellsAaf bytes v → v.reserved ≡ false → length bytes ≡ 24 + v.header.data_length
    → bytes ≡ aaf_spelling v
aaf_only bytes v fits s plain len =
    let h : Holds aaf_layout v bytes = spelled_holds aaf_layout v bytes refl s.fields (sym s.reserved ∙ plain) in
    let rest : v.payload ≡ drop 24 bytes =
    s.payload ∙ take_all v.header.data_length (drop 24 bytes) (omega (arith, length-drop 24 bytes)) in
    only_spelling aaf_layout v bytes 24 aaf_laid refl fits (omega arith) h ∙ ap (λ (xs : List ℕ). spelling aaf_layout v ++ xs) (sym rest)
