-- Bytes begin with at most one stream header.
use Rattle.std.proofs.Common.{◌≡◌, ℕ, ◌≤◌, Bool, false, List, [], ◌∷◌, ◌++◌, length, drop, None, refl, sym, arith}
use Rattle.std.proofs.lemmas.Bool.{le-ltb}
use Rattle.std.proofs.lemmas.List.{length-append}
use Rattle.avtp_base.specs.Octets.{AreBytes, any_set, bits}
use Rattle.avtp_base.specs.Rows.{first_row}
use Rattle.avtp_base.specs.Layout.{reserved_ranges, Fits, Spells, spelling, first_short}
use Rattle.avtp_base.proofs.BitLemmas.{bit_of_flag, bit_shown}
use Rattle.avtp_base.proofs.RowLemmas.{or_else-none, rows_passed, not_other}
use Rattle.avtp_base.proofs.HoldLemmas.{held_spells, spelled_holds}
use Rattle.avtp_base.proofs.OnlySpelling.{only_spelling}
use Rattle.avtp_base.proofs.LayoutLemmas.{Holds, IsLaid, holds_spelled}
use Rattle.avtp_header.specs.declared.header.StreamHeader.{StreamHeader}
use Rattle.avtp_header.specs.Header.{SpellsHeader, header_layout, header_of, header_refusal, version_row}

pub version_accepted : (bytes : List ℕ) → first_row (version_row bytes ∷ []) ≡ None → bits 1 1 3 bytes ≡ 0
version_accepted bytes e = not_other (bits 1 1 3 bytes) 0 (rows_passed (version_row bytes ∷ []) e).0

pub header_version : (bytes : List ℕ) → header_refusal bytes ≡ None → bits 1 1 3 bytes ≡ 0
header_version bytes e = version_accepted bytes (or_else-none (first_short header_layout (length bytes)) (first_row (version_row bytes ∷ [])) e).1

pub header_spelled : (bytes : List ℕ) → header_refusal bytes ≡ None → SpellsHeader bytes (header_of bytes)
header_spelled bytes e =
    let version = header_version bytes e in
    record {
      accepted = e;
      fields = (
        (refl, tt),
        (
          (bit_shown 1 0 bytes, (version, (bit_shown 1 4 bytes, (refl, (bit_shown 1 7 bytes, tt))))),
          (
            (refl, tt),
            (
              (tt, (bit_shown 3 7 bytes, tt)),
              (
                (refl, tt),
                (
                  (refl, tt),
                  (
                    (tt, tt),
                    (
                      (refl, tt),
                      ((tt, tt), tt),
                    ),
                  ),
                ),
              ),
            ),
          ),
        ),
      );
    }

abbrev header : ℕ → Bool → Bool → ℕ → Bool → ℕ → Bool → ℕ → ℕ → ℕ → StreamHeader
header subtype sv mr format_bits tv seq tu stream_id timestamp data_length = record {
  subtype = subtype;
  sv = sv;
  mr = mr;
  format_bits = format_bits;
  tv = tv;
  seq = seq;
  tu = tu;
  stream_id = stream_id;
  timestamp = timestamp;
  data_length = data_length;
}

same_header : (a a' : ℕ) (b b' c c' : Bool) (d d' : ℕ) (e e' : Bool) (f f' : ℕ) (g g' : Bool) (h h' i i' j j' : ℕ)
    → a ≡ a' → b ≡ b' → c ≡ c' → d ≡ d' → e ≡ e' → f ≡ f' → g ≡ g' → h ≡ h' → i ≡ i' → j ≡ j'
    → header a b c d e f g h i j ≡ header a' b' c' d' e' f' g' h' i' j'
same_header a a' b b' c c' d d' e e' f f' g g' h h' i i' j j' p q r s t u v w x y = rw (p, q, r, s, t, u, v, w, x, y) refl

one_shown : (bytes : List ℕ) (h : StreamHeader) → Spells header_layout h bytes → h ≡ header_of bytes
one_shown bytes h ((subtype, _), ((sv, (_, (mr, (format_bits, (tv, _))))), ((seq, _), ((_, (tu, _)), ((id, _), ((timestamp, _), (_, ((stated, _), _)))))))) =
    same_header _ _ _ _ _ _ _ _ _ _ _ _ _ _ _ _ _ _ _ _
    (sym subtype)
    (sym (bit_of_flag (bits 1 0 1 bytes) h.sv sv))
    (sym (bit_of_flag (bits 1 4 1 bytes) h.mr mr))
    (sym format_bits)
    (sym (bit_of_flag (bits 1 7 1 bytes) h.tv tv))
    (sym seq)
    (sym (bit_of_flag (bits 3 7 1 bytes) h.tu tu))
    (sym id)
    (sym timestamp)
    (sym stated)

pub one_header : (bytes : List ℕ) (h : StreamHeader) → SpellsHeader bytes h → h ≡ header_of bytes
one_header bytes h s = one_shown bytes h s.fields

pub header_whole : (n : ℕ) → 24 ≤ n → first_short header_layout n ≡ None
header_whole n long =
    rw (
      le-ltb n 1 (omega arith),
      le-ltb n 2 (omega arith),
      le-ltb n 3 (omega arith),
      le-ltb n 4 (omega arith),
      le-ltb n 12 (omega arith),
      le-ltb n 16 (omega arith),
      le-ltb n 20 (omega arith),
      le-ltb n 22 (omega arith),
      le-ltb n 24 (omega arith),
    ) refl

header_laid : IsLaid 0 header_layout
header_laid = (refl, refl, (refl, refl, (refl, refl, (refl, refl, (refl, refl, (refl, refl, (refl, refl, (refl, refl, (refl, refl, tt)))))))))

spelled_version : (bytes : List ℕ) (h : StreamHeader) → Spells header_layout h bytes → bits 1 1 3 bytes ≡ 0
spelled_version bytes h (_, ((_, (version, _)), _)) = version

-- a written header is read back, whatever bytes follow it
pub header_again : (h : StreamHeader) (rest : List ℕ) → Fits header_layout h → SpellsHeader (spelling header_layout h ++ rest) h
header_again h rest fits =
    let bytes : List ℕ = spelling header_layout h ++ rest in
    let f : Holds header_layout h bytes = holds_spelled header_layout h 0 [] rest refl header_laid fits in
    let whole : first_short header_layout (length bytes) ≡ None = header_whole (length bytes) (omega (arith, length-append (spelling header_layout h) rest)) in
    let spells : Spells header_layout h bytes = held_spells header_layout h bytes refl f in
    record { accepted = rw (whole, spelled_version bytes h spells) refl; fields = spells }

-- If bytes spell a header and all reserved bits of the header are 0, the bytes begin with exactly what a writer writes
-- for that header.
pub header_only : (bytes : List ℕ) (h : StreamHeader) → AreBytes bytes → SpellsHeader bytes h → 24 ≤ length bytes
    → any_set (reserved_ranges header_layout) bytes ≡ false → bytes ≡ spelling header_layout h ++ drop 24 bytes
header_only bytes h fits s long plain =
    only_spelling header_layout h bytes 24 header_laid refl fits long (spelled_holds header_layout h bytes refl s.fields plain)
