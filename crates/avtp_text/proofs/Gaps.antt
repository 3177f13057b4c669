-- A text ends with the line of a sample. The sample line has three gaps that are overwritten: the last eight digits of
-- the instant, the sample's number, and the sample's bytes.
use Rattle.std.proofs.Common.{◌≡◌, ℕ, ◌+◌, ◌*◌, ◌^◌, ◌<◌, ◌≤◌, ℤ, pos, List, ◌++◌, length, codes, decimal, refl, sym, ap, ◌∙◌, arith, append_assoc, length-append}
use Rattle.std.specs.Fmt.{signed_decimal}
use Rattle.avtp_text.specs.Listen.{due_text, place_text}
use Rattle.avtp_text.specs.state.Overwrites.{Overwrites}
use Rattle.avtp_text.specs.state.Pairs.{eight_digits}
use Rattle.avtp_text.specs.Pieces.{newline}
use Rattle.avtp_text.specs.state.SampleLines.{behind_frame, behind_instant, behind_seq, gapped, hex_end}
use Rattle.avtp_text.proofs.Digits.{with_eight}

regroup : (a b c d : List ℕ) → a ++ (b ++ c ++ d) ≡ a ++ b ++ c ++ d
regroup a b c d = sym (append_assoc a (b ++ c) d) ∙ ap (λ (x : List ℕ). x ++ d) (sym (append_assoc a b c))

-- ---- where the gaps are

abbrev pub before_low : List ℕ → ℕ → List ℕ
before_low b high = b ++ (codes "at " ++ decimal high)

abbrev pub before_frame : List ℕ → ℕ → List ℕ → List ℕ
before_frame b high low = before_low b high ++ low ++ codes " frame "

abbrev pub before_seq : List ℕ → ℕ → List ℕ → ℕ → List ℕ
before_seq b high low frame = before_frame b high low ++ decimal frame ++ codes " seq "

abbrev pub before_number : List ℕ → ℕ → List ℕ → ℕ → ℕ → List ℕ
before_number b high low frame seq = before_seq b high low frame ++ decimal seq ++ codes " sample "

abbrev pub before_hex : List ℕ → ℕ → List ℕ → ℕ → ℕ → List ℕ → List ℕ
before_hex b high low frame seq number = before_number b high low frame seq ++ number ++ codes " "

module _ (b : List ℕ) (high : ℕ) (low : List ℕ) (frame seq : ℕ) (number hex : List ℕ) where
  pub at_low : b ++ gapped high low frame seq number hex ≡ before_low b high ++ low ++ behind_instant frame seq number hex
  at_low = regroup b (codes "at " ++ decimal high) low (behind_instant frame seq number hex)

  pub at_frame : b ++ gapped high low frame seq number hex ≡ before_frame b high low ++ decimal frame ++ behind_frame seq number hex
  unfolding behind_instant
  at_frame = at_low ∙ regroup (before_low b high ++ low) (codes " frame ") (decimal frame) (behind_frame seq number hex)

  pub at_seq : b ++ gapped high low frame seq number hex ≡ before_seq b high low frame ++ decimal seq ++ behind_seq number hex
  at_seq = at_frame ∙ regroup (before_frame b high low ++ decimal frame) (codes " seq ") (decimal seq) (behind_seq number hex)

  pub at_number : b ++ gapped high low frame seq number hex ≡ before_number b high low frame seq ++ number ++ hex_end hex
  at_number = at_seq ∙ regroup (before_seq b high low frame ++ decimal seq) (codes " sample ") number (hex_end hex)

  pub at_hex : b ++ gapped high low frame seq number hex ≡ before_hex b high low frame seq number ++ hex ++ newline
  at_hex = at_number ∙ regroup (before_number b high low frame seq ++ number) (codes " ") hex newline

pub room : (l before gap after : List ℕ) → l ≡ before ++ gap ++ after → length before + length gap + length after ≤ length l
room l before gap after split = omega (arith, ap length split, length-append (before ++ gap) after, length-append before gap)

-- ---- one gap after the other

module _ (b l l' : List ℕ) (high : ℕ) (low : List ℕ) (frame seq : ℕ) (number hex : List ℕ) (text : l ≡ b ++ gapped high low frame seq number hex) (behind : ℕ) where
  pub low_written : (low' : List ℕ) → length low ≡ length low' → behind ≡ length (behind_instant frame seq number hex)
      → Overwrites l l' low' behind → l' ≡ b ++ gapped high low' frame seq number hex
  low_written low' same place written =
      written (before_low b high) low (behind_instant frame seq number hex) (text ∙ at_low b high low frame seq number hex) same (sym place)
      ∙ sym (at_low b high low' frame seq number hex)

  pub frame_written : (frame' : ℕ) → length (decimal frame) ≡ length (decimal frame') → behind ≡ length (behind_frame seq number hex)
      → Overwrites l l' (decimal frame') behind → l' ≡ b ++ gapped high low frame' seq number hex
  frame_written frame' same place written =
      written (before_frame b high low) (decimal frame) (behind_frame seq number hex) (text ∙ at_frame b high low frame seq number hex) same (sym place)
      ∙ sym (at_frame b high low frame' seq number hex)

  pub seq_written : (seq' : ℕ) → length (decimal seq) ≡ length (decimal seq') → behind ≡ length (behind_seq number hex)
      → Overwrites l l' (decimal seq') behind → l' ≡ b ++ gapped high low frame seq' number hex
  seq_written seq' same place written =
      written (before_seq b high low frame) (decimal seq) (behind_seq number hex) (text ∙ at_seq b high low frame seq number hex) same (sym place)
      ∙ sym (at_seq b high low frame seq' number hex)

  pub number_written : (number' : List ℕ) → length number ≡ length number' → behind ≡ length (hex_end hex)
      → Overwrites l l' number' behind → l' ≡ b ++ gapped high low frame seq number' hex
  number_written number' same place written =
      written (before_number b high low frame seq) number (hex_end hex) (text ∙ at_number b high low frame seq number hex) same (sym place)
      ∙ sym (at_number b high low frame seq number' hex)

  pub hex_written : (hex' : List ℕ) → length hex ≡ length hex' → behind ≡ 1
      → Overwrites l l' hex' behind → l' ≡ b ++ gapped high low frame seq number hex'
  hex_written hex' same place written =
      written (before_hex b high low frame seq number) hex newline (text ∙ at_hex b high low frame seq number hex) same (sym place)
      ∙ sym (at_hex b high low frame seq number hex')

-- ---- the line of a sample

pub behind_frame_length : (seq : ℕ) (number hex : List ℕ) → length (behind_frame seq number hex) ≡ length (decimal seq) + length (behind_seq number hex) + 5
behind_frame_length seq number hex = omega (arith, length-append (codes " seq " ++ decimal seq) (behind_seq number hex), length-append (codes " seq ") (decimal seq))

pub behind_instant_length : (frame seq : ℕ) (number hex : List ℕ) → length (behind_instant frame seq number hex) ≡ length (decimal frame) + length (behind_frame seq number hex) + 7
unfolding behind_instant
behind_instant_length frame seq number hex = omega (arith, length-append (codes " frame " ++ decimal frame) (behind_frame seq number hex), length-append (codes " frame ") (decimal frame))

pub hex_end_length : (hex : List ℕ) → length (hex_end hex) ≡ length hex + 2
hex_end_length hex = omega (arith, length-append (codes " " ++ hex) newline, length-append (codes " ") hex)

shape : (a h l f d q e p n s x z : List ℕ) → a ++ h ++ l ++ (f ++ d ++ (q ++ e ++ (p ++ n ++ (s ++ x ++ z)))) ≡ a ++ (h ++ l) ++ f ++ d ++ (q ++ e ++ p ++ n ++ s) ++ x ++ z
shape a h l f d q e p n s x z = simp append_assoc

pub sample_text : (instant : ℤ) (high low frame seq j : ℕ) (hex : List ℕ) → 1 ≤ high → low < 100000000 → instant ≡ pos (high * 100000000 + low) → high * 100000000 + low < 2 ^ 64
    → gapped high (eight_digits low) frame seq (decimal j) hex ≡ due_text instant frame ++ place_text seq j ++ hex ++ newline
unfolding behind_instant due_text place_text
sample_text instant high low frame seq j hex some small at fits =
    let text = shape (codes "at ") (decimal high) (eight_digits low) (codes " frame ") (decimal frame) (codes " seq ") (decimal seq) (codes " sample ") (decimal j) (codes " ") hex newline in
    text ∙ rw (at, with_eight high low some small fits) refl

whole_shape : (a i f d q e p n s x z : List ℕ) → a ++ i ++ (f ++ d ++ (q ++ e ++ (p ++ n ++ (s ++ (x ++ z))))) ≡ a ++ i ++ f ++ d ++ (q ++ e ++ p ++ n ++ s) ++ x ++ z
whole_shape a i f d q e p n s x z = simp append_assoc

pub whole_text : (instant : ℤ) (frame seq j : ℕ) (hex : List ℕ)
    → codes "at " ++ signed_decimal instant ++ (codes " frame " ++ decimal frame ++ (codes " seq " ++ decimal seq ++ (codes " sample " ++ decimal j ++ (codes " " ++ (hex ++ newline)))))
    ≡ due_text instant frame ++ place_text seq j ++ hex ++ newline
unfolding due_text place_text
whole_text instant frame seq j hex =
    whole_shape (codes "at ") (signed_decimal instant) (codes " frame ") (decimal frame) (codes " seq ") (decimal seq) (codes " sample ") (decimal j) (codes " ") hex newline
