-- The canonical spelling spells the capture.
use Rattle.std.proofs.Common.{◌≡◌, ℕ, ◌*◌, ◌/◌, ◌%◌, ◌^◌, ◌<◌, ◌≤◌, ◌≤ℤ◌, ◌<ℤ◌, ℤ, pos, negsuc, nat_abs, List, [], ◌∷◌, ◌++◌, length, take, drop, None, Ok, Err, refl, sym, ap, ◌∙◌, arith, append_assoc, length-append}
use Rattle.std.proofs.lemmas.Int.{ints}
use Rattle.std.proofs.lemmas.List.{drop_at, take-append-drop}
use Rattle.std.specs.List.{flat_map, AllByRecursion}
use Rattle.avtp_base.specs.Rows.{Writes}
use Rattle.byteorder.specs.Numbers.{big_number-reads_back, little_number-reads_back, length-bytes_high_first, length-bytes_low_first}
use Rattle.pcap_frames.specs.declared.style.Order.{Order}
use Rattle.pcap_frames.specs.declared.style.Order.TheVariants.{Little, Big}
use Rattle.pcap_frames.specs.declared.style.Unit as units
use Rattle.pcap_frames.specs.declared.style.Unit.TheVariants.{Micro, Nano}
use Rattle.pcap_frames.specs.declared.style.Style.{Style}
use Rattle.pcap_frames.specs.Layout.{number_at, number_bytes, style_at, scale, instant}
use Rattle.pcap_frames.specs.Capture.{Record, IsFileHeader, Spells, SpellsAll, IsCapture, HasSpelling, header_spelling, record_spelling, capture_spelling, whole_records, first_refusal}
use Rattle.pcap_frames.proofs.One.{holds_one}
use Rattle.pcap_frames.proofs.Whole.{holds_whole}

header_by : (order : Order) (unit : units.Unit) → IsFileHeader (record { order = order; unit = unit }) (header_spelling (record { order = order; unit = unit }))
unfolding number_at number_bytes style_at
header_by Little Micro = record { size = refl; magic = refl; version_major = refl; network = refl }
header_by Little Nano = record { size = refl; magic = refl; version_major = refl; network = refl }
header_by Big Micro = record { size = refl; magic = refl; version_major = refl; network = refl }
header_by Big Nano = record { size = refl; magic = refl; version_major = refl; network = refl }

pub header_is : (style : Style) → IsFileHeader style (header_spelling style)
header_is style = header_by style.order style.unit

header_length : (style : Style) → length (header_spelling style) ≡ 24
header_length style = (header_is style).size

number_size : (order : Order) (size n : ℕ) → length (number_bytes order size n) ≡ size
unfolding number_bytes
number_size Little size n = length-bytes_low_first 0 size n
number_size Big size n = length-bytes_high_first size n

-- a written number is read back
number_back : (order : Order) (offset size n : ℕ) (front rest : List ℕ) → length front ≡ offset → n < 256 ^ size → number_at order offset size (front ++ (number_bytes order size n ++ rest)) ≡ n
unfolding number_at number_bytes
number_back Little offset size n front rest h fits = rw (drop_at front (number_bytes Little size n ++ rest) offset h) (little_number-reads_back size n rest fits)
number_back Big offset size n front rest h fits = rw (drop_at front (number_bytes Big size n ++ rest) offset h) (big_number-reads_back size n rest fits)

natural : (z : ℤ) → pos 0 ≤ℤ z → z ≡ pos (nat_abs z)
natural (pos n) h = refl
natural (negsuc n) h = absurd (omega (arith, ints))

below : (z : ℤ) (n : ℕ) → pos 0 ≤ℤ z → z <ℤ pos n → nat_abs z < n
below (pos m) n h k = omega (arith, ints)
below (negsuc m) n h k = absurd (omega (arith, ints))

-- adding the whole seconds and the fraction gives the instant back
instant_by : (unit : units.Unit) (n : ℕ) → n % scale unit ≡ 0 → instant unit (n / 1000000000) (n % 1000000000 / scale unit) ≡ n
instant_by Micro n h = omega arith
instant_by Nano n h = omega arith

fraction_below : (unit : units.Unit) (n : ℕ) → n % 1000000000 / scale unit < 2 ^ 32
fraction_below Micro n = omega arith
fraction_below Nano n = omega arith

record_is : (style : Style) (r : Record) → HasSpelling style r → Spells style r (record_spelling style r)
record_is style r h =
    let o : Order = style.order in
    let n : ℕ = nat_abs r.arrival in
    let seconds : ℕ = n / 1000000000 in
    let fraction : ℕ = n % 1000000000 / scale style.unit in
    let a : List ℕ = number_bytes o 4 seconds in
    let b : List ℕ = number_bytes o 4 fraction in
    let c : List ℕ = number_bytes o 4 (length r.bytes) in
    let d : List ℕ = number_bytes o 4 r.orig_len in
    let whole : record_spelling style r ≡ a ++ (b ++ (c ++ (d ++ r.bytes))) = simp append_assoc in
    let behind : record_spelling style r ≡ (a ++ b) ++ (c ++ (d ++ r.bytes)) = simp append_assoc in
    let last : record_spelling style r ≡ ((a ++ b) ++ c) ++ (d ++ r.bytes) = simp append_assoc in
    let la : length a ≡ 4 = number_size o 4 seconds in
    let lb : length b ≡ 4 = number_size o 4 fraction in
    let lc : length c ≡ 4 = number_size o 4 (length r.bytes) in
    let ld : length d ≡ 4 = number_size o 4 r.orig_len in
    let lab : length (a ++ b) ≡ 8 = omega (arith, length-append a b) in
    let labc : length ((a ++ b) ++ c) ≡ 12 = omega (arith, length-append (a ++ b) c) in
    let labcd : length (((a ++ b) ++ c) ++ d) ≡ 16 = omega (arith, length-append ((a ++ b) ++ c) d) in
    let small : n < 2 ^ 32 * 1000000000 = below r.arrival (2 ^ 32 * 1000000000) h.begun h.ended in
    let first : number_at o 0 4 (record_spelling style r) ≡ seconds = ap (number_at o 0 4) whole ∙ number_back o 0 4 seconds [] (b ++ (c ++ (d ++ r.bytes))) refl (omega arith) in
    let second : number_at o 4 4 (record_spelling style r) ≡ fraction = ap (number_at o 4 4) whole ∙ number_back o 4 4 fraction a (c ++ (d ++ r.bytes)) la (fraction_below style.unit n) in
    record {
      size = omega (arith, length-append (((a ++ b) ++ c) ++ d) r.bytes);
      arrival = natural r.arrival h.begun ∙ ap pos (sym (rw (first, second) (instant_by style.unit n h.whole)));
      incl_len = ap (number_at o 8 4) behind ∙ number_back o 8 4 (length r.bytes) (a ++ b) (d ++ r.bytes) lab (omega (arith, h.limit));
      limit = h.limit;
      orig_len = ap (number_at o 12 4) last ∙ number_back o 12 4 r.orig_len ((a ++ b) ++ c) r.bytes labc (omega (arith, h.orig_len));
      packet_bytes = drop_at (((a ++ b) ++ c) ++ d) r.bytes 16 labcd;
    }

all_are : (style : Style) (records : List Record) → AllByRecursion (HasSpelling style) records → SpellsAll style records (flat_map (record_spelling style) records)
all_are style [] h = refl
all_are style (r ∷ records) h = (record_spelling style r, flat_map (record_spelling style) records, refl, record_is style r h.0, all_are style records h.1)

pub written_is : (style : Style) (records : List Record) → AllByRecursion (HasSpelling style) records → IsCapture style records (capture_spelling style records)
written_is style records h = record {
  header = header_spelling style;
  body = flat_map (record_spelling style) records;
  whole = refl;
  is_header = header_is style;
  spelled = all_are style records h;
}

pub written_records : (style : Style) (records : List Record) → AllByRecursion (HasSpelling style) records → whole_records (capture_spelling style records) ≡ records
written_records style records h =
    (holds_one (capture_spelling style records) _ records _ None (holds_whole (capture_spelling style records)) (style, written_is style records h)).0

pub written_refusal : (style : Style) (records : List Record) → AllByRecursion (HasSpelling style) records → first_refusal (capture_spelling style records) ≡ None
written_refusal style records h =
    (holds_one (capture_spelling style records) _ records _ None (holds_whole (capture_spelling style records)) (style, written_is style records h)).1

-- if the front of a slice is the canonical spelling of a file header and the rest is unchanged, the header was written
pub written_header : (style : Style) (old new : List ℕ) → 24 ≤ length old → take 24 new ≡ header_spelling style → drop 24 new ≡ drop 24 old → Writes (header_spelling style) old new (Ok 24)
written_header style old new room spelled rest =
    let size = header_length style in
    (sym size, omega (arith, size), sym (take-append-drop 24 new) ∙ (ap (λ (b : List ℕ). b ++ drop 24 new) spelled ∙ ap (λ (b : List ℕ). header_spelling style ++ b) (rest ∙ ap (λ (n : ℕ). drop n old) (sym size))))

-- if a slice is shorter than a file header and is unchanged, nothing was written
pub no_header : (style : Style) (old : List ℕ) → length old < 24 → Writes (header_spelling style) old old (Err (record { need = 24; found = length old }))
no_header style old short =
    let size = header_length style in
    (ap (λ (n : ℕ). record { need = n; found = length old }) (sym size), omega (arith, size), refl)
