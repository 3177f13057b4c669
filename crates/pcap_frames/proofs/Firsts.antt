-- The released records are the first records of the capture, whatever bytes follow.
use Rattle.std.proofs.Common.{◌≡◌, ℕ, zero, suc, ◌≤◌, List, [], ◌∷◌, ◌++◌, length, take, drop, Option, Some, None, refl, sym, ap, ◌∙◌, arith, append_assoc, length-append}
use Rattle.std.proofs.lemmas.List.{append-nil, take_at, drop_at}
use Rattle.avtp_base.specs.declared.refusal.Refusal.{Refusal}
use Rattle.pcap_frames.specs.declared.style.Style.{Style}
use Rattle.pcap_frames.specs.Layout.{record_refusal}
use Rattle.pcap_frames.specs.Capture.{Record, SpellsAll, Holds, record_of, record_size, records_from, records_behind, style_of, whole_records}
use Rattle.pcap_frames.specs.Reading.{Reading, HasRead, Follows, StandsFor, IsReading}
use Rattle.pcap_frames.proofs.Held.{refused_stays}
use Rattle.pcap_frames.proofs.One.{holds_one, spells_accepted, spells_one, spells_size}
use Rattle.pcap_frames.proofs.Steps.{style_stays}
use Rattle.pcap_frames.proofs.Whole.{holds_whole}

from_step : (n : ℕ) (style : Style) (bytes : List ℕ) → record_refusal style.order 0 bytes ≡ None
    → records_from (suc n) style bytes ≡ record_of style (take (record_size style bytes) bytes) ∷ records_from n style (drop (record_size style bytes) bytes)
from_step n style bytes none = rw none refl

-- if bytes begin with the encodings of some records, these records are the first ones that are read
from_spelled : (n : ℕ) (style : Style) (records : List Record) (body rest : List ℕ) → SpellsAll style records body → length (body ++ rest) ≤ n
    → (others : List Record) × (records_from n style (body ++ rest) ≡ records ++ others)
from_spelled n style [] body rest s fits = (records_from n style (body ++ rest), refl)
from_spelled zero style (r ∷ records) body rest s fits = absurd (omega (arith, s.3.size, ap length s.2, length-append s.0 s.1, length-append body rest))
from_spelled (suc n) style (r ∷ records) body rest s fits =
    let all : List ℕ = body ++ rest in
    let tail : List ℕ = s.1 ++ rest in
    let whole : all ≡ s.0 ++ tail = ap (λ (z : List ℕ). z ++ rest) s.2 ∙ append_assoc s.0 s.1 rest in
    let none : record_refusal style.order 0 all ≡ None = ap (record_refusal style.order 0) whole ∙ spells_accepted style r 0 s.0 tail s.3 in
    let size : record_size style all ≡ length s.0 = ap (record_size style) whole ∙ sym (spells_size style r s.0 tail s.3) in
    let first : take (record_size style all) all ≡ s.0 = ap (take (record_size style all)) whole ∙ take_at s.0 tail (record_size style all) (sym size) in
    let behind : drop (record_size style all) all ≡ tail = ap (drop (record_size style all)) whole ∙ drop_at s.0 tail (record_size style all) (sym size) in
    let less : length tail ≤ n = omega (arith, s.3.size, ap length whole, length-append s.0 tail) in
    let next = from_spelled n style records s.1 rest s.4 less in (
      next.0,
      from_step n style all none
          ∙ (ap (λ (f : List ℕ). record_of style f ∷ records_from n style (drop (record_size style all) all)) first
          ∙ (ap (λ (x : Record). x ∷ records_from n style (drop (record_size style all) all)) (sym (spells_one style r s.0 s.3))
          ∙ (ap (λ (l : List ℕ). r ∷ records_from n style l) behind ∙ ap (λ (rs : List Record). r ∷ rs) next.1))),
    )

behind_style : (style : Option Style) (s : Style) (bytes : List ℕ) → style ≡ Some s → records_behind style bytes ≡ records_from (length bytes) s (drop 24 bytes)
behind_style style s bytes is = rw is refl

follows_first : (style : Style) (start : ℕ) (part bytes more : List ℕ) (records : List Record) → style_of (bytes ++ more) ≡ Some style → Follows style start part bytes records
    → (others : List Record) × (whole_records (bytes ++ more) ≡ records ++ others)
unfolding whole_records
follows_first style start part bytes more records is f =
    let c = f.capture in
    let rest : List ℕ = part ++ more in
    let split : bytes ++ more ≡ c.header ++ (c.body ++ rest) =
    ap (λ (z : List ℕ). z ++ more) (f.whole ∙ ap (λ (z : List ℕ). z ++ part) c.whole)
    ∙ (append_assoc (c.header ++ c.body) part more ∙ append_assoc c.header c.body rest) in
    let body : drop 24 (bytes ++ more) ≡ c.body ++ rest = ap (drop 24) split ∙ drop_at c.header (c.body ++ rest) 24 c.is_header.size in
    let fits : length (c.body ++ rest) ≤ length (bytes ++ more) = omega (arith, ap length split, length-append c.header (c.body ++ rest)) in
    let firsts = from_spelled (length (bytes ++ more)) style records c.body rest c.spelled fits in
    (firsts.0, behind_style (style_of (bytes ++ more)) style (bytes ++ more) is ∙ (ap (records_from (length (bytes ++ more)) style) body ∙ firsts.1))

first_by : (refusal : Option Refusal) (style : Option Style) (start : ℕ) (part bytes more : List ℕ) (records : List Record) → style ≡ style_of bytes
    → StandsFor refusal style start part bytes records → IsReading refusal style start part → (others : List Record) × (whole_records (bytes ++ more) ≡ records ++ others)
first_by (Some r) style start part bytes more records is stands reading =
    let refused : Holds (bytes ++ more) records (Some r) = refused_stays bytes more records r reading stands in
    let same = holds_one (bytes ++ more) _ _ _ (Some r) (holds_whole (bytes ++ more)) refused in
    ([], same.0 ∙ sym (append-nil records))
first_by None None start part bytes more records is stands reading = (whole_records (bytes ++ more), sym (ap (λ (rs : List Record). rs ++ whole_records (bytes ++ more)) stands.0))
first_by None (Some style) start part bytes more records is stands reading = follows_first style start part bytes more records (style_stays bytes more style (sym is)) stands

-- the released records are the first whole records of the bytes taken, whatever bytes follow
pub records_first : (r : Reading) (bytes more : List ℕ) (records : List Record) → HasRead r bytes records → (others : List Record) × (whole_records (bytes ++ more) ≡ records ++ others)
records_first r bytes more records h = first_by r.refusal r.style r.start r.part bytes more records h.style h.stands h.reading
