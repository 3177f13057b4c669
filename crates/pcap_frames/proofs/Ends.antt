-- What a capture holds if no byte follows the bytes that a reader has taken.
use Rattle.std.proofs.Common.{◌≡◌, ℕ, ◌+◌, ◌-◌, ◌<◌, ◌≤◌, true, cond, List, [], ◌∷◌, ◌++◌, length, drop, Option, Some, None, refl, sym, ap, subst, ◌∙◌, arith, is_none, is_some, inl, inr, append_assoc, length-append, length-drop}
use Rattle.std.proofs.lemmas.Bool.Decides.{nat_tests}
use Rattle.std.proofs.lemmas.List.{append-nil}
use Rattle.std.specs.Option.{option_to_list}
use Rattle.avtp_base.specs.declared.refusal.Refusal.{Refusal}
use Rattle.pcap_frames.specs.declared.style.Order.{Order}
use Rattle.pcap_frames.specs.declared.style.Style.{Style}
use Rattle.pcap_frames.specs.Layout.{number_at, file_refusal, record_refusal}
use Rattle.pcap_frames.specs.Capture.{Record, Spells, SpellsAll, IsCapture, Holds, record_of}
use Rattle.pcap_frames.specs.Reading.{Reading, HasRead, Follows, StandsFor, IsPart, IsReading, held, held_by}
use Rattle.pcap_frames.specs.state.Reading.{ending, ending_by}
use Rattle.pcap_frames.proofs.Fields.{file_whole, record_whole, nothing_held, record_begins}
use Rattle.pcap_frames.proofs.Steps.{reading}

-- If `bytes` are the encodings of `records`, and `last` is the encoding of `r`, appending `last` to `bytes` appends `r`
-- to `records`.
spells_more : (style : Style) (records : List Record) (r : Record) (bytes last : List ℕ) → SpellsAll style records bytes → Spells style r last → SpellsAll style (records ++ r ∷ []) (bytes ++ last)
spells_more style [] r bytes last all one = (last, [], rw all (sym (append-nil last)), one, refl)
spells_more style (x ∷ records) r bytes last all one =
    (all.0, all.1 ++ last, ap (λ (b : List ℕ). b ++ last) all.2 ∙ append_assoc all.0 all.1 last, all.3, spells_more style records r all.1 last all.4 one)

capture_more : (style : Style) (records : List Record) (r : Record) (bytes last : List ℕ) → IsCapture style records bytes → Spells style r last → IsCapture style (records ++ r ∷ []) (bytes ++ last)
capture_more style records r bytes last c one = record {
  header = c.header;
  body = c.body ++ last;
  whole = ap (λ (b : List ℕ). b ++ last) c.whole ∙ append_assoc c.header c.body last;
  is_header = c.is_header;
  spelled = spells_more style records r c.body last c.spelled one;
}

pub record_limited : (order : Order) (start : ℕ) (bytes : List ℕ) → record_refusal order start bytes ≡ None → number_at order 8 4 bytes ≤ 262144
unfolding record_refusal
record_limited order start bytes h = grind (arith, nat_tests)

-- if nothing in `part` is refused, `part` spells a record
spells_part : (style : Style) (start : ℕ) (part : List ℕ) → IsPart style.order start part → record_refusal style.order start part ≡ None → Spells style (record_of style part) part
spells_part style start part p none =
    let whole = record_whole style.order start part none in
    let limit = record_limited style.order start part none in
    let fit : length part ≡ 16 + number_at style.order 8 4 part = elim p.within [
      | inl short ↦ omega arith
      | inr within ↦ omega arith
    ] in
    let rest : length (drop 16 part) ≡ length part - 16 = length-drop 16 part in
    record {
      size = omega arith;
      arrival = refl;
      incl_len = omega arith;
      limit = omega arith;
      orig_len = refl;
      packet_bytes = refl;
    }

file_partial : (part bytes : List ℕ) (records : List Record) (x : Option Refusal) → file_refusal part ≡ x → length part < 24 → records ≡ [] → bytes ≡ part → Holds bytes (records ++ []) x
file_partial part bytes records None e short none is = absurd (omega (arith, file_whole part e))
file_partial part bytes records (Some r) e short none is = inl (rw none refl, rw is e)

record_partial : (style : Style) (start : ℕ) (b : ℕ) (part bytes : List ℕ) (records : List Record) (x : Option Refusal) → record_refusal style.order start (b ∷ part) ≡ x → IsPart style.order start (b ∷ part) → Follows style start (b ∷ part) bytes records
    → Holds bytes (records ++ option_to_list (cond (is_none x) (Some (record_of style (b ∷ part))) None)) x
record_partial style start b part bytes records None e p f =
    (style, rw f.whole (capture_more style records (record_of style (b ∷ part)) f.front (b ∷ part) f.capture (spells_part style start (b ∷ part) p e)))
record_partial style start b part bytes records (Some r) e p f = inr (record {
  style = style;
  front = f.front;
  rest = b ∷ part;
  whole = f.whole;
  capture = rw append-nil f.capture;
  some = omega arith;
  refused = rw f.begins e;
})

-- if the capture ends with the bytes taken, the capture holds the released records and then the held record
pub ends_by : (refusal : Option Refusal) (style : Option Style) (start : ℕ) (part bytes : List ℕ) (records : List Record) → StandsFor refusal style start part bytes records → IsReading refusal style start part
    → Holds bytes (records ++ option_to_list (held_by refusal style start part)) (ending_by refusal style start part)
ends_by (Some r) style start part bytes records stands keeps = rw append-nil stands
ends_by None None start part bytes records stands keeps = file_partial part bytes records (file_refusal part) refl keeps.partial stands.0 stands.1
ends_by None (Some style) start [] bytes records stands keeps =
    (style, rw (nothing_held style start, append-nil records) (subst (λ (b : List ℕ). IsCapture style records b) (sym (stands.whole ∙ append-nil stands.front)) stands.capture))
ends_by None (Some style) start (b ∷ part) bytes records stands keeps = record_partial style start b part bytes records (record_refusal style.order start (b ∷ part)) refl keeps stands

pub ends : (r : Reading) (bytes : List ℕ) (records : List Record) → HasRead r bytes records → Holds bytes (records ++ option_to_list (held r)) (ending r)
ends r bytes records h = ends_by r.refusal r.style r.start r.part bytes records h.stands h.reading

given_up : (style : Style) (start : ℕ) (part next bytes : List ℕ) (records : List Record) (x : Option Refusal) → record_refusal style.order start part ≡ x
    → is_some (cond (is_none x) (Some (record_of style part)) None) ≡ true → next ≡ []
    → HasRead (reading None (Some style) start part) bytes records → HasRead (reading None (Some style) (start + length part) next) bytes (records ++ option_to_list (cond (is_none x) (Some (record_of style part)) None))
given_up style start part next bytes records (Some r) e some none h = absurd (cc)
given_up style start part next bytes records None e some none h = record {
  style = h.style;
  stands = record {
    front = h.stands.front ++ part;
    whole = rw none (h.stands.whole ∙ sym (append-nil (h.stands.front ++ part)));
    capture = capture_more style records (record_of style part) h.stands.front part h.stands.capture (spells_part style start part h.reading e);
    begins = rw (length-append, h.stands.begins) refl;
  };
  reading = record_begins style.order (start + length part) next none;
}

-- releasing the held record appends it to the released records
pub gives_up : (refusal : Option Refusal) (style : Option Style) (start : ℕ) (part next bytes : List ℕ) (records : List Record) → is_some (held_by refusal style start part) ≡ true → next ≡ []
    → HasRead (reading refusal style start part) bytes records → HasRead (reading refusal style (start + length part) next) bytes (records ++ option_to_list (held_by refusal style start part))
gives_up (Some r) style start part next bytes records some none h = absurd (cc)
gives_up None None start part next bytes records some none h = absurd (cc)
gives_up None (Some style) start part next bytes records some none h = given_up style start part next bytes records (record_refusal style.order start part) refl some none h

-- if no byte of the next record was taken, no record is held
pub free_held : (refusal : Option Refusal) (style : Option Style) (start : ℕ) (part : List ℕ) → part ≡ [] → held_by refusal style start part ≡ None
free_held (Some r) style start part none = refl
free_held None None start part none = refl
free_held None (Some style) start part none = rw none (nothing_held style start)
