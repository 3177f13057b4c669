-- What is known of a reader that holds a record or has a refusal.
use Rattle.std.proofs.Common.{◌≡◌, ℕ, ◌+◌, ◌≤◌, false, cond, List, [], ◌∷◌, ◌++◌, length, Option, Some, None, IsSome, refl, sym, ap, subst, ◌∙◌, arith, is_none, inl, inr, append_assoc, length-append}
use Rattle.std.specs.Prelude.{IfSome, Result, Ok, Err, option_to_list}
use Rattle.std.specs.Result.{result_err}
use Rattle.avtp_base.specs.declared.refusal.Refusal.{Refusal}
use Rattle.pcap_frames.specs.declared.style.Order.{Order}
use Rattle.pcap_frames.specs.declared.style.Style.{Style}
use Rattle.pcap_frames.specs.Layout.{number_at, certain, file_refusal, record_refusal}
use Rattle.pcap_frames.specs.Capture.{Record, IsRefused, Holds, style_of, record_of, whole_records, first_refusal}
use Rattle.pcap_frames.specs.Readers.{Ends, IsRefusedAfter}
use Rattle.pcap_frames.specs.state.Readers.{IsSure}
use Rattle.pcap_frames.specs.Reading.{Reading, HasRead, GoesOn, IsPart, IsReading, held, held_by, meaning, progress}
use Rattle.pcap_frames.specs.state.Reading.{ending, ending_by}
use Rattle.pcap_frames.proofs.Append.{number_stays, file_stays, record_stays, style_at_stays}
use Rattle.pcap_frames.proofs.Fields.{file_whole, record_whole, record_limit}
use Rattle.pcap_frames.proofs.Steps.{reading}
use Rattle.pcap_frames.proofs.Ends.{ends}
use Rattle.pcap_frames.proofs.One.{record_fits, holds_one, refused_header}
use Rattle.pcap_frames.proofs.Whole.{holds_whole}

held_none : (x : Option Refusal) (r : Record) → IsSome (cond (is_none x) (Some r) None) → x ≡ None
held_none None r h = refl
held_none (Some why) r h = absurd (cc)

-- if a record is held, nothing in it is refused
pub held_is : (refusal : Option Refusal) (style : Option Style) (s : Style) (start : ℕ) (part : List ℕ) → refusal ≡ None → style ≡ Some s → IsSome (held_by refusal style start part) → record_refusal s.order start part ≡ None
held_is refusal style s start part none is h = held_none (record_refusal s.order start part) (record_of s part) (rw (none, is) at h)

-- if nothing in `part` is refused, the reader holds `part` as a record
pub is_held_by : (refusal : Option Refusal) (style : Option Style) (s : Style) (start : ℕ) (part : List ℕ) → refusal ≡ None → style ≡ Some s → record_refusal s.order start part ≡ None → IsSome (held_by refusal style start part)
is_held_by refusal style s start part none is e = rw (none, is, e) refl

-- if `part` is a whole record, it consists of 16 header bytes and the captured bytes, and nothing else
pub held_ends : (order : Order) (start : ℕ) (part : List ℕ) → IsPart order start part → record_refusal order start part ≡ None → length part ≡ 16 + number_at order 8 4 part
held_ends order start part p e =
    let whole = record_whole order start part e in
    elim p.within [
      | inl short ↦ omega arith
      | inr within ↦ omega arith
    ]

-- if `more` completes the record, nothing in the record is refused
pub filled : (order : Order) (start : ℕ) (part more : List ℕ) → IsPart order start part → 16 ≤ length part → length (part ++ more) ≡ 16 + number_at order 8 4 part → record_refusal order start (part ++ more) ≡ None
filled order start part more p long size =
    let limit = record_limit order start part (omega arith) p.accepted in
    let stays : number_at order 8 4 (part ++ more) ≡ number_at order 8 4 part = number_stays order 8 4 part more (omega arith) in
    record_fits order start (part ++ more) (omega arith) (omega arith)

-- appending bytes does not change the refusal of a complete field
pub refused_stays : (bytes more : List ℕ) (records : List Record) (r : Refusal) → r.short ≡ false → IsRefused bytes records r → IsRefused (bytes ++ more) records r
refused_stays bytes more records r long (inl h) = inl (h.0, file_stays bytes more (Some r) h.1 long)
refused_stays bytes more records r long (inr h) = inr (record {
  style = h.style;
  front = h.front;
  rest = h.rest ++ more;
  whole = ap (λ (b : List ℕ). b ++ more) h.whole ∙ append_assoc h.front h.rest more;
  capture = h.capture;
  some = omega (arith, h.some, length-append h.rest more);
  refused = record_stays h.style.order (length h.front) h.rest more (Some r) h.refused long;
})

style_after : (bytes more : List ℕ) (records : List Record) (r : Refusal) → r.short ≡ false → IsRefused bytes records r → style_of (bytes ++ more) ≡ style_of bytes
style_after bytes more records r long (inl h) = rw (h.1, file_stays bytes more (Some r) h.1 long) refl
style_after bytes more records r long (inr h) =
    let none : file_refusal bytes ≡ None = refused_header bytes records r h in
    let whole = file_whole bytes none in
    rw (none, file_stays bytes more None none refl) (style_at_stays bytes more (omega arith))

-- a reader with a refusal counts all later bytes as taken
pub refused_goes_on : (refusal : Option Refusal) (style : Option Style) (start : ℕ) (part : List ℕ) (r : Refusal) (more : List ℕ) → refusal ≡ Some r → GoesOn (reading refusal style start part) more (reading refusal style start part)
refused_goes_on refusal style start part r more e bytes records h =
    let long = rw e at h.reading in
    let stands = rw e at h.stands in
    record { style = h.style ∙ sym (style_after bytes more records r long stands); stands = rw e (refused_stays bytes more records r long stands); reading = h.reading }

-- the refusal of a reader is the first refusal of the capture, whatever bytes follow
pub refused_for_good : (refusal : Option Refusal) (style : Option Style) (start : ℕ) (part : List ℕ) (r : Refusal) (bytes more : List ℕ) (records : List Record) → refusal ≡ Some r → HasRead (reading refusal style start part) bytes records → Holds (bytes ++ more) records (Some r)
refused_for_good refusal style start part r bytes more records e h = refused_stays bytes more records r (rw e at h.reading) (rw e at h.stands)

uncertain_by : (refusal : Option Refusal) (style : Option Style) (start : ℕ) (part : List ℕ) → refusal ≡ None → IsReading refusal style start part → certain (ending_by refusal style start part) ≡ None
uncertain_by (Some r) style start part none keeps = absurd (cc)
uncertain_by None None start part none keeps = keeps.accepted
uncertain_by None (Some style) start [] none keeps = refl
uncertain_by None (Some style) start (b ∷ part) none keeps = keeps.accepted

-- `ending` is the first refusal of the bytes taken
pub ending_is : (r : Reading) (bytes : List ℕ) (records : List Record) → HasRead r bytes records → ending r ≡ first_refusal bytes
ending_is r bytes records h = (holds_one bytes _ _ _ _ (ends r bytes records h) (holds_whole bytes)).1

pub records_are : (r : Reading) (bytes : List ℕ) (records : List Record) → HasRead r bytes records → records ++ option_to_list (held r) ≡ whole_records bytes
records_are r bytes records h = (holds_one bytes _ _ _ _ (ends r bytes records h) (holds_whole bytes)).0

-- if a reader has no refusal, none of the complete fields in the taken bytes is refused
pub uncertain : (r : Reading) (bytes : List ℕ) (records : List Record) → r.refusal ≡ None → HasRead r bytes records → certain (first_refusal bytes) ≡ None
uncertain r bytes records none h = ap certain (sym (ending_is r bytes records h)) ∙ uncertain_by r.refusal r.style r.start r.part none h.reading

refused_sure : (r : Reading) (why : Refusal) (bytes more : List ℕ) (records : List Record) → r.refusal ≡ Some why → HasRead r bytes records
    → IsRefusedAfter meaning (bytes ++ more) records why
refused_sure r why bytes more records is h =
    let holds = refused_for_good r.refusal r.style r.start r.part why bytes more records is h in
    let one = holds_one (bytes ++ more) (whole_records (bytes ++ more)) records (first_refusal (bytes ++ more)) (Some why) (holds_whole (bytes ++ more)) holds in
    let long : why.short ≡ false = subst (λ (x : Option Refusal). IsReading x r.style r.start r.part) is h.reading in
    record { all = one.0; certain = rw (one.1, long) refl }

pub is_sure : (r : Reading) → IsSure meaning (progress r)
is_sure r = record {
  uncertain = λ none bytes records h. uncertain r bytes records none h;
  refused = λ why is bytes more records h. refused_sure r why bytes more records is h;
}

ending_again : (refusal : Option Refusal) (style : Option Style) (start : ℕ) (part : List ℕ) (result : Result Unit Refusal) → result_err result ≡ ending_by refusal style start part
    → IfSome refusal (λ why. result ≡ Err why)
ending_again None style start part result e = tt
ending_again (Some why) style start part (Ok unit) e = absurd cc
ending_again (Some why) style start part (Err r) e = let same : r ≡ why = cc in rw same refl

-- if a reader returns `ending` at the end of the capture, it returns the capture's first refusal
pub ends_now : (r : Reading) (result : Result Unit Refusal) → result_err result ≡ ending r → Ends meaning (progress r) result
ends_now r result e = record {
  records = λ bytes records h. records_are r bytes records h;
  refusal = λ bytes records h. e ∙ ending_is r bytes records h;
  lasting = ending_again r.refusal r.style r.start r.part result e;
}
