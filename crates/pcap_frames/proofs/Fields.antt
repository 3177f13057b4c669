-- What is known of bytes in which a field is refused, and of bytes in which no field is refused.
use Rattle.std.proofs.Common.{◌≡◌, ℕ, ◌+◌, ◌-◌, ◌<◌, ◌≤◌, Bool, true, false, cond, List, [], ◌++◌, length, Option, Some, None, is_some, inl, inr, refl, arith, length-append}
use Rattle.std.proofs.lemmas.Bool.{cases_lt}
use Rattle.pcap_frames.proofs.Append.{number_stays}
use Rattle.std.proofs.lemmas.Bool.Decides.{nat_tests}
use Rattle.avtp_base.specs.declared.refusal.Refusal.{Refusal}
use Rattle.pcap_frames.specs.declared.style.Order.{Order}
use Rattle.pcap_frames.specs.declared.style.Style.{Style}
use Rattle.pcap_frames.specs.Reading.{IsHeaderPart, IsPart, IsReading, held_by, whole_record}
use Rattle.pcap_frames.specs.Capture.{IsFileHeader}
use Rattle.pcap_frames.specs.Layout.{number_at, style_at, certain, file_refusal, record_refusal}

-- if nothing in a record is refused, the record is whole
pub record_whole : (order : Order) (start : ℕ) (bytes : List ℕ) → record_refusal order start bytes ≡ None → 16 + number_at order 8 4 bytes ≤ length bytes
unfolding record_refusal
record_whole order start bytes h = grind (arith, nat_tests)

-- if the captured-length field of a record was taken and is not refused, the captured length is at most 262,144
pub record_limit : (order : Order) (start : ℕ) (bytes : List ℕ) → 12 ≤ length bytes → certain (record_refusal order start bytes) ≡ None → number_at order 8 4 bytes ≤ 262144
unfolding record_refusal
record_limit order start bytes long h = grind (arith, nat_tests)

-- if the header of a record is whole and its captured length is within the limit, no complete field of the record is
-- refused
record_accepted : (order : Order) (start : ℕ) (bytes : List ℕ) → 16 ≤ length bytes → number_at order 8 4 bytes ≤ 262144 → certain (record_refusal order start bytes) ≡ None
unfolding record_refusal
record_accepted order start bytes long h = grind (arith, nat_tests)

pub file_whole : (bytes : List ℕ) → file_refusal bytes ≡ None → 24 ≤ length bytes
unfolding file_refusal
file_whole bytes h = grind (arith, nat_tests)

pub file_short : (bytes : List ℕ) (refusal : Refusal) → file_refusal bytes ≡ Some refusal → refusal.short ≡ true → length bytes < 24
unfolding file_refusal
file_short bytes refusal h short = grind (arith, nat_tests)

file_empty : certain (file_refusal []) ≡ None
unfolding file_refusal
file_empty = refl

record_empty : (order : Order) (start : ℕ) → certain (record_refusal order start []) ≡ None
unfolding record_refusal
record_empty order start = refl

-- if no byte of a record was taken, no record is held
pub nothing_held : (style : Style) (start : ℕ) → whole_record style start [] ≡ None
unfolding record_refusal
nothing_held style start = refl

pub header_begins : (part : List ℕ) → part ≡ [] → IsHeaderPart 0 part
header_begins part e = rw e (record { begins = refl; accepted = file_empty; partial = omega arith })

pub record_begins : (order : Order) (start : ℕ) (part : List ℕ) → part ≡ [] → IsPart order start part
record_begins order start part e = rw e (record { accepted = record_empty order start; within = inl (omega arith) })

-- after the held record is dropped, the reader's invariant holds
pub released : (refusal : Option Refusal) (style : Option Style) (start next_start : ℕ) (part next : List ℕ) → is_some (held_by refusal style start part) ≡ true → next ≡ [] → IsReading refusal style next_start next
released (Some refusal) style start next_start part next h e = absurd (cc)
released None None start next_start part next h e = absurd (cc)
released None (Some style) start next_start part next h e = record_begins style.order next_start next e

-- if nothing in a file header is refused, the header has a style
pub file_style : (bytes : List ℕ) → file_refusal bytes ≡ None → is_some (style_at bytes) ≡ true
unfolding file_refusal style_at
file_style bytes h = grind (arith, nat_tests)

-- after the file header, before any byte of a record, the reader's invariant holds
pub opened : (refusal : Option Refusal) (style : Option Style) (start : ℕ) (next : List ℕ) → refusal ≡ None → is_some style ≡ true → next ≡ [] → IsReading refusal style start next
opened (Some refusal) style start next r s e = absurd (cc)
opened None None start next r s e = absurd (cc)
opened None (Some style) start next r s e = record_begins style.order start next e

-- before the end of the file header, `part` is a valid part of the header
pub in_header : (refusal : Option Refusal) (style : Option Style) (start : ℕ) (part : List ℕ) → refusal ≡ None → style ≡ None → IsReading refusal style start part → IsHeaderPart start part
in_header refusal style start part r s h = rw (r, s) at h

pub still_in_header : (refusal : Option Refusal) (style : Option Style) (start : ℕ) (part : List ℕ) → refusal ≡ None → style ≡ None → IsHeaderPart start part → IsReading refusal style start part
still_in_header refusal style start part r s h = rw (r, s) h

pub short_only : (x : Option Refusal) (refusal : Refusal) → x ≡ Some refusal → refusal.short ≡ true → certain x ≡ None
short_only x refusal e h = rw (e, h) refl

-- after the file header, `part` is a valid part of a record
pub in_record : (refusal : Option Refusal) (style : Option Style) (s : Style) (start : ℕ) (part : List ℕ) → refusal ≡ None → style ≡ Some s → IsReading refusal style start part → IsPart s.order start part
in_record refusal style s start part r e h = rw (r, e) at h

pub still_in_record : (refusal : Option Refusal) (style : Option Style) (s : Style) (start : ℕ) (part : List ℕ) → refusal ≡ None → style ≡ Some s → IsPart s.order start part → IsReading refusal style start part
still_in_record refusal style s start part r e h = rw (r, e) h

-- appending bytes of the record's header to `part` gives a valid part
pub part_headed : (order : Order) (start : ℕ) (part more : List ℕ) → IsPart order start part → length more ≤ 16 - length part → certain (record_refusal order start (part ++ more)) ≡ None → IsPart order start (part ++ more)
part_headed order start part more p room accepted = record {
  accepted = accepted;
  within = elim (cases_lt 16 (length part)) [
    | inl long ↦ elim p.within [
      | inl short ↦ absurd (omega arith)
      | inr within ↦ inr (rw (number_stays order 8 4 part more (omega arith)) (omega (arith, length-append part more)))
    ]
    | inr short ↦ inl (omega (arith, length-append part more))
  ];
}

-- appending captured bytes of the record to `part` gives a valid part
pub part_filled : (order : Order) (start : ℕ) (part more : List ℕ) → IsPart order start part → 16 ≤ length part → length more ≤ 16 + number_at order 8 4 part - length part → IsPart order start (part ++ more)
part_filled order start part more p long room =
    let limit : number_at order 8 4 part ≤ 262144 = record_limit order start part (omega arith) p.accepted in
    let stays : number_at order 8 4 (part ++ more) ≡ number_at order 8 4 part = number_stays order 8 4 part more (omega arith) in
    let grown : length (part ++ more) ≡ length part + length more = length-append part more in
    record {
      accepted = record_accepted order start (part ++ more) (omega arith) (omega arith);
      within = elim p.within [
        | inl short ↦ inr (omega arith)
        | inr within ↦ inr (omega arith)
      ];
    }

-- if no field is refused in 24 bytes, the 24 bytes are a file header
pub file_header_is : (bytes : List ℕ) (s : Style) → file_refusal bytes ≡ None → length bytes ≡ 24 → style_at bytes ≡ Some s → IsFileHeader s bytes
unfolding file_refusal
file_header_is bytes s h size is = record {
  size = size;
  magic = is;
  version_major = grind (arith, nat_tests);
  network = grind (arith, nat_tests);
}

certain_by : (r why : Refusal) (b : Bool) → r.short ≡ b → cond b None (Some r) ≡ Some why → (◌≡◌ {A = Option Refusal} (Some r) (Some why)) × (why.short ≡ false)
certain_by r why true s e = absurd (cc)
certain_by r why false s e = let same : r ≡ why = cc in (e, rw (← same) s)

pub certain_is : (x : Option Refusal) (why : Refusal) → certain x ≡ Some why → (x ≡ Some why) × (why.short ≡ false)
certain_is None why e = absurd (cc)
certain_is (Some r) why e = certain_by r why r.short refl e

pub refused_some : (order : Order) (start : ℕ) (bytes : List ℕ) (why : Refusal) → record_refusal order start bytes ≡ Some why → why.short ≡ false → 0 < length bytes
unfolding record_refusal
refused_some order start bytes why e h = grind (arith, nat_tests)
