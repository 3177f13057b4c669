-- What happens when bytes are added to the part of a record.
use Rattle.std.proofs.Common.{◌≡◌, ℕ, ◌+◌, ◌-◌, ◌<◌, ◌≤◌, List, ◌++◌, length, take, drop, Option, Some, None, Ok, Err, IsSome, refl, sym, ap, subst, ◌∙◌, arith, inl, inr, length-append}
use Rattle.std.proofs.lemmas.Bool.{cases_lt}
use Rattle.std.proofs.lemmas.List.{append-nil, length-take-le, take-append-drop}
use Rattle.avtp_base.specs.declared.refusal.Refusal.{Refusal}
use Rattle.pcap_frames.specs.declared.style.Order.{Order}
use Rattle.pcap_frames.specs.declared.style.Style.{Style}
use Rattle.pcap_frames.specs.Layout.{number_at, certain, record_refusal}
use Rattle.pcap_frames.specs.Capture.{Record}
use Rattle.pcap_frames.specs.Readers.{Progress}
use Rattle.pcap_frames.specs.Reading.{Reading, GoesOn, HasRead, IsPart, held, held_by, progress, with_part}
use Rattle.pcap_frames.specs.state.Reading.{Fills}
use Rattle.pcap_frames.specs.state.Readers.{Advances, Steps}
use Rattle.pcap_frames.proofs.Append.{number_stays}
use Rattle.pcap_frames.proofs.Fields.{refused_some, still_in_record}
use Rattle.pcap_frames.proofs.Held.{held_ends, held_is, is_held_by}
use Rattle.pcap_frames.proofs.One.{record_fits}
use Rattle.pcap_frames.proofs.Steps.{none_some, record_goes_on, record_refuses, rest_long, steps_on}

-- the captured length of a record does not depend on the bytes after the record
number_front : (order : Order) (bytes : List ℕ) (size : ℕ) → 16 ≤ size → size ≤ length bytes → number_at order 8 4 (take size bytes) ≡ number_at order 8 4 bytes
number_front order bytes size some fits =
    let long : length (take size bytes) ≡ size = length-take-le size bytes fits in
    sym (number_stays order 8 4 (take size bytes) (drop size bytes) (omega arith)) ∙ ap (number_at order 8 4) (take-append-drop size bytes)

pub whole_front : (order : Order) (start : ℕ) (bytes : List ℕ) (size : ℕ) → size ≡ 16 + number_at order 8 4 bytes → size ≤ 262160 → size ≤ length bytes → record_refusal order start (take size bytes) ≡ None
whole_front order start bytes size is limit fits =
    let long : length (take size bytes) ≡ size = length-take-le size bytes fits in
    let same = number_front order bytes size (omega arith) fits in
    record_fits order start (take size bytes) (omega arith) (omega arith)

-- if the bytes begin with a whole record within the limit, this record is a valid part
pub whole_part : (order : Order) (start : ℕ) (bytes : List ℕ) (size : ℕ) → size ≡ 16 + number_at order 8 4 bytes → size ≤ 262160 → size ≤ length bytes → IsPart order start (take size bytes)
whole_part order start bytes size is limit fits =
    let long : length (take size bytes) ≡ size = length-take-le size bytes fits in
    let same = number_front order bytes size (omega arith) fits in
    record {
      accepted = ap certain (whole_front order start bytes size is limit fits);
      within = inr (omega arith);
    }

-- no byte can be added to a whole record
full : (order : Order) (start : ℕ) (part more : List ℕ) → IsPart order start part → record_refusal order start part ≡ None → IsPart order start (part ++ more) → length more ≡ 0
full order start part more p whole q =
    let size = held_ends order start part p whole in
    let stays : number_at order 8 4 (part ++ more) ≡ number_at order 8 4 part = number_stays order 8 4 part more (omega arith) in
    elim q.within [
      | inl short ↦ omega (arith, length-append part more)
      | inr within ↦ omega (arith, length-append part more)
    ]

-- adding n bytes to the record advances the reader by n bytes
pub fill_advances : (r : Reading) (s : Style) (piece : List ℕ) {capacity : ℕ} (n : ℕ) (next : List ℕ) → r.refusal ≡ None → r.style ≡ Some s → IsPart s.order r.start r.part → Fills s.order r.start r.part piece (Ok n) next capacity
    → Advances (progress r) piece (Ok n) (progress (with_part r next))
fill_advances r s piece n next none styled part fills =
    let long : length (take n piece) ≡ n = length-take-le n piece fills.within in
    let size : length next ≡ length r.part + n = ap length fills.moved ∙ (length-append r.part (take n piece) ∙ ap (λ (m : ℕ). length r.part + m) long) in
    let keeps = subst (IsPart s.order r.start) fills.moved fills.part in
    let read = λ (bytes : List ℕ) (records : List Record) (h : HasRead r bytes records).
    record_goes_on r.refusal r.style s r.start r.part (take n piece) bytes records none styled (still_in_record r.refusal r.style s r.start (r.part ++ take n piece) none styled keeps) h in
    record {
      steps = record {
        within = fills.within;
        counted = omega (arith, size);
        bounded = omega (arith, size, fills.within);
        read = subst (λ (p : List ℕ). GoesOn r (take n piece) (with_part r p)) (sym fills.moved) read;
        accepted = none;
        refused = tt;
        stopped = tt;
      };
      nothing = (
        λ zero. elim (cases_lt n (length piece)) [
          | inl less ↦ inr (is_held_by r.refusal r.style s r.start r.part none styled
              (subst (λ (p : List ℕ). record_refusal s.order r.start p ≡ None) (fills.moved ∙ (ap (λ (m : ℕ). r.part ++ take m piece) zero ∙ append-nil r.part)) (fills.whole less)))
          | inr all ↦ inl (omega (arith, zero, all))
        ],
        λ either. elim either [
          | inl empty ↦ omega (arith, empty, fills.within)
          | inr held ↦ omega (arith, long, full s.order r.start r.part (take n piece) part (held_is r.refusal r.style s r.start r.part none styled held) keeps)
        ],
      );
      end = λ less. is_held_by r.refusal r.style s r.start next none styled (fills.whole less);
    }

-- if the added bytes show a refusal, the reader keeps this refusal
pub fill_refused : (r : Reading) (s : Style) (piece : List ℕ) {capacity : ℕ} (why : Refusal) (next : List ℕ) → r.refusal ≡ None → r.style ≡ Some s → Fills s.order r.start r.part piece (Err why) next capacity
    → Advances (progress r) piece (Err why) (progress (record r { part = next; refusal = Some why }))
fill_refused r s piece why next none styled fills =
    let n = fills.refused.0 in
    record {
      steps = record {
        within = tt;
        counted = tt;
        bounded = omega (arith, fills.bounded);
        read = tt;
        accepted = tt;
        refused = refl;
        stopped = λ bytes records h.
            subst (λ (p : List ℕ). HasRead (record r { part = next; refusal = Some why }) (bytes ++ p) records) (take-append-drop n piece)
            (record_refuses r.refusal r.style s r.start r.part (take n piece) (drop n piece) bytes records why next none styled fills.refused.1 fills.refused.2
            (refused_some s.order r.start (r.part ++ take n piece) why fills.refused.1 fills.refused.2) h);
      };
      nothing = tt;
      end = tt;
    }

-- ---- a file header

pub styleless : (refusal : Option Refusal) (style : Option Style) (start : ℕ) (part : List ℕ) → style ≡ None → held_by refusal style start part ≡ None
styleless (Some why) style start part e = refl
styleless None style start part e = rw e refl

-- if the file header is still incomplete after the piece, the whole piece belongs to the header
pub header_only : (old new : Reading) (piece : List ℕ) (n : ℕ) → old.style ≡ None → new.style ≡ None → (n < length piece → IsSome new.style) → Steps (progress old) piece (Ok n) (progress new)
    → Advances (progress old) piece (Ok n) (progress new)
header_only old new piece n unopened still end steps =
    let all : length piece ≤ n = elim (cases_lt n (length piece)) [
      | inl less ↦ absurd (none_some new.style still (end less))
      | inr all ↦ all
    ] in
    record {
      steps = steps;
      nothing = (
        λ zero. inl (omega (arith, zero, all)),
        λ either. elim either [
          | inl empty ↦ omega (arith, empty, steps.within)
          | inr held ↦ absurd (none_some (held_by old.refusal old.style old.start old.part) (styleless old.refusal old.style old.start old.part unopened) held)
        ],
      );
      end = λ less. absurd (omega (arith, less, all));
    }

pub header_then : (old mid new : Reading) (piece : List ℕ) (n m : ℕ) → old.style ≡ None → (0 < length piece → 0 < n) → Steps (progress old) piece (Ok n) (progress mid)
    → Advances (progress mid) (take (length piece - n) (drop n piece)) (Ok m) (progress new) → Advances (progress old) piece (Ok (n + m)) (progress new)
header_then old mid new piece n m unopened some first then = record {
  steps = steps_on (progress old) (progress mid) (progress new) n m piece first then.steps;
  nothing = (
    λ zero. elim (cases_lt 0 (length piece)) [
      | inl more ↦ absurd (omega (arith, zero, some more))
      | inr empty ↦ inl (omega (arith, empty))
    ],
    λ either. elim either [
      | inl empty ↦ omega (arith, empty, first.within, then.steps.within, rest_long n piece)
      | inr held ↦ absurd (none_some (held_by old.refusal old.style old.start old.part) (styleless old.refusal old.style old.start old.part unopened) held)
    ],
  );
  end = λ less. then.end (omega (arith, less, first.within, rest_long n piece));
}

pub advances_refused : (old new : Progress) (piece : List ℕ) (why : Refusal) → Steps old piece (Err why) new → Advances old piece (Err why) new
advances_refused old new piece why steps = record { steps = steps; nothing = tt; end = tt }
