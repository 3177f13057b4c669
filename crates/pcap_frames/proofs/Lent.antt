-- A record that is lent.
use Rattle.std.proofs.Common.{◌≡◌, ℕ, ◌+◌, ◌≤◌, List, [], ◌++◌, length, take, drop, Option, Some, None, Ok, IsSome, inl, inr, refl, sym, ap, subst, arith}
use Rattle.std.specs.Prelude.{IfSome}
use Rattle.std.proofs.lemmas.List.{length-take-le, take-append-drop}
use Rattle.avtp_base.specs.declared.refusal.Refusal.{Refusal}
use Rattle.pcap_frames.specs.declared.style.Style.{Style}
use Rattle.pcap_frames.specs.Layout.{number_at, record_refusal}
use Rattle.pcap_frames.specs.Readers.{Feeds, Releases}
use Rattle.pcap_frames.specs.Reading.{GoesOn, HasRead, IsNext, IsReading, Passes, Reading, held, held_by, meaning, progress, taken, with_part}
use Rattle.pcap_frames.proofs.Append.{record_stays}
use Rattle.pcap_frames.proofs.Ends.{free_held, gives_up}
use Rattle.pcap_frames.proofs.Fields.{record_begins, record_whole, still_in_record}
use Rattle.pcap_frames.proofs.Filling.{whole_front, whole_part}
use Rattle.pcap_frames.proofs.Held.{held_is, is_held_by, is_sure}
use Rattle.pcap_frames.proofs.Steps.{feeds, none_some, reading, record_goes_on}

-- if a reader holds a record, it has no refusal
pub holds_accepted : (refusal : Option Refusal) (style : Option Style) (start : ℕ) (part : List ℕ) → IsSome (held_by refusal style start part) → refusal ≡ None
holds_accepted (Some r) style start part some = absurd cc
holds_accepted None style start part some = refl

-- if a reader holds a record, its style is known
pub holds_styled : (refusal : Option Refusal) (style : Option Style) (start : ℕ) (part : List ℕ) → IsSome (held_by refusal style start part) → (s : Style) × (style ≡ Some s)
holds_styled (Some r) style start part some = absurd cc
holds_styled None None start part some = absurd cc
holds_styled None (Some s) start part some = (s, refl)

-- if no byte of the next record was taken and the piece begins with a whole record, that record is the next record
pub is_next : (refusal : Option Refusal) (style : Option Style) (s : Style) (start : ℕ) (part piece : List ℕ) (size : ℕ) → refusal ≡ None → style ≡ Some s → part ≡ []
    → size ≡ 16 + number_at s.order 8 4 piece → size ≤ 262160 → size ≤ length piece → IsNext (reading refusal style start part) (take size piece)
is_next refusal style s start part piece size accepted styled untaken is limit fits = record {
  untaken = untaken;
  reading = still_in_record refusal style s start (take size piece) accepted styled (whole_part s.order start piece size is limit fits);
  whole = is_held_by refusal style s start (take size piece) accepted styled (whole_front s.order start piece size is limit fits);
}

pub ahead_next : (refusal : Option Refusal) (style : Option Style) (s : Style) (start : ℕ) (part piece : List ℕ) (o : Option ℕ) → refusal ≡ None → style ≡ Some s → part ≡ []
    → IfSome o (λ size. size ≡ 16 + number_at s.order 8 4 piece) → IfSome o (λ size. size ≤ 262160) → IfSome o (λ size. size ≤ length piece) → IfSome o (λ size. IsNext (reading refusal style start part) (take size piece))
ahead_next refusal style s start part piece None accepted styled untaken is limit fits = tt
ahead_next refusal style s start part piece (Some size) accepted styled untaken is limit fits = is_next refusal style s start part piece size accepted styled untaken is limit fits

-- the next record has a whole header
pub next_long : (r : Reading) (bytes : List ℕ) → IsNext r bytes → 16 ≤ length bytes
next_long r bytes next =
    let styled = holds_styled r.refusal r.style r.start bytes next.whole in
    let whole = record_whole styled.0.order r.start bytes (held_is r.refusal r.style styled.0 r.start bytes (holds_accepted r.refusal r.style r.start bytes next.whole) styled.1 next.whole) in
    omega arith

-- if the piece begins with a whole record, reading the piece as a record refuses nothing
pub next_accepted : (refusal : Option Refusal) (style : Option Style) (s : Style) (start : ℕ) (piece : List ℕ) (size : ℕ) → style ≡ Some s → IsSome (held_by refusal style start (take size piece)) → record_refusal s.order start piece ≡ None
next_accepted refusal style s start piece size styled some =
    let none = held_is refusal style s start (take size piece) (holds_accepted refusal style start (take size piece) some) styled some in
    subst (λ (b : List ℕ). record_refusal s.order start b ≡ None) (take-append-drop size piece) (record_stays s.order start (take size piece) (drop size piece) None none refl)

pub none_next : (r : Reading) (s : Style) (piece : List ℕ) (size : ℕ) → r.style ≡ Some s → IsSome (record_refusal s.order r.start piece) → IsNext r (take size piece) → ⊥
none_next r s piece size styled some next = none_some (record_refusal s.order r.start piece) (next_accepted r.refusal r.style s r.start piece size styled next.whole) some

-- taking the next record reads its bytes
pub next_goes_on : (r : Reading) (bytes : List ℕ) → IsNext r bytes → GoesOn r bytes (with_part r bytes)
next_goes_on r bytes next before records h =
    let accepted = holds_accepted r.refusal r.style r.start bytes next.whole in
    let styled = holds_styled r.refusal r.style r.start bytes next.whole in
    let all : r.part ++ bytes ≡ bytes = ap (λ (p : List ℕ). p ++ bytes) next.untaken in
    subst (λ (p : List ℕ). HasRead (with_part r p) (before ++ bytes) records) all
    (record_goes_on r.refusal r.style styled.0 r.start r.part bytes before records accepted styled.1 (subst (IsReading r.refusal r.style r.start) (sym all) next.reading) h)

-- taking the next record from a piece counts as feeding the record's bytes
pub next_feeds : (r : Reading) (piece : List ℕ) (size : ℕ) → size ≤ length piece → IsNext r (take size piece)
    → Feeds meaning (progress r) piece (Ok size) (progress (with_part r (take size piece)))
next_feeds r piece size within next =
    let new : Reading = with_part r (take size piece) in
    let long : length (take size piece) ≡ size = length-take-le size piece within in
    let none : length r.part ≡ 0 = ap length next.untaken in
    let some = next_long r (take size piece) next in
    let accepted = holds_accepted r.refusal r.style r.start (take size piece) next.whole in
    let counted : taken new ≡ taken r + size = omega (arith, long, none) in
    feeds meaning (progress r) (progress new) piece (Ok size) accepted (record {
      steps = record {
        within = within;
        counted = counted;
        bounded = omega (arith, counted, within);
        read = next_goes_on r (take size piece) next;
        accepted = accepted;
        refused = tt;
        stopped = tt;
      };
      nothing = (
        λ zero. absurd (omega (arith, zero, some, long)),
        λ either. elim either [
          | inl empty ↦ absurd (omega (arith, empty, some, long, within))
          | inr is ↦ absurd (none_some (held r) (free_held r.refusal r.style r.start r.part next.untaken) is)
        ],
      );
      end = λ less. next.whole;
    }) (is_sure new)

-- skipping the next record has the effect of taking it and then releasing it
pub next_releases : (r : Reading) (bytes : List ℕ) → IsNext r bytes → Releases (progress (with_part r bytes)) (progress (record r { start = r.start + length bytes }))
next_releases r bytes next = record {
  given_up = λ before records h. gives_up r.refusal r.style r.start bytes r.part before records next.whole next.untaken h;
  free = free_held r.refusal r.style (r.start + length bytes) r.part next.untaken;
  counted = omega (arith, ap length next.untaken);
  refusal = refl;
}

pub passes : (r : Reading) (bytes : List ℕ) → IsNext r bytes → Passes r bytes (record r { start = r.start + length bytes })
passes r bytes next =
    let gone = next_releases r bytes next in
    record {
      read = λ before records h. gone.given_up (before ++ bytes) records (next_goes_on r bytes next before records h);
      counted = omega (arith, ap length next.untaken);
      free = gone.free;
      style = refl;
      refusal = refl;
      exact = refl;
    }

-- after the next record is skipped, the reader's invariant holds
pub passed : (refusal : Option Refusal) (style : Option Style) (start next : ℕ) (part bytes : List ℕ) → IsNext (reading refusal style start part) bytes → IsReading refusal style next part
passed refusal style start next part bytes is =
    let styled = holds_styled refusal style start bytes is.whole in
    still_in_record refusal style styled.0 next part (holds_accepted refusal style start bytes is.whole) styled.1 (record_begins styled.0.order next part is.untaken)
