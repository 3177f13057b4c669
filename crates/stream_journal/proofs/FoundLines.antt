-- If the packets of two joined points are at hand, the points give the line that the journal has.
use Rattle.std.proofs.Common.{◌≡◌, ◌≢◌, inl, inr, ℕ, suc, ◌+◌, ◌-◌, ◌%◌, ◌^◌, ◌<◌, Bool, true, false, ℤ, pos, ◌+ℤ◌, List, All, Option, Some, None, length, refl, sym, ap, ◌∙◌, subst, arith}
use Rattle.std.specs.Prelude.{◌==◌, if◌then◌else◌, IfSome}
use Rattle.std.proofs.lemmas.Bool.Decides.{nat_tests}
use Rattle.std.proofs.lemmas.Int.{ints}
use Rattle.time_unfold.specs.declared.head_rule.Head.{Head}
use Rattle.time_unfold.specs.Stamps.{same_flag}
use Rattle.clock_track.specs.declared.clock_row.ClockRow.{ClockRow}
use Rattle.clock_track.specs.declared.pair.Pair.{Pair}
use Rattle.clock_track.specs.Adjacent.{AreTaken}
use Rattle.clock_track.specs.PairLines.{Covers, IsJoined, Spot, spot_by}
use Rattle.clock_track.specs.Rows.{clock_spot, seems_next, timestamp, timestamps}
use Rattle.clock_track.proofs.FoundPairs.{across-found_line, inside-found_line}
use Rattle.stream_journal.specs.Clocks.{ClockJournal, IsJoinedAt, IsNext, Place, pair_at, point}
use Rattle.stream_journal.specs.ClockRows.{IsRowOf, IsSpotAt, IsTrueRow}
use Rattle.stream_journal.specs.Conforming.{AgreesWithClock, IsClock}
use Rattle.stream_journal.specs.FoundLines.{ArePointsAtHand, IsTaken}
use Rattle.stream_journal.specs.Journal.{Journal, head_of}
use Rattle.stream_journal.proofs.TrueHeads.{flag_of}
use Rattle.stream_journal.proofs.TrueLines.{count_is, one_spot, same_pair, true_spot}

-- ---- the timestamps of two points

timestamp_of : (c : ClockJournal) (shift : ℤ) (m : ℕ) (row : ClockRow) → IsRowOf c shift m row → (p : Place) (i : ℕ) → p.packet ≡ m → p.at ≡ i → p.at < length (c.points p.packet) → pos (point c p) ≡ pos (timestamp row i) +ℤ shift
timestamp_of c shift m row is p i e f within =
    let within = rw (e, f) at within in
    rw (e, f) (is.points i within)

below : (c : ClockJournal) (shift : ℤ) (p : Place) (t : ℕ) → IsTaken c shift p → pos (point c p) ≡ pos t +ℤ shift → t < 2 ^ 62
below c shift p t taken e = omega (arith, ints)

taken_by : (c : ClockJournal) (shift : ℤ) (m : ℕ) (row : ClockRow) (p q : Place) (first second : ℕ) → IsRowOf c shift m row → IsTaken c shift p → IsTaken c shift q → IsJoined (pair_at c p q)
    → pos (point c p) ≡ pos first +ℤ shift → pos (point c q) ≡ pos second +ℤ shift → AreTaken shift row first second
taken_by c shift m row p q first second is earlier later joined e f = record {
  earlier = below c shift p first earlier e;
  later = below c shift q second later f;
  joined = subst IsJoined (sym (same_pair c shift row m p q first second is e f)) joined;
}

-- ---- in one packet

-- if two joined points are at hand in one packet and cover the instant, a line is found
inside_found : (c : ClockJournal) (shift instant : ℤ) (rate : ℕ) (rows : List ClockRow) (p q : Place) → (h : ArePointsAtHand c shift rows p q) → IsJoined (pair_at c p q) → Covers (pair_at c p q) rate instant
    → q.packet ≡ p.packet → q.at ≡ suc p.at → clock_spot rows shift instant rate ≢ None
inside_found c shift instant rate rows p q h joined covers e f =
    let row : ClockRow = h.later_packet.row in
    let of = h.later_packet.is in
    let count = count_is c shift q.packet row of in
    let within = h.follows.first.at in
    let within_too = h.follows.second.at in
    let next : q.at ≡ p.at + 1 = omega arith in
    let first = timestamp_of c shift q.packet row of p p.at (sym e) refl within in
    let second = timestamp_of c shift q.packet row of q (p.at + 1) refl next within_too in
    let same = same_pair c shift row q.packet p q (timestamp row p.at) (timestamp row (p.at + 1)) of first second in
    inside-found_line shift instant rate p.at rows row h.later_packet.kept
    (record { within = omega arith; taken = taken_by c shift q.packet row p q (timestamp row p.at) (timestamp row (p.at + 1)) of h.earlier h.later joined first second })
    (subst (λ (x : Pair). Covers x rate instant) (sym same) covers)

-- ---- from one packet to the next

all_so : (a b c d e : Bool) → a ≡ true → b ≡ true → c ≡ true → d ≡ true → e ≡ true → (if a then if b then if c then if d then e else false else false else false else false) ≡ true
all_so a b c d e p q r s t = rw (p, q, r, s, t) refl

equal_so : (a b : ℕ) → a ≡ b → (a == b) ≡ true
equal_so a b e = grind (arith, nat_tests)

next_seq : (m n s t : ℕ) → s ≡ m % 256 → t ≡ n % 256 → n ≡ suc m → t ≡ (s + 1) % 256
next_seq m n s t e f g = omega arith

seems_so : (c : ClockJournal) (shift : ℤ) (m n : ℕ) (before row : ClockRow) → IsRowOf c shift m before → IsRowOf c shift n row → n ≡ suc m → c.mr m ≡ c.mr n → seems_next row before ≡ true
seems_so c shift m n before row from of next one_run =
    all_so (row.seq == (before.seq + 1) % 256) (same_flag row.mr before.mr) (row.base_frequency == before.base_frequency) (row.pull == before.pull) (row.interval == before.interval)
    (equal_so row.seq ((before.seq + 1) % 256) (next_seq m n before.seq row.seq from.seq of.seq next))
    (flag_of row.mr before.mr (of.mr ∙ sym one_run ∙ sym from.mr))
    (equal_so row.base_frequency before.base_frequency (of.base ∙ sym from.base))
    (equal_so row.pull before.pull (of.pull ∙ sym from.pull))
    (equal_so row.interval before.interval (of.interval ∙ sym from.interval))

across_found : (c : ClockJournal) (shift instant : ℤ) (rate : ℕ) (rows : List ClockRow) (p q : Place) → (h : ArePointsAtHand c shift rows p q) → IsJoined (pair_at c p q) → Covers (pair_at c p q) rate instant
    → q.packet ≡ suc p.packet → q.at ≡ 0 → suc p.at ≡ length (c.points p.packet) → clock_spot rows shift instant rate ≢ None
across_found c shift instant rate rows p q h joined covers e f g =
    let row : ClockRow = h.later_packet.row in
    let before : ClockRow = h.earlier_packet.row in
    let of = h.later_packet.is in
    let from = h.earlier_packet.is in
    let count = count_is c shift q.packet row of in
    let count_before = count_is c shift p.packet before from in
    let within = h.follows.first.at in
    let within_too = h.follows.second.at in
    let last : p.at ≡ timestamps before - 1 = omega arith in
    let first = timestamp_of c shift p.packet before from p (timestamps before - 1) refl last within in
    let second = timestamp_of c shift q.packet row of q 0 refl f within_too in
    let same = same_pair c shift row q.packet p q (timestamp before (timestamps before - 1)) (timestamp row 0) of first second in
    across-found_line shift instant rate rows row before h.later_packet.kept h.earlier_packet.kept
    (record {
      next = seems_so c shift p.packet q.packet before row from of e h.one_run;
      some_before = omega arith;
      some = omega arith;
      taken = taken_by c shift q.packet row p q (timestamp before (timestamps before - 1)) (timestamp row 0) of h.earlier h.later joined first second;
    })
    (subst (λ (x : Pair). Covers x rate instant) (sym same) covers)

-- ---- the line

line_by : (c : ClockJournal) (shift instant : ℤ) (rate : ℕ) (rows : List ClockRow) (p q : Place) → (h : ArePointsAtHand c shift rows p q) → IsJoined (pair_at c p q) → Covers (pair_at c p q) rate instant → IsNext c p q → clock_spot rows shift instant rate ≢ None
line_by c shift instant rate rows p q h joined covers (inl same) = inside_found c shift instant rate rows p q h joined covers same.0 same.1
line_by c shift instant rate rows p q h joined covers (inr over) = across_found c shift instant rate rows p q h joined covers over.0 over.1 over.2

pub some_line : (c : ClockJournal) (shift instant : ℤ) (rate : ℕ) (rows : List ClockRow) (p q : Place) → IsClock c → ArePointsAtHand c shift rows p q → Covers (pair_at c p q) rate instant → clock_spot rows shift instant rate ≢ None
some_line c shift instant rate rows p q is h covers = line_by c shift instant rate rows p q h (is.even p q h.follows h.one_run) covers h.follows.next

only_one : (j : Journal) (instant : ℤ) (s : Spot) (o : Option Spot) → o ≢ None → IfSome o (IsSpotAt j instant) → ((x : Spot) → IsSpotAt j instant x → x ≡ s) → o ≡ Some s
only_one j instant s None some is one = absurd (some refl)
only_one j instant s (Some x) some is one = ap (λ (y : Spot). Some y) (one x is)

pub the_line : (j : Journal) (shift : ℤ) (rows : List ClockRow) (n : ℕ) (head : Head) (p q : Place) → IsClock j.clock → AgreesWithClock j → All (IsTrueRow j.clock shift) rows → n < j.packets → head_of j n ≡ Some head
    → ArePointsAtHand j.clock shift rows p q → Covers (pair_at j.clock p q) j.rate head.instant → clock_spot rows shift head.instant j.rate ≡ Some (spot_by (pair_at j.clock p q) j.rate head.instant)
the_line j shift rows n head p q is agrees all known e h covers =
    let joined : IsJoinedAt j.clock p q = record { follows = h.follows; one_run = h.one_run; joined = is.even p q h.follows h.one_run } in
    let there : IsSpotAt j head.instant (spot_by (pair_at j.clock p q) j.rate head.instant) = record { earlier = p; later = q; joined = joined; covers = covers; same = refl } in
    only_one j head.instant (spot_by (pair_at j.clock p q) j.rate head.instant) (clock_spot rows shift head.instant j.rate) (some_line j.clock shift head.instant j.rate rows p q is h covers)
    (true_spot j shift head.instant rows is all) (λ x at. one_spot j n head x (spot_by (pair_at j.clock p q) j.rate head.instant) agrees known e at there)
