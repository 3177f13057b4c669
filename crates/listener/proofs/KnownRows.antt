-- The rows of the clock's packets that came.
use Rattle.std.proofs.Common.{◌≡◌, ◌≢◌, ℕ, zero, suc, ◌-◌, ◌<◌, Bool, true, ℤ, List, [], ◌∷◌, None, length, refl, ap, ◌∙◌, subst, arith}
use Rattle.std.specs.Prelude.{Contains, drop, if◌then◌else◌, slice_index_or}
use Rattle.time_unfold.specs.Stamps.{last_of}
use Rattle.clock_track.specs.declared.clock_row.ClockRow.{ClockRow}
use Rattle.clock_track.specs.Rows.{clock_spot, used}
use Rattle.stream_journal.specs.Clocks.{ClockJournal}
use Rattle.stream_journal.specs.ClockRows.{IsRowOf}
use Rattle.stream_journal.specs.Conforming.{IsClock}
use Rattle.stream_journal.specs.FoundLines.{ArePointsAtHand, IsKept}
use Rattle.stream_journal.specs.Known.{IsCoveredBy}
use Rattle.stream_journal.proofs.FoundLines.{some_line}

-- the row is a copy of the clock's packet `m`, and the row's timestamps are used
pub record IsUsableRow (c : ClockJournal) (shift : ℤ) (m : ℕ) (row : ClockRow) : Type 0 where
  pub usable : row.usable ≡ true
  pub is : IsRowOf c shift m row

-- each row is a copy of the clock packet whose number is at the row's index in the list of numbers
abbrev pub AreRows : ClockJournal → ℤ → List ℕ → List ClockRow → Type 0
AreRows c shift [] [] = Unit {0}
AreRows c shift [] (row ∷ rows) = ⊥
AreRows c shift (m ∷ ms) [] = ⊥
AreRows c shift (m ∷ ms) (row ∷ rows) = IsUsableRow c shift m row × AreRows c shift ms rows

all_used : (c : ClockJournal) (shift : ℤ) (ms : List ℕ) (rows : List ClockRow) → AreRows c shift ms rows → used rows ≡ rows
all_used c shift [] [] are = refl
all_used c shift [] (row ∷ rows) are = absurd are
all_used c shift (m ∷ ms) [] are = absurd are
all_used c shift (m ∷ ms) (row ∷ rows) are =
    ap (λ (b : Bool). if b then row ∷ used rows else used rows) are.0.usable ∙ ap (λ (l : List ClockRow). row ∷ l) (all_used c shift ms rows are.1)

same_length : (c : ClockJournal) (shift : ℤ) (ms : List ℕ) (rows : List ClockRow) → AreRows c shift ms rows → length rows ≡ length ms
same_length c shift [] [] are = refl
same_length c shift [] (row ∷ rows) are = absurd are
same_length c shift (m ∷ ms) [] are = absurd are
same_length c shift (m ∷ ms) (row ∷ rows) are = ap suc (same_length c shift ms rows are.1)

dropped : (c : ClockJournal) (shift : ℤ) (k : ℕ) (ms : List ℕ) (rows : List ClockRow) → AreRows c shift ms rows → AreRows c shift (drop k ms) (drop k rows)
dropped c shift zero ms rows are = are
dropped c shift (suc k) [] [] are = tt
dropped c shift (suc k) [] (row ∷ rows) are = absurd are
dropped c shift (suc k) (m ∷ ms) [] are = absurd are
dropped c shift (suc k) (m ∷ ms) (row ∷ rows) are = dropped c shift k ms rows are.1

-- One of the rows is a copy of the clock's packet `m`.
record HasRow (c : ClockJournal) (shift : ℤ) (rows : List ClockRow) (m : ℕ) : Type 0 where
  row : ClockRow
  there : Contains rows row
  is : IsRowOf c shift m row

one_more : (c : ClockJournal) (shift : ℤ) (rows : List ClockRow) (first : ClockRow) (m : ℕ) → HasRow c shift rows m → HasRow c shift (first ∷ rows) m
one_more c shift rows first m h = record { row = h.row; there = (suc h.there.0, let within = h.there.1 in omega arith, h.there.2); is = h.is }

row_of : (c : ClockJournal) (shift : ℤ) (ms : List ℕ) (rows : List ClockRow) (m k : ℕ) → AreRows c shift ms rows → k < length ms → slice_index_or ms k m ≡ m → HasRow c shift rows m
row_of c shift [] rows m k are within at = absurd (omega arith)
row_of c shift (x ∷ ms) [] m k are within at = absurd are
row_of c shift (x ∷ ms) (row ∷ rows) m zero are within at = record { row = row; there = (0, omega arith, refl); is = subst (λ (i : ℕ). IsRowOf c shift i row) at are.0.is }
row_of c shift (x ∷ ms) (row ∷ rows) m (suc k) are within at = one_more c shift rows row m (row_of c shift ms rows m k are.1 (omega arith) at)

kept : (c : ClockJournal) (shift : ℤ) (ms : List ℕ) (rows : List ClockRow) (m : ℕ) → AreRows c shift ms rows → Contains (last_of 64 ms) m → IsKept c shift rows m
kept c shift ms rows m are came =
    let all = all_used c shift ms rows are in
    let few = same_length c shift ms rows are in
    let last : AreRows c shift (last_of 64 ms) (last_of 64 rows) = rw few (dropped c shift (length ms - 64) ms rows are) in
    let h = row_of c shift (last_of 64 ms) (last_of 64 rows) m came.0 last came.1 came.2 in
    record { row = h.row; kept = rw all h.there; is = h.is }

pub covered_line : (c : ClockJournal) (shift : ℤ) (rate : ℕ) (ms : List ℕ) (rows : List ClockRow) (instant : ℤ) → IsClock c → AreRows c shift ms rows → IsCoveredBy c shift rate ms instant → clock_spot rows shift instant rate ≢ None
covered_line c shift rate ms rows instant is are by =
    let hand : ArePointsAtHand c shift rows by.earlier by.later = record {
      follows = by.follows;
      one_run = by.one_run;
      earlier = by.earlier_taken;
      later = by.later_taken;
      earlier_packet = kept c shift ms rows by.earlier.packet are by.earlier_came;
      later_packet = kept c shift ms rows by.later.packet are by.later_came;
    } in
    some_line c shift instant rate rows by.earlier by.later is hand by.covers
