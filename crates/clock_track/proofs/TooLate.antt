-- If the later point of a pair is more than one nominal sample after the instant, the pair does not cover the instant,
-- whatever its earlier point is.
use Rattle.std.proofs.Common.{◌≡◌, ℕ, ◌^◌, ◌-◌, Bool, true, false, ℤ, List, [], ◌∷◌, Option, Some, None, refl, arith}
use Rattle.std.specs.Prelude.{nat_lt, if◌then◌else◌}
use Rattle.std.specs.List.{cons_option, filter_map}
use Rattle.std.specs.Option.{option_or}
use Rattle.std.proofs.lemmas.Int.{ints}
use Rattle.time_unfold.specs.Stamps.{find_last}
use Rattle.clock_track.specs.declared.clock_row.ClockRow.{ClockRow}
use Rattle.clock_track.specs.declared.pair.Pair.{Pair}
use Rattle.clock_track.specs.PairLines.{IsJoined, covers, is_joined}
use Rattle.clock_track.specs.Rows.{across, joined_by, pair_of, seems_next, timestamp, timestamps}
use Rattle.clock_track.specs.Search.{IsAfter}
use Rattle.clock_track.specs.state.Search.{kept}
use Rattle.clock_track.proofs.Pairs.{covers_so, joins}

not_covering : (p : Pair) (rate : ℕ) (instant : ℤ) → IsJoined p → IsAfter p rate instant → covers p rate instant ≡ false
not_covering p rate instant joined after = cases (covers p rate instant) refl
  where
    cases : (b : Bool) → covers p rate instant ≡ b → b ≡ false
    cases true e =
        let from = (covers_so p rate instant e).from in
        let most = joined.most in
        absurd (omega (arith, ints))
    cases false e = refl

abbrev test : ℕ → ℤ → Pair → Bool
test rate instant pair = covers pair rate instant

joined_none : (shift : ℤ) (row : ClockRow) (first second rate : ℕ) (instant : ℤ) → IsAfter (pair_of shift row first second) rate instant → kept (test rate instant) (joined_by shift row first second) ≡ None
joined_none shift row first second rate instant after = cases (nat_lt first (2 ^ 62)) (nat_lt second (2 ^ 62)) (is_joined (pair_of shift row first second)) refl
  where
    cases : (a b d : Bool) → is_joined (pair_of shift row first second) ≡ d
        → kept (test rate instant) (if a then if b then if d then Some (pair_of shift row first second) else None else None else None) ≡ None
    cases true true true e = rw (not_covering (pair_of shift row first second) rate instant (joins (pair_of shift row first second) e) after) refl
    cases true true false e = refl
    cases true false d e = refl
    cases false b d e = refl

across_by : (shift : ℤ) (row before : ClockRow) (rate : ℕ) (instant : ℤ) → ((first : ℕ) → kept (test rate instant) (joined_by shift row first (timestamp row 0)) ≡ None)
    → kept (test rate instant) (across shift row before) ≡ None
across_by shift row before rate instant none = cases (seems_next row before) (nat_lt 0 (timestamps before)) (nat_lt 0 (timestamps row))
  where
    cases : (a b d : Bool) → kept (test rate instant) (if a then if b then if d then joined_by shift row (timestamp before (timestamps before - 1)) (timestamp row 0) else None else None else None) ≡ None
    cases true true true = none (timestamp before (timestamps before - 1))
    cases true true false = refl
    cases true false d = refl
    cases false b d = refl

pub late-none : (shift : ℤ) (row before : ClockRow) (rate : ℕ) (instant : ℤ) → IsAfter (pair_of shift row (timestamp row 0) (timestamp row 0)) rate instant → kept (test rate instant) (across shift row before) ≡ None
late-none shift row before rate instant after = across_by shift row before rate instant (λ first. joined_none shift row first (timestamp row 0) rate instant after)

pub none-more : (test : Pair → Bool) (o : Option Pair) (rest : List Pair) → kept test o ≡ None → find_last test rest ≡ None → find_last test (cons_option o rest) ≡ None
none-more test None rest e found = found
none-more test (Some p) rest e found = one p (test p) e (find_last test rest) found
  where
    one : (p : Pair) (b : Bool) → (if b then Some p else None) ≡ None → (o : Option Pair) → o ≡ None → option_or o (if b then Some p else None) ≡ None
    one p b e o f = rw (f, e) refl

pub none-found : (f : ClockRow → Option Pair) (test : Pair → Bool) (xs : List ClockRow) → ((x : ClockRow) → kept test (f x) ≡ None) → find_last test (filter_map f xs) ≡ None
none-found f test [] none = refl
none-found f test (x ∷ xs) none = none-more test (f x) (filter_map f xs) (none x) (none-found f test xs none)
