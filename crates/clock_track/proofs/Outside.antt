-- A pair within bounds covers no instant outside those bounds.
use Rattle.std.proofs.Common.{◌≡◌, ◌⊎◌, length, inl, inr, ℕ, zero, suc, ◌+◌, ◌-◌, ◌*◌, ◌^◌, ◌<◌, ◌≤◌, Bool, true, false, ℤ, pos, neg_ℤ, ◌+ℤ◌, ◌-ℤ◌, ◌*ℤ◌, ◌≤ℤ◌, ◌<ℤ◌, List, [], ◌∷◌, ◌++◌, Option, Some, None, refl, sym, subst, ap, ◌∙◌, arith}
use Rattle.std.specs.Prelude.{IfSome, IsSome, slice_get, nat_lt, if◌then◌else◌}
use Rattle.std.specs.List.{filter_map, range_with_len}
use Rattle.std.specs.Option.{option_or}
use Rattle.std.proofs.Math.Nat.{mul-le-mul_left}
use Rattle.std.proofs.lemmas.Bool.{cases_lt}
use Rattle.std.proofs.lemmas.Bool.Decides.{nat_tests}
use Rattle.std.proofs.lemmas.Int.{ints}
use Rattle.time_unfold.specs.Stamps.{find_last}
use Rattle.time_unfold.proofs.Floors.{neg_times, times_more}
use Rattle.clock_track.specs.declared.bounds.Bounds.{Bounds}
use Rattle.clock_track.specs.declared.clock_row.ClockRow.{ClockRow}
use Rattle.clock_track.specs.declared.pair.Pair.{Pair}
use Rattle.clock_track.specs.PairLines.{IsJoined, covers, is_joined, nominal, period, step_den, step_num}
use Rattle.clock_track.specs.Rows.{across, inside, joined_by, pair_of, pairs_at, seems_next, timestamp, timestamps}
use Rattle.clock_track.specs.state.Bounds.{AreGroups, HasInside, HasPairs, IsLead, IsOutside, IsWithin, Widens}
use Rattle.clock_track.specs.state.Search.{kept}
use Rattle.clock_track.proofs.Latest.{across_each, across_is, by_is}
use Rattle.clock_track.proofs.Lists.{last-split}
use Rattle.clock_track.proofs.Pairs.{covers_so, joins}
use Rattle.clock_track.proofs.TooLate.{none-found, none-more}

-- ---- one pair

-- a joined pair gives a spacing of samples; half this spacing is at most the lead
led : (i down rate lead s : ℕ) → IsLead rate lead → 8 * s ≤ 9 * (i * 1000000000 * down) → 1 ≤ i * down → s < 2 * ((lead + 1) * (i * rate * down))
led i down rate lead s is most some =
    elim (cases_lt 562500000 (rate * (lead + 1))) [
      | inl far ↦ let m : i * down * 562500001 ≤ i * down * (rate * (lead + 1)) = mul-le-mul_left (i * down) (omega arith) in omega arith
      | inr near ↦ let h = is (lead + 1) near in absurd (omega arith)
    ]

before : (z : ℤ) (i down rate lead s d : ℕ) → IsLead rate lead → 8 * s ≤ 9 * (i * 1000000000 * down) → (z +ℤ pos lead) <ℤ pos 0
    → pos 0 ≤ℤ (z *ℤ pos (2 * (i * rate * down)) +ℤ pos s) → (z *ℤ pos (2 * (i * rate * down)) +ℤ pos s) <ℤ pos (2 * (d * (i * rate * down))) → ⊥
before z i down rate lead s d is most early from to =
    elim (cases_lt 0 (i * down)) [
      | inl some ↦
          let less = led i down rate lead s is most some in
          let steps = times_more z (neg_ℤ (pos (lead + 1))) (2 * (i * rate * down)) (omega (arith, ints)) in
          let turned = neg_times (pos (lead + 1)) (2 * (i * rate * down)) in
          omega (arith, ints)
      | inr none ↦
          let zero_den : i * rate * down ≡ 0 = (let h : rate * (i * down) ≤ rate * 0 = mul-le-mul_left rate none in omega arith) in
          let to_zero : (z *ℤ pos (2 * 0) +ℤ pos s) <ℤ pos (2 * (d * 0)) = rw zero_den at to in
          omega (arith, ints)
    ]

after : (z : ℤ) (den s d : ℕ) → pos d ≤ℤ z → (z *ℤ pos (2 * den) +ℤ pos s) <ℤ pos (2 * (d * den)) → ⊥
after z den s d late to =
    let steps = times_more (pos d) z (2 * den) late in
    omega (arith, ints)

pub not_covering : (p : Pair) (bounds : Bounds) (rate lead : ℕ) (instant : ℤ) → IsLead rate lead → IsJoined p → IsWithin bounds p → IsOutside bounds instant lead → covers p rate instant ≡ false
not_covering p bounds rate lead instant is joined within outside = cases (covers p rate instant) refl
  where
    cases : (b : Bool) → covers p rate instant ≡ b → b ≡ false
    cases true e =
        let so = covers_so p rate instant e in
        let first = within.from in
        let last = within.to in
        absurd (elim outside [
          | inl late ↦ after (instant -ℤ p.later) (step_den p rate) (step_num p) (period p) (omega (arith, ints)) so.to
          | inr early ↦ before (instant -ℤ p.later) p.interval p.down rate lead (step_num p) (period p) is joined.most (omega (arith, ints)) so.from so.to
        ])
    cases false e = refl

-- ---- the pairs whose later point is in a packet

abbrev test : ℕ → ℤ → Pair → Bool
test rate instant pair = covers pair rate instant

kept-none : (o : Option Pair) (bounds : Bounds) (rate lead : ℕ) (instant : ℤ) → IsLead rate lead → IfSome o IsJoined → IfSome o (λ pair. IsWithin bounds pair) → IsOutside bounds instant lead
    → kept (test rate instant) o ≡ None
kept-none None bounds rate lead instant is joined within outside = refl
kept-none (Some p) bounds rate lead instant is joined within outside = rw (not_covering p bounds rate lead instant is joined within outside) refl

none-inside : (f : ℕ → Option Pair) (test : Pair → Bool) (a n : ℕ) → ((i : ℕ) → a ≤ i → i < a + n → kept test (f i) ≡ None) → find_last test (filter_map f (range_with_len a n)) ≡ None
none-inside f test a zero none = refl
none-inside f test a (suc n) none =
    none-more test (f a) (filter_map f (range_with_len (a + 1) n)) (none a (omega arith) (omega arith))
    (none-inside f test (a + 1) n (λ i from to. none i (omega arith) (omega arith)))

pub inside-none : (shift : ℤ) (row : ClockRow) (bounds : Bounds) (rate lead : ℕ) (instant : ℤ) (a n end : ℕ) → IsLead rate lead → HasInside shift row bounds a end → end ≡ a + n → IsOutside bounds instant lead
    → find_last (test rate instant) (filter_map (inside shift row) (range_with_len a n)) ≡ None
inside-none shift row bounds rate lead instant a n end is has e outside =
    none-inside (inside shift row) (test rate instant) a n
    (λ i from to. kept-none (inside shift row i) bounds rate lead instant is (by_is shift row (timestamp row i) (timestamp row (i + 1))) (has i from (omega arith)) outside)

pub pairs-none : (shift : ℤ) (row : ClockRow) (bounds : Bounds) (rate lead : ℕ) (instant : ℤ) (used_rows : List ClockRow) → IsLead rate lead → HasPairs shift row bounds → IsOutside bounds instant lead
    → find_last (test rate instant) (pairs_at shift used_rows row) ≡ None
pairs-none shift row bounds rate lead instant used_rows is has outside =
    let xs = filter_map (across shift row) used_rows in
    let ys = filter_map (inside shift row) (range_with_len 0 (timestamps row - 1)) in
    last-split (test rate instant) xs ys
    ∙ ap (λ (o : Option Pair). option_or o (find_last (test rate instant) xs)) (inside-none shift row bounds rate lead instant 0 (timestamps row - 1) (timestamps row - 1) is has.inside (omega arith) outside)
    ∙ none-found (across shift row) (test rate instant) used_rows (λ before. kept-none (across shift row before) bounds rate lead instant is (across_is shift row before) (has.across before) outside)

pub none-if : (b : Bool) (o : Option Pair) → o ≡ None → None ≡ (if b then o else None)
none-if true o e = sym e
none-if false o e = refl

-- ---- bounds that are widened

if-some : (P Q : Pair → Type 0) (o : Option Pair) → ((p : Pair) → P p → Q p) → IfSome o P → IfSome o Q
if-some P Q None more h = tt
if-some P Q (Some p) more h = more p h

pub inside-more : (shift : ℤ) (row : ClockRow) (old new : Bounds) (first i : ℕ) (o : Option Pair) (a b : ℕ) → HasInside shift row old first i
    → a ≡ timestamp row i → b ≡ timestamp row (i + 1) → o ≡ joined_by shift row a b → IfSome o (λ pair. IsWithin new pair) → ((other : Pair) → IsWithin old other → IsWithin new other)
    → HasInside shift row new first (i + 1)
inside-more shift row old new first i o a b has p q e here more j from to =
    elim (cases_lt j i) [
      | inl below ↦ if-some (λ pair. IsWithin old pair) (λ pair. IsWithin new pair) (inside shift row j) more (has j from below)
      | inr above ↦
          let same : j ≡ i = omega arith in
          let given : o ≡ inside shift row i = rw (← p, ← q) e in
          let there : IfSome (inside shift row i) (λ pair. IsWithin new pair) = subst (λ (r : Option Pair). IfSome r (λ pair. IsWithin new pair)) given here in
          subst (λ (k : ℕ). IfSome (inside shift row k) (λ pair. IsWithin new pair)) (sym same) there
    ]

pub all-inside : (shift : ℤ) (row : ClockRow) (bounds : Bounds) (count : ℕ) → count ≡ timestamps row → HasInside shift row bounds 0 (count - 1) → HasInside shift row bounds 0 (timestamps row - 1)
all-inside shift row bounds count e has i from to = has i from (omega arith)

-- ---- a packet's first timestamp

across-empty : (shift : ℤ) (row before : ClockRow) (bounds : Bounds) → nat_lt 0 (timestamps row) ≡ false → IfSome (across shift row before) (λ pair. IsWithin bounds pair)
across-empty shift row before bounds e = cases (seems_next row before) (nat_lt 0 (timestamps before)) (nat_lt 0 (timestamps row)) e
  where
    cases : (a b d : Bool) → d ≡ false
        → IfSome (if a then if b then if d then joined_by shift row (timestamp before (timestamps before - 1)) (timestamp row 0) else None else None else None) (λ pair. IsWithin bounds pair)
    cases true true true e = absurd cc
    cases true true false e = tt
    cases true false d e = tt
    cases false b d e = tt

pub pairs-empty : (shift : ℤ) (row : ClockRow) (bounds : Bounds) → timestamps row ≡ 0 → HasPairs shift row bounds
pairs-empty shift row bounds e = record {
  inside = λ i from to. absurd (omega arith);
  across = λ before. across-empty shift row before bounds (rw e refl);
}

by-late : (shift : ℤ) (row : ClockRow) (bounds : Bounds) (first second : ℕ) → nat_lt second (2 ^ 62) ≡ false → IfSome (joined_by shift row first second) (λ pair. IsWithin bounds pair)
by-late shift row bounds first second e = cases (nat_lt first (2 ^ 62)) (nat_lt second (2 ^ 62)) (is_joined (pair_of shift row first second)) e
  where
    cases : (a b d : Bool) → b ≡ false → IfSome (if a then if b then if d then Some (pair_of shift row first second) else None else None else None) (λ pair. IsWithin bounds pair)
    cases true true d e = absurd cc
    cases true false d e = tt
    cases false b d e = tt

not_below : (a b : ℕ) → b ≤ a → nat_lt a b ≡ false
not_below a b h = grind (arith, nat_tests)

-- if a packet's first timestamp is not a point, and the bounds hold the pairs inside the packet, the bounds hold all
-- pairs of the packet
pub pairs-late : (shift : ℤ) (row : ClockRow) (bounds : Bounds) → HasInside shift row bounds 0 (timestamps row - 1) → 2 ^ 62 ≤ timestamp row 0 → HasPairs shift row bounds
pairs-late shift row bounds has late = record {
  inside = has;
  across = λ before. across_each (λ pair. IsWithin bounds pair) shift row before (λ first. by-late shift row bounds first (timestamp row 0) (not_below (timestamp row 0) (2 ^ 62) late));
}

-- each joined pair of the same clock and interval as `pair` has a period of at most `longest`
abbrev pub IsLongest : Pair → ℕ → Type 0
IsLongest pair longest = (d : ℕ) → 8 * (d * pair.up) ≤ 9 * nominal pair → d ≤ longest

by-wide : (shift : ℤ) (row : ClockRow) (bounds : Bounds) (first second longest : ℕ) → bounds.earliest ≤ℤ (pos second +ℤ shift) → (pos second +ℤ shift +ℤ pos longest) ≤ℤ bounds.latest
    → IsLongest (pair_of shift row second second) longest → IfSome (joined_by shift row first second) (λ pair. IsWithin bounds pair)
by-wide shift row bounds first second longest early late is = cases (nat_lt first (2 ^ 62)) (nat_lt second (2 ^ 62)) (is_joined (pair_of shift row first second)) refl
  where
    cases : (a b d : Bool) → is_joined (pair_of shift row first second) ≡ d
        → IfSome (if a then if b then if d then Some (pair_of shift row first second) else None else None else None) (λ pair. IsWithin bounds pair)
    cases true true true e =
        let joined = joins (pair_of shift row first second) e in
        let most : period (pair_of shift row first second) ≤ longest = is (period (pair_of shift row first second)) joined.most in
        record { from = early; to = omega (arith, ints) }
    cases true true false e = tt
    cases true false d e = tt
    cases false b d e = tt

widened-inside : (shift : ℤ) (row : ClockRow) (old new : Bounds) (later end : ℤ) (first last : ℕ) → HasInside shift row old first last → Widens old new later end → HasInside shift row new first last
widened-inside shift row old new later end first last has wider i from to =
    let earliest = wider.earliest in
    let latest = wider.latest in
    if-some (λ pair. IsWithin old pair) (λ pair. IsWithin new pair) (inside shift row i)
    (λ p is. let low = is.from in let high = is.to in record { from = omega (arith, ints); to = omega (arith, ints) }) (has i from to)

-- `old` are bounds of the pairs inside a packet, and `new` are wider. `new` also hold the pair whose later point is the
-- packet's first timestamp, even if that pair's period is the longest possible one. The widened bounds hold all pairs
-- of the packet.
pub pairs-wide : (shift : ℤ) (row : ClockRow) (old new : Bounds) (pair : Pair) (longest : ℕ) → HasInside shift row old 0 (timestamps row - 1) → Widens old new pair.later (pair.later +ℤ pos longest)
    → pair ≡ pair_of shift row (timestamp row 0) (timestamp row 0) → IsLongest pair longest → HasPairs shift row new
pairs-wide shift row old new pair longest has wider same is =
    let later : pair.later ≡ pos (timestamp row 0) +ℤ shift = ap (λ (p : Pair). p.later) same in
    let from = wider.from in
    let to = wider.to in
    record {
      inside = widened-inside shift row old new pair.later (pair.later +ℤ pos longest) 0 (timestamps row - 1) has wider;
      across = λ before. across_each (λ pair. IsWithin new pair) shift row before (λ first. by-wide shift row new first (timestamp row 0) longest (omega (arith, ints)) (omega (arith, ints)) (subst (λ (p : Pair). IsLongest p longest) same is));
    }

-- ---- groups of the pairs inside a packet

-- no pair of a group covers an instant that is outside the group's bounds
pub group-none : (shift : ℤ) (row : ClockRow) (groups : List Bounds) (g end rate lead : ℕ) (instant : ℤ) → IsLead rate lead → AreGroups shift row groups → 32 * g < end → end ≤ 32 * g + 32 → end ≤ timestamps row - 1
    → IfSome (slice_get groups g) (λ bounds. IsOutside bounds instant lead) × IsSome (slice_get groups g)
    → find_last (test rate instant) (filter_map (inside shift row) (range_with_len (32 * g) (end - 32 * g))) ≡ None
group-none shift row groups g end rate lead instant is are some within inner h = cases (slice_get groups g) refl h.0 h.1
  where
    cases : (o : Option Bounds) → slice_get groups g ≡ o → IfSome o (λ bounds. IsOutside bounds instant lead) → IsSome o
        → find_last (test rate instant) (filter_map (inside shift row) (range_with_len (32 * g) (end - 32 * g))) ≡ None
    cases None e outside here = absurd cc
    cases (Some bounds) e outside here =
        inside-none shift row bounds rate lead instant (32 * g) (end - 32 * g) end is (are g bounds e end within inner) (omega arith) outside

last-or : (xs : List Bounds) (x y : Bounds) (k : ℕ) → slice_get (xs ++ x ∷ []) k ≡ Some y → (slice_get xs k ≡ Some y) ⊎ ((k ≡ length xs) × (x ≡ y))
last-or [] x y zero e = inr (refl, cc)
last-or [] x y (suc k) e = absurd cc
last-or (z ∷ zs) x y zero e = inl e
last-or (z ∷ zs) x y (suc k) e = elim (last-or zs x y k e) [
  | inl there ↦ inl there
  | inr last ↦ inr (ap (λ (n : ℕ). suc n) last.0, last.1)
]

pub no-groups : (shift : ℤ) (row : ClockRow) → AreGroups shift row []
no-groups shift row g bounds there = absurd cc

pub groups-more : (shift : ℤ) (row : ClockRow) (groups : List Bounds) (bounds : Bounds) (first last : ℕ) → AreGroups shift row groups → first ≡ 32 * length groups
    → ((end : ℕ) → end ≤ 32 * length groups + 32 → end ≤ timestamps row - 1 → end ≤ last) → HasInside shift row bounds first last → AreGroups shift row (groups ++ bounds ∷ [])
groups-more shift row groups bounds first last are e most has g other there end within inner = elim (last-or groups bounds other g there) [
  | inl before ↦ are g other before end within inner
  | inr last_is ↦ λ i from to.
      let place = last_is.0 in
      let enough : end ≤ last = most end (omega arith) inner in
      subst (λ (b : Bounds). IfSome (inside shift row i) (λ pair. IsWithin b pair)) last_is.1
      (has i (omega arith) (omega arith))
]
