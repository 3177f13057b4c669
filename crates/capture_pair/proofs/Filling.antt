-- If both sides of a matching are filled, the matching returns the next difference. The differences are those of a
-- comparison of all batches that the sides present.
use Rattle.std.proofs.Common.{◌≡◌, ℕ, ◌+◌, ◌<◌, ◌≤◌, Bool, true, false, cond, ◌⊎◌, inl, inr, List, [], ◌++◌, length, take, drop, Option, Some, None, refl, sym, ap, ◌∙◌, subst, arith}
use Rattle.std.specs.Prelude.{IfNone, IsSome, is_some, slice_get}
use Rattle.std.specs.Option.{option_to_list}
use Rattle.std.proofs.lemmas.Option.{slice_get_past}
use Rattle.std.proofs.lemmas.List.{drop_all}
use Rattle.sample_schedule.specs.Batches.{Presented}
use Rattle.sample_schedule.specs.declared.shown.Shown.{Shown}
use Rattle.listener.specs.Laws.{presented_of}
use Rattle.listener_pair.specs.declared.difference.Difference.{Difference}
use Rattle.listener_pair.specs.declared.difference.Which.{Which}
use Rattle.listener_pair.specs.declared.difference.Which.TheVariants.{A, B}
use Rattle.listener_pair.specs.Merged.{IsInOrder, Sided, known, merged}
use Rattle.listener_pair.specs.Differences.{counts_of, differences}
use Rattle.listener_pair.specs.Matching.{IsIdle, MatchingState, StandsFor, known_of, lacks, wanted}
use Rattle.listener_pair.specs.state.Window.{first_side}
use Rattle.listener_pair.proofs.Standing.{no-next, wants-a}
use Rattle.capture_pair.specs.Pairing.{Matches, Pairs}
use Rattle.capture_pair.specs.state.Sides.{Filled, Fills, Holds, IsBounded, IsHeard, IsSettled, open_sides, wants_side}
use Rattle.capture_pair.proofs.Joined.{GoesOn, IsAsked, idle-ended, known-idle, some-all}
use Rattle.capture_pair.proofs.Handing.{presented-split}

-- ---- A's side is filled, and then B's

-- whether A is wanted depends on A's side alone
wanted-a : (m n : MatchingState) → n.next_a ≡ m.next_a → n.ended_a ≡ m.ended_a → wanted n ≡ Some A → wanted m ≡ Some A
wanted-a m n a e w =
    let l : lacks m.ended_a m.next_a ≡ true = ap (λ x. lacks x m.next_a) (sym e) ∙ ap (lacks n.ended_a) (sym a) ∙ wants-a n w in
    ap (λ v. cond v (Some A) (cond (lacks m.ended_b m.next_b) (Some B) None)) l

pub filled-both : (ShowsA ShowsA2 ShowsB ShowsB2 : List Shown → ℕ → Type 0) (list other : List Shown) (given : ℕ) (m0 m1 m2 : MatchingState) (ended : Bool) (Quiet : Type 0)
    → ((n k : ℕ) → ShowsA list n → Matches list other n k given m0 → Filled ShowsA2 A list other k given m1)
    → ((n k : ℕ) → ShowsB other n → Matches list other k n given m1 → Filled ShowsB2 B other list k given m2)
    → Fills B ended Quiet m1 m2 → Holds ShowsA ShowsB list other given m0 → Pairs ShowsA2 ShowsB2 list other given m2
filled-both ShowsA ShowsA2 ShowsB ShowsB2 list other given m0 m1 m2 ended Quiet first second fills h =
    let f = first h.shown_a h.shown_b h.shows_a h.matches in
    let s = second h.shown_b f.n h.shows_b f.matches in
    record {
      shown_a = f.n;
      shown_b = s.n;
      shows_a = f.shows;
      shows_b = s.shows;
      matches = s.matches;
      filled_a = λ w. f.filled (wanted-a m1 m2 fills.other.0 fills.other.1 w);
      filled_b = s.filled;
    }

pub settled-both : (ended_a ended_b : Bool) (QuietA QuietB : Type 0) (m0 m1 m2 : MatchingState) → IsBounded ended_a ended_b m0 → Fills A ended_a QuietA m0 m1 → Fills B ended_b QuietB m1 m2 → IsSettled ended_a ended_b QuietA QuietB m2
settled-both ended_a ended_b QuietA QuietB m0 m1 m2 bounded f g = record {
  over_a = λ t. f.over bounded.over_a (sym g.other.1 ∙ t);
  over_b = λ t. g.over (λ u. bounded.over_b (sym f.other.1 ∙ u)) t;
  open_a = λ w. f.opened (wanted-a m1 m2 g.other.0 g.other.1 w);
  open_b = λ w. g.opened w;
  quiet_a = λ w. f.quiet (wanted-a m1 m2 g.other.0 g.other.1 w);
  quiet_b = λ w. g.quiet w;
}

no-side : (which : Which) (o : Option Which) → o ≡ None → wants_side which o ≡ false
no-side A o e = ap (wants_side A) e
no-side B o e = ap (wants_side B) e

pub same-both : (ended_a ended_b : Bool) (QuietA QuietB : Type 0) (m0 m1 m2 : MatchingState) → Fills A ended_a QuietA m0 m1 → Fills B ended_b QuietB m1 m2 → wanted m0 ≡ None → m2 ≡ m0
same-both ended_a ended_b QuietA QuietB m0 m1 m2 f g none =
    let e = f.idle (no-side A (wanted m0) none) in
    g.idle (no-side B (wanted m1) (ap wanted e ∙ none)) ∙ e

less-at : (ended_a ended_b : Bool) (QuietA QuietB : Type 0) (m0 m1 m2 : MatchingState) (o : Option Which) (a0 a1 b0 b1 : ℕ) → wanted m0 ≡ o → IsSome o → wanted m2 ≡ None → Fills A ended_a QuietA m0 m1 → Fills B ended_b QuietB m1 m2
    → a1 + open_sides m1 ≤ a0 + open_sides m0 → b1 + open_sides m2 ≤ b0 + open_sides m1
    → (wanted m0 ≡ Some A → (wanted m1 ≡ Some A) ⊎ (a1 + open_sides m1 < a0 + open_sides m0)) → (wanted m1 ≡ Some B → (wanted m2 ≡ Some B) ⊎ (b1 + open_sides m2 < b0 + open_sides m1))
    → (a1 + b1) + open_sides m2 < (a0 + b0) + open_sides m0
less-at ended_a ended_b QuietA QuietB m0 m1 m2 None a0 a1 b0 b1 e some none f g la lb fa fb = absurd (cc)
less-at ended_a ended_b QuietA QuietB m0 m1 m2 (Some A) a0 a1 b0 b1 e some none f g la lb fa fb = at (fa e)
  where
    at : (wanted m1 ≡ Some A) ⊎ (a1 + open_sides m1 < a0 + open_sides m0) → (a1 + b1) + open_sides m2 < (a0 + b0) + open_sides m0
    at (inl w) =
        let same = g.idle (ap (wants_side B) w) in
        let x : Some A ≡ None = sym w ∙ ap wanted (sym same) ∙ none in
        absurd (cc)
    at (inr lt) = omega arith
less-at ended_a ended_b QuietA QuietB m0 m1 m2 (Some B) a0 a1 b0 b1 e some none f g la lb fa fb = at (fb (ap wanted (f.idle (ap (wants_side A) e)) ∙ e))
  where
    at : (wanted m2 ≡ Some B) ⊎ (b1 + open_sides m2 < b0 + open_sides m1) → (a1 + b1) + open_sides m2 < (a0 + b0) + open_sides m0
    at (inl w) = let x : Some B ≡ None = sym w ∙ none in absurd (cc)
    at (inr lt) = omega arith

pub less-both : (ended_a ended_b : Bool) (QuietA QuietB : Type 0) (m0 m1 m2 : MatchingState) (a0 a1 b0 b1 : ℕ) → IsSome (wanted m0) → wanted m2 ≡ None → Fills A ended_a QuietA m0 m1 → Fills B ended_b QuietB m1 m2
    → a1 + open_sides m1 ≤ a0 + open_sides m0 → b1 + open_sides m2 ≤ b0 + open_sides m1
    → (wanted m0 ≡ Some A → (wanted m1 ≡ Some A) ⊎ (a1 + open_sides m1 < a0 + open_sides m0)) → (wanted m1 ≡ Some B → (wanted m2 ≡ Some B) ⊎ (b1 + open_sides m2 < b0 + open_sides m1))
    → (a1 + b1) + open_sides m2 < (a0 + b0) + open_sides m0
less-both ended_a ended_b QuietA QuietB m0 m1 m2 a0 a1 b0 b1 some none f g la lb fa fb = less-at ended_a ended_b QuietA QuietB m0 m1 m2 (wanted m0) a0 a1 b0 b1 refl some none f g la lb fa fb

-- ---- the next difference

pub none-left : (n : ℕ) (xs : List Shown) → n ≡ length xs → presented_of (drop n xs) ≡ []
none-left n xs e = ap presented_of (drop_all n xs (omega (arith, e)))

pub goes-on : (list other : List Shown) (n k given : ℕ) (over_a over_b : Bool) (m : MatchingState) → IsHeard list → IsHeard other → Matches list other n k given m → (m.ended_a ≡ true → over_a ≡ true) → (m.ended_b ≡ true → over_b ≡ true)
    → GoesOn (presented_of (take n list)) (presented_of (take k other)) (presented_of (drop n list)) (presented_of (drop k other)) over_a over_b m
goes-on list other n k given over_a over_b m hl ho h oa ob = record {
  order_a = subst IsInOrder (sym (presented-split n list)) hl.order;
  order_b = subst IsInOrder (sym (presented-split k other)) ho.order;
  none_a = λ t. none-left n list (h.ended_a t);
  none_b = λ t. none-left k other (h.ended_b t);
  is_over_a = oa;
  is_over_b = ob;
}

all-merged-is : (list other : List Shown) (n k : ℕ) (over_a over_b : Bool)
    → known over_a over_b (merged (presented_of (take n list) ++ presented_of (drop n list)) (presented_of (take k other) ++ presented_of (drop k other))) ≡ known over_a over_b (merged (presented_of list) (presented_of other))
all-merged-is list other n k over_a over_b =
    ap (λ (l : List Presented). known over_a over_b (merged l (presented_of (take k other) ++ presented_of (drop k other)))) (presented-split n list)
    ∙ ap (λ (l : List Presented). known over_a over_b (merged (presented_of list) l)) (presented-split k other)

pub some-next : (list other : List Shown) (n k given : ℕ) (over_a over_b : Bool) (old new : MatchingState) (d : Option Difference) → IsHeard list → IsHeard other → Matches list other n k (given + 1) new → (new.ended_a ≡ true → over_a ≡ true) → (new.ended_b ≡ true → over_b ≡ true)
    → new.ended_a ≡ old.ended_a → new.ended_b ≡ old.ended_b → d ≡ slice_get (differences (known_of old (presented_of (take n list)) (presented_of (take k other)))) given
    → d ≡ slice_get (differences (known over_a over_b (merged (presented_of list) (presented_of other)))) given
some-next list other n k given over_a over_b old new d hl ho h oa ob ea eb e =
    let xs = presented_of (take n list) in
    let ys = presented_of (take k other) in
    let g = goes-on list other n k (given + 1) over_a over_b new hl ho h oa ob in
    e ∙ ap (λ x. slice_get (differences (known x old.ended_b (merged xs ys))) given) (sym ea) ∙ ap (λ x. slice_get (differences (known new.ended_a x (merged xs ys))) given) (sym eb)
    ∙ some-all xs ys (presented_of (drop n list)) (presented_of (drop k other)) given over_a over_b new h.matched g
    ∙ ap (λ (l : List Sided). slice_get (differences l) given) (all-merged-is list other n k over_a over_b)

pub asked : (ShowsA ShowsB : List Shown → ℕ → Type 0) (QuietA QuietB : Type 0) (list other : List Shown) (given : ℕ) (over_a over_b : Bool) (m : MatchingState) (p : Pairs ShowsA ShowsB list other given m) → IsSettled over_a over_b QuietA QuietB m
    → IsAsked (presented_of (drop p.shown_a list)) (presented_of (drop p.shown_b other)) over_a over_b m
asked ShowsA ShowsB QuietA QuietB list other given over_a over_b m p s = record {
  all_a = λ w. none-left p.shown_a list (p.filled_a w);
  all_b = λ w. none-left p.shown_b other (p.filled_b w);
  open_a = s.open_a;
  open_b = s.open_b;
}

pub idle-all : (ShowsA ShowsB : List Shown → ℕ → Type 0) (QuietA QuietB : Type 0) (list other : List Shown) (given : ℕ) (over_a over_b : Bool) (m : MatchingState) → IsHeard list → IsHeard other → (p : Pairs ShowsA ShowsB list other given m) → IsSettled over_a over_b QuietA QuietB m → IsIdle m
    → known over_a over_b (merged (presented_of list) (presented_of other)) ≡ p.matches.matched.done
idle-all ShowsA ShowsB QuietA QuietB list other given over_a over_b m hl ho p s idle =
    sym (all-merged-is list other p.shown_a p.shown_b over_a over_b)
    ∙ known-idle (presented_of (take p.shown_a list)) (presented_of (take p.shown_b other)) (presented_of (drop p.shown_a list)) (presented_of (drop p.shown_b other)) given over_a over_b m p.matches.matched
    (goes-on list other p.shown_a p.shown_b given over_a over_b m hl ho p.matches s.over_a s.over_b) (asked ShowsA ShowsB QuietA QuietB list other given over_a over_b m p s) idle

-- if the matching is idle, the known part of the merged list has no further difference
pub none-next : (ShowsA ShowsB : List Shown → ℕ → Type 0) (QuietA QuietB : Type 0) (list other : List Shown) (given : ℕ) (over_a over_b : Bool) (m : MatchingState) → IsHeard list → IsHeard other → Pairs ShowsA ShowsB list other given m → IsSettled over_a over_b QuietA QuietB m → IsIdle m
    → None ≡ slice_get (differences (known over_a over_b (merged (presented_of list) (presented_of other)))) given
none-next ShowsA ShowsB QuietA QuietB list other given over_a over_b m hl ho p s idle =
    sym (ap (λ (l : List Sided). slice_get (differences l) given) (idle-all ShowsA ShowsB QuietA QuietB list other given over_a over_b m hl ho p s idle)
    ∙ slice_get_past (differences p.matches.matched.done) given (let e = p.matches.matched.shown in omega arith))

-- if the matching is idle, its counts are those of the known part of the merged list
pub counts-all : (ShowsA ShowsB : List Shown → ℕ → Type 0) (QuietA QuietB : Type 0) (list other : List Shown) (given : ℕ) (over_a over_b : Bool) (m : MatchingState) → IsHeard list → IsHeard other → Pairs ShowsA ShowsB list other given m → IsSettled over_a over_b QuietA QuietB m → IsIdle m
    → m.counts ≡ counts_of (known over_a over_b (merged (presented_of list) (presented_of other)))
counts-all ShowsA ShowsB QuietA QuietB list other given over_a over_b m hl ho p s idle =
    p.matches.matched.counts ∙ ap counts_of (sym (idle-all ShowsA ShowsB QuietA QuietB list other given over_a over_b m hl ho p s idle))

-- a matching that wants a batch of a side is idle
pub waits-idle : (m : MatchingState) → is_some (wanted m) ≡ true → IsIdle m
waits-idle m h = no-next m (ap (λ v. cond v None (first_side m.next_a m.next_b)) h)

-- a matching that was asked for its next difference still matches the same lists
matched-on : (list other : List Shown) (n k given : ℕ) (old new : MatchingState) (d : Option Difference) → Matches list other n k given old → ((xs ys : List Presented) (g : ℕ) → StandsFor xs ys g old → StandsFor xs ys (g + length (option_to_list d)) new)
    → new.ended_a ≡ old.ended_a → new.ended_b ≡ old.ended_b → Matches list other n k (given + length (option_to_list d)) new
matched-on list other n k given old new d h stands ea eb = record {
  within_a = h.within_a;
  within_b = h.within_b;
  matched = stands (presented_of (take n list)) (presented_of (take k other)) given h.matched;
  ended_a = λ t. h.ended_a (sym ea ∙ t);
  ended_b = λ t. h.ended_b (sym eb ∙ t);
}

pub asked-on : (ShowsA ShowsB : List Shown → ℕ → Type 0) (list other : List Shown) (given : ℕ) (old new : MatchingState) (d : Option Difference) → Pairs ShowsA ShowsB list other given old
    → ((xs ys : List Presented) (g : ℕ) → StandsFor xs ys g old → StandsFor xs ys (g + length (option_to_list d)) new) → new.ended_a ≡ old.ended_a → new.ended_b ≡ old.ended_b
    → Holds ShowsA ShowsB list other (given + length (option_to_list d)) new
asked-on ShowsA ShowsB list other given old new d p stands ea eb = record {
  shown_a = p.shown_a;
  shown_b = p.shown_b;
  shows_a = p.shows_a;
  shows_b = p.shows_b;
  matches = matched-on list other p.shown_a p.shown_b given old new d p.matches stands ea eb;
}

pub pairs-zero : (ShowsA ShowsB : List Shown → ℕ → Type 0) (list other : List Shown) (given : ℕ) (m : MatchingState) → Pairs ShowsA ShowsB list other (given + 0) m → Pairs ShowsA ShowsB list other given m
pairs-zero ShowsA ShowsB list other given m p = subst (λ (g : ℕ). Pairs ShowsA ShowsB list other g m) (omega arith) p

-- ---- what is returned

some-one : {T : Type 0} (o : Option T) → is_some o ≡ true → length (option_to_list o) ≡ 1
some-one None e = absurd (cc)
some-one (Some x) e = refl

pub pairs-none : (ShowsA ShowsB : List Shown → ℕ → Type 0) (list other : List Shown) (given : ℕ) (m : MatchingState) (d : Option Difference) → d ≡ None → Pairs ShowsA ShowsB list other (given + length (option_to_list d)) m → Pairs ShowsA ShowsB list other given m
pairs-none ShowsA ShowsB list other given m d e p = pairs-zero ShowsA ShowsB list other given m (subst (λ (o : Option Difference). Pairs ShowsA ShowsB list other (given + length (option_to_list o)) m) e p)

ended-as : (list other : List Shown) (given : ℕ) (a a2 b b2 : Bool) → a ≡ a2 → b ≡ b2
    → slice_get (differences (known a b (merged (presented_of list) (presented_of other)))) given ≡ slice_get (differences (known a2 b2 (merged (presented_of list) (presented_of other)))) given
ended-as list other given a a2 b b2 e f =
    ap (λ x. slice_get (differences (known x b (merged (presented_of list) (presented_of other)))) given) e ∙ ap (λ x. slice_get (differences (known a2 x (merged (presented_of list) (presented_of other)))) given) f

pub some-given : (ShowsA ShowsB : List Shown → ℕ → Type 0) (QuietA QuietB : Type 0) (list other : List Shown) (given : ℕ) (a a2 b b2 : Bool) (old new : MatchingState) (d : Option Difference) → IsHeard list → IsHeard other → Pairs ShowsA ShowsB list other given old → IsSettled a b QuietA QuietB old → a ≡ a2 → b ≡ b2
    → ((xs ys : List Presented) (g : ℕ) → StandsFor xs ys g old → StandsFor xs ys (g + length (option_to_list d)) new) → ((xs ys : List Presented) (g : ℕ) → StandsFor xs ys g old → d ≡ slice_get (differences (known_of old xs ys)) g)
    → (new.ended_a ≡ old.ended_a) × (new.ended_b ≡ old.ended_b) → is_some d ≡ true → d ≡ slice_get (differences (known a2 b2 (merged (presented_of list) (presented_of other)))) given
some-given ShowsA ShowsB QuietA QuietB list other given a a2 b b2 old new d hl ho p s ea eb stands get ended some =
    let m = subst (λ (n : ℕ). Matches list other p.shown_a p.shown_b (given + n) new) (some-one d some) (matched-on list other p.shown_a p.shown_b given old new d p.matches stands ended.0 ended.1) in
    some-next list other p.shown_a p.shown_b given a b old new d hl ho m (λ t. s.over_a (sym ended.0 ∙ t)) (λ t. s.over_b (sym ended.1 ∙ t)) ended.0 ended.1
    (get (presented_of (take p.shown_a list)) (presented_of (take p.shown_b other)) given p.matches.matched)
    ∙ ended-as list other given a a2 b b2 ea eb

pub none-given : (ShowsA ShowsB : List Shown → ℕ → Type 0) (QuietA QuietB : Type 0) (list other : List Shown) (given : ℕ) (a a2 b b2 : Bool) (m : MatchingState) → IsHeard list → IsHeard other → Pairs ShowsA ShowsB list other given m → IsSettled a b QuietA QuietB m → a ≡ a2 → b ≡ b2 → IsIdle m
    → None ≡ slice_get (differences (known a2 b2 (merged (presented_of list) (presented_of other)))) given
none-given ShowsA ShowsB QuietA QuietB list other given a a2 b b2 m hl ho p s ea eb idle = none-next ShowsA ShowsB QuietA QuietB list other given a b m hl ho p s idle ∙ ended-as list other given a a2 b b2 ea eb

pub idle-of : (d : Option Difference) (m : MatchingState) → IfNone d (IsIdle m) → d ≡ None → IsIdle m
idle-of None m h e = h
idle-of (Some x) m h e = absurd (cc)

pub closed-of : (a b : Bool) (QuietA QuietB : Type 0) (m : MatchingState) → IsSettled a b QuietA QuietB m → wanted m ≡ None → IsIdle m → (a ≡ true) × (b ≡ true)
closed-of a b QuietA QuietB m s none idle = let e = idle-ended m none idle in (s.over_a e.0, s.over_b e.1)
