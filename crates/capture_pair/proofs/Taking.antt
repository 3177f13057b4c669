-- A pair of listeners takes records.
use Rattle.std.proofs.Common.{◌≡◌, ℕ, ◌^◌, ◌<◌, ◌≤◌, true, false, List, [], ◌∷◌, ◌++◌, length, take, Some, refl, sym, ap, ◌∙◌, subst, arith}
use mathlib.Core.List.{IsPrefix}
use Rattle.pcap_frames.specs.Capture.{Record}
use Rattle.sample_schedule.specs.Batches.{Presented}
use Rattle.sample_schedule.specs.declared.shown.Shown.{Shown}
use Rattle.listener.specs.Laws.{presented_of}
use Rattle.listener.specs.declared.plan.ListenPlan.{ListenPlan}
use Rattle.listener.specs.Listening.{IsIdle as IsIdleListener, ListenState, StandsFor as IsGiven, is_closed, out}
use Rattle.listener.proofs.Due.{due_none}
use Rattle.listener.proofs.Listened.{first_long, out_at_end, out_further, out_open, take_first}
use Rattle.listener_pair.specs.declared.difference.PairCounts.{PairCounts}
use Rattle.listener_pair.specs.declared.difference.Which.{Which}
use Rattle.listener_pair.specs.declared.difference.Which.TheVariants.{A, B}
use Rattle.listener_pair.specs.Differences.{counts_of}
use Rattle.listener_pair.specs.Matching.{IsIdle, MatchingState, StandsFor as IsMatched, known_of, wanted}
use Rattle.listener_pair.proofs.Standing.{idle-counts, lacks-open, wants-a, wants-b}
use Rattle.capture_pair.specs.declared.source.RecordSource.{RecordSource}
use Rattle.capture_pair.specs.Pairing.{Matches, PairState, Pairs, StandsFor, known_by, listener_of}
use Rattle.capture_pair.specs.state.Sides.{Holds, IsHeard, IsSettled, OfRecords, ShowsRecords, Taken}
use Rattle.capture_pair.specs.state.Taking.{ClosedOn, IsBegun, TookOn}
use Rattle.capture_pair.proofs.Filling.{counts-all}
use Rattle.capture_pair.proofs.Heard.{heard}

pub more-a : (list longer other : List Shown) (n k given : ℕ) (m : MatchingState) → IsPrefix list longer → m.ended_a ≡ false → Matches list other n k given m → Matches longer other n k given m
more-a list longer other n k given m first opened h = record {
  within_a = let a = h.within_a in let b = first_long list longer first in omega arith;
  within_b = h.within_b;
  matched = subst (λ (l : List Shown). IsMatched (presented_of l) (presented_of (take k other)) given m) (sym (take_first n list longer first h.within_a)) h.matched;
  ended_a = λ t. let e = sym opened ∙ t in absurd (cc);
  ended_b = h.ended_b;
}

pub more-b : (list other longer : List Shown) (n k given : ℕ) (m : MatchingState) → IsPrefix other longer → m.ended_b ≡ false → Matches list other n k given m → Matches list longer n k given m
more-b list other longer n k given m first opened h = record {
  within_a = h.within_a;
  within_b = let a = h.within_b in let b = first_long other longer first in omega arith;
  matched = subst (λ (l : List Shown). IsMatched (presented_of (take n list)) (presented_of l) given m) (sym (take_first k other longer first h.within_b)) h.matched;
  ended_a = h.ended_a;
  ended_b = λ t. let e = sym opened ∙ t in absurd (cc);
}

-- `new` is the listener `old` after it took more records or was closed. `new` has shown as many items as `old`, and the
-- list that `new` shows begins with the list that `old` shows.
pub record Extends (records then : List Record) (old new : ListenState) : Type 0 where
  pub stands : (n : ℕ) → IsGiven records n old → IsGiven then n new
  pub longer : IsPrefix (out old records) (out new then)

pub extends-record : (records : List Record) (r : Record) (old new : ListenState) → is_closed old ≡ false → is_closed new ≡ false → new.plan ≡ old.plan → ((rs : List Record) (n : ℕ) → IsGiven rs n old → IsGiven (rs ++ r ∷ []) n new) → Extends records (records ++ r ∷ []) old new
extends-record records r old new opened still plan stands = record { stands = stands records; longer = out_further old new records (r ∷ []) opened still plan }

pub extends-close : (records : List Record) (old new : ListenState) → is_closed old ≡ false → is_closed new ≡ true → new.plan ≡ old.plan → ((rs : List Record) (n : ℕ) → IsGiven rs n old → IsGiven rs n new) → Extends records records old new
extends-close records old new opened closed plan stands = record { stands = stands records; longer = out_at_end old new records opened closed plan }

pub takes-a : (records then others : List Record) (given : ℕ) (old : PairState) (new : ListenState) → wanted old.matching ≡ Some A → Extends records then old.a new → StandsFor records others given old
    → Holds (ShowsRecords new (OfRecords then)) (ShowsRecords old.b (OfRecords others)) (out new then) (out old.b others) given old.matching
takes-a records then others given old new w e p = record {
  shown_a = p.shown_a;
  shown_b = p.shown_b;
  shows_a = (e.stands p.shown_a p.shows_a, refl);
  shows_b = (p.shows_b, refl);
  matches = more-a (out old.a records) (out new then) (out old.b others) p.shown_a p.shown_b given old.matching e.longer (lacks-open old.matching.ended_a old.matching.next_a (wants-a old.matching w)) p.matches;
}

pub takes-b : (records others then : List Record) (given : ℕ) (old : PairState) (new : ListenState) → wanted old.matching ≡ Some B → Extends others then old.b new → StandsFor records others given old
    → Holds (ShowsRecords old.a (OfRecords records)) (ShowsRecords new (OfRecords then)) (out old.a records) (out new then) given old.matching
takes-b records others then given old new w e p = record {
  shown_a = p.shown_a;
  shown_b = p.shown_b;
  shows_a = (p.shows_a, refl);
  shows_b = (e.stands p.shown_b p.shows_b, refl);
  matches = more-b (out old.a records) (out old.b others) (out new then) p.shown_a p.shown_b given old.matching e.longer (lacks-open old.matching.ended_b old.matching.next_b (wants-b old.matching w)) p.matches;
}

pub stands-as : (records others : List Record) (list other : List Shown) (given : ℕ) (a b : ListenState) (m : MatchingState) → Pairs (ShowsRecords a (OfRecords records)) (ShowsRecords b (OfRecords others)) list other given m → StandsFor records others given (record { a = a; b = b; matching = m })
stands-as records others list other given a b m p = record {
  shown_a = p.shown_a;
  shown_b = p.shown_b;
  shows_a = p.shows_a.0;
  shows_b = p.shows_b.0;
  matches = subst (λ (l : List Shown). Matches l (out b others) p.shown_a p.shown_b given m) p.shows_a.1 (subst (λ (l : List Shown). Matches list l p.shown_a p.shown_b given m) p.shows_b.1 p.matches);
  filled_a = λ w. p.filled_a w ∙ ap length p.shows_a.1;
  filled_b = λ w. p.filled_b w ∙ ap length p.shows_b.1;
}

pub sides-as : (records others : List Record) (given : ℕ) (pair : PairState) → StandsFor records others given pair → Pairs (ShowsRecords pair.a (OfRecords records)) (ShowsRecords pair.b (OfRecords others)) (out pair.a records) (out pair.b others) given pair.matching
sides-as records others given pair p = record {
  shown_a = p.shown_a;
  shown_b = p.shown_b;
  shows_a = (p.shows_a, refl);
  shows_b = (p.shows_b, refl);
  matches = p.matches;
  filled_a = p.filled_a;
  filled_b = p.filled_b;
}

pub heard-a : (records others : List Record) (given : ℕ) (pair : PairState) → StandsFor records others given pair → pair.a.counts.frames ≤ 2 ^ 61 → IsHeard (out pair.a records)
heard-a records others given pair p le = heard records p.shown_a pair.a p.shows_a le

pub heard-b : (records others : List Record) (given : ℕ) (pair : PairState) → StandsFor records others given pair → pair.b.counts.frames ≤ 2 ^ 61 → IsHeard (out pair.b others)
heard-b records others given pair p le = heard others p.shown_b pair.b p.shows_b le

-- ---- a pair that was given nothing

pub begun-pair : (wanted_plan : ListenPlan) (a b : RecordSource) (m : MatchingState) → IsBegun wanted_plan a → IsBegun wanted_plan b → IsMatched [] [] 0 m → m.ended_a ≡ false → m.ended_b ≡ false → StandsFor [] [] 0 (record { a = a.listener; b = b.listener; matching = m })
begun-pair wanted_plan a b m sa sb s ea eb = record {
  shown_a = 0;
  shown_b = 0;
  shows_a = sa.stands;
  shows_b = sb.stands;
  matches = record {
    within_a = omega arith;
    within_b = omega arith;
    matched = s;
    ended_a = λ t. let e = sym ea ∙ t in absurd (cc);
    ended_b = λ t. let e = sym eb ∙ t in absurd (cc);
  };
  filled_a = λ w. none-shown a.listener sa.opened;
  filled_b = λ w. none-shown b.listener sb.opened;
}
  where
    none-shown : (l : ListenState) → is_closed l ≡ false → 0 ≡ length (out l [])
    none-shown l opened = sym (ap length (out_open l [] opened ∙ due_none l.plan))

pub begun-settled : (wanted_plan : ListenPlan) (a b : RecordSource) (m : MatchingState) → IsBegun wanted_plan a → IsBegun wanted_plan b → m.ended_a ≡ false → m.ended_b ≡ false → IsSettled (is_closed a.listener) (is_closed b.listener) (IsIdleListener a.listener) (IsIdleListener b.listener) m
begun-settled wanted_plan a b m sa sb ea eb = record {
  over_a = λ t. let e = sym ea ∙ t in absurd (cc);
  over_b = λ t. let e = sym eb ∙ t in absurd (cc);
  open_a = λ w. sa.opened;
  open_b = λ w. sb.opened;
  quiet_a = λ w. sa.idle;
  quiet_b = λ w. sb.idle;
}

-- ---- a record is taken, or a side is closed

-- `a2`, `b2` and `m2` are the two listeners and the matching after both sides are filled. The listeners show the same
-- lists as before.
abbrev pub FillsBoth : ListenState → ListenState → MatchingState → ListenState → ListenState → MatchingState → Type 0
FillsBoth a b m a2 b2 m2 = (ta tb : Taken) (list other : List Shown) (given : ℕ) → IsHeard list → IsHeard other → Holds (ShowsRecords a ta) (ShowsRecords b tb) list other given m → Pairs (ShowsRecords a2 ta) (ShowsRecords b2 tb) list other given m2

then-a : (records then others : List Record) (given : ℕ) (old : PairState) (a2 a3 b3 : ListenState) (m3 : MatchingState) → wanted old.matching ≡ Some A → Extends records then old.a a2 → a2.counts.frames ≤ 2 ^ 61 → old.b.counts.frames ≤ 2 ^ 61 → FillsBoth a2 old.b old.matching a3 b3 m3
    → StandsFor records others given old → StandsFor then others given (record { a = a3; b = b3; matching = m3 })
then-a records then others given old a2 a3 b3 m3 w e few_a few_b fills s =
    stands-as then others (out a2 then) (out old.b others) given a3 b3 m3
    (fills (OfRecords then) (OfRecords others) (out a2 then) (out old.b others) given (heard then s.shown_a a2 (e.stands s.shown_a s.shows_a) few_a) (heard others s.shown_b old.b s.shows_b few_b) (takes-a records then others given old a2 w e s))

then-b : (records others then : List Record) (given : ℕ) (old : PairState) (b2 a3 b3 : ListenState) (m3 : MatchingState) → wanted old.matching ≡ Some B → Extends others then old.b b2 → old.a.counts.frames ≤ 2 ^ 61 → b2.counts.frames ≤ 2 ^ 61 → FillsBoth old.a b2 old.matching a3 b3 m3
    → StandsFor records others given old → StandsFor records then given (record { a = a3; b = b3; matching = m3 })
then-b records others then given old b2 a3 b3 m3 w e few_a few_b fills s =
    stands-as records then (out old.a records) (out b2 then) given a3 b3 m3
    (fills (OfRecords records) (OfRecords then) (out old.a records) (out b2 then) given (heard records s.shown_a old.a s.shows_a few_a) (heard then s.shown_b b2 (e.stands s.shown_b s.shows_b) few_b) (takes-b records others then given old b2 w e s))

pub took-a : (which : Which) (r : Record) (records others : List Record) (given : ℕ) (old : PairState) (a2 b2 a3 b3 : ListenState) (m3 : MatchingState) → which ≡ A → wanted old.matching ≡ Some which → is_closed (listener_of which old) ≡ false → TookOn which r old.a old.b a2 b2 → (listener_of which old).counts.frames < 2 ^ 61 → old.b.counts.frames ≤ 2 ^ 61
    → FillsBoth a2 b2 old.matching a3 b3 m3 → StandsFor records others given old → StandsFor (records ++ r ∷ []) others given (record { a = a3; b = b3; matching = m3 })
took-a A r records others given old a2 b2 a3 b3 m3 is w opened t few few_b fills s =
    then-a records (records ++ r ∷ []) others given old a2 a3 b3 m3 w (extends-record records r old.a a2 opened t.0.opened t.0.plan t.0.stands) (let f = t.0.frames in omega arith) few_b
    (subst (λ (b : ListenState). FillsBoth a2 b old.matching a3 b3 m3) t.1 fills) s
took-a B r records others given old a2 b2 a3 b3 m3 is w opened t few few_b fills s = absurd (cc)

pub took-b : (which : Which) (r : Record) (records others : List Record) (given : ℕ) (old : PairState) (a2 b2 a3 b3 : ListenState) (m3 : MatchingState) → which ≡ B → wanted old.matching ≡ Some which → is_closed (listener_of which old) ≡ false → TookOn which r old.a old.b a2 b2 → (listener_of which old).counts.frames < 2 ^ 61 → old.a.counts.frames ≤ 2 ^ 61
    → FillsBoth a2 b2 old.matching a3 b3 m3 → StandsFor records others given old → StandsFor records (others ++ r ∷ []) given (record { a = a3; b = b3; matching = m3 })
took-b B r records others given old a2 b2 a3 b3 m3 is w opened t few few_a fills s =
    then-b records others (others ++ r ∷ []) given old b2 a3 b3 m3 w (extends-record others r old.b b2 opened t.0.opened t.0.plan t.0.stands) few_a (let f = t.0.frames in omega arith)
    (subst (λ (a : ListenState). FillsBoth a b2 old.matching a3 b3 m3) t.1 fills) s
took-b A r records others given old a2 b2 a3 b3 m3 is w opened t few few_a fills s = absurd (cc)

pub closed-pair : (which : Which) (records others : List Record) (given : ℕ) (old : PairState) (a2 b2 a3 b3 : ListenState) (m3 : MatchingState) → wanted old.matching ≡ Some which → is_closed (listener_of which old) ≡ false → ClosedOn which old.a old.b a2 b2 → old.a.counts.frames ≤ 2 ^ 61 → old.b.counts.frames ≤ 2 ^ 61
    → FillsBoth a2 b2 old.matching a3 b3 m3 → StandsFor records others given old → StandsFor records others given (record { a = a3; b = b3; matching = m3 })
closed-pair A records others given old a2 b2 a3 b3 m3 w opened t few_a few_b fills s =
    then-a records records others given old a2 a3 b3 m3 w (extends-close records old.a a2 opened t.0.closed t.0.plan t.0.stands) (let f = t.0.frames in omega arith) few_b
    (subst (λ (b : ListenState). FillsBoth a2 b old.matching a3 b3 m3) t.1 fills) s
closed-pair B records others given old a2 b2 a3 b3 m3 w opened t few_a few_b fills s =
    then-b records others others given old b2 a3 b3 m3 w (extends-close others old.b b2 opened t.0.closed t.0.plan t.0.stands) few_a (let f = t.0.frames in omega arith)
    (subst (λ (a : ListenState). FillsBoth a b2 old.matching a3 b3 m3) t.1 fills) s

-- the listener of the side that is wanted is not closed
pub open-side : (which : Which) (QuietA QuietB : Type 0) (pair : PairState) → IsSettled (is_closed pair.a) (is_closed pair.b) QuietA QuietB pair.matching → wanted pair.matching ≡ Some which → is_closed (listener_of which pair) ≡ false
open-side A QuietA QuietB pair s w = s.open_a w
open-side B QuietA QuietB pair s w = s.open_b w

-- ---- the counts

pub counted : (records others : List Record) (given : ℕ) (pair : PairState) (QuietA QuietB : Type 0) (n : PairCounts) → StandsFor records others given pair → IsSettled (is_closed pair.a) (is_closed pair.b) QuietA QuietB pair.matching → pair.a.counts.frames ≤ 2 ^ 61 → pair.b.counts.frames ≤ 2 ^ 61 → IsIdle pair.matching
    → ((xs ys : List Presented) (g : ℕ) → IsMatched xs ys g pair.matching → n ≡ counts_of (known_of pair.matching xs ys)) → n ≡ counts_of (known_by pair records others)
counted records others given pair QuietA QuietB n s settled few_a few_b idle get =
    let m = s.matches.matched in
    get (presented_of (take s.shown_a (out pair.a records))) (presented_of (take s.shown_b (out pair.b others))) given m
    ∙ sym (idle-counts (presented_of (take s.shown_a (out pair.a records))) (presented_of (take s.shown_b (out pair.b others))) given pair.matching m idle)
    ∙ counts-all (λ list k. IsGiven records k pair.a) (λ list k. IsGiven others k pair.b) QuietA QuietB (out pair.a records) (out pair.b others) given (is_closed pair.a) (is_closed pair.b) pair.matching
    (heard records s.shown_a pair.a s.shows_a few_a) (heard others s.shown_b pair.b s.shows_b few_b) s settled idle
