-- Two captures that are read side by side, step by step.
use Rattle.std.proofs.Common.{◌≡◌, ℕ, ◌+◌, List, [], ◌∷◌, ◌++◌, take, Some, ap, ◌∙◌, arith, None, refl, ◌≤◌, drop, sym, append-nil, false, true, ◌≢◌, Option, subst, Bool, Ok, Err, ◌<◌}
use Rattle.std.specs.Prelude.{slice_get, is_some, IsSome, option_and_then}
use Rattle.std.proofs.lemmas.Grind.{flat_map-append}
use Rattle.std.proofs.lemmas.List.{take-append-drop, take-take}
use Rattle.std.proofs.lemmas.Option.{get_or_from_slice_get, slice_get_within}
use Rattle.listener_pair.specs.declared.difference.Difference.{Difference}
use Rattle.pcap_frames.specs.Capture.{Record}
use Rattle.capture_pair.specs.Pairing.{Keeps as KeepsPair, PairState, known_by, Changes, StandsFor, listener_of, other_of, Continues, EndsAreClosed, HavePlan, wanted_by}
use Rattle.listener_pair.specs.declared.difference.Which.{Which}
use Rattle.listener_pair.specs.declared.difference.Which.TheVariants.{A, B}
use Rattle.capture_io.specs.declared.end.End.{End}
use Rattle.listener.specs.Listening.{ListenState, is_closed}
use Rattle.avtp_base.specs.declared.failed.FaultPlace.{FaultPlace}
use Rattle.avtp_base.specs.States.{ShelfState, SinkState}
use Rattle.capture_io.specs.Source.{slot_of, HasGiven, Sourcing, remains_of, EndsAfter, HasGivenOf, to_do}
use Rattle.capture_io.specs.Ends.{CountsFault, EndsAt, end_of}
use Rattle.capture_io.specs.Reads.{ReadsSlot}
use Rattle.avtp_base.specs.Files.{Open}
use Rattle.capture_io.specs.Formats.{records_in}
use Rattle.avtp_base.specs.Told.{Appends, Keeps}
use Rattle.avtp_base.proofs.Told.{Appends-kept}
use Rattle.listener_pair.specs.Differences.{differences, counts_of}
use Rattle.listener_pair.proofs.Standing.{contradicts}
use Rattle.capture_pair.proofs.Stays.{given-stays, all-known, fault-a, fault-b}
use Rattle.avtp_words.specs.Grammar.{Agreeing}
use Rattle.capture_io.proofs.Giving.{given_first}
use Rattle.listener_pair.specs.Merged.{Sided, merged, known as is_known}
use Rattle.avtp_text.specs.Written.{AppendsPrefix, written}
use Rattle.avtp_text.proofs.Samples.{one_shown}
use Rattle.avtp_base.specs.declared.failed.Failed.{Failed}
use Rattle.avtp_base.specs.Faults.{FailsAt, HasOneMore, ReadingFaults}
use Rattle.capture_io.proofs.Ending.{ends_weaker}
use Rattle.listener.specs.declared.plan.ListenPlan.{ListenPlan}
use Rattle.capture_io.specs.declared.end.End.TheVariants as end
use Rattle.run_report.proofs.Leaving.{ended_so, quiet_end, quiet_next, some_same}
use Rattle.run_report.specs.Listener.{plan_of}
use Rattle.agree_command.specs.Agree.{difference_line, difference_lines, merged_in, due_in, presented_in}
use Rattle.agree_command.specs.state.Comparing.{Takes, Shuts, is_fault, IsSideAt, IsAmidTwo, StepsTo, SideRead, StandsOn, IsComparedTo, PrintsDifferences, EndsCompared, HasCompared, IsCutIn, ReadsTwo, ReadsBoth, left_by, left_of, side_of, ReadsOn}
use Rattle.agree_command.specs.declared.comparing.Side.{Side}
use Rattle.agree_command.specs.declared.comparing.Comparing.{Comparing}
use Rattle.agree_command.proofs.TwoFiles.{two_on_a, two_on_b}
use Rattle.agree_command.specs.declared.comparing.Step.{Step}
use Rattle.agree_command.specs.declared.comparing.Ended.{Ended}
use Rattle.agree_command.specs.state.Comparing.IsCutIn.{in_a, in_b}
use Rattle.agree_command.specs.declared.comparing.Step.TheVariants as step

pub lines_next : (list : List Difference) (n : ℕ) (d : Difference) → slice_get list n ≡ Some d → difference_lines (take (n + 1) list) ≡ difference_lines (take n list) ++ difference_line d
lines_next list n d is =
    one_shown difference_line list n d (slice_get_within list n d is)
    ∙ ap (λ (x : Difference). difference_lines (take n list) ++ difference_line x) (get_or_from_slice_get list n d d is)

-- ---- a pair that gave a difference

pub known_same : (old new : PairState) (records others : List Record) → KeepsPair old new → known_by new records others ≡ known_by old records others
known_same old new records others keeps = rw (keeps.closed_a, keeps.closed_b, keeps.plan_a, keeps.plan_b) refl

pub pair_then : (a b c : PairState) → KeepsPair a b → KeepsPair b c → KeepsPair a c
pair_then a b c p q = record {
  plan_a = q.plan_a ∙ p.plan_a;
  plan_b = q.plan_b ∙ p.plan_b;
  frames_a = q.frames_a ∙ p.frames_a;
  frames_b = q.frames_b ∙ p.frames_b;
  closed_a = q.closed_a ∙ p.closed_a;
  closed_b = q.closed_b ∙ p.closed_b;
}

-- ---- a record that is taken and a reading that ends, for either side

pub takes_by : (which : Which) (r : Record) (old new : PairState) → (which ≡ A → (records others : List Record) (given : ℕ) → StandsFor records others given old → StandsFor (records ++ r ∷ []) others given new)
    → (which ≡ B → (records others : List Record) (given : ℕ) → StandsFor records others given old → StandsFor records (others ++ r ∷ []) given new) → Changes which 1 false old new → Takes which r old new
takes_by A r old new a b changes = record { stands = λ mine theirs given was. a refl mine theirs given was; changes = changes }
takes_by B r old new a b changes = record { stands = λ mine theirs given was. b refl theirs mine given was; changes = changes }

pub shuts_by : (which : Which) (old new : PairState) → ((records others : List Record) (given : ℕ) → StandsFor records others given old → StandsFor records others given new) → Changes which 0 true old new → Shuts which old new
shuts_by A old new stands changes = record { stands = λ mine theirs given was. stands mine theirs given was; changes = changes }
shuts_by B old new stands changes = record { stands = λ mine theirs given was. stands theirs mine given was; changes = changes }

pub no_fault : (how : End) → is_fault how ≡ false → how ≢ end.ReadFault
no_fault end.Whole is = λ e. cc
no_fault (end.Refused r) is = λ e. cc
no_fault end.ReadFault is = absurd cc
no_fault end.Limit is = λ e. cc

-- ---- the state of each side

-- if a listener only gave out items, the state of its side is unchanged
pub side_still : (side : Side) (old new : ListenState) → new.counts.frames ≡ old.counts.frames → is_closed new ≡ is_closed old → IsSideAt side old → IsSideAt side new
side_still side old new frames closed at = record {
  going = λ unended. let g = at.going unended in (g.0, omega (arith, g.1, frames));
  closed = closed ∙ at.closed;
  no_fault = at.no_fault;
}

-- printing differences does not change how far the captures were read
pub amid_printed : {s t : ShelfState} {first : Comparing} {a b : Side} {old new : PairState} → KeepsPair old new → IsAmidTwo s t first (record { a = a; b = b; pair = old }) → IsAmidTwo s t first (record { a = a; b = b; pair = new })
amid_printed {a = a} {b} {old} {new} keeps amid = record {
  reads = record { two = amid.reads.two; slot_a = amid.reads.slot_a; slot_b = amid.reads.slot_b };
  quiet = amid.quiet;
  a = side_still a old.a new.a keeps.frames_a keeps.closed_a amid.a;
  b = side_still b old.b new.b keeps.frames_b keeps.closed_b amid.b;
  plan_a = keeps.plan_a ∙ amid.plan_a;
  plan_b = keeps.plan_b ∙ amid.plan_b;
}

-- ---- a step

-- what a step does to the side that is read, to the listener of the other side, and to the shelf
record IsStepped (which : Which) (s t : ShelfState) (side side' : Side) (pair pair' : PairState) : Type 0 where
  pub reads : ReadsSlot s t (slot_of side.source) (slot_of side'.source)
  pub quiet : t.reading_faults ≡ s.reading_faults
  pub here : IsSideAt side' (listener_of which pair')
  pub changes : (more : ℕ) × (ended : Bool) × Changes which more ended pair pair'

none_some : {X : Type 0} {P : Type 0} (o : Option X) (x : X) → o ≡ None → o ≡ Some x → P
none_some o x none some = absurd cc

stepped : (which : Which) {s t : ShelfState} {side side' : Side} {pair pair' : PairState} (to : Step) → IsSideAt side (listener_of which pair) → side.end ≡ None → to ≢ step.Fault → to ≢ step.NoMemory
    → StepsTo which s t side side' pair pair' to → IsStepped which s t side side' pair pair'
stepped which {s} {t} {side} {side'} {pair} {pair'} step.Took at unended fault memory (none, gives, (r, held, takes)) =
    let going = at.going unended in
    record {
      reads = gives.reads;
      quiet = quiet_next side.source.ended None s.reading_faults t.reading_faults going.0 refl gives.counted;
      here = record {
        going = λ o. (gives.ended, omega (arith, takes.changes.frames, gives.less refl, going.1));
        closed = takes.changes.closed ∙ ap is_some (sym none);
        no_fault = λ e. none_some side'.end end.ReadFault none e;
      };
      changes = (1, false, takes.changes);
    }
stepped which {s} {t} {side} {side'} {pair} {pair'} (step.Ended how) at unended fault memory (is, gives, other, shuts) =
    let going = at.going unended in
    record {
      reads = gives.reads;
      quiet = quiet_end how s.reading_faults t.reading_faults other (ended_so side.source.ended how s.reading_faults t.reading_faults going.0 gives.counted);
      here = record {
        going = λ o. none_some side'.end how o is;
        closed = shuts.changes.closed ∙ ap is_some (sym is);
        no_fault = λ e. other (some_same side'.end how end.ReadFault is e);
      };
      changes = (0, true, shuts.changes);
    }
stepped which step.Fault at unended fault memory to = absurd (fault refl)
stepped which step.NoMemory at unended fault memory to = absurd (memory refl)

-- if a side's listener is not closed, the side has not ended
pub open_by : (side : Side) (listener : ListenState) → IsSideAt side listener → is_closed listener ≡ false → side.end ≡ None
open_by side listener at unended = by side.end refl where
  by : (e : Option End) → side.end ≡ e → e ≡ None
  by None is = refl
  by (Some how) is = absurd (let t : false ≡ true = sym unended ∙ at.closed ∙ ap is_some is in cc)

-- if a side's listener is closed, the side has ended
pub ended_by : (side : Side) (listener : ListenState) → IsSideAt side listener → is_closed listener ≡ true → IsSome side.end
ended_by side listener at closed = sym at.closed ∙ closed

-- ---- what was compared

side_kept : (limit : ℕ) (bytes : List ℕ) (s t : ShelfState) (source : Sourcing) (e : Option End) (records : List Record) → remains_of t source ≡ remains_of s source → SideRead limit bytes s source e records → SideRead limit bytes t source e records
side_kept limit bytes s t source None records same given = subst (λ (r : Option (List ℕ)). HasGiven limit bytes r source records) (sym same) given
side_kept limit bytes s t source (Some how) records same given = given

other_left : (s t : ShelfState) (k i : ℕ) (source : Sourcing) → ReadsSlot s t k i → slot_of source ≢ k → remains_of t source ≡ remains_of s source
other_left s t k i source reads apart = ap (λ o. left_at o) (reads.others (slot_of source) apart) where
  left_at : Option Open → Option (List ℕ)
  left_at o = option_and_then (λ (f : Open). f.left) o

-- Unless a read fault ended the reading, the bytes and the limit decide how the reading ended. If no read fault ended
-- the reading, `records` are all records within the limit.
whole_end : (how : End) (limit : ℕ) (bytes : List ℕ) (fault : FaultPlace → Type 0) (records : List Record) → how ≢ end.ReadFault → EndsAfter limit bytes fault how records → (how ≡ end_of limit bytes) × (records ≡ records_in (take limit bytes))
whole_end how limit bytes fault records other after = at how other after.prefix after.ends after.whole where
  at : (h : End) → h ≢ end.ReadFault → (prefix : List ℕ) → EndsAt limit (Some bytes) fault h prefix → records_in prefix ≡ records → (h ≡ end_of limit bytes) × (records ≡ records_in (take limit bytes))
  at end.Whole other prefix ends whole = (ends.0, sym whole ∙ ap records_in ends.1)
  at (end.Refused r) other prefix ends whole = (ends.0, sym whole ∙ ap records_in ends.1)
  at end.ReadFault other prefix ends whole = absurd (other refl)
  at end.Limit other prefix ends whole = (ends.0, sym whole ∙ ap records_in ends.1)

-- In a step, the side `which` gave the records `more` after the records `mine`, and the pair took the records `more`.
record SideOn (which : Which) (limit : ℕ) (bytes : List ℕ) (t : ShelfState) (side' : Side) (mine theirs : List Record) (given : ℕ) (pair' : PairState) : Type 0 where
  pub more : List Record
  pub read : SideRead limit bytes t side'.source side'.end (mine ++ more)
  pub stands : StandsOn which (mine ++ more) theirs given pair'

side_on : (which : Which) (s t : ShelfState) (side side' : Side) (pair pair' : PairState) (to : Step) (limit : ℕ) (bytes : List ℕ) (mine theirs : List Record) (given : ℕ) → side.end ≡ None → to ≢ step.Fault → to ≢ step.NoMemory
    → SideRead limit bytes s side.source side.end mine → StandsOn which mine theirs given pair → StepsTo which s t side side' pair pair' to → SideOn which limit bytes t side' mine theirs given pair'
side_on which s t side side' pair pair' step.Took limit bytes mine theirs given unended fault memory read stands (none, gives, (r, held, takes)) =
    let was = subst (λ (e : Option End). SideRead limit bytes s side.source e mine) unended read in
    let next = gives.given refl limit bytes mine was in
    let same = some_same _ next.0 r next.1 held in
    record {
      more = r ∷ [];
      read = subst (λ (e : Option End). SideRead limit bytes t side'.source e (mine ++ r ∷ [])) (sym none) (subst (λ (n : Record). HasGivenOf limit bytes t side'.source (mine ++ n ∷ [])) same next.2);
      stands = takes.stands mine theirs given stands;
    }
side_on which s t side side' pair pair' (step.Ended how) limit bytes mine theirs given unended fault memory read stands (is, gives, other, shuts) =
    let was = subst (λ (e : Option End). SideRead limit bytes s side.source e mine) unended read in
    let ended = whole_end how limit bytes _ mine other (gives.ends limit bytes mine was) in
    record {
      more = [];
      read = subst (λ (e : Option End). SideRead limit bytes t side'.source e (mine ++ [])) (sym is) (ended.0, append-nil mine ∙ ended.1);
      stands = subst (λ (l : List Record). StandsOn which l theirs given pair') (sym (append-nil mine)) (shuts.stands mine theirs given stands);
    }
side_on which s t side side' pair pair' step.Fault limit bytes mine theirs given unended fault memory read stands to = absurd (fault refl)
side_on which s t side side' pair pair' step.NoMemory limit bytes mine theirs given unended fault memory read stands to = absurd (memory refl)

-- a capture that a step does not read
other_kept : (limit : ℕ) (bytes : List ℕ) {t u : ShelfState} {k i : ℕ} {side side' : Side} (records : List Record) → side' ≡ side → ReadsSlot t u k i → slot_of side.source ≢ k
    → SideRead limit bytes t side.source side.end records → SideRead limit bytes u side'.source side'.end (records ++ [])
other_kept limit bytes {t} {u} {k} {i} {side} {side'} records same reads apart read =
    subst (λ (o : Side). SideRead limit bytes u o.source o.end (records ++ [])) (sym same)
    (subst (λ (l : List Record). SideRead limit bytes u side.source side.end l) (sym (append-nil records)) (side_kept limit bytes t u side.source side.end records (other_left t u k i side.source reads apart) read))

-- what was printed is still a prefix of the known differences after the pair took the records `more_a` and `more_b`
told_next : {s t : ShelfState} {c c' : Comparing} {asked : Agreeing} {x y : List ℕ} {before mid now : Option (List ℕ)} (more_a more_b : List Record) (was : IsComparedTo asked x y s c before mid) → EndsAreClosed c.pair → Continues more_a more_b c.pair c'.pair
    → SideRead asked.listener.limit x t c'.a.source c'.a.end (was.records_a ++ more_a) → SideRead asked.listener.limit y t c'.b.source c'.b.end (was.records_b ++ more_b)
    → StandsFor (was.records_a ++ more_a) (was.records_b ++ more_b) was.given c'.pair → Keeps mid now → IsComparedTo asked x y t c' before now
told_next {c = c} {c'} {before = before} {mid} {now} more_a more_b was ends go a b stands kept = record {
  records_a = was.records_a ++ more_a;
  records_b = was.records_b ++ more_b;
  given = was.given;
  a = a;
  b = b;
  stands = stands;
  printed = subst (λ (l : List Difference). Appends before now (difference_lines l)) (sym (given-stays was.records_a was.records_b more_a more_b was.given c.pair c'.pair was.stands ends go)) (Appends-kept before mid now _ was.printed kept);
}

-- ---- all records of a side

-- The list `more` has the records of a side that were not given to the pair yet. This list is empty if the listener of
-- the side is closed.
record RestOf (limit : ℕ) (bytes : List ℕ) (records : List Record) (listener : ListenState) : Type 0 where
  pub more : List Record
  pub all : records_in (take limit bytes) ≡ records ++ more
  pub none : is_closed listener ≡ true → more ≡ []

rest_of : (limit : ℕ) (bytes : List ℕ) (s : ShelfState) (source : Sourcing) (e : Option End) (records : List Record) (listener : ListenState) → is_closed listener ≡ is_some e → SideRead limit bytes s source e records → RestOf limit bytes records listener
rest_of limit bytes s source None records listener closed given =
    let first = given_first limit bytes (remains_of s source) source records given in
    record { more = first.0; all = first.1; none = λ yes. contradicts (is_closed listener) closed yes }
rest_of limit bytes s source (Some how) records listener closed given = record { more = []; all = sym given.1 ∙ sym (append-nil records); none = λ yes. refl }

-- the first `n` differences that are known now are the first `n` differences of the whole comparison
pub first_of_all : (s : ShelfState) (c : Comparing) (asked : Agreeing) (x y : List ℕ) (records others : List Record) (n given : ℕ) → n ≤ given → IsSideAt c.a c.pair.a → IsSideAt c.b c.pair.b → HavePlan (plan_of asked.listener) c.pair → EndsAreClosed c.pair
    → SideRead asked.listener.limit x s c.a.source c.a.end records → SideRead asked.listener.limit y s c.b.source c.b.end others → StandsFor records others given c.pair
    → take n (differences (known_by c.pair records others)) ≡ take n (differences (merged_in asked x y))
first_of_all s c asked x y records others n given less at_a at_b plans ends read_a read_b stands =
    let plan = plan_of asked.listener in
    let limit = asked.listener.limit in
    let a = rest_of limit x s c.a.source c.a.end records c.pair.a at_a.closed read_a in
    let b = rest_of limit y s c.b.source c.b.end others c.pair.b at_b.closed read_b in
    let shut : PairState = record { a = record c.pair.a { ended = true }; b = record c.pair.b { ended = true }; matching = c.pair.matching } in
    let go : Continues a.more b.more c.pair shut = record { plan_a = refl; plan_b = refl; closed_a = λ yes. (refl, a.none yes); closed_b = λ yes. (refl, b.none yes) } in
    let known = all-known plan (records ++ a.more) (others ++ b.more) shut (record { a = plans.a; b = plans.b }) refl refl in
    let merged : known_by shut (records ++ a.more) (others ++ b.more) ≡ merged_in asked x y = known ∙ rw (a.all, b.all) refl in
    let stays = given-stays records others a.more b.more given c.pair shut stands ends go in
    let same : take given (differences (known_by c.pair records others)) ≡ take given (differences (merged_in asked x y)) = sym stays ∙ ap (λ (l : List Sided). take given (differences l)) merged in
    sym (take-take n given (differences (known_by c.pair records others)) less) ∙ ap (take n) same ∙ take-take n given (differences (merged_in asked x y)) less

pub prefix_of_all : (list : List Difference) (n : ℕ) (before now : Option (List ℕ)) → Appends before now (difference_lines (take n list)) → AppendsPrefix before now (difference_lines list)
prefix_of_all list n before now appends = record {
  prefix = difference_lines (take n list);
  rest = difference_lines (drop n list);
  split = ap difference_lines (sym (take-append-drop n list)) ∙ flat_map-append difference_line (take n list) (drop n list);
  appends = appends;
}

-- ---- the whole comparison

-- Two captures, whose bytes are `x` and `y`, were each read up to some point. All differences known by then were
-- printed.
pub record IsAllTo (asked : Agreeing) (x y : List ℕ) (shelf : ShelfState) (c : Comparing) (before now : Option (List ℕ)) : Type 0 where
  pub to : IsComparedTo asked x y shelf c before now
  pub all : take to.given (differences (known_by c.pair to.records_a to.records_b)) ≡ differences (known_by c.pair to.records_a to.records_b)

pub told_printed : {s : ShelfState} {a b : Side} {pair pair' : PairState} {h h' : SinkState} {w w' : List ℕ} {ok : Unit} {asked : Agreeing} {x y : List ℕ} {before : Option (List ℕ)} → PrintsDifferences pair pair' h h' w w' (Ok ok)
    → IsComparedTo asked x y s (record { a = a; b = b; pair = pair }) before (written h.held w) → IsAllTo asked x y s (record { a = a; b = b; pair = pair' }) before (written h'.held w')
told_printed {pair = pair} {pair'} {h' = h'} {w' = w'} {before = before} prints was =
    let all = differences (known_by pair was.records_a was.records_b) in
    let done = prints.printed was.records_a was.records_b was.given before was.stands was.printed in
    let same : differences (known_by pair' was.records_a was.records_b) ≡ all = ap differences (known_same pair pair' was.records_a was.records_b prints.keeps) in
    let whole : take done.0 (differences (known_by pair' was.records_a was.records_b)) ≡ differences (known_by pair' was.records_a was.records_b) = subst (λ (l : List Difference). take done.0 l ≡ l) (sym same) done.1 in
    record {
      to = record {
        records_a = was.records_a;
        records_b = was.records_b;
        given = done.0;
        a = was.a;
        b = was.b;
        stands = done.2;
        printed = subst (λ (l : List Difference). Appends before (written h'.held w') (difference_lines l)) (sym same ∙ sym whole) done.3;
      };
      all = whole;
    }

pub told_failed : {s : ShelfState} {a b : Side} {pair pair' : PairState} {h h' : SinkState} {w w' : List ℕ} {e : Failed} {asked : Agreeing} {x y : List ℕ} {before : Option (List ℕ)} → PrintsDifferences pair pair' h h' w w' (Err e)
    → IsSideAt a pair'.a → IsSideAt b pair'.b → HavePlan (plan_of asked.listener) pair'
    → IsComparedTo asked x y s (record { a = a; b = b; pair = pair }) before (written h.held w) → AppendsPrefix before (written h'.held w') (difference_lines (differences (merged_in asked x y)))
told_failed {s} {a} {b} {pair} {pair'} {h' = h'} {w' = w'} {asked = asked} {x} {y} {before} prints at_a at_b plans was =
    let all = differences (known_by pair was.records_a was.records_b) in
    let done = prints.printed was.records_a was.records_b was.given before was.stands was.printed in
    let same : differences (known_by pair' was.records_a was.records_b) ≡ all = ap differences (known_same pair pair' was.records_a was.records_b prints.keeps) in
    let first = first_of_all s (record { a = a; b = b; pair = pair' }) asked x y was.records_a was.records_b done.0 (done.0 + 1) (omega arith) at_a at_b plans prints.ends was.a was.b done.1 in
    prefix_of_all (differences (merged_in asked x y)) done.0 before (written h'.held w')
    (subst (λ (l : List Difference). Appends before (written h'.held w') (difference_lines l)) (ap (take done.0) (sym same) ∙ first) done.2)

-- what was printed so far is a prefix of the whole text, whatever is read later
pub told_part : {s : ShelfState} {c : Comparing} {asked : Agreeing} {x y : List ℕ} {before now : Option (List ℕ)} → IsSideAt c.a c.pair.a → IsSideAt c.b c.pair.b → HavePlan (plan_of asked.listener) c.pair → EndsAreClosed c.pair
    → IsComparedTo asked x y s c before now → AppendsPrefix before now (difference_lines (differences (merged_in asked x y)))
told_part {s} {c} {asked} {x} {y} {before} {now} at_a at_b plans ends was =
    prefix_of_all (differences (merged_in asked x y)) was.given before now
    (subst (λ (l : List Difference). Appends before now (difference_lines l)) (first_of_all s c asked x y was.records_a was.records_b was.given was.given (omega arith) at_a at_b plans ends was.a was.b was.stands) was.printed)

pub part_kept : {before mid now : Option (List ℕ)} {text : List ℕ} → AppendsPrefix before mid text → Keeps mid now → AppendsPrefix before now text
part_kept {before} {mid} {now} {text} p keeps = record { prefix = p.prefix; rest = p.rest; split = p.split; appends = Appends-kept before mid now p.prefix p.appends keeps }

pub told_ended : {s : ShelfState} {c : Comparing} {asked : Agreeing} {x y : List ℕ} {before now : Option (List ℕ)} {ended : Ended} → IsSideAt c.a c.pair.a → IsSideAt c.b c.pair.b → HavePlan (plan_of asked.listener) c.pair
    → IsAllTo asked x y s c before now → EndsCompared c ended → HasCompared asked x y ended before now
told_ended {s} {c} {asked} {x} {y} {before} {now} at_a at_b plans told ends =
    let to = told.to in
    let limit = asked.listener.limit in
    let a = subst (λ (o : Option End). SideRead limit x s c.a.source o to.records_a) ends.a to.a in
    let b = subst (λ (o : Option End). SideRead limit y s c.b.source o to.records_b) ends.b to.b in
    let known : known_by c.pair to.records_a to.records_b ≡ merged_in asked x y =
    all-known (plan_of asked.listener) to.records_a to.records_b c.pair plans (at_a.closed ∙ ap is_some ends.a) (at_b.closed ∙ ap is_some ends.b) ∙ rw (a.1, b.1) refl in
    record {
      a = a.0;
      b = b.0;
      counts = ends.counts to.records_a to.records_b to.given to.stands ∙ ap counts_of known;
      lines = subst (λ (l : List Difference). Appends before now (difference_lines l)) (told.all ∙ ap differences known) to.printed;
    }

-- all known differences were printed, and nothing else was
all_printed : {s : ShelfState} {c : Comparing} {asked : Agreeing} {x y : List ℕ} {before mid : Option (List ℕ)} {list : List Sided} (now : Option (List ℕ)) (told : IsAllTo asked x y s c before mid) → known_by c.pair told.to.records_a told.to.records_b ≡ list → Keeps mid now
    → Appends before now (difference_lines (differences list))
all_printed {before = before} {mid} now told known kept = Appends-kept before mid now _ (subst (λ (l : List Difference). Appends before mid (difference_lines l)) (told.all ∙ ap differences known) told.to.printed) kept

-- ---- a step, for either side

-- what holds for the side `which` and for the other side holds for each side
each : (P : Which → Type 0) (which : Which) → P which → P (other_of which) → (side : Which) → P side
each P A here there A = here
each P A here there B = there
each P B here there A = there
each P B here there B = here

left_open : (side : Side) → side.end ≡ None → left_of side ≡ to_do side.source + 1
left_open side unended = ap (left_by side) unended

left_none : (side : Side) (how : End) → side.end ≡ Some how → left_of side ≡ 0
left_none side how is = ap (left_by side) is

less_side : (which : Which) (s t : ShelfState) (pair pair' : PairState) (to : Step) (side side' : Side) → side.end ≡ None → to ≢ step.Fault → to ≢ step.NoMemory → StepsTo which s t side side' pair pair' to → left_of side' < left_of side
less_side which s t pair pair' step.Took side side' unended fault memory (none, gives, taken) =
    let was = left_open side unended in
    let now = left_open side' none in
    let less = gives.less refl in
    omega (arith, was, now, less)
less_side which s t pair pair' (step.Ended how) side side' unended fault memory (is, gives, other, shuts) =
    let was = left_open side unended in
    let now = left_none side' how is in
    omega (arith, was, now)
less_side which s t pair pair' step.Fault side side' unended fault memory to = absurd (fault refl)
less_side which s t pair pair' step.NoMemory side side' unended fault memory to = absurd (memory refl)

pub plans_of : {s t : ShelfState} {first c : Comparing} {plan : ListenPlan} → IsAmidTwo s t first c → HavePlan plan first.pair → HavePlan plan c.pair
plans_of amid plans = record { a = amid.plan_a ∙ plans.a; b = amid.plan_b ∙ plans.b }

module _ {s t : ShelfState} {first c : Comparing} (amid : IsAmidTwo s t first c) where
  at_side : (which : Which) → IsSideAt (side_of which c) (listener_of which c.pair)
  at_side A = amid.a
  at_side B = amid.b

  unended_on : (which : Which) → is_closed (listener_of which c.pair) ≡ false → (side_of which c).end ≡ None
  unended_on which listens = open_by (side_of which c) (listener_of which c.pair) (at_side which) listens

  two_on : {u : ShelfState} {i : ℕ} (which : Which) → ReadsSlot t u (slot_of (side_of which c).source) i → ReadsTwo s u (slot_of first.a.source) (slot_of first.b.source)
  two_on A reads = two_on_a amid.reads.two amid.reads.slot_a reads
  two_on B reads = two_on_b amid.reads.two amid.reads.slot_b reads

  slots_on : {u : ShelfState} {c' : Comparing} (which : Which) → ReadsTwo s u (slot_of first.a.source) (slot_of first.b.source) → slot_of (side_of which c').source ≡ slot_of (side_of which c).source → side_of (other_of which) c' ≡ side_of (other_of which) c → ReadsBoth s u first c'
  slots_on {u} {c'} which two slot same =
      let slots = each (λ (side : Which). slot_of (side_of side c').source ≡ slot_of (side_of side c).source) which slot (ap (λ (side : Side). slot_of side.source) same) in
      record { two = two; slot_a = slots A ∙ amid.reads.slot_a; slot_b = slots B ∙ amid.reads.slot_b }

  -- after a step that reads one of the captures, both files are still open
  reads_on : {u : ShelfState} {c' : Comparing} (which : Which) → ReadsSlot t u (slot_of (side_of which c).source) (slot_of (side_of which c').source) → side_of (other_of which) c' ≡ side_of (other_of which) c → ReadsBoth s u first c'
  reads_on which reads same = slots_on which (two_on which reads) reads.slot same

  stepped_on : {u : ShelfState} {c' : Comparing} {h h' : SinkState} {w w' : List ℕ} (which : Which) (to : Step) → is_closed (listener_of which c.pair) ≡ false → to ≢ step.Fault → to ≢ step.NoMemory → ReadsOn which t u c c' h h' w w' (Ok to)
      → IsStepped which t u (side_of which c) (side_of which c') c.pair c'.pair
  stepped_on which to listens fault memory on = stepped which to (at_side which) (unended_on which listens) fault memory on.here.steps

  pub amid_on : {u : ShelfState} {c' : Comparing} {h h' : SinkState} {w w' : List ℕ} (which : Which) (to : Step) → is_closed (listener_of which c.pair) ≡ false → to ≢ step.Fault → to ≢ step.NoMemory → ReadsOn which t u c c' h h' w w' (Ok to) → IsAmidTwo s u first c'
  amid_on {u} {c'} which to listens fault memory on =
      let done = stepped_on which to listens fault memory on in
      let changes = done.changes.2 in
      let other = other_of which in
      let there = subst (λ (side : Side). IsSideAt side (listener_of other c'.pair)) (sym on.other) (side_still (side_of other c) (listener_of other c.pair) (listener_of other c'.pair) changes.other_frames changes.other_closed (at_side other)) in
      let sides = each (λ (side : Which). IsSideAt (side_of side c') (listener_of side c'.pair)) which done.here there in
      record { reads = reads_on which done.reads on.other; quiet = done.quiet ∙ amid.quiet; a = sides A; b = sides B; plan_a = changes.plan_a ∙ amid.plan_a; plan_b = changes.plan_b ∙ amid.plan_b }

  -- after each step, less is left to read
  pub less_on : {u : ShelfState} {c' : Comparing} {h h' : SinkState} {w w' : List ℕ} (which : Which) (to : Step) → is_closed (listener_of which c.pair) ≡ false → to ≢ step.Fault → to ≢ step.NoMemory → ReadsOn which t u c c' h h' w w' (Ok to) → left_of c'.a + left_of c'.b < left_of c.a + left_of c.b
  less_on {u} {c'} which to listens fault memory on =
      by which (less_side which t u c.pair c'.pair to (side_of which c) (side_of which c') (unended_on which listens) fault memory on.here.steps) (ap left_of on.other)
    where
      by : (side : Which) → left_of (side_of side c') < left_of (side_of side c) → left_of (side_of (other_of side) c') ≡ left_of (side_of (other_of side) c) → left_of c'.a + left_of c'.b < left_of c.a + left_of c.b
      by A less other = omega (arith, less, other)
      by B less other = omega (arith, less, other)

  apart_a : slot_of c.a.source ≢ slot_of c.b.source
  apart_a e = amid.reads.two.live.apart (sym amid.reads.slot_a ∙ e ∙ amid.reads.slot_b)

  pub told_on : {u : ShelfState} {c' : Comparing} {h h' : SinkState} {w w' : List ℕ} {asked : Agreeing} {x y : List ℕ} {before : Option (List ℕ)} (which : Which) (to : Step) → is_closed (listener_of which c.pair) ≡ false → EndsAreClosed c.pair → to ≢ step.Fault → to ≢ step.NoMemory → ReadsOn which t u c c' h h' w w' (Ok to)
      → IsComparedTo asked x y t c before (written h.held w) → IsComparedTo asked x y u c' before (written h'.held w')
  told_on {u} {c'} {asked = asked} {x} {y} A to listens ends fault memory on was =
      let done = stepped_on A to listens fault memory on in
      let changes = done.changes.2 in
      let gave = side_on A t u c.a c'.a c.pair c'.pair to asked.listener.limit x was.records_a was.records_b was.given (unended_on A listens) fault memory was.a was.stands on.here.steps in
      let go : Continues gave.more [] c.pair c'.pair = record { plan_a = changes.plan_a; plan_b = changes.plan_b; closed_a = λ closed. contradicts (is_closed c.pair.a) listens closed; closed_b = λ closed. (changes.other_closed ∙ closed, refl) } in
      told_next gave.more [] was ends go gave.read (other_kept asked.listener.limit y was.records_b on.other done.reads (λ e. apart_a (sym e)) was.b)
      (subst (λ (l : List Record). StandsFor (was.records_a ++ gave.more) l was.given c'.pair) (sym (append-nil was.records_b)) gave.stands) on.here.kept
  told_on {u} {c'} {asked = asked} {x} {y} B to listens ends fault memory on was =
      let done = stepped_on B to listens fault memory on in
      let changes = done.changes.2 in
      let gave = side_on B t u c.b c'.b c.pair c'.pair to asked.listener.limit y was.records_b was.records_a was.given (unended_on B listens) fault memory was.b was.stands on.here.steps in
      let go : Continues [] gave.more c.pair c'.pair = record { plan_a = changes.plan_a; plan_b = changes.plan_b; closed_a = λ closed. (changes.other_closed ∙ closed, refl); closed_b = λ closed. contradicts (is_closed c.pair.b) listens closed } in
      told_next [] gave.more was ends go (other_kept asked.listener.limit x was.records_a on.other done.reads apart_a was.a) gave.read
      (subst (λ (l : List Record). StandsFor l (was.records_b ++ gave.more) was.given c'.pair) (sym (append-nil was.records_a)) gave.stands) on.here.kept

  -- if the reading of a capture ends with a read fault, both files are still open, and the count of reading faults rose
  pub fault_on : {u : ShelfState} {c' : Comparing} {h h' : SinkState} {w w' : List ℕ} (which : Which) → is_closed (listener_of which c.pair) ≡ false → ReadsOn which t u c c' h h' w w' (Ok step.Fault) → ReadsBoth s u first c' × HasOneMore s.reading_faults u.reading_faults
  fault_on {u} which listens on =
      let gives = on.here.steps.1 in
      let going = (at_side which).going (unended_on which listens) in
      (reads_on which gives.reads on.other, subst (λ (faults : ReadingFaults). HasOneMore faults u.reading_faults) amid.quiet (ended_so (side_of which c).source.ended end.ReadFault t.reading_faults u.reading_faults going.0 gives.counted))

  pub told_fault : {u : ShelfState} {c' : Comparing} {h h' : SinkState} {w w' : List ℕ} {asked : Agreeing} {x y : List ℕ} {before : Option (List ℕ)} (which : Which) → wanted_by c.pair ≡ Some which → is_closed (listener_of which c.pair) ≡ false → EndsAreClosed c.pair → HavePlan (plan_of asked.listener) c.pair → ReadsOn which t u c c' h h' w w' (Ok step.Fault)
      → IsAllTo asked x y t c before (written h.held w) → IsCutIn asked x y (FailsAt s.reading_faults u.reading_faults) before (written h'.held w')
  told_fault {u} {asked = asked} {x} {y} A wanted listens ends plans on told =
      let to = told.to in
      let limit = asked.listener.limit in
      let after = on.here.steps.1.ends limit x to.records_a (subst (λ (o : Option End). SideRead limit x t c.a.source o to.records_a) (unended_on A listens) to.a) in
      let rest = rest_of limit y t c.b.source c.b.end to.records_b c.pair.b amid.b.closed to.b in
      let known : known_by c.pair to.records_a to.records_b ≡ is_known false true (merged (due_in asked after.prefix) (presented_in asked y)) =
      fault-a (plan_of asked.listener) to.records_a to.records_b rest.more to.given c.pair to.stands plans ends wanted listens rest.none ∙ rw (after.whole, rest.all) refl in
      in_a after.prefix (ends_weaker limit (Some x) _ (FailsAt s.reading_faults u.reading_faults) end.ReadFault after.prefix (λ place. subst (λ (faults : ReadingFaults). FailsAt faults u.reading_faults place) amid.quiet) after.ends) (all_printed _ told known on.here.kept)
  told_fault {u} {asked = asked} {x} {y} B wanted listens ends plans on told =
      let to = told.to in
      let limit = asked.listener.limit in
      let after = on.here.steps.1.ends limit y to.records_b (subst (λ (o : Option End). SideRead limit y t c.b.source o to.records_b) (unended_on B listens) to.b) in
      let rest = rest_of limit x t c.a.source c.a.end to.records_a c.pair.a amid.a.closed to.a in
      let known : known_by c.pair to.records_a to.records_b ≡ is_known true false (merged (presented_in asked x) (due_in asked after.prefix)) =
      fault-b (plan_of asked.listener) to.records_a to.records_b rest.more to.given c.pair to.stands plans ends wanted listens rest.none ∙ rw (after.whole, rest.all) refl in
      in_b after.prefix (ends_weaker limit (Some y) _ (FailsAt s.reading_faults u.reading_faults) end.ReadFault after.prefix (λ place. subst (λ (faults : ReadingFaults). FailsAt faults u.reading_faults place) amid.quiet) after.ends) (all_printed _ told known on.here.kept)

  pub memory_on : {u : ShelfState} {c' : Comparing} {h h' : SinkState} {w w' : List ℕ} (which : Which) → is_closed (listener_of which c.pair) ≡ false → ReadsOn which t u c c' h h' w w' (Ok step.NoMemory) → ReadsBoth s u first c' × (u.reading_faults ≡ s.reading_faults)
  memory_on {u} which listens on =
      let gives = on.here.steps.1 in
      let going = (at_side which).going (unended_on which listens) in
      (reads_on which gives.reads on.other, quiet_next (side_of which c).source.ended None t.reading_faults u.reading_faults going.0 refl gives.counted ∙ amid.quiet)

  pub cut_on : {u : ShelfState} {c' : Comparing} {h h' : SinkState} {w w' : List ℕ} {e : Failed} (which : Which) → ReadsOn which t u c c' h h' w w' (Err e) → ReadsBoth s u first c' × (u.reading_faults ≡ s.reading_faults)
  cut_on which on =
      let cut = on.here.cut in
      let two = subst (λ (x : ShelfState). ReadsTwo s x (slot_of first.a.source) (slot_of first.b.source)) (sym cut.0) amid.reads.two in
      (slots_on which two cut.1 on.other, ap (λ (x : ShelfState). x.reading_faults) cut.0 ∙ amid.quiet)
