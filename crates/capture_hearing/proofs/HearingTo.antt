-- What a hearing has shown so far, step by step.
use Rattle.std.proofs.Common.{◌≡◌, ◌+◌, List, ◌++◌, length, Option, Some, None, sym, subst, append-nil, ℕ, ◌≤◌, take, arith, length-take, ◌∙◌, inl, inr, false, refl, ap, length-append, true, [], ◌∷◌, append_assoc, ◌^◌, Ok}
use Rattle.std.specs.Prelude.{slice_get, is_some, IsSome}
use Rattle.std.specs.Option.{option_to_list}
use Rattle.std.proofs.lemmas.Bool.{cases_lt}
use mathlib.Core.List.{IsPrefix}
use Rattle.sample_schedule.specs.declared.shown.Shown.{Shown}
use Rattle.sample_schedule.proofs.GivenLemmas.{prefix-more, prefix-all}
use Rattle.pcap_frames.specs.Capture.{Record}
use Rattle.listener.specs.Listening.{GivesNext as GivesItem, ListenState, StandsFor, TakesRecord, is_closed, out}
use Rattle.listener.proofs.Few.{few}
use Rattle.listener.proofs.Places.{presented-or-flagged}
use Rattle.capture_io.specs.Source.{Sourcing, GivesNext, HasGiven, held_in, slot_of, to_do}
use Rattle.capture_io.specs.declared.end.End.{End}
use Rattle.avtp_base.specs.Files.{Open, left_in}
use Rattle.presenter_ring.specs.declared.receiver.Pull.{Pull}
use Rattle.avtp_base.specs.States.{ShelfState}
use Rattle.listener.proofs.Listened.{out_same, out_further, out_at_end}
use Rattle.listener.proofs.Fed.{prefix_twice}
use Rattle.avtp_base.specs.Faults.{FailsAt, ReadingFaults}
use Rattle.capture_io.specs.Ends.{CountsFault}
use Rattle.capture_io.proofs.Ending.{after_weaker}
use Rattle.capture_io.proofs.Giving.{given_first}
use Rattle.capture_io.proofs.Leaving.{reads_then, reads_nothing}
use Rattle.capture_io.specs.Formats.{records_in}
use Rattle.presenter_ring.specs.Pulls.{items_of}
use Rattle.capture_io.specs.declared.end.End.TheVariants as end
use Rattle.run_report.proofs.Leaving.{ended_so, live_now, quiet_next, some_same}
use Rattle.capture_hearing.specs.declared.hearing.Stage.{Stage}
use Rattle.capture_hearing.specs.Hearing.{WasGiven, IsStable, left_of, unread, IsSoundAt, has_stopped, pull_at, ended_at, Shows, is_all, closed_at, ClosesAt, GoesOn, pull_with}
use Rattle.capture_hearing.specs.declared.hearing.Stage.TheVariants.{NoMemory, Reading, Ended, Showing}

-- ---- lists

prefix_out : (xs ys : List Shown) (next : Option Shown) → IsPrefix xs ys → next ≡ slice_get ys (length xs) → IsPrefix (xs ++ option_to_list next) ys
prefix_out xs ys None first at = subst (λ (l : List Shown). IsPrefix l ys) (sym (append-nil xs)) first
prefix_out xs ys (Some x) first at = prefix-more xs ys x first (sym at)

-- ---- counts

take_length : {X : Type 0} (n : ℕ) (xs : List X) → n ≤ length xs → length (take n xs) ≡ n
take_length n xs within = omega (arith, length-take n xs)

-- The number of shown items is the number of presented items plus the number of flagged items. The number of shown
-- items is at most the number of records that the listener took.
pub shown_count : (listener : ListenState) (records : List Record) (given : ℕ) → StandsFor records given listener
    → (listener.counts.presented + listener.counts.flagged ≡ given) × (given ≤ listener.counts.frames)
shown_count listener records given stands =
    let list = out listener records in
    let sum = presented-or-flagged (take given list) in
    let most : length (out listener records) ≤ length records = few (is_closed listener) _ _ listener.plan records in
    let long = take_length given list stands.within in
    (rw stands.counts (sum ∙ long), rw stands.counts (omega (arith, stands.within, most)))

-- ---- how much is left

le_by : (a b : ℕ) → ((a ≤ b → ⊥) → ⊥) → a ≤ b
le_by a b stable = elim (cases_lt b a) [
  | inl more ↦ absurd (stable (λ within. absurd (omega (arith, more, within))))
  | inr within ↦ within
]

module _ {old new : ListenState} (count : ℕ) (stable : IsStable old) (stands : (records : List Record) (given : ℕ) → StandsFor records given old → (others : List Record) × StandsFor others (given + count) new) where
  pub stable_on : IsStable new
  stable_on none = stable (λ sound. let on = stands sound.records sound.given sound.stands in none (record { records = on.0; given = sound.given + count; stands = on.1 }))

  pub left_on : (s s' : Stage) (source source' : Sourcing) → new.counts.frames + unread s' source' ≤ old.counts.frames + unread s source → left_of s' source' new + count ≤ left_of s source old
  left_on s s' source source' fewer =
      le_by (left_of s' source' new + count) (left_of s source old) (λ over. stable (λ sound. over (left_by sound))) where
        left_by : WasGiven old → left_of s' source' new + count ≤ left_of s source old
        left_by sound =
            let on = stands sound.records sound.given sound.stands in
            let before = shown_count old sound.records sound.given sound.stands in
            let after = shown_count new on.0 (sound.given + count) on.1 in
            omega (arith, before.0, before.1, after.0, after.1, fewer)

pub stands_still : {old new : ListenState} (more : List Record) → ((records : List Record) (given : ℕ) → StandsFor records given old → StandsFor (records ++ more) given new) → (records : List Record) (given : ℕ) → StandsFor records given old
    → (others : List Record) × StandsFor others (given + 0) new
stands_still {old} {new} more stands records given was = (records ++ more, subst (λ (n : ℕ). StandsFor (records ++ more) n new) (omega arith) (stands records given was))

pub stands_same : {old new : ListenState} → ((records : List Record) (given : ℕ) → StandsFor records given old → StandsFor records given new) → (records : List Record) (given : ℕ) → StandsFor records given old → (others : List Record) × StandsFor others (given + 0) new
stands_same {old} {new} stands records given was = (records, subst (λ (n : ℕ). StandsFor records n new) (omega arith) (stands records given was))

-- ---- stages

pub not_stopped : (source : Sourcing) (e : Option End) → source.ended ≡ e → is_some e ≡ false → source.ended ≡ None
not_stopped source None is none = is
not_stopped source (Some how) is none = absurd cc

pub going_on : (s : Stage) (how : End) → pull_at s ≡ None → s ≡ Ended how → ⊥
going_on s how going is = let e : pull_at (Ended how) ≡ None = ap pull_at (sym is) ∙ going in cc

pub live_by : (file : Option Open) (s : Stage) → ended_at file s ≡ None → IsSome file × (pull_at s ≡ None)
live_by None s e = absurd cc
live_by (Some file) s e = (refl, e)

pub ended_live : (file : Option Open) (s : Stage) (o : Option Pull) → IsSome file → pull_at s ≡ o → ended_at file s ≡ o
ended_live None s o live is = absurd cc
ended_live (Some file) s o live is = is

-- ---- one step

module _ {s t : ShelfState} {begun source : Sourcing} {first old new : ListenState} {stage : Stage} {items : List Shown} where
  shows_out : {result : Option Shown} → pull_at stage ≡ None → GivesItem old new result → Shows s t begun source first old stage items → Shows s t begun source first new stage (items ++ option_to_list result)
  shows_out {result} going next shows = record {
    capture = shows.capture;
    plan = next.keeps.plan ∙ shows.plan;
    shown = λ limit bytes given none unclosed.
        let was = shows.shown limit bytes given none unclosed in
        let more : List Shown = option_to_list result in
        record {
          records = was.records;
          first = was.first;
          read = was.read;
          stands = subst (λ (n : ℕ). StandsFor was.records n new) (sym (length-append items more)) (next.stands was.records (length items) was.stands);
          given = subst (IsPrefix (items ++ more)) (sym (out_same old new was.records next.keeps.plan next.keeps.closed)) (prefix_out items (out old was.records) result was.given (next.given was.records (length items) was.stands));
          whole = λ how is. absurd (going_on stage how going is);
        };
  }

  shows_all : (how : End) → stage ≡ Showing how → GivesItem old new None → Shows s t begun source first old stage items → Shows s t begun source first new (Ended how) items
  shows_all how is next showing =
      let shows = subst (λ (x : Stage). Shows s t begun source first old x items) is showing in
      record {
        capture = record { reads = shows.capture.reads; counted = shows.capture.counted };
        plan = next.keeps.plan ∙ shows.plan;
        shown = λ limit bytes given none unclosed.
            let was = shows.shown limit bytes given none unclosed in
            let same = out_same old new was.records next.keeps.plan next.keeps.closed in
            record {
              records = was.records;
              first = was.first;
              read = was.read;
              stands = subst (λ (n : ℕ). StandsFor was.records n new) (omega arith) (next.stands was.records (length items) was.stands);
              given = subst (IsPrefix items) (sym same) was.given;
              whole = λ how ended. prefix-all items (out old was.records) was.given (sym (next.given was.records (length items) was.stands)) ∙ sym same;
            };
      }

-- ---- the hearing goes on

-- If a step shows nothing and does not raise the number of items that can still be shown, `GoesOn` holds for the step.
pub goes_still : {t u : ShelfState} {old_source source : Sourcing} {old new : ListenState} {stage stage' : Stage}
    → ((begun : ShelfState) (first : Sourcing) (fresh : ListenState) (earlier : List Shown) → Shows begun t first old_source fresh old stage earlier → Shows begun u first source fresh new stage' earlier)
    → IsSome (u.slots (slot_of source)) → left_of stage' source new + 0 ≤ left_of stage old_source old → GoesOn t u old_source source old new stage stage' []
goes_still {u = u} {source = source} {new = new} {stage' = stage'} shows live left = record {
  shows = λ begun first fresh earlier was. subst (Shows begun u first source fresh new stage') (sym (append-nil earlier)) (shows begun first fresh earlier was);
  live = live;
  left = left;
}

pub goes_then : {s t u : ShelfState} {a b c : Sourcing} {k l m : ListenState} {x y z : Stage} {items more : List Shown} → GoesOn s t a b k l x y items → GoesOn t u b c l m y z more → GoesOn s u a c k m x z (items ++ more)
goes_then {s} {t} {u} {a} {b} {c} {k} {l} {m} {x} {y} {z} {items} {more} first second = record {
  shows = λ begun from fresh earlier was. subst (Shows begun u from c fresh m z) (append_assoc earlier items more) (second.shows begun from fresh (earlier ++ items) (first.shows begun from fresh earlier was));
  live = second.live;
  left = omega (arith, first.left, second.left, length-append items more);
}

module _ {s : ShelfState} {source : Sourcing} {old new : ListenState} {stage : Stage} (live : IsSome (s.slots (slot_of source))) (sound : IsSoundAt stage source old) where
  pub goes_out : {result : Option Shown} → pull_at stage ≡ None → GivesItem old new result → GoesOn s s source source old new stage stage (option_to_list result)
  goes_out {result} going next = record {
    shows = λ begun first fresh earlier was. shows_out going next was;
    live = live;
    left = left_on (length (option_to_list result)) sound.stable (λ records given was. (records, next.stands records given was)) stage stage source source (omega (arith, next.keeps.frames));
  }

  pub goes_over : (how : End) → stage ≡ Showing how → GivesItem old new None → GoesOn s s source source old new stage (Ended how) []
  goes_over how is next =
      goes_still (λ begun first fresh earlier was. shows_all how is next was) live (left_on 0 sound.stable (λ records given was. (records, next.stands records given was)) stage (Ended how) source source (omega (arith, next.keeps.frames)))

-- ---- one record

-- after more records, the due items still begin with the items that were due before
due_grows : (old new : ListenState) (records more : List Record) (items : List Shown) → is_closed old ≡ false → is_closed new ≡ false → new.plan ≡ old.plan → IsPrefix items (out old records) → IsPrefix items (out new (records ++ more))
due_grows old new records more items going on plan first = prefix_twice items (out old records) (out new (records ++ more)) first (out_further old new records more going on plan)

all_grows : (old new : ListenState) (records : List Record) (items : List Shown) → is_closed old ≡ false → is_closed new ≡ true → new.plan ≡ old.plan → IsPrefix items (out old records) → IsPrefix items (out new records)
all_grows old new records items going closed plan first = prefix_twice items (out old records) (out new records) first (out_at_end old new records going closed plan)

end_grows : (how : End) (old new : ListenState) (records : List Record) (items : List Shown) → is_closed old ≡ false → is_closed new ≡ is_all how → new.plan ≡ old.plan → IsPrefix items (out old records) → IsPrefix items (out new records)
end_grows end.Whole old new records items going closed plan first = all_grows old new records items going closed plan first
end_grows (end.Refused refusal) old new records items going closed plan first = all_grows old new records items going closed plan first
end_grows end.ReadFault old new records items going closed plan first = subst (IsPrefix items) (sym (out_same old new records plan (closed ∙ sym going))) first
end_grows end.Limit old new records items going closed plan first = subst (IsPrefix items) (sym (out_same old new records plan (closed ∙ sym going))) first

reads_on : {stage : Stage} {source : Sourcing} {listener : ListenState} → stage ≡ Reading → IsSoundAt stage source listener → source.ended ≡ None
reads_on {source = source} is sound = not_stopped source source.ended refl (ap (λ (x : Stage). has_stopped x source) (sym is) ∙ sound.going)

open_at : {stage : Stage} {source : Sourcing} {listener : ListenState} → stage ≡ Reading → IsSoundAt stage source listener → is_closed listener ≡ false
open_at is sound = sound.closed ∙ ap closed_at is

unread_at : {stage : Stage} (source : Sourcing) → stage ≡ Reading → unread stage source ≡ to_do source
unread_at source is = ap (λ (s : Stage). unread s source) is

-- the records of a file were being read, and then the source was asked for the next record
module _ {t u : ShelfState} {old_source source : Sourcing} {old new : ListenState} {stage : Stage} (reading : stage ≡ Reading) (sound : IsSoundAt stage old_source old) where
  module _ {s : ShelfState} {begun : Sourcing} {first : ListenState} {items : List Shown} (showing : Shows s t begun old_source first old stage items) where
    shows_record : {A B : Type 0} {x : A} (r : Record) → held_in source ≡ Some r → GivesNext t u old_source source None → TakesRecord {B = B} r old new (Ok x) → Shows s u begun source first new stage items
    shows_record r held next taken =
        let shows = subst (λ (y : Stage). Shows s t begun old_source first old y items) reading showing in
        let quiet = quiet_next old_source.ended None t.reading_faults u.reading_faults (reads_on reading sound) refl next.counted in
        subst (λ (y : Stage). Shows s u begun source first new y items) (sym reading) (record {
          capture = record { reads = reads_then shows.capture.reads next.reads; counted = quiet ∙ shows.capture.counted };
          plan = taken.plan ∙ shows.plan;
          shown = λ limit bytes given begins unclosed.
              let was = shows.shown limit bytes given begins unclosed in
              let more = next.given refl limit bytes was.records was.read in
              let is : more.0 ≡ r = some_same (held_in source) more.0 r more.1 held in
              let read = subst (λ (y : Record). HasGiven limit bytes (left_in u.slots (slot_of source)) source (was.records ++ y ∷ [])) is more.2 in
              let all = given_first limit bytes (left_in u.slots (slot_of source)) source (was.records ++ r ∷ []) read in
              record {
                records = was.records ++ r ∷ [];
                first = (all.0, sym all.1);
                read = read;
                stands = taken.stands was.records (length items) was.stands;
                given = due_grows old new was.records (r ∷ []) items (open_at reading sound) taken.open taken.plan was.given;
                whole = λ how is. absurd (going_on Reading how refl is);
              };
        })

    shows_no_memory : GivesNext t u old_source source None → new ≡ old → Shows s u begun source first new NoMemory items
    shows_no_memory next same =
        let shows = subst (λ (y : Stage). Shows s t begun old_source first old y items) reading showing in
        let quiet = quiet_next old_source.ended None t.reading_faults u.reading_faults (reads_on reading sound) refl next.counted in
        record {
          capture = record { reads = reads_then shows.capture.reads next.reads; counted = quiet ∙ shows.capture.counted };
          plan = ap (λ (l : ListenState). l.plan) same ∙ shows.plan;
          shown = λ limit bytes given begins unclosed.
              let was = shows.shown limit bytes given begins unclosed in
              record {
                records = was.records;
                first = was.first;
                read = tt;
                stands = subst (StandsFor was.records (length items)) (sym same) was.stands;
                given = subst (λ (l : ListenState). IsPrefix items (out l was.records)) (sym same) was.given;
                whole = λ how is. absurd (let e : NoMemory ≡ Ended how = is in cc);
              };
        }

    shows_end : (how : End) → GivesNext t u old_source source (Some how) → ClosesAt how old new → Shows s u begun source first new (Showing how) items
    shows_end how next shut =
        let shows = subst (λ (y : Stage). Shows s t begun old_source first old y items) reading showing in
        let same : t.reading_faults ≡ s.reading_faults = shows.capture.counted in
        record {
          capture = record { reads = reads_then shows.capture.reads next.reads; counted = subst (λ (faults : ReadingFaults). CountsFault None (Some how) faults u.reading_faults) same (ended_so old_source.ended how t.reading_faults u.reading_faults (reads_on reading sound) next.counted) };
          plan = shut.plan ∙ shows.plan;
          shown = λ limit bytes given begins unclosed.
              let was = shows.shown limit bytes given begins unclosed in
              record {
                records = was.records;
                first = was.first;
                read = after_weaker limit bytes (FailsAt t.reading_faults u.reading_faults) (FailsAt s.reading_faults u.reading_faults) how was.records (λ place. subst (λ (faults : ReadingFaults). FailsAt faults u.reading_faults place) same) (next.ends limit bytes was.records was.read);
                stands = shut.stands was.records (length items) was.stands;
                given = end_grows how old new was.records items (open_at reading sound) shut.closed shut.plan was.given;
                whole = λ how' is. absurd (let e : Showing how ≡ Ended how' = is in cc);
              };
        }

  module _ {A B : Type 0} {x : A} (r : Record) (next : GivesNext t u old_source source None) (taken : TakesRecord {B = B} r old new (Ok x)) where
    fewer : new.counts.frames + unread stage source ≤ old.counts.frames + unread stage old_source
    fewer = omega (arith, taken.frames, next.less refl, unread_at old_source reading, unread_at source reading)

    pub goes_record : held_in source ≡ Some r → GoesOn t u old_source source old new stage stage []
    goes_record held =
        goes_still (λ begun first fresh earlier shows. shows_record shows r held next taken) (live_now next.reads) (left_on 0 sound.stable (stands_still (r ∷ []) taken.stands) stage stage old_source source fewer)

    pub sound_record : IsSoundAt stage source new
    sound_record = record {
      bounded = omega (arith, sound.bounded, fewer);
      going = subst (λ (y : Stage). has_stopped y source ≡ false) (sym reading) (ap is_some next.ended);
      closed = taken.open ∙ sym (ap closed_at reading);
      stable = stable_on 0 sound.stable (stands_still (r ∷ []) taken.stands);
    }

  pub goes_no_memory : GivesNext t u old_source source None → new ≡ old → GoesOn t u old_source source old new stage NoMemory []
  goes_no_memory next same = goes_still (λ begun first fresh earlier shows. shows_no_memory shows next same) (live_now next.reads) (rw same (omega arith))

  pub goes_ended : (how : End) → GivesNext t u old_source source (Some how) → ClosesAt how old new → GoesOn t u old_source source old new stage (Showing how) []
  goes_ended how next shut =
      goes_still (λ begun first fresh earlier shows. shows_end shows how next shut) (live_now next.reads) (left_on 0 sound.stable (stands_same shut.stands) stage (Showing how) old_source source (omega (arith, shut.frames)))

pub sound_ended : {stage : Stage} {old_source source : Sourcing} {old new : ListenState} (how : End) → IsSoundAt stage old_source old → ClosesAt how old new → IsSoundAt (Showing how) source new
sound_ended how sound shut = record { bounded = omega (arith, sound.bounded, shut.frames); going = refl; closed = shut.closed; stable = stable_on 0 sound.stable (stands_same shut.stands) }

-- ---- what holds for every hearing

pub sound_on : {stage : Stage} {source : Sourcing} {old new : ListenState} {result : Option Shown} → IsSoundAt stage source old → GivesItem old new result → IsSoundAt stage source new
sound_on {result = result} sound next =
    record { bounded = omega (arith, sound.bounded, next.keeps.frames); going = sound.going; closed = next.keeps.closed ∙ sound.closed; stable = stable_on (length (option_to_list result)) sound.stable (λ records given was. (records, next.stands records given was)) }

pub sound_over : {stage : Stage} {source : Sourcing} {listener : ListenState} (how : End) → stage ≡ Showing how → IsSoundAt stage source listener → IsSoundAt (Ended how) source listener
sound_over how is sound = record { bounded = omega (arith, sound.bounded); going = refl; closed = sound.closed ∙ ap closed_at is; stable = sound.stable }

-- ---- before the first step

pub shows_none : (shelf : ShelfState) (source : Sourcing) (listener : ListenState) (stage : Stage) → IsSome (shelf.slots (slot_of source)) → stage ≡ Reading
    → Shows shelf shelf source source listener listener stage []
shows_none shelf source listener stage live is =
    subst (λ (x : Stage). Shows shelf shelf source source listener listener x []) (sym is)
    (record {
      capture = record { reads = reads_nothing shelf (slot_of source) live; counted = refl };
      plan = refl;
      shown = λ limit bytes given stands unclosed. record {
        records = [];
        first = (records_in (take limit bytes), refl);
        read = given;
        stands = stands;
        given = (out listener [], refl);
        whole = λ how ended. absurd (let e : Reading ≡ Ended how = ended in cc);
      };
    })

pub left_most : {stage : Stage} {source : Sourcing} {listener : ListenState} (given : ℕ) → given ≡ 0 → IsSoundAt stage source listener → given + left_of stage source listener ≤ 2 ^ 62
left_most given none sound = omega (arith, none, sound.bounded)

pub reading_pull : (s : Stage) → s ≡ Reading → pull_at s ≡ None
reading_pull s is = ap pull_at is

pub pull_none : (how : End) → items_of (pull_with how) ≡ []
pull_none end.Whole = refl
pull_none (end.Refused refusal) = refl
pull_none end.ReadFault = refl
pull_none end.Limit = refl
