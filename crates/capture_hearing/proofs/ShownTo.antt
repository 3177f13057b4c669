-- What is shown of a capture that was heard.
use Rattle.std.proofs.Common.{List, [], append-nil, ◌≡◌, refl, subst, ℕ, take, sym, ap, ◌∙◌, Option, length, arith}
use Rattle.std.proofs.lemmas.List.{take_all}
use Rattle.avtp_base.specs.declared.failed.FaultPlace.{FaultPlace}
use mathlib.Core.List.{IsPrefix}
use Rattle.pcap_frames.specs.Capture.{Record}
use Rattle.listener.specs.declared.plan.ListenPlan.{ListenPlan}
use Rattle.listener.specs.Heard.{due_of, counts_of}
use Rattle.listener.proofs.Due.{due_first, due_stays}
use Rattle.capture_io.specs.declared.end.End.{End}
use Rattle.listener.specs.Listening.{ListenState, is_closed, out}
use Rattle.sample_schedule.specs.declared.shown.Shown.{Shown}
use Rattle.listener.proofs.Fed.{prefix_twice}
use Rattle.capture_io.specs.Formats.{records_in}
use Rattle.capture_io.specs.Ends.{end_of}
use Rattle.capture_io.specs.Source.{EndsAfter, Sourcing}
use Rattle.listener.specs.declared.heard.Counts.{Counts}
use Rattle.capture_io.specs.declared.end.End.TheVariants as end
use Rattle.capture_hearing.specs.Shown.{shown_by}
use Rattle.capture_hearing.specs.Hearing.{is_all, IsShown, closed_at}
use Rattle.capture_hearing.specs.declared.hearing.Stage.{Stage}
use Rattle.capture_hearing.specs.declared.hearing.Stage.TheVariants.{Reading, Showing, Ended, NoMemory}

-- ---- what is shown

-- the items that are shown of a capture begin with the items that are due, however the reading of the capture ended
shown_first : (plan : ListenPlan) (records : List Record) (how : End) → IsPrefix (due_of plan records) (shown_by plan records how)
shown_first plan records end.Whole = due_first plan records
shown_first plan records (end.Refused refusal) = due_first plan records
shown_first plan records end.ReadFault = ([], append-nil (due_of plan records))
shown_first plan records end.Limit = ([], append-nil (due_of plan records))

out_at : (how : End) (listener : ListenState) (records : List Record) → is_closed listener ≡ is_all how → out listener records ≡ shown_by listener.plan records how
out_at end.Whole listener records closed = rw closed refl
out_at (end.Refused refusal) listener records closed = rw closed refl
out_at end.ReadFault listener records closed = rw closed refl
out_at end.Limit listener records closed = rw closed refl

due_within : (plan : ListenPlan) (items : List Shown) (records all : List Record) (how : End) → IsPrefix records all → IsPrefix items (due_of plan records) → IsPrefix items (shown_by plan all how)
due_within plan items records all how first given =
    let longer = subst (λ (rs : List Record). IsPrefix (due_of plan records) (due_of plan rs)) first.1 (due_stays plan records first.0) in
    prefix_twice items (due_of plan records) (shown_by plan all how) given (prefix_twice (due_of plan records) (due_of plan all) (shown_by plan all how) longer (shown_first plan all how))

-- the items that are shown of the whole file begin with the items that are shown of the records up to the end of the
-- reading
ended_within : (plan : ListenPlan) (limit : ℕ) (bytes : List ℕ) (fault : FaultPlace → Type 0) (items : List Shown) (records : List Record) (how : End) → IsPrefix records (records_in (take limit bytes)) → EndsAfter limit bytes fault how records
    → IsPrefix items (shown_by plan records how) → IsPrefix items (shown_by plan (records_in (take limit bytes)) (end_of limit bytes))
ended_within plan limit bytes fault items records end.ReadFault first ends given = due_within plan items records (records_in (take limit bytes)) (end_of limit bytes) first given
ended_within plan limit bytes fault items records end.Whole first ends given = let all : records ≡ records_in (take limit bytes) = sym ends.whole ∙ ap records_in ends.ends.1 in rw (sym ends.ends.0, sym all) given
ended_within plan limit bytes fault items records (end.Refused refusal) first ends given = let all : records ≡ records_in (take limit bytes) = sym ends.whole ∙ ap records_in ends.ends.1 in rw (sym ends.ends.0, sym all) given
ended_within plan limit bytes fault items records end.Limit first ends given = let all : records ≡ records_in (take limit bytes) = sym ends.whole ∙ ap records_in ends.ends.1 in rw (sym ends.ends.0, sym all) given

-- the items that were shown so far are a prefix of all items that are shown of the file
pub within : (stage : Stage) (limit : ℕ) (bytes : List ℕ) (fault : FaultPlace → Type 0) (remains : Option (List ℕ)) (source : Sourcing) (listener : ListenState) (items : List Shown) → is_closed listener ≡ closed_at stage → IsShown stage limit bytes fault remains source listener items
    → IsPrefix items (shown_by listener.plan (records_in (take limit bytes)) (end_of limit bytes))
within Reading limit bytes fault remains source listener items closed shown =
    due_within listener.plan items shown.records (records_in (take limit bytes)) (end_of limit bytes) shown.first (subst (IsPrefix items) (out_at end.Limit listener shown.records closed) shown.given)
within (Showing how) limit bytes fault remains source listener items closed shown =
    ended_within listener.plan limit bytes fault items shown.records how shown.first shown.read (subst (IsPrefix items) (out_at how listener shown.records closed) shown.given)
within (Ended how) limit bytes fault remains source listener items closed shown =
    ended_within listener.plan limit bytes fault items shown.records how shown.first shown.read (subst (IsPrefix items) (out_at how listener shown.records closed) shown.given)
within NoMemory limit bytes fault remains source listener items closed shown =
    due_within listener.plan items shown.records (records_in (take limit bytes)) (end_of limit bytes) shown.first (subst (IsPrefix items) (out_at end.Limit listener shown.records closed) shown.given)

-- The reading of a capture ended after these records; `how` says how it ended. `items` are all items that were shown by
-- then, and `counts` are the listener's counts.
pub record IsAllHeard (plan : ListenPlan) (records : List Record) (how : End) (counts : Counts) (items : List Shown) : Type 0 where
  pub items_are : items ≡ shown_by plan records how
  pub counted : counts ≡ counts_of plan records (shown_by plan records how)

pub all_heard : (plan : ListenPlan) (limit : ℕ) (bytes : List ℕ) (how : End) (fault : FaultPlace → Type 0) (remains : Option (List ℕ)) (source : Sourcing) (listener : ListenState) (items : List Shown)
    → listener.plan ≡ plan → is_closed listener ≡ is_all how → (shown : IsShown (Ended how) limit bytes fault remains source listener items) → IsAllHeard plan shown.records how listener.counts items
all_heard plan limit bytes how fault remains source listener items is closed shown =
    let all : items ≡ out listener shown.records = shown.whole how refl in
    let list : out listener shown.records ≡ shown_by plan shown.records how = out_at how listener shown.records closed ∙ ap (λ (p : ListenPlan). shown_by p shown.records how) is in
    let taken : take (length items) (out listener shown.records) ≡ shown_by plan shown.records how =
    ap (λ (l : List Shown). take (length l) (out listener shown.records)) all ∙ take_all (length (out listener shown.records)) (out listener shown.records) (omega arith) ∙ list in
    record {
      items_are = all ∙ list;
      counted = shown.stands.counts ∙ ap (λ (l : List Shown). counts_of listener.plan shown.records l) taken ∙ ap (λ (p : ListenPlan). counts_of p shown.records (shown_by plan shown.records how)) is;
    }
