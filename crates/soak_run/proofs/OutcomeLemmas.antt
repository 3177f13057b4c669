-- Each delivery is an item with samples at a known rate. So a delivery can be flagged only for one of the counted
-- reasons.
use Rattle.std.proofs.Common.{◌≡◌, ℕ, ℤ, zero, suc, ◌+◌, Bool, true, false, cond, List, [], ◌∷◌, ◌++◌, length, map, Option, Some, None, refl, sym, subst, arith}
use Rattle.std.specs.Prelude.{◌==◌, count_by, if◌then◌else◌, slice_get, Result, Ok, Err, option_and_then}
use Rattle.std.specs.List.{AllByRecursion}
use Rattle.std.proofs.lemmas.List.Sums.{sum_by-cons}
use Rattle.time_unfold.specs.declared.head_rule.Head.{Head}
use Rattle.sample_schedule.specs.declared.accepted.Accepted.{Accepted}
use Rattle.sample_schedule.specs.declared.entry.Entry.{Entry}
use Rattle.sample_schedule.specs.declared.entry.Entry.TheVariants.{Item as OfItem, Clock as OfClock}
use Rattle.sample_schedule.specs.declared.item.Item.{Item}
use Rattle.sample_schedule.specs.declared.item.Item.TheVariants.{Packet as OfPacket, Unit as OfUnit, Bad as OfBad}
use Rattle.sample_schedule.specs.declared.item.Packet.{Packet}
use Rattle.sample_schedule.specs.declared.plan.SchedulePlan.{SchedulePlan}
use Rattle.sample_schedule.specs.declared.shown.Reason.{Reason}
use Rattle.sample_schedule.specs.declared.shown.Reason.TheVariants.{Empty, Full, Late, NoRate, Repeat, Uncertain, Untimed}
use Rattle.sample_schedule.specs.declared.shown.Shown.{Shown}
use Rattle.sample_schedule.specs.declared.shown.Shown.TheVariants.{Present, Flag}
use Rattle.sample_schedule.specs.Batches.{Presented}
use Rattle.sample_schedule.specs.Heads.{head_of}
use Rattle.sample_schedule.specs.Schedule.{Given, Presents, Flags, accepted, flag_by, given, judged, now_at, prefix_of, shown, shown_of, step, steps, verdict_at}
use Rattle.sample_schedule.specs.Verdicts.{Clock, counted_from, decided, timed, verdict}
use Rattle.listener.specs.Heard.{is_flag, is_present}
use Rattle.soak_run.specs.Outcomes.{is_full, is_late, is_repeat, is_untimed, outcomes, total}

abbrev counted : Bool → ℕ
counted b = cond b 1 0

-- ---- the reasons

-- the reason is one of those that are counted
abbrev pub IsCountedReason : Reason → Type 0
IsCountedReason Late = Unit {0}
IsCountedReason Repeat = Unit {0}
IsCountedReason Untimed = Unit {0}
IsCountedReason Full = Unit {0}
IsCountedReason reason = ⊥

abbrev pub IsCountedShown : Shown → Type 0
IsCountedShown (Present batch) = Unit {0}
IsCountedShown (Flag frame seq reason) = IsCountedReason reason

abbrev pub IsCountedGiven : Given → Type 0
IsCountedGiven (Presents a) = Unit {0}
IsCountedGiven (Flags place item reason) = IsCountedReason reason

-- the packet has samples at a known rate, and its timestamp is not marked as uncertain
pub record IsSound (p : Packet) : Type 0 where
  pub certain : p.tu ≡ false
  pub some : (p.count == 0) ≡ false
  pub rate : (p.rate == 0) ≡ false

pub record IsSoundEntry (e : Entry) : Type 0 where
  pub packet : Packet
  pub is : e ≡ OfItem (OfPacket packet)
  pub sound : IsSound packet

-- ---- a verdict that rejects an item has one of the counted reasons

abbrev ErrsSo : Result Accepted Reason → Type 0
ErrsSo (Ok a) = Unit {0}
ErrsSo (Err reason) = IsCountedReason reason

abbrev ErrsUntimed : Result Presented Reason → Type 0
ErrsUntimed (Ok batch) = Unit {0}
ErrsUntimed (Err reason) = reason ≡ Untimed

from_head : (clock : Clock) (plan : SchedulePlan) (prefix : List Entry) (p : Packet) (head : Option Head) → plan.clock ≡ false → ErrsUntimed (counted_from clock plan prefix p head)
from_head clock plan prefix p None none = refl
from_head clock plan prefix p (Some head) none = rw none tt

rows_so : (uncertain empty unrated : Bool) (r : Result Presented Reason) → uncertain ≡ false → empty ≡ false → unrated ≡ false → ErrsUntimed r
    → ErrsUntimed (if uncertain then Err Uncertain else if empty then Err Empty else if unrated then Err NoRate else r)
rows_so false false false r a b c so = so
rows_so false false true r a b c so = absurd cc
rows_so false true unrated r a b c so = absurd cc
rows_so true empty unrated r a b c so = absurd cc

timed_so : (clock : Clock) (plan : SchedulePlan) (prefix : List Entry) (p : Packet) → plan.clock ≡ false → IsSound p → ErrsUntimed (timed clock plan prefix (OfPacket p))
unfolding timed
timed_so clock plan prefix p none sound =
    rows_so p.tu (p.count == 0) (p.rate == 0) (counted_from clock plan prefix p (head_of plan prefix p)) sound.certain sound.some sound.rate (from_head clock plan prefix p (head_of plan prefix p) none)

decided_so : (late repeat full : Bool) (place : ℕ) (batch : Presented) → ErrsSo (decided late repeat full place batch)
decided_so true repeat full place batch = tt
decided_so false true full place batch = tt
decided_so false false true place batch = tt
decided_so false false false place batch = tt

verdict_so : (plan : SchedulePlan) (now : ℤ) (earlier : List Accepted) (place : ℕ) (r : Result Presented Reason) → ErrsUntimed r → ErrsSo (verdict plan now earlier place r)
unfolding verdict
verdict_so plan now earlier place (Ok batch) so = decided_so _ _ _ place batch
verdict_so plan now earlier place (Err reason) so = subst IsCountedReason (sym so) tt

-- ---- an item that is flagged is flagged for one of the counted reasons

flag_so : (i : ℕ) (item : Item) (r : Result Accepted Reason) → ErrsSo r → AllByRecursion IsCountedGiven (flag_by i (Some (OfItem item)) (Some r))
flag_so i item (Ok a) so = tt
flag_so i item (Err reason) so = (so, tt)

item_so : (clock : Clock) (plan : SchedulePlan) (es : List Entry) (i : ℕ) (earlier : List Accepted) (item : Item) → plan.clock ≡ false → IsSoundEntry (OfItem item)
    → AllByRecursion IsCountedGiven (flag_by i (Some (OfItem item)) (judged clock plan es i earlier (OfItem item)))
item_so clock plan es i earlier (OfPacket p) none sound =
    let same : p ≡ sound.packet = packets (sound.is) in
    flag_so i (OfPacket p) _ (verdict_so plan (now_at es i) earlier i _ (timed_so clock plan (prefix_of plan es i) p none (subst IsSound (sym same) sound.sound)))
  where
    packets : {q : Packet} → OfItem (OfPacket p) ≡ OfItem (OfPacket q) → p ≡ q
    packets {q} e = cc
item_so clock plan es i earlier (OfUnit u) none sound = absurd (let is = sound.is in cc)
item_so clock plan es i earlier (OfBad b) none sound = absurd (let is = sound.is in cc)

place_so : (clock : Clock) (plan : SchedulePlan) (es : List Entry) (i : ℕ) (earlier : List Accepted) (o : Option Entry) → plan.clock ≡ false → ((e : Entry) → o ≡ Some e → IsSoundEntry e)
    → AllByRecursion IsCountedGiven (flag_by i o (option_and_then (judged clock plan es i earlier) o))
place_so clock plan es i earlier None none each = tt
place_so clock plan es i earlier (Some (OfItem item)) none each = item_so clock plan es i earlier item none (each (OfItem item) refl)
place_so clock plan es i earlier (Some (OfClock arrival row)) none each = tt

both : (xs ys : List Given) → AllByRecursion IsCountedGiven xs → AllByRecursion IsCountedGiven ys → AllByRecursion IsCountedGiven (xs ++ ys)
both [] ys a b = b
both (x ∷ xs) ys a b = (a.0, both xs ys a.1 b)

presents : (accepted : List Accepted) → AllByRecursion IsCountedGiven (map Presents accepted)
presents [] = tt
presents (a ∷ rest) = (tt, presents rest)

AreSound : List Entry → Type 0
AreSound es = (i : ℕ) (e : Entry) → slice_get es i ≡ Some e → IsSoundEntry e

step_so : (clock : Clock) (plan : SchedulePlan) (es : List Entry) (i : ℕ) → plan.clock ≡ false → AreSound es → AllByRecursion IsCountedGiven (step clock plan es i)
unfolding step verdict_at AreSound
step_so clock plan es i none each =
    both _ _ (presents _) (place_so clock plan es i (accepted clock plan es i) (slice_get es i) none (each i))

steps_so : (clock : Clock) (plan : SchedulePlan) (es : List Entry) (n : ℕ) → plan.clock ≡ false → AreSound es → AllByRecursion IsCountedGiven (steps clock plan es n)
unfolding steps
steps_so clock plan es zero none each = tt
steps_so clock plan es (suc i) none each = both _ _ (steps_so clock plan es i none each) (step_so clock plan es i none each)

given_so : (clock : Clock) (plan : SchedulePlan) (es : List Entry) → plan.clock ≡ false → AreSound es → AllByRecursion IsCountedGiven (given clock plan es)
unfolding given
given_so clock plan es none each = both _ _ (steps_so clock plan es (length es) none each) (presents _)

one_shown : (g : Given) → IsCountedGiven g → IsCountedShown (shown_of g)
one_shown (Presents a) so = tt
one_shown (Flags place item reason) so = so

all_shown : (gs : List Given) → AllByRecursion IsCountedGiven gs → AllByRecursion IsCountedShown (map shown_of gs)
all_shown [] so = tt
all_shown (g ∷ gs) so = (one_shown g so.0, all_shown gs so.1)

pub shown_so : (clock : Clock) (plan : SchedulePlan) (es : List Entry) → plan.clock ≡ false → ((i : ℕ) (e : Entry) → slice_get es i ≡ Some e → IsSoundEntry e) → AllByRecursion IsCountedShown (shown clock plan es)
unfolding AreSound
shown_so clock plan es none each = all_shown (given clock plan es) (given_so clock plan es none each)

-- ---- each item is counted

count_first : (p : Shown → Bool) (x : Shown) (xs : List Shown) → count_by p (x ∷ xs) ≡ counted (p x) + count_by p xs
count_first p x xs = sum_by-cons (λ (y : Shown). counted (p y)) x xs

once : (x : Shown) → IsCountedShown x → counted (is_present x) + counted (is_late x) + counted (is_repeat x) + counted (is_untimed x) + counted (is_full x) ≡ counted (is_present x) + counted (is_flag x)
once (Present batch) so = refl
once (Flag frame seq Late) so = refl
once (Flag frame seq Repeat) so = refl
once (Flag frame seq Untimed) so = refl
once (Flag frame seq Full) so = refl
once (Flag frame seq reason) so = absurd so

pub total_all : (d : ℕ) (list : List Shown) → AllByRecursion IsCountedShown list → total (outcomes d list) ≡ count_by is_present list + count_by is_flag list
total_all d [] so = refl
total_all d (x ∷ list) so =
    omega (
      arith,
      once x so.0,
      count_first is_present x list,
      count_first is_late x list,
      count_first is_repeat x list,
      count_first is_untimed x list,
      count_first is_full x list,
      count_first is_flag x list,
      total_all d list so.1,
    )
