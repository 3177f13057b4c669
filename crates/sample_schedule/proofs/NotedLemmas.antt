-- What is noted after one more entry.
use Rattle.std.proofs.Common.{◌≡◌, List, [], ◌∷◌, ◌++◌, Option, Some, None, refl, sym, ap, ◌∙◌, append-nil, subst}
use Rattle.std.specs.Option.{option_to_list}
use Rattle.std.proofs.lemmas.List.Elements.{filter_map-append}
use Rattle.std.specs.List.{cons_option, filter_map}
use Rattle.clock_track.specs.declared.clock_row.ClockRow.{ClockRow}
use Rattle.clock_track.specs.Window.{ClockState, StandsFor as StandsForRows}
use Rattle.time_unfold.specs.declared.stamp.Stamp.{Stamp}
use Rattle.time_unfold.specs.Anchors.{KeepsLast, LastStamps}
use Rattle.sample_schedule.specs.declared.entry.Entry.{Entry}
use Rattle.sample_schedule.specs.declared.noted.Noted.{Noted}
use Rattle.sample_schedule.specs.declared.plan.SchedulePlan.{SchedulePlan}
use Rattle.sample_schedule.specs.Heads.{stamp_of, stamps_of}
use Rattle.sample_schedule.specs.Noted.{HasClock, HasNoted, HasNotedClock}
use Rattle.sample_schedule.specs.Verdicts.{row_of}

one-more : {X : Type 0} (f : Entry → Option X) (entries : List Entry) (e : Entry) (o : Option X) → f e ≡ o → filter_map f (entries ++ e ∷ []) ≡ filter_map f entries ++ option_to_list o
one-more {X} f entries e o is = filter_map-append f entries (e ∷ []) ∙ ap (λ (l : List X). filter_map f entries ++ l) (as-list (f e) ∙ ap option_to_list is)
  where
    as-list : (o : Option X) → cons_option o [] ≡ option_to_list o
    as-list None = refl
    as-list (Some x) = refl

-- an item leaves the clock unchanged
clock-stays : (plan : SchedulePlan) (entries : List Entry) (e : Entry) (clock : Option ClockState) → HasClock plan entries clock → row_of e ≡ None → HasClock plan (entries ++ e ∷ []) clock
clock-stays plan entries e None h is = h
clock-stays plan entries e (Some clock) h is = record {
  asked = h.asked;
  shift = h.shift;
  rows = subst (StandsForRows clock) (sym (one-more row_of entries e None is ∙ append-nil (filter_map row_of entries))) h.rows;
}

pub notes-stamp : (plan : SchedulePlan) (entries : List Entry) (e : Entry) (stamp : Stamp) (old new : Noted) → HasNoted plan entries old → row_of e ≡ None → stamp_of e ≡ Some stamp → ((stamps : List Stamp) → KeepsLast old.stamps stamps → KeepsLast new.stamps (stamps ++ stamp ∷ []))
    → new.stamps.room ≡ old.stamps.room → new.clock ≡ old.clock → HasNoted plan (entries ++ e ∷ []) new
notes-stamp plan entries e stamp old new h item is notes room same = record {
  stamps = subst (KeepsLast new.stamps) (sym (one-more stamp_of entries e (Some stamp) is)) (notes (stamps_of entries) h.stamps);
  room = room ∙ h.room;
  clock = subst (HasClock plan (entries ++ e ∷ [])) (sym same) (clock-stays plan entries e old.clock h.clock item);
}

-- an entry without a usable stamp leaves the stamps unchanged
pub notes-none : (plan : SchedulePlan) (entries : List Entry) (e : Entry) (old new : Noted) → HasNoted plan entries old → stamp_of e ≡ None → new.stamps ≡ old.stamps → HasClock plan (entries ++ e ∷ []) new.clock → HasNoted plan (entries ++ e ∷ []) new
notes-none plan entries e old new h is same clock = record {
  stamps = subst (λ (k : LastStamps). KeepsLast k (stamps_of (entries ++ e ∷ []))) (sym same) (subst (KeepsLast old.stamps) (sym (one-more stamp_of entries e None is ∙ append-nil (stamps_of entries))) h.stamps);
  room = ap (λ (k : LastStamps). k.room) same ∙ h.room;
  clock = clock;
}

pub notes-item : (plan : SchedulePlan) (entries : List Entry) (e : Entry) (noted : Noted) → HasNoted plan entries noted → row_of e ≡ None → stamp_of e ≡ None → HasNoted plan (entries ++ e ∷ []) noted
notes-item plan entries e noted h item is = notes-none plan entries e noted noted h is refl (clock-stays plan entries e noted.clock h.clock item)

pub clock-none : (plan : SchedulePlan) (entries more : List Entry) (clock : Option ClockState) → HasClock plan entries clock → clock ≡ None → HasClock plan more clock
clock-none plan entries more clock h is = subst (HasClock plan more) (sym is) (subst (HasClock plan entries) is h)

pub clock-some : (plan : SchedulePlan) (entries : List Entry) (clock : Option ClockState) (there : ClockState) → HasClock plan entries clock → clock ≡ Some there → HasNotedClock plan entries there
clock-some plan entries clock there h is = subst (HasClock plan entries) is h

pub notes-row : (plan : SchedulePlan) (entries : List Entry) (e : Entry) (row : ClockRow) (old new : ClockState) → HasNotedClock plan entries old → row_of e ≡ Some row → ((rows : List ClockRow) → StandsForRows old rows → StandsForRows new (rows ++ row ∷ [])) → new.shift ≡ old.shift
    → HasNotedClock plan (entries ++ e ∷ []) new
notes-row plan entries e row old new h is notes same = record {
  asked = h.asked;
  shift = same ∙ h.shift;
  rows = subst (StandsForRows new) (sym (one-more row_of entries e (Some row) is)) (notes (filter_map row_of entries) h.rows);
}
