-- What both sides of a ring did, round by round.
use Rattle.std.proofs.Common.{◌≡◌, Option, Some, None, refl, sym, ap, ◌∙◌, ℕ, List, [], ◌++◌, Ok, Err, subst, append-nil, Result, arith, ◌∷◌, true, false, append_assoc}
use Rattle.std.specs.Prelude.{IsSome, OnOk, OnErr, is_err}
use Rattle.std.proofs.lemmas.Grind.{flat_map-append}
use Rattle.presenter_ring.specs.declared.pipe.Pipe.{Pipe}
use Rattle.presenter_ring.specs.declared.receiver.Pull.{Pull}
use Rattle.presenter_ring.specs.Pipes.{ended_with, EndsWith}
use Rattle.sample_schedule.specs.declared.shown.Shown.{Shown}
use Rattle.avtp_base.specs.declared.failed.Failed.{Failed}
use Rattle.avtp_base.specs.Faults.{Rose, IsCounted}
use Rattle.avtp_text.specs.Listen.{list_lines, shown_lines}
use Rattle.avtp_text.proofs.Printing.{part_none, part_as, part_then, prefix_none, part_failed}
use Rattle.avtp_base.specs.States.{SinkState}
use Rattle.avtp_text.specs.Written.{PrintsPart, Grows, written}
use Rattle.avtp_base.specs.Told.{Keeps}
use Rattle.avtp_base.proofs.Told.{Keeps-none}
use Rattle.avtp_base.specs.Files.{Open}
use Rattle.run_report.specs.Outcome.{WritesWaiting}
use Rattle.capture_hearing.specs.declared.hearing.Stage.{Stage}
use Rattle.capture_hearing.specs.Hearing.{ended_at, pull_at}
use Rattle.listen_command.specs.state.Presenting.{failures, GivesItems}

pub ends_on : {R : Type 0} {ended : R → Option Pull} {r r' : R} {a b : Pipe} → ended_with a ≡ ended r → EndsWith ended r r' a b → ended_with b ≡ ended r'
ends_on {R} {ended} {r} {r'} {a} {b} is with =
    elim (ended_with a) as (λ (e : Option Pull). ended_with a ≡ e → ended_with b ≡ ended r') [
      | None ↦ λ h. with.ends h
      | Some pull ↦ λ h. let kept = with.stays (rw h refl) in kept.0 ∙ is ∙ ap ended (sym kept.1)
    ] refl

-- a presenter that stops after its first failure returns that failure
pub same_result : (before now result : Result Unit Failed) → before ≡ Ok tt → OnOk result (failures now ≡ failures before) → OnErr result (Rose (failures before) (failures now)) → result ≡ now
same_result (Ok x) (Ok y) (Ok z) begun quiet rose = refl
same_result (Ok x) (Err e) (Ok z) begun quiet rose = absurd (omega (arith, quiet))
same_result (Ok x) (Ok y) (Err f) begun quiet rose = absurd (omega (arith, rose))
same_result (Ok x) (Err e) (Err f) begun quiet rose = refl
same_result (Err e) now result begun quiet rose = absurd cc

-- ---- the two sides of `listen`

lines_more : (items : List Shown) (x : Shown) → list_lines items ++ shown_lines x ≡ list_lines (items ++ x ∷ [])
lines_more items x = ap (λ (t : List ℕ). list_lines items ++ t) (sym (append-nil (shown_lines x))) ∙ sym (flat_map-append shown_lines items (x ∷ []))

pub gives_none : {handed : List Shown → Type 0} {h : SinkState} {w : List ℕ} (result : Result Unit Failed) → result ≡ Ok tt → handed [] → GivesItems handed h h w w result []
gives_none {handed} {h} {w} result fine none = subst (λ (r : Result Unit Failed). GivesItems handed h h w w r []) (sym fine) (record {
  prints = part_none h w tt;
  front = [];
  first = ([], refl);
  all = refl;
  hands = none;
})

module _ {handed : List Shown → Type 0} {h h' h'' : SinkState} {w w' w'' : List ℕ} where
  pub gives_one : {more : List Shown → Type 0} (items : List Shown) (x : Shown) (was result : Result Unit Failed) → is_err was ≡ false → is_err result ≡ false → (handed items → more (items ++ x ∷ []))
      → GivesItems handed h h' w w' was items → PrintsPart h' h'' w' w'' result (shown_lines x) → GivesItems more h h'' w w'' result (items ++ x ∷ [])
  gives_one items x (Ok o) (Ok p) fine printed hand first second = record {
    prints = part_as (list_lines items ++ shown_lines x) (list_lines (items ++ x ∷ [])) (lines_more items x) (part_then {ok = o} (list_lines items) (shown_lines x) first.prints second);
    front = items ++ x ∷ [];
    first = ([], append-nil (items ++ x ∷ []));
    all = refl;
    hands = hand (subst handed first.all first.hands);
  }
  gives_one items x (Ok o) (Err e) fine printed hand first second = absurd cc
  gives_one items x (Err e) result fine printed hand first second = absurd cc

  pub gives_failed : (items : List Shown) (x : Shown) (was result : Result Unit Failed) → is_err was ≡ false → is_err result ≡ true
      → GivesItems handed h h' w w' was items → PrintsPart h' h'' w' w'' result (shown_lines x) → GivesItems handed h h'' w w'' result (items ++ x ∷ [])
  gives_failed items x (Ok o) (Err e) fine failed first second = record {
    prints = part_as (list_lines items ++ shown_lines x) (list_lines (items ++ x ∷ [])) (lines_more items x) (part_then {ok = o} (list_lines items) (shown_lines x) first.prints second);
    front = items;
    first = (x ∷ [], refl);
    all = tt;
    hands = subst handed first.all first.hands;
  }
  gives_failed items x (Ok o) (Ok p) fine failed first second = absurd cc
  gives_failed items x (Err e) result fine failed first second = absurd cc

pub flushed : {h h' h'' : SinkState} {w w' w'' : List ℕ} (result : Result Unit Failed) (text : List ℕ) → PrintsPart h h' w w' (Ok tt) text → Keeps (written h'.held w') (written h''.held w'') → Grows h'.held h''.held → IsCounted h'.faults h''.faults result
    → PrintsPart h h'' w w'' result text
flushed {h' = h'} {h''} {w' = w'} {w''} (Ok o) text first kept grows counted =
    part_as (text ++ []) text (append-nil text) (part_then {ok = tt} text [] first (record { written = Keeps-none (written h'.held w') (written h''.held w'') kept; grows = grows; counted = counted }))
flushed {h' = h'} {h''} {w' = w'} {w''} (Err e) text first kept grows counted =
    part_as (text ++ []) text (append-nil text) (part_then {ok = tt} text [] first (record { written = prefix_none (written h'.held w') (written h''.held w'') [] kept; grows = grows; counted = counted }))

on_any : {A : Type 0} (result : Result Unit Failed) → A → OnOk result A
on_any (Ok o) a = a
on_any (Err e) a = tt

pub gives_flushed : {handed : List Shown → Type 0} {h h' h'' : SinkState} {w w' w'' : List ℕ} (items : List Shown) (was result : Result Unit Failed) → is_err was ≡ false
    → GivesItems handed h h' w w' was items → WritesWaiting h' h'' w' w'' result → GivesItems handed h h'' w w'' result items
gives_flushed items (Ok o) result fine first out = record {
  prints = flushed result (list_lines items) first.prints out.kept out.sink.grows out.sink.counted;
  front = first.front;
  first = first.first;
  all = on_any result first.all;
  hands = first.hands;
}
gives_flushed items (Err e) result fine first out = absurd cc

-- no item is given once the sink has failed
pub gives_no_more : {handed : List Shown → Type 0} {h h' : SinkState} {w w' : List ℕ} (items more : List Shown) (result : Result Unit Failed) → is_err result ≡ true → GivesItems handed h h' w w' result items → GivesItems handed h h' w w' result (items ++ more)
gives_no_more items more (Ok o) failed g = absurd cc
gives_no_more items more (Err e) failed g = record {
  prints = part_as (list_lines items ++ list_lines more) (list_lines (items ++ more)) (sym (flat_map-append shown_lines items more)) (part_failed {e = e} (list_lines items) (list_lines more) refl g.prints);
  front = g.front;
  first = (g.first.0 ++ more, sym (append_assoc g.front g.first.0 more) ∙ ap (λ (l : List Shown). l ++ more) g.first.1);
  all = tt;
  hands = g.hands;
}

-- Let all given items be presented, except those that wait in the pipe. If the sink failed, some may wait; if the sink
-- did not fail, let none wait. If `GivesItems` holds for the presented items, it holds for the given items, too.
pub gives_given : {handed : List Shown → Type 0} {h h' : SinkState} {w w' : List ℕ} (presented given waiting : List Shown) (now result : Result Unit Failed) → result ≡ now → presented ++ waiting ≡ given → OnOk result (waiting ≡ [])
    → GivesItems handed h h' w w' now presented → GivesItems handed h h' w w' result given
gives_given {handed} {h} {h'} {w} {w'} presented given waiting (Ok x) (Ok y) is order empty g = subst (GivesItems handed h h' w w' (Ok y)) (sym (append-nil presented) ∙ ap (λ (l : List Shown). presented ++ l) (sym empty) ∙ order) g
gives_given {handed} {h} {h'} {w} {w'} presented given waiting (Err e) (Err f) is order empty g = subst (GivesItems handed h h' w w' (Err f)) order (gives_no_more presented waiting (Err f) refl g)
gives_given presented given waiting (Ok x) (Err e) is order empty g = absurd cc
gives_given presented given waiting (Err e) (Ok x) is order empty g = absurd cc

pub over_at : (file : Option Open) (stage : Stage) → IsSome file → IsSome (ended_at file stage) → IsSome (pull_at stage)
over_at None stage live over = absurd cc
over_at (Some file) stage live over = over
