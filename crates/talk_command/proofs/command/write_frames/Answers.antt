use Rattle.std.proofs.Common.{refl, subst, ◌≡◌, sym, arith, Err, Some, ap, ◌∙◌, ◌+◌, ◌++◌, ℕ, List, Ok, take, length}
use Rattle.std.specs.Prelude.{slice_get, option_map, map}
use Rattle.std.proofs.lemmas.Int.{ints}
use Rattle.capture_io.specs.CaptureWriting.{HoldsCapture}
use Rattle.talker.specs.Frames.{frames, SentFrame, record_of}
use Rattle.avtp_files.specs.ShelfCalls.{IsMadeIn}
use Rattle.capture_io.proofs.Making.{writes_then}
use Rattle.talker.specs.Turns.{turn_of}
use mir.Val.{of_z, to_z}
use mir.Syntax.{w64}
use Rattle.run_report.proofs.Sending.{frames_none, writes_nothing, turned_size, writes_err, frames_fewer, frames_more}
use Rattle.run_report.specs.Made.{WritesFrames}
use Rattle.run_report.proofs.Leaving.{on_err}
use Rattle.talk_command.proofs.command.write_frames.Goals as goal

pub loop-turn-init : goal.loop-turn-init
loop-turn-init g c = record {
  plan = refl;
  input = refl;
  added = λ files name records holds. subst (HoldsCapture files _ _ name) (frames_none (frames c.args.talker.now.plan c.args.talker.now.input) c.args.talker.now.given records c.requires.begun) holds;
  writes = writes_nothing _ _ c.requires.made;
}

pub add-requires : goal.add-requires
add-requires g c =
    let is = c.in-Some.ensures.turn in
    let turn = c.in-Some.turn in
    let talker = c.loop-turn.talker in
    let writes = c.loop-turn.invariant.writes in
    let at : to_z w64 (of_z w64 turn.arrival) ≡ turn.arrival = omega (arith, ints, is.begun, is.ended) in
    record {
      made = subst (IsMadeIn (g.F.Shelf.state c.loop-turn.shelf).slots) (sym writes.slot) writes.made;
      begun = rw at is.begun;
      ended = rw at is.ended;
      size = omega (arith, turned_size (slice_get (frames talker.plan talker.input) talker.given) turn is.next, is.most);
    }

pub returns-in_err-add : goal.returns-in_err-add
returns-in_err-add g c =
    let before = c.loop-turn.invariant in
    let added = c.in_err-add.ensures in
    on_err (WritesFrames (frames c.args.talker.now.plan c.args.talker.now.input) _ _ _ _ _) c.from_residual.result c.from_residual.ensures.0 (λ e. record {
      added = tt;
      part = λ files name records holds. (c.loop-turn.talker.given, added.kept files name _ (before.added files name records holds));
      writes = writes_err (writes_then {result = Err c.in_err-add.field-0.0} before.writes added.writes);
    })

pub loop-turn-smaller : goal.loop-turn-smaller
loop-turn-smaller g c =
    let on = c.go_on.ensures in
    let before = c.loop-turn.invariant in
    let here : option_map turn_of (slice_get (frames c.args.talker.now.plan c.args.talker.now.input) c.loop-turn.talker.given) ≡ Some c.in-Some.turn = rw (← before.plan, ← before.input) c.in-Some.ensures.turn.next in
    (frames_fewer (frames c.args.talker.now.plan c.args.talker.now.input) c.loop-turn.talker.given c.go_on.new.self.given c.in-Some.turn here (ap (λ (t : _). t.given) on ∙ (rw (before.plan, before.input) refl))).1

pub loop-turn-preserved : goal.loop-turn-preserved
loop-turn-preserved g c =
    let before = c.loop-turn.invariant in
    let added = c.in_ok-add.ensures in
    let on = c.go_on.ensures in
    let all : List SentFrame = frames c.args.talker.now.plan c.args.talker.now.input in
    let given : ℕ = c.loop-turn.talker.given in
    let turn = c.in-Some.turn in
    let is = c.in-Some.ensures.turn in
    let at : to_z w64 (of_z w64 turn.arrival) ≡ turn.arrival = omega (arith, ints, is.begun, is.ended) in
    let here : option_map turn_of (slice_get all given) ≡ Some turn = rw (← before.plan, ← before.input) is.next in
    let next : c.go_on.new.self.given ≡ given + 1 = (frames_fewer all given c.go_on.new.self.given turn here (ap (λ (t : _). t.given) on ∙ (rw (before.plan, before.input) refl))).0 in
    record {
      plan = ap (λ (t : _). t.plan) on ∙ before.plan;
      input = ap (λ (t : _). t.input) on ∙ before.input;
      added = λ files name records holds.
          let one = rw (at, before.plan, before.input) at (added.added files name _ (before.added files name records holds)) in
          subst (HoldsCapture files _ _ name) (frames_more all given turn records here ∙ ap (λ (n : ℕ). records ++ map record_of (take n all)) (sym next)) one;
      writes = writes_then {result = Ok tt} before.writes added.writes;
    }

pub returns : goal.returns
returns g c =
    let before = c.loop-turn.invariant in
    let all : c.loop-turn.talker.given ≡ length (frames c.args.talker.now.plan c.args.talker.now.input) = c.in_default.ensures.end ∙ (rw (before.plan, before.input) refl) in
    record { added = rw all at before.added; part = tt; writes = before.writes }
