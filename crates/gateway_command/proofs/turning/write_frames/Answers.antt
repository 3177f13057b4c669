use Rattle.std.proofs.Common.{sym, subst, append-nil, arith, ◌≡◌, Err, Ok}
use Rattle.std.proofs.lemmas.Int.{ints}
use Rattle.capture_io.specs.CaptureWriting.{HoldsCapture}
use Rattle.avtp_files.specs.ShelfCalls.{IsMadeIn}
use Rattle.capture_io.proofs.Making.{writes_then}
use mir.Val.{of_z, to_z}
use mir.Syntax.{w64}
use Rattle.run_report.proofs.Sending.{writes_nothing, writes_err, frames_more}
use Rattle.run_report.specs.Made.{WritesFrames}
use Rattle.run_report.proofs.Leaving.{on_err}
use Rattle.gateway_command.proofs.Putting.{piece_size}
use Rattle.gateway_command.proofs.turning.write_frames.Goals as goal

pub loop-index-init : goal.loop-index-init
loop-index-init g c = record {
  added = λ files name records holds. subst (HoldsCapture files _ _ name) (sym (append-nil records)) holds;
  writes = writes_nothing _ _ c.requires.made;
}

pub turn-turn-requires : goal.turn-turn-requires
turn-turn-requires g c = omega (arith, c.requires.number)

pub add-requires : goal.add-requires
add-requires g c =
    let turn = c.turn-turn.result in
    let is = c.turn-turn.ensures in
    let writes = c.loop-index.invariant.writes in
    let at : to_z w64 (of_z w64 turn.arrival) ≡ turn.arrival = omega (arith, ints, is.begun, is.ended) in
    record {
      made = subst (IsMadeIn (g.F.Shelf.state c.loop-index.shelf).slots) (sym writes.slot) writes.made;
      begun = rw at is.begun;
      ended = rw at is.ended;
      size = omega (arith, piece_size c.args.gateway.now c.loop-index.index turn is, is.most);
    }

pub returns-in_err-add : goal.returns-in_err-add
returns-in_err-add g c =
    let before = c.loop-index.invariant in
    let added = c.in_err-add.ensures in
    on_err (WritesFrames c.args.gateway.now.frames c.args.number _ _ _ _) c.from_residual.result c.from_residual.ensures.0 (λ e. record {
      added = tt;
      part = λ files name records holds. (c.loop-index.index, added.kept files name _ (before.added files name records holds));
      writes = writes_err (writes_then {result = Err c.in_err-add.field-0.0} before.writes added.writes);
    })

pub loop-index-preserved : goal.loop-index-preserved
loop-index-preserved g c =
    let before = c.loop-index.invariant in
    let added = c.in_ok-add.ensures in
    let turn = c.turn-turn.result in
    let is = c.turn-turn.ensures in
    let at : to_z w64 (of_z w64 turn.arrival) ≡ turn.arrival = omega (arith, ints, is.begun, is.ended) in
    record {
      added = λ files name records holds.
          let one = rw at at (added.added files name _ (before.added files name records holds)) in
          subst (HoldsCapture files _ _ name) (frames_more c.args.gateway.now.frames c.loop-index.index turn records is.is) one;
      writes = writes_then {result = Ok tt} before.writes added.writes;
    }

pub returns : goal.returns
returns g c =
    let all : c.loop-index.index ≡ c.args.number = omega arith in
    let before = rw all at c.loop-index.invariant.added in
    record { added = before; part = tt; writes = c.loop-index.invariant.writes }
