use Rattle.std.proofs.Common.{ap, arith, sym, subst}
use Rattle.std.specs.Prelude.{IsSome}
use Rattle.am824_gateway.specs.Pieces.{Given}
use Rattle.run_report.proofs.Leaving.{on_err}
use Rattle.capture_hearing.proofs.HearingTo.{reading_pull}
use Rattle.gateway_command.proofs.TurningTo.{so_far_none, turns_unflushed, so_far_flushed, so_far_heard, still_made, turns_unprinted, turns_unwritten, done_left, so_far_given_back, so_far_put, so_far_flagged, ended_pull, turns_over}
use Rattle.gateway_command.specs.state.Turning.{Turns}
use Rattle.gateway_command.proofs.HeardBeside.{still_open}
use Rattle.gateway_command.proofs.turning.turn_records.Goals as goal

pub loop-hearing-init : goal.loop-hearing-init
loop-hearing-init g c = record {
  going = reading_pull _ c.requires.reading.1;
  few = (let none = ap (λ (x : Given). x.batches) c.requires.none in omega (arith, none, c.args.hearing.now.sound.bounded));
  so_far = so_far_none _ _ _ _ _ _ _ c.requires.open.live c.requires.open.made c.requires.reading.1;
}

pub returns-in_err-write_ahead : goal.returns-in_err-write_ahead
returns-in_err-write_ahead g c =
    let before = c.loop-hearing.invariant in
    on_err (Turns _ _ _ _ _ _ _ _ _ _ _) c.from_residual.result c.from_residual.ensures.0
    (λ e. turns_unflushed _ e c.requires.none c.loop-hearing.hearing.sound.closed c.in_err-write_ahead.ensures before.so_far)

pub next-requires : goal.next-requires
next-requires g c = let before = c.loop-hearing.invariant in (still_open before.so_far.beside, before.going)

pub put-requires-clause-made : goal.put-requires-clause-made
put-requires-clause-made g c =
    let next = rw c.in-Present.is at c.in-Item.ensures in
    still_made (so_far_heard c.requires.open.apart next.on (so_far_flushed c.in_ok-write_ahead.ensures c.loop-hearing.invariant.so_far))

pub put-requires-clause-few : goal.put-requires-clause-few
put-requires-clause-few g c = let before = c.loop-hearing.invariant in omega (arith, before.few)

pub returns-in_err-put-in-Present : goal.returns-in_err-put-in-Present
returns-in_err-put-in-Present g c =
    let next = rw c.in-Present.is at c.in-Item.ensures in
    let heard = so_far_heard c.requires.open.apart next.on (so_far_flushed c.in_ok-write_ahead.ensures c.loop-hearing.invariant.so_far) in
    on_err (Turns _ _ _ _ _ _ _ _ _ _ _) c.from_residual-in_err-put-in-Present.result c.from_residual-in_err-put-in-Present.ensures.0
    (λ e. turns_unprinted _ e c.requires.none c.next.new.self.sound.closed c.in_err-put-in-Present.ensures heard)

pub returns-in-Unwritten : goal.returns-in-Unwritten
returns-in-Unwritten g c =
    let next = rw c.in-Present.is at c.in-Item.ensures in
    let heard = so_far_heard c.requires.open.apart next.on (so_far_flushed c.in_ok-write_ahead.ensures c.loop-hearing.invariant.so_far) in
    turns_unwritten c.requires.none c.next.new.self.sound.closed (rw c.in-Unwritten.is at c.in_ok-put-in-Present.ensures) heard

pub loop-hearing-smaller-in-Present : goal.loop-hearing-smaller-in-Present
loop-hearing-smaller-in-Present g c = let back = c.give_back.ensures in rw (back.listener, back.stage, back.source) (omega (arith, c.in-Item.ensures.on.left))

pub loop-hearing-preserved-in-Present : goal.loop-hearing-preserved-in-Present
loop-hearing-preserved-in-Present g c =
    let before = c.loop-hearing.invariant in
    let next = rw c.in-Present.is at c.in-Item.ensures in
    let put = rw (done_left _ c.in_default-2.not-Unwritten) at c.in_ok-put-in-Present.ensures in
    let back = c.give_back.ensures in
    rw (back.output, back.listener, back.stage, back.source) record {
      going = next.ended;
      few = omega (arith, before.few, next.on.left, put.few);
      so_far = so_far_given_back (so_far_put put (so_far_heard c.requires.open.apart next.on (so_far_flushed c.in_ok-write_ahead.ensures before.so_far)));
    }

pub loop-hearing-smaller : goal.loop-hearing-smaller
loop-hearing-smaller g c = omega (arith, c.in-Item.ensures.on.left)

pub loop-hearing-preserved : goal.loop-hearing-preserved
loop-hearing-preserved g c =
    let before = c.loop-hearing.invariant in
    let next = rw c.in-Flag.is at c.in-Item.ensures in
    record {
      going = next.ended;
      few = omega (arith, before.few, next.on.left);
      so_far = so_far_flagged (so_far_heard c.requires.open.apart next.on (so_far_flushed c.in_ok-write_ahead.ensures before.so_far));
    }

pub returns-in_default : goal.returns-in_default
returns-in_default g c =
    let none = ended_pull c.next.result c.in_default.not-Item in
    let on = rw none.0 at c.next.ensures.on in
    let over = so_far_heard c.requires.open.apart on (so_far_flushed c.in_ok-write_ahead.ensures c.loop-hearing.invariant.so_far) in
    rw (c.turned_by.ensures, c.heard.ensures) (turns_over c.next.new.self.stage (subst IsSome (sym c.next.ensures.ended) none.1) c.requires.none c.next.new.self.sound.closed over)
