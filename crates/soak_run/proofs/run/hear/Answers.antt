use Rattle.std.proofs.Common.{length, sym, ◌∙◌}
use Rattle.soak_run.proofs.RoundLemmas.{counted_none, counted_round, counted_whole}
use Rattle.soak_run.proofs.run.hear.Goals as goal

pub loop-init : goal.loop-init
loop-init g c =
    let pipe = c.in_ok-pipe.ensures in
    let begun = c.in_ok-hearing.ensures in
    counted_none (length c.args.deliveries.now) c.in_ok-hearing.hearing c.in_ok-pipe.pipe c.of-counts.result begun.stage begun.none pipe.empty pipe.live pipe.given c.of-counts.ensures

pub round-requires-clause-live : goal.round-requires-clause-live
round-requires-clause-live g c κs within live = sym c.loop.invariant.ends ∙ live

pub round-requires-clause-room : goal.round-requires-clause-room
round-requires-clause-room g c κs within = c.loop.invariant.room

pub loop-preserved : goal.loop-preserved
loop-preserved g c =
    let round = c.round.ensures in
    counted_round _ _ c.loop.hearing c.round.new.receiver c.loop.pipe c.round.new.self c.loop.counts c.round.new.presenter c.loop.invariant round.moved.moved round.ends

pub returns-then-is_over : goal.returns-then-is_over
returns-then-is_over g c =
    let round = c.round.ensures in
    let begun = c.in_ok-hearing.ensures in
    let has = counted_round _ _ c.loop.hearing c.round.new.receiver c.loop.pipe c.round.new.self c.loop.counts c.round.new.presenter c.loop.invariant round.moved.moved round.ends in
    counted_whole _ c.args.talker c.args.deliveries.now c.in_ok-hearing.hearing c.round.new.receiver c.round.new.self c.round.new.presenter has (round.drained c.in-Drained.is) (c.is_over.ensures c.if-is_over.true) begun.talker begun.deliveries begun.plan
