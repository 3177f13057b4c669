use Rattle.std.proofs.Common.{[], ◌++◌, ◌∙◌, ◌≡◌, Err, None, Ok, arith, refl, subst, sym}
use Rattle.std.specs.Prelude.{IsSome}
use Rattle.presenter_ring.proofs.PipeLemmas.{runs_on}
use Rattle.presenter_ring.specs.declared.pipe.Round.TheVariants as round
use Rattle.run_report.proofs.Yields.{hands_nothing}
use Rattle.run_report.proofs.Leaving.{live_now}
use Rattle.capture_hearing.proofs.HearingTo.{ended_live, left_most, reading_pull, shows_none}
use Rattle.listen_command.proofs.Passing.{ends_on, gives_given, gives_none, over_at, same_result}
use Rattle.listen_command.proofs.rounds.present_all.Goals as goal

pub loop-init : goal.loop-init
loop-init g c =
    let reading = c.requires.begun.0 in
    record {
      passes = record {
        given = [];
        presented = [];
        gives = (refl, refl, shows_none _ _ _ _ reading.0 reading.1);
        hands = (refl, refl, refl, λ fine. gives_none _ fine (hands_nothing g.D.Devices.handed _));
        in_order = c.requires.pipe.0;
      };
      fine = c.requires.begun.1;
      ends = c.requires.pipe.1 ∙ sym (ended_live _ _ None reading.0 (reading_pull _ reading.1));
      room = left_most _ c.requires.pipe.2 c.args.receiver.now.hearing.now.sound;
    }

pub loop-preserved : goal.loop-preserved
loop-preserved g c =
    let before = c.loop.invariant in
    let here = c.round.ensures.moved.moved in
    let quiet = c.round.ensures.quiet (λ e. let t : round.More ≡ round.PresentFault = sym c.in-More.is ∙ e in cc) in
    record {
      passes = record {
        given = before.passes.given ++ here.given;
        presented = before.passes.presented ++ here.presented;
        gives = here.gives c.args.receiver.now before.passes.given before.passes.gives;
        hands = here.hands c.args.presenter.now before.passes.presented before.passes.hands;
        in_order = runs_on _ _ _ _ _ _ _ _ _ _ _ here before.passes.in_order;
      };
      fine = sym (same_result c.loop.presenter.result c.round.new.presenter.result (Ok tt) before.fine quiet tt);
      ends = ends_on before.ends c.round.ensures.ends;
      room = omega (arith, before.room, here.counted, here.leaves);
    }

pub returns-in-Drained : goal.returns-in-Drained
returns-in-Drained g c =
    let before = c.loop.invariant in
    let here = c.round.ensures.moved.moved in
    let shown = here.gives c.args.receiver.now before.passes.given before.passes.gives in
    let printed = here.hands c.args.presenter.now before.passes.presented before.passes.hands in
    let quiet = c.round.ensures.quiet (λ e. let t : round.Drained ≡ round.PresentFault = sym c.in-Drained.is ∙ e in cc) in
    let drained = c.round.ensures.drained c.in-Drained.is in
    record {
      same = (shown.0, shown.1, printed.0, printed.1, printed.2);
      hears = record {
        items = before.passes.given ++ here.given;
        shows = shown.2;
        gives = gives_given _ _ _ _ (Ok tt) (same_result c.loop.presenter.result c.round.new.presenter.result (Ok tt) before.fine quiet tt) (runs_on _ _ _ _ _ _ _ _ _ _ _ here before.passes.in_order) drained.empty (printed.3 c.requires.begun.1);
        over = over_at _ _ (live_now shown.2.capture.reads) (subst IsSome (ends_on before.ends c.round.ensures.ends) drained.ended);
      };
    }

pub returns-in-PresentFault : goal.returns-in-PresentFault
returns-in-PresentFault g c =
    let before = c.loop.invariant in
    let here = c.round.ensures.moved.moved in
    let shown = here.gives c.args.receiver.now before.passes.given before.passes.gives in
    let printed = here.hands c.args.presenter.now before.passes.presented before.passes.hands in
    let rose = c.round.ensures.fault c.in-PresentFault.is in
    record {
      same = (shown.0, shown.1, printed.0, printed.1, printed.2);
      hears = record {
        items = before.passes.given ++ here.given;
        shows = shown.2;
        gives = gives_given _ _ _ _ (Err _) (same_result c.loop.presenter.result c.round.new.presenter.result (Err _) before.fine tt rose) (runs_on _ _ _ _ _ _ _ _ _ _ _ here before.passes.in_order) tt (printed.3 c.requires.begun.1);
        over = tt;
      };
    }
