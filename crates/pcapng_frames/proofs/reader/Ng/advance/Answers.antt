use Rattle.std.proofs.Common.{arith, ◌∙◌, refl, sym, ap}
use Rattle.std.proofs.lemmas.Result.{err_from_is_err_and}
use Rattle.pcap_frames.proofs.Steps.{steps_none, steps_on, steps_refused}
use Rattle.pcapng_frames.proofs.Rest.{both_not, sure, sure_refused}
use Rattle.pcapng_frames.proofs.reader.Ng.advance.Goals as goal

pub loop-used-init : goal.loop-used-init
loop-used-init c = record { steps = steps_none _ c.args.piece.now c.requires.accepted; same = λ zero. refl; stuck = λ whole. refl }

pub loop-used-preserved : goal.loop-used-preserved
loop-used-preserved c =
    let i = c.loop-used.invariant in
    record {
      steps = steps_on _ _ _ _ _ _ i.steps c.in_ok-used.ensures.steps;
      same = λ zero. absurd (omega (arith, zero, c.in_ok-used.ensures.some));
      stuck = λ whole. both_not c.loop-used.self.whole (ap (λ r. r.whole) (i.same (i.stuck whole)) ∙ whole) (ap (λ r. r.whole) (sym c.self.view_is) ∙ c.if-not-self.true);
    }

pub returns-else-not-self-clause-sure : goal.returns-else-not-self-clause-sure
returns-else-not-self-clause-sure c = sure _ c.loop-used.invariant.steps.accepted (rw (← c.self.view_is) c.self.invariant.reading)

pub returns-after-loop-used-clause-sure : goal.returns-after-loop-used-clause-sure
returns-after-loop-used-clause-sure c = sure _ c.loop-used.invariant.steps.accepted (rw (← c.self.view_is) c.self.invariant.reading)

pub returns-in_err-used-clause-advances : goal.returns-in_err-used-clause-advances
returns-in_err-used-clause-advances c =
    let p = err_from_is_err_and c.from_residual.result c.from_residual.ensures.1 in
    rw (p.1, p.2) (record {
      steps = steps_refused _ _ _ _ _ _ c.loop-used.invariant.steps c.in_err-used.ensures.steps;
      nothing = tt;
      end = tt;
    })

pub returns-in_err-used-clause-sure : goal.returns-in_err-used-clause-sure
returns-in_err-used-clause-sure c = sure_refused _ _ c.in_err-used.ensures.steps.refused
