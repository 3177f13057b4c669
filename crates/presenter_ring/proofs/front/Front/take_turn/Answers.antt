use Rattle.std.proofs.Common.{rules, arith}
use Rattle.presenter_ring.proofs.FrontLemmas.{HasFed-none, HasFed-then}
use Rattle.presenter_ring.proofs.front.Front.take_turn.Goals as goal

pub loop-turn-init : goal.loop-turn-init
loop-turn-init g c = record { fed = HasFed-none _ _ _ _ _ c.requires.ready.live; pushed = omega arith; known = λ h. search rules }

pub returns-then-not-push_next : goal.returns-then-not-push_next
returns-then-not-push_next g c = record {
  fed = HasFed-then _ _ _ _ _ _ _ _ _ c.loop-turn.invariant.fed c.push_next.ensures.fed;
  stuck = search rules;
}

pub loop-turn-preserved : goal.loop-turn-preserved
loop-turn-preserved g c = record {
  fed = HasFed-then _ _ _ _ _ _ _ _ _ c.loop-turn.invariant.fed c.push_next.ensures.fed;
  pushed = search rules;
  known = λ h. absurd (omega arith);
}

pub returns-then-may_wait : goal.returns-then-may_wait
returns-then-may_wait g c = record { fed = c.loop-turn.invariant.fed; stuck = λ h. absurd (omega arith) }
