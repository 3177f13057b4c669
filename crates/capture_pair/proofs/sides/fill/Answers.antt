use Rattle.std.proofs.Common.{◌≡◌, ◌∙◌, ◌⊎◌, inl, inr, ℕ, ◌+◌, ◌<◌, ◌≤◌, Bool, Option, Some, true, ap, sym, subst, arith, length}
use Rattle.std.specs.Option.{option_to_list}
use Rattle.sample_schedule.specs.declared.shown.Shown.{Shown}
use Rattle.listener_pair.specs.declared.difference.Which.{Which}
use Rattle.listener_pair.specs.Matching.{MatchingState, wanted}
use Rattle.capture_pair.specs.state.Sides.{ShrinksOn, handed, is_passed, open_sides}
use Rattle.capture_pair.proofs.Handing.{going-filled, going-next, handed-fewer, handed-less, handed-nexts, handed-passed}
use Rattle.capture_pair.proofs.sides.fill.Goals as goal

pub returns-then-not-hand_on-clause-filled : goal.returns-then-not-hand_on-clause-filled
returns-then-not-hand_on-clause-filled g c taken list other n k given s hl ho m =
    going-filled (g.S.Source.shows c.loop-which.source taken) (g.S.Source.shows c.next_out-next.new.self taken) c.args.which list other k given c.loop-which.matching c.hand_on.new.matching c.next_out-next.result c.has_ended-ended.result hl ho
    c.loop-which.invariant.wants (sym c.hand_on.ensures.again ∙ c.if-not-hand_on.true) (λ i. c.next_out-next.ensures.given taken list i) (λ i. c.next_out-next.ensures.shows taken list i) (c.hand_on.ensures.handed ∙ ap (handed c.args.which c.next_out-next.result c.has_ended-ended.result) c.take_spent-spent.ensures)
    (c.loop-which.invariant.going taken list other n k given s hl ho m)

-- after the next item is given to the matching, no more is left to do
shrinks-on : (which : Which) (next : Option Shown) (ended : Bool) (m : MatchingState) (most was is : ℕ) → wanted m ≡ Some which → was ≤ most → is + length (option_to_list next) ≤ was
    → ShrinksOn which most is m (handed which next ended m)
shrinks-on which next ended m most was is wants first less = record {
  less = let h = handed-less which next ended m was is wants less in omega arith;
  fewer = λ w. wider (handed-fewer which next ended m was is wants less);
  nexts = let h = handed-nexts which next ended m was is less in omega arith;
}
  where
    wider : (wanted (handed which next ended m) ≡ Some which) ⊎ (is + open_sides (handed which next ended m) < was + open_sides m)
        → (wanted (handed which next ended m) ≡ Some which) ⊎ (is + open_sides (handed which next ended m) < most + open_sides m)
    wider (inl w) = inl w
    wider (inr lt) = inr (omega arith)

pub returns-then-not-hand_on-clause-shrinks : goal.returns-then-not-hand_on-clause-shrinks
returns-then-not-hand_on-clause-shrinks g c =
    let i = c.loop-which.invariant in
    let next = c.next_out-next.result in
    let ended = c.has_ended-ended.result in
    let most = g.S.Source.work c.args.source.now in
    let is = g.S.Source.work c.next_out-next.new.self in
    let to = c.hand_on.ensures.handed ∙ ap (handed c.args.which next ended) c.take_spent-spent.ensures in
    let on = shrinks-on c.args.which next ended c.loop-which.matching most (g.S.Source.work c.loop-which.source) is i.wants i.less c.next_out-next.ensures.less in
    subst (λ (m : MatchingState). ShrinksOn c.args.which most is m c.hand_on.new.matching) i.matching
    (subst (λ (m : MatchingState). ShrinksOn c.args.which most is c.loop-which.matching m) (sym to) on)

pub loop-which-preserved : goal.loop-which-preserved
loop-which-preserved g c =
    let p : is_passed c.next_out-next.result ≡ true = sym c.hand_on.ensures.again ∙ c.if-not-hand_on.false in
    let same : c.hand_on.new.matching ≡ c.loop-which.matching = (c.hand_on.ensures.handed ∙ ap (handed c.args.which c.next_out-next.result c.has_ended-ended.result) c.take_spent-spent.ensures) ∙ handed-passed c.args.which c.next_out-next.result c.has_ended-ended.result c.loop-which.matching p in
    record {
      matching = same ∙ c.loop-which.invariant.matching;
      which = c.loop-which.invariant.which;
      wants = ap wanted same ∙ c.loop-which.invariant.wants;
      kept = c.next_out-next.ensures.kept ∙ c.loop-which.invariant.kept;
      less = let a = c.next_out-next.ensures.less in let b = c.loop-which.invariant.less in omega arith;
      going = λ taken list other n k given s hl ho m.
          going-next (g.S.Source.shows c.loop-which.source taken) (g.S.Source.shows c.next_out-next.new.self taken) c.args.which list other k given c.loop-which.matching c.hand_on.new.matching c.next_out-next.result c.has_ended-ended.result hl ho
          c.loop-which.invariant.wants (λ i. c.next_out-next.ensures.given taken list i) (λ i. c.next_out-next.ensures.shows taken list i) (c.hand_on.ensures.handed ∙ ap (handed c.args.which c.next_out-next.result c.has_ended-ended.result) c.take_spent-spent.ensures) (c.loop-which.invariant.going taken list other n k given s hl ho m);
    }
