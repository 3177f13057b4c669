use Rattle.std.proofs.Common.{rules}
use Rattle.capture_pair.proofs.Fed.{begun-pair, begun-settled}
use Rattle.capture_pair.proofs.pair.Pair.begin.Goals as goal

pub invariant_of-result : goal.invariant_of-result
invariant_of-result c = begun-settled c.args.plan c.in_ok-a.a c.in_ok-b.b c.in_ok-matching.matching c.in_ok-a.ensures.begun c.in_ok-b.ensures.begun c.in_ok-matching.ensures.ends.0 c.in_ok-matching.ensures.ends.1

pub returns : goal.returns
returns c = record {
  stands =
      begun-pair c.args.plan c.in_ok-a.a c.in_ok-b.b c.in_ok-matching.matching c.in_ok-a.ensures.begun c.in_ok-b.ensures.begun c.in_ok-matching.ensures.stands c.in_ok-matching.ensures.ends.0 c.in_ok-matching.ensures.ends.1;
  plan = search rules;
  «open» = search rules;
  none_a = search rules;
  none_b = search rules;
}
