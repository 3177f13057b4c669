use Rattle.std.proofs.Common.{arith, rules}
use Rattle.capture_pair.proofs.Taking.{begun-pair, begun-settled}
use Rattle.capture_pair.proofs.record_pair.RecordPair.begin.Goals as goal

pub invariant_of-result : goal.invariant_of-result
invariant_of-result c = (
  begun-settled c.args.plan c.in_ok-a.a c.in_ok-b.b c.in_ok-matching.matching c.in_ok-a.ensures.begun c.in_ok-b.ensures.begun c.in_ok-matching.ensures.ends.0 c.in_ok-matching.ensures.ends.1,
  omega (arith, c.in_ok-a.ensures.begun.none),
  omega (arith, c.in_ok-b.ensures.begun.none),
)

pub returns : goal.returns
returns c = record {
  stands =
      begun-pair c.args.plan c.in_ok-a.a c.in_ok-b.b c.in_ok-matching.matching c.in_ok-a.ensures.begun c.in_ok-b.ensures.begun c.in_ok-matching.ensures.stands c.in_ok-matching.ensures.ends.0 c.in_ok-matching.ensures.ends.1;
  plan = search rules;
  «open» = search rules;
  none_a = search rules;
  none_b = search rules;
  going = search rules;
}
