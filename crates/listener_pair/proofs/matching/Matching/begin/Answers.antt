use Rattle.std.proofs.Common.{refl}
use Rattle.listener_pair.proofs.Standing.{begun}
use Rattle.listener_pair.proofs.matching.Matching.begin.Goals as goal

pub returns : goal.returns
returns c = record {
  stands = begun c.in_ok-waiting_a.waiting_a c.in_ok-waiting_b.waiting_b c.none.result c.in_ok-waiting_a.ensures c.in_ok-waiting_b.ensures c.none.ensures;
  «open» = refl;
  ends = (refl, refl);
}
