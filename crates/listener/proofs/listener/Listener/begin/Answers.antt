use Rattle.std.proofs.Common.{[], ap, arith, rules}
use Rattle.pcap_frames.specs.Reading.{taken}
use Rattle.listener.proofs.Fed.{stands_unfed}
use Rattle.listener.proofs.listener.Listener.begin.Goals as goal

pub returns : goal.returns
returns c = record {
  stands = stands_unfed c.in_ok-reader.reader c.in_ok-listener.listener c.in_ok-reader.ensures.read c.in_ok-reader.ensures.empty c.in_ok-listener.ensures.stands c.in_ok-listener.ensures.open;
  plan = search rules;
  «open» = search rules;
  ready = search rules;
  none = ap taken c.in_ok-reader.ensures.empty;
}

pub invariant_of-result : goal.invariant_of-result
invariant_of-result c = record {
  bytes = [];
  given = 0;
  stands = stands_unfed c.in_ok-reader.reader c.in_ok-listener.listener c.in_ok-reader.ensures.read c.in_ok-reader.ensures.empty c.in_ok-listener.ensures.stands c.in_ok-listener.ensures.open;
  counted = λ accepted. omega (arith, c.in_ok-listener.ensures.none);
  idle = λ quiet. c.in_ok-listener.ensures.idle;
  spent = λ memory. absurd cc;
}
