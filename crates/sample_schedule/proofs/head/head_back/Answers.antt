use Rattle.std.proofs.Common.{arith, rules}
use Rattle.std.proofs.lemmas.Int.{ints}
use Rattle.sample_schedule.proofs.head.head_back.Goals as goal

pub returns : goal.returns
returns c =
    let held = c.in_ok-stamp.ensures.stamp in
    let many = c.requires.samples.packet.count in
    let behind = c.in_ok-far.ensures.behind in
    record {
      value = λ prefix noted. search (rules, ints);
      countable = record {
        from = omega (arith, ints);
        to = omega (arith, ints);
        own = λ h. absurd (omega (arith, ints));
        first_from = omega (arith, ints);
        first_to = omega (arith, ints);
      };
    }
