use Rattle.std.proofs.Common.{arith, rules}
use Rattle.std.proofs.lemmas.List.{length-take-le}
use Rattle.pcapng_frames.proofs.Moves.{goes_on, pass_takes}
use Rattle.pcapng_frames.proofs.reader.Ng.skip.Goals as goal

pub returns : goal.returns
returns c =
    let going = rw (← c.self.view_is) at c.requires.going in
    record {
      some = omega (arith, going.more, rw (← c.self.view_is) at c.requires.some);
      steps = record {
        within = omega arith;
        counted = search rules;
        bounded = search rules;
        read = rw (← c.self.view_is) (goes_on _ _ _ (pass_takes _ _ _ _ _ _ _ going.accepted going.partial (length-take-le _ _ (omega arith)) (omega arith)));
        accepted = going.accepted;
        refused = tt;
        stopped = tt;
      };
    }
