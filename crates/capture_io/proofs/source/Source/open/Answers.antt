use Rattle.std.proofs.Common.{refl, rules}
use Rattle.capture_io.proofs.Giving.{nothing_given}
use Rattle.capture_io.proofs.source.Source.open.Goals as goal

pub returns : goal.returns
returns g c = record {
  begun = λ files told.
      let has = c.in_ok-pieces.ensures.begun files told in
      (has.0, has.1, nothing_given c.args.limit has.0 _ _ has.2 c.in-Ok.ensures refl);
  going = (search rules);
  tries = (search rules);
}
