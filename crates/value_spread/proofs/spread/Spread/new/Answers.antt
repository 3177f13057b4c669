use Rattle.std.proofs.Common.{refl}
use Rattle.value_spread.proofs.Spreads.{tells-none}
use Rattle.value_spread.proofs.spread.Spread.new.Goals as goal

pub returns : goal.returns
returns c = tells-none _ c.new.ensures.items refl refl refl refl
