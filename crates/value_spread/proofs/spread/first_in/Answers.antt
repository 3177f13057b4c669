use Rattle.std.proofs.Common.{◌∙◌}
use Rattle.std.proofs.Math.Nat.{mod-eq_of_lt}
use Rattle.value_spread.proofs.Buckets.{first-is, product-fits}
use Rattle.value_spread.proofs.spread.first_in.Goals as goal

pub returns : goal.returns
returns c = mod-eq_of_lt (product-fits c.args.bucket c.saturating_sub-shift.result c.requires c.saturating_sub-shift.ensures) ∙ first-is c.args.bucket c.saturating_sub-shift.result c.saturating_sub-shift.ensures
