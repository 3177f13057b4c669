use Rattle.std.proofs.Common.{◌∙◌}
use Rattle.listener_pair.specs.declared.difference.Which.TheVariants.{A, B}
use Rattle.listener_pair.specs.Merged.{merged}
use Rattle.listener_pair.proofs.Counting.{count-all}
use Rattle.listener_pair.proofs.Sorting.{length-a, length-b}
use Rattle.listener_pair.proofs.laws.counts_add_up.Goals as goal

pub returns : goal.returns
returns c xs ys = record { a = count-all A (merged xs ys) ∙ length-a xs ys; b = count-all B (merged xs ys) ∙ length-b xs ys }
