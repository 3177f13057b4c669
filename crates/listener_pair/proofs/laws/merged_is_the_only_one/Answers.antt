use Rattle.listener_pair.proofs.Sorting.{merged-is}
use Rattle.listener_pair.proofs.laws.merged_is_the_only_one.Goals as goal

pub returns : goal.returns
returns c = merged-is
