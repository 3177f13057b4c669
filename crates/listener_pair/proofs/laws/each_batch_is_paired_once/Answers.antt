use Rattle.listener_pair.proofs.PairLaws.{paired-once}
use Rattle.listener_pair.proofs.laws.each_batch_is_paired_once.Goals as goal

pub returns : goal.returns
returns c = paired-once
