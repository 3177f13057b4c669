use Rattle.am824_gateway.proofs.HistoryLemmas.{frames_more, given_more}
use Rattle.am824_gateway.proofs.laws.batches_follow_each_other.Goals as goal

pub returns : goal.returns
returns c = record { frames = frames_more; given = given_more }
