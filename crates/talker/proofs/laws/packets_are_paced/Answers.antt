use Rattle.std.proofs.Common.{arith}
use Rattle.talk_video.specs.Video.{access_instant}
use Rattle.talker.proofs.LawLemmas.{paced, paced_restarting}
use Rattle.talker.proofs.laws.packets_are_paced.Goals as goal

pub returns-clause-steady : goal.returns-clause-steady
returns-clause-steady c = λ plan n e. paced plan n e

pub returns-clause-restarting : goal.returns-clause-restarting
returns-clause-restarting c = λ plan packets n e. paced_restarting plan packets n e

pub returns-clause-video : goal.returns-clause-video
unfolding access_instant
returns-clause-video c = λ plan input units n. omega arith
