use Rattle.std.proofs.Common.{ap, ◌∙◌}
use Rattle.listener_pair.specs.Matching.{MatchingState}
use Rattle.listener_pair.proofs.Standing.{idle-counts}
use Rattle.listener_pair.proofs.matching.Matching.counts.Goals as goal

pub returns : goal.returns
returns c idle xs ys given s = ap (λ (m : MatchingState). m.counts) c.self.view_is ∙ idle-counts xs ys given c.args.self.now s idle
