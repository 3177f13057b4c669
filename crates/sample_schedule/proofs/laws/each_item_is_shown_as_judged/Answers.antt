use Rattle.sample_schedule.proofs.Judged.{as-judged}
use Rattle.sample_schedule.proofs.laws.each_item_is_shown_as_judged.Goals as goal

pub returns : goal.returns
returns c = as-judged
