use Rattle.sample_schedule.proofs.LawLemmas.{each-once}
use Rattle.sample_schedule.proofs.laws.each_item_is_shown_once.Goals as goal

pub returns : goal.returns
returns c clock plan entries i = each-once clock plan entries i
