use Rattle.std.proofs.Common.{rules}
use Rattle.std.proofs.lemmas.Int.{ints}
use Rattle.sample_schedule.proofs.head.head_of.Goals as goal

pub returns-in-Some : goal.returns-in-Some
returns-in-Some c = record {
  value = λ prefix noted. search (rules, ints);
  countable = search (rules, ints);
}
