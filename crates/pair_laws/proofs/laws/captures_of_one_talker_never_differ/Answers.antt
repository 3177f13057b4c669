use Rattle.pair_laws.proofs.Agreeing.{captures-none, captures-one}
use Rattle.pair_laws.proofs.Found.{captures-leave-none, captures-paired}
use Rattle.pair_laws.proofs.laws.captures_of_one_talker_never_differ.Goals as goal

pub returns : goal.returns
returns c shift p plan other records others h g same = record {
  differ = captures-none shift p plan other records others h g same;
  one = captures-one shift p plan other records others h g same;
  paired = captures-paired shift p plan other records others h g same;
  none_left = captures-leave-none shift p plan other records others h g same;
}
