use Rattle.pair_laws.proofs.Known.{known-due-a, known-due-b, known-pair, known-shown}
use Rattle.pair_laws.proofs.laws.what_is_known_of_one_talker_never_differs.Goals as goal

pub returns : goal.returns
returns c shift p plan records others h g = record {
  pair = λ pair have. known-pair shift p plan records others pair h g have;
  due_a = λ ended_a ended_b. known-due-a shift p plan records others ended_a ended_b h g;
  due_b = λ ended_a ended_b. known-due-b shift p plan records others ended_a ended_b h g;
  shown = λ ended_a ended_b. known-shown shift p plan records others ended_a ended_b h g;
}
