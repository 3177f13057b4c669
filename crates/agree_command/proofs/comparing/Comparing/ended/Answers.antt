use Rattle.agree_command.proofs.comparing.Comparing.ended.Goals as goal

pub returns : goal.returns
returns c = record {
  a = c.in-Some-Some.is-0;
  b = c.in-Some-Some.is-1;
  counts = λ records others given stands. c.counts.ensures c.requires.through records others given stands;
}
