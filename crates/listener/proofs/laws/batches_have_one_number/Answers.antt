use Rattle.listener.proofs.TrueOnce.{one_number}
use Rattle.listener.proofs.laws.batches_have_one_number.Goals as goal

pub returns : goal.returns
returns c shift p by n m batch is x y = one_number by p n m batch is.times x y
