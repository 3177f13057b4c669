use Rattle.std.proofs.Common.{sym}
use Rattle.listener_pair.proofs.Counting.{differences-front, pairs-front}
use Rattle.listener_pair.proofs.laws.pairs_stay.Goals as goal

pub returns : goal.returns
returns c list more = record {
  pairs = let h = pairs-front list more in (h.0, sym h.1);
  differences = let h = differences-front list more in (h.0, sym h.1);
}
