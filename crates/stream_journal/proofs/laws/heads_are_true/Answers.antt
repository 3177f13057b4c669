use Rattle.stream_journal.proofs.TrueHeads.{true_heads, true_counts, none_found}
use Rattle.stream_journal.proofs.laws.heads_are_true.Goals as goal

pub returns : goal.returns
returns c j lead room copy far stamps is un all = record {
  stamp = true_heads j is lead room copy far stamps un all;
  head = true_counts j is lead room copy far stamps un all;
  none = none_found j is lead room copy far stamps un all;
}
