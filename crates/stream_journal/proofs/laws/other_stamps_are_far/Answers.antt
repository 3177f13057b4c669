use Rattle.std.proofs.Common.{◌+◌}
use Rattle.stream_journal.proofs.Apart.{apart}
use Rattle.stream_journal.proofs.Numbers.{far_numbers}
use Rattle.stream_journal.proofs.laws.other_stamps_are_far.Goals as goal

pub returns-clause-numbers : goal.returns-clause-numbers
returns-clause-numbers c n k far is = far_numbers (k + far.packets) n is.same is.other

pub returns-clause-instants : goal.returns-clause-instants
returns-clause-instants c j n k instant far is known there stamped back other = apart j is n k instant far known there stamped back other.same other.other
