use Rattle.std.proofs.Common.{◌≤◌}
use Rattle.cvf_format.specs.AnnexB.{is_other_byte}
use Rattle.cvf_format.proofs.PlaceLemmas.{NonePasses}
use Rattle.cvf_format.proofs.annex_b.without_zeros.Given as goal

abbrev pub invariant-loop-last : goal.invariant-loop-last
invariant-loop-last l = record {
  low : l.from ≤ l.last;
  high : l.last ≤ l.end;
  zeros : NonePasses (is_other_byte l.bytes) l.last l.end;
}
