use Rattle.std.proofs.Common.{◌≡◌, length, take}
use Rattle.avtp_text.proofs.pairs.write_bytes.Given as goal

abbrev pub invariant-loop-i : goal.invariant-loop-i
invariant-loop-i l = record {
  room : length l.out ≡ length l.piece;
  written : take l.i l.out ≡ take l.i l.piece;
}
