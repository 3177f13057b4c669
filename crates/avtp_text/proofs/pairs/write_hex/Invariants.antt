use Rattle.std.proofs.Common.{◌≡◌, ◌*◌, length, take}
use Rattle.hex.specs.Hex.{encode_lower}
use Rattle.avtp_text.proofs.pairs.write_hex.Given as goal

abbrev pub invariant-loop-i : goal.invariant-loop-i
invariant-loop-i l = record {
  room : length l.out ≡ 2 * length l.bytes;
  written : take (2 * l.i) l.out ≡ encode_lower (take l.i l.bytes);
}
