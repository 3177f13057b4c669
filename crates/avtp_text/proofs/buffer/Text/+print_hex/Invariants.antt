use Rattle.std.proofs.Common.{length}
use Rattle.avtp_text.proofs.buffer.Text.+print_hex.Given as goal

abbrev pub decreases-print_hex : goal.decreases-print_hex
decreases-print_hex g l = length l.bytes.now
