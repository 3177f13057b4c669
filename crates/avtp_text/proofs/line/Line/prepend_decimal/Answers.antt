use Rattle.std.proofs.Common.{length, arith, ap, length-drop}
use Rattle.avtp_text.proofs.line.Line.prepend_decimal.Goals as goal

pub write_digits-self-inside-requires : goal.write_digits-self-inside-requires
write_digits-self-inside-requires c =
    let room = simp length-drop at (ap length c.self.view_is) in
    (omega arith, omega arith)
