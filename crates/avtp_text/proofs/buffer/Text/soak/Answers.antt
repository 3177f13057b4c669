use Rattle.std.proofs.Common.{◌≡◌, append_assoc}
use Rattle.avtp_text.specs.Soak.{soak_line}
use Rattle.avtp_text.proofs.Printing.{line_as}
use Rattle.avtp_text.proofs.buffer.Text.soak.Goals as goal

pub returns : goal.returns
unfolding soak_line
returns g c =
    let text : c.as_slice.result.now ≡ soak_line c.args.packets c.args.counts.now =
    rw (c.as_slice.ensures.text, c.prepend_u32.ensures.text, c.prepend_u64-6.ensures.text, c.prepend_u64-5.ensures.text, c.prepend_u64-4.ensures.text, c.prepend_u64-3.ensures.text, c.prepend_u64-2.ensures.text, c.prepend_u64.ensures.text, c.new-line.ensures) (simp append_assoc) in
    line_as _ _ text c.print.ensures
