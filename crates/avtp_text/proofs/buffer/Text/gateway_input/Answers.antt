use Rattle.std.proofs.Common.{◌≡◌, append_assoc}
use Rattle.avtp_text.specs.Gateway.{gateway_input_line}
use Rattle.avtp_text.proofs.Printing.{line_as}
use Rattle.avtp_text.proofs.buffer.Text.gateway_input.Goals as goal

pub returns : goal.returns
unfolding gateway_input_line
returns g c =
    let text : c.as_slice.result.now ≡ gateway_input_line c.args.fault.now c.args.frame =
    rw (c.as_slice.ensures.text, c.prepend-2.ensures.text, c.prepend.ensures.text, c.prepend_u64.ensures.text, c.new-line.ensures) (simp append_assoc) in
    line_as _ _ text c.print.ensures
