use Rattle.avtp_text.specs.Talk.{talk_input_line}
use Rattle.avtp_text.proofs.buffer.Text.talk_input.Goals as goal

pub returns : goal.returns
unfolding talk_input_line
returns g c =
    rw (c.as_slice.ensures.text, c.prepend-2.ensures.text, c.prepend.ensures.text, c.fault_name.ensures, c.new-line.ensures) at c.print.ensures
