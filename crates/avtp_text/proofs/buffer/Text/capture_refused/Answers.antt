use Rattle.avtp_text.specs.Notices.{capture_refused_line}
use Rattle.avtp_text.proofs.buffer.Text.capture_refused.Goals as goal

pub returns : goal.returns
unfolding capture_refused_line
returns g c =
    rw (c.as_slice.ensures.text, c.prepend.ensures.text, c.prepend_refusal.ensures.text, c.new-line.ensures) at c.print.ensures
