use Rattle.std.proofs.Common.{◌≡◌, append_assoc}
use Rattle.avtp_text.specs.Listen.{end_listen_line}
use Rattle.avtp_text.proofs.Printing.{line_as}
use Rattle.avtp_text.proofs.buffer.Text.end_listen.Goals as goal

pub returns : goal.returns
unfolding end_listen_line
returns g c =
    let text : c.as_slice.result.now ≡ end_listen_line c.args.counts.now =
    rw (c.as_slice.ensures.text, c.prepend_u64-4.ensures.text, c.prepend_u64-3.ensures.text, c.prepend_u64-2.ensures.text, c.prepend_u64.ensures.text, c.new-line.ensures) (simp append_assoc) in
    line_as _ _ text c.print.ensures
