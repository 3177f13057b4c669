use Rattle.std.proofs.Common.{◌≡◌, append_assoc, to_z-of_z}
use Rattle.iec61883_format.specs.Iec.{iec_shape}
use Rattle.avtp_text.specs.Show.{frame_line, iec_content}
use Rattle.avtp_text.proofs.Printing.{line_as}
use Rattle.avtp_text.proofs.buffer.Text.frame_iec.Goals as goal

pub returns : goal.returns
unfolding iec_content
returns g c =
    let text : c.as_slice.result.now ≡ frame_line c.args.number c.args.arrival (iec_content (iec_shape c.args.view.now)) =
    rw (c.as_slice.ensures.text, c.prepend_frame.ensures, to_z-of_z c.ranges.arrival, c.prepend.ensures.text, c.prepend_header.ensures.text, c.prepend_u32-5.ensures.text, c.prepend_u32-4.ensures.text, c.prepend_u32-3.ensures.text, c.prepend_u32-2.ensures.text, c.prepend_u32.ensures.text, c.new-line.ensures)
    (simp append_assoc) in
    line_as _ _ text c.print.ensures
