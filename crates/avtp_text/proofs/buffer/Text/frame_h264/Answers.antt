use Rattle.std.proofs.Common.{◌≡◌, append_assoc, to_z-of_z}
use Rattle.cvf_format.specs.Cvf.{cvf_shape}
use Rattle.avtp_text.specs.Show.{frame_line, h264_content}
use Rattle.avtp_text.proofs.Printing.{line_as}
use Rattle.avtp_text.proofs.buffer.Text.frame_h264.Goals as goal

pub returns : goal.returns
unfolding h264_content
returns g c =
    let text : c.as_slice.result.now ≡ frame_line c.args.number c.args.arrival (h264_content (cvf_shape c.args.view.now)) =
    rw (c.as_slice.ensures.text, c.prepend_frame.ensures, to_z-of_z c.ranges.arrival, c.prepend-3.ensures.text, c.prepend_header.ensures.text, c.prepend_flag-2.ensures.text, c.prepend_u32-3.ensures.text, c.prepend_flag.ensures.text, c.prepend_u32-2.ensures.text, c.prepend-2.ensures.text, c.prepend.ensures.text, c.part_name.ensures, c.prepend_u32.ensures.text, c.new-line.ensures)
    (simp append_assoc) in
    line_as _ _ text c.print.ensures
