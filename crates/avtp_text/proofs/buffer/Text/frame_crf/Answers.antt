use Rattle.std.proofs.Common.{◌≡◌, append_assoc, to_z-of_z}
use Rattle.crf_format.specs.Crf.{crf_shape}
use Rattle.avtp_text.specs.Show.{crf_content, frame_line}
use Rattle.avtp_text.proofs.Printing.{line_as}
use Rattle.avtp_text.proofs.buffer.Text.frame_crf.Goals as goal

pub returns : goal.returns
unfolding crf_content
returns g c =
    let text : c.as_slice.result.now ≡ frame_line c.args.number c.args.arrival (crf_content (crf_shape c.args.view.now)) =
    rw (c.as_slice.ensures.text, c.prepend_frame.ensures, to_z-of_z c.ranges.arrival, c.prepend_id.ensures.text, c.prepend_u32-5.ensures.text, c.prepend_flag-2.ensures.text, c.prepend_flag.ensures.text, c.prepend_u32-4.ensures.text, c.prepend_u32-3.ensures.text, c.prepend_u32-2.ensures.text, c.prepend_u32.ensures.text, c.prepend_u64-2.ensures.text, c.prepend_u64.ensures.text, c.point.ensures, c.new-line.ensures)
    (simp append_assoc) in
    line_as _ _ text c.print.ensures
