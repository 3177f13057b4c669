use Rattle.std.proofs.Common.{◌≡◌, ◌++◌, ap, refl, sym, ◌∙◌, append_assoc, to_z-of_z}
use Rattle.aaf_format.specs.Aaf.{aaf_shape}
use Rattle.avtp_text.specs.Pieces.{newline}
use Rattle.avtp_text.specs.state.AafLines.{aaf_start, end_of}
use Rattle.avtp_text.specs.Show.{aaf_content, frame_start}
use Rattle.avtp_text.proofs.AafEnds.{last_of}
use Rattle.avtp_text.proofs.aaf_line.AafLine.write.Goals as goal

pub invariant_of-self-2-clause-kept : goal.invariant_of-self-2-clause-kept
unfolding aaf_start
invariant_of-self-2-clause-kept c = λ v same.
    let end : end_of v ≡ end_of (aaf_shape c.args.view.now) = same ∙ c.leave_end.ensures.same in
    let front = frame_start c.args.number c.args.arrival ++ aaf_start (aaf_shape c.args.view.now) in
    let line : c.prepend_frame.new.line ≡ front ++ c.leave_end.new.self.line =
    rw (c.prepend_frame.ensures, to_z-of_z c.ranges.arrival, c.prepend-2.ensures.text, c.prepend.ensures.text, c.prepend_bytes.ensures.text, c.set.new.self.named, c.set.ensures, c.prepend_u32-2.ensures.text, c.prepend_u32.ensures.text) (simp append_assoc) in
    rw (line, last_of front c.leave_end.new.self.line c.leave_end.new.self.len c.leave_end.ensures.whole) (c.leave_end.ensures.text v end)

pub returns : goal.returns
unfolding aaf_start
returns c =
    let v = aaf_shape c.args.view.now in
    let start = frame_start c.args.number c.args.arrival in
    let line : c.prepend_frame.new.line ≡ start ++ (aaf_start v ++ c.leave_end.new.self.line) =
    rw (c.prepend_frame.ensures, to_z-of_z c.ranges.arrival, c.prepend-2.ensures.text, c.prepend.ensures.text, c.prepend_bytes.ensures.text, c.set.new.self.named, c.set.ensures, c.prepend_u32-2.ensures.text, c.prepend_u32.ensures.text) (simp append_assoc) in
    line ∙ ap (λ t. start ++ t) (sym (c.leave_end.ensures.text v refl)) ∙ sym (append_assoc start (aaf_content v) newline)
