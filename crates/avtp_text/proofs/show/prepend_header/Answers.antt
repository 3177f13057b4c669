use Rattle.std.proofs.Common.{append_assoc, arith}
use Rattle.avtp_text.specs.Show.{header_text}
use Rattle.avtp_text.proofs.show.prepend_header.Goals as goal

pub returns : goal.returns
unfolding header_text
returns c = record {
  text =
      rw (c.prepend_id.ensures.text, c.prepend_u32-2.ensures.text, c.prepend_u32.ensures.text, c.prepend_flag-3.ensures.text, c.prepend_flag-2.ensures.text, c.prepend_flag.ensures.text)
      (simp append_assoc);
  len = grind arith;
}
