use Rattle.std.proofs.Common.{rules, to_z-of_z}
use Rattle.hex.specs.Hex.{encode_lower}
use Rattle.avtp_text.specs.state.SampleLines.{behind_instant}
use Rattle.avtp_text.proofs.Gaps.{whole_text}
use Rattle.avtp_text.proofs.sample_line.whole_line.Goals as goal

pub returns : goal.returns
unfolding behind_instant
returns c = record {
  text = rw (c.prepend_i64.ensures.text, to_z-of_z c.ranges.instant, c.prepend_u64.ensures.text, c.prepend_u32-2.ensures.text, c.prepend_u32.ensures.text, c.prepend.ensures.text, c.prepend_hex.ensures.text, c.new-line.ensures)
      (whole_text c.args.instant c.args.frame c.args.seq c.args.j (encode_lower c.args.bytes.now));
  behind = search rules;
}
