use Rattle.std.proofs.Common.{◌≡◌, ◌+◌, ◌*◌, ◌^◌, ◌<◌, length, decimal, sym, ap, ◌∙◌, arith, length-append, to_z-of_z}
use Rattle.std.proofs.lemmas.List.{take_at}
use Rattle.std.proofs.lemmas.Int.{ints}
use borrow.Rule.Slice.PartMut.{post_of}
use Rattle.hex.specs.Hex.{encode_lower, lower_digits}
use Rattle.hex.proofs.HexLemmas.{length-encode_with}
use Rattle.avtp_text.specs.state.Pairs.{eight_digits}
use Rattle.avtp_text.specs.SampleLines.{SamplePacket}
use Rattle.avtp_text.proofs.Digits.{length_eight}
use Rattle.avtp_text.proofs.Gaps.{sample_text}
use Rattle.avtp_text.proofs.sample_line.SampleLine.add_anew.Goals as goal

pub invariant_of-self-then-len-le-KEPT : goal.invariant_of-self-then-len-le-KEPT
invariant_of-self-then-len-le-KEPT c = λ small.
    let hex = encode_lower c.args.bytes.now in
    let start = rw (to_z-of_z c.ranges.instant) at c.in-Some.ensures in
    let latest = rw start.at at c.ranges.instant.sfits in
    let fits : start.high * 100000000 + start.low < 2 ^ 64 = omega (arith, ints, latest) in
    let early : start.high * 100000000 < 2 ^ 63 = omega (arith, ints, latest) in
    let line = rw (to_z-of_z c.ranges.instant) at c.whole_line-line.ensures.text in
    let copied = c.copy_from_slice.new.self in
    let rest = post_of 0 c.len-then-len-le-KEPT.result c.self.inside.line.bytes in
    let kept = c.copy_from_slice.ensures.after ∙ c.as_slice-then-len-le-KEPT.ensures.text in
    let len : length copied ≡ c.len-self-inside.result = ap length kept ∙ sym c.len-self-inside.ensures in
    record {
      high = start.high;
      low = eight_digits start.low;
      number = decimal c.args.j;
      hex = hex;
      short = omega (arith, len, length-append copied rest);
      text = take_at copied rest c.len-self-inside.result len ∙ kept ∙ line ∙ sym (sample_text c.args.instant start.high start.low c.self.inside.frame c.self.inside.seq c.args.j hex start.some start.small start.at fits);
      some = start.some;
      from = omega (arith, ints, start.from, early);
      early = early;
      eight = length_eight start.low;
      numbers = c.as_long_as-self-inside.ensures;
      digits = omega (arith, length-encode_with lower_digits c.args.bytes.now, c.requires.size, ap (λ (p : SamplePacket). p.size) c.self.view_is);
      behind = c.whole_line-line.ensures.behind;
    }
