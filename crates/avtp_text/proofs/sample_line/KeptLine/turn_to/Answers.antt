use Rattle.std.proofs.Common.{◌≡◌, ◌+◌, [], length, take, decimal, T, subst, sym, ◌∙◌, arith, length-append}
use Rattle.std.proofs.lemmas.List.{length-take-le, take_at}
use Rattle.std.proofs.Math.Facts.{eqb_yes}
use borrow.Rule.Slice.PartMut.{post_of}
use Rattle.avtp_text.proofs.Gaps.{behind_frame_length, behind_instant_length, frame_written, seq_written}
use Rattle.avtp_text.proofs.sample_line.KeptLine.turn_to.Goals as goal

pub returns-then-frame_len-behind : goal.returns-then-frame_len-behind
returns-then-frame_len-behind c = λ as_long packet known small.
    let gaps = known small in
    let line = c.args.self.now in
    let frame = c.args.frame in
    let seq = c.args.seq in
    let written = c.overwrite_decimal-frame_len.new.text in
    let written' = c.overwrite_decimal-seq_len.new.text in
    let rest = post_of 0 line.len line.bytes in
    let frames : length (decimal packet.frame) ≡ length (decimal frame) =
    omega (arith, c.if-frame_len-behind.true, c.overwrite_decimal-frame_len.ensures.len, gaps.behind.instant, gaps.behind.frame, behind_instant_length packet.frame packet.seq gaps.number gaps.hex) in
    let seqs : length (decimal packet.seq) ≡ length (decimal seq) =
    omega (arith, eqb_yes {a = c.overwrite_decimal-seq_len.result + line.behind.seq + 5} {b = line.behind.frame} (subst T (sym as_long) tt), c.overwrite_decimal-seq_len.ensures.len, gaps.behind.frame, gaps.behind.seq, behind_frame_length packet.seq gaps.number gaps.hex) in
    let first = frame_written [] (take line.len line.bytes) written gaps.high gaps.low packet.frame packet.seq gaps.number gaps.hex gaps.text line.behind.frame frame frames gaps.behind.frame c.overwrite_decimal-frame_len.ensures.overwrites in
    let second = seq_written [] written written' gaps.high gaps.low frame packet.seq gaps.number gaps.hex first line.behind.seq seq seqs gaps.behind.seq c.overwrite_decimal-seq_len.ensures.overwrites in
    let len : length written' ≡ line.len = c.overwrite_decimal-seq_len.auto.text ∙ c.overwrite_decimal-frame_len.auto.text ∙ length-take-le line.len line.bytes gaps.short in
    record {
      high = gaps.high;
      low = gaps.low;
      number = gaps.number;
      hex = gaps.hex;
      short = omega (arith, len, length-append written' rest);
      text = take_at written' rest line.len len ∙ second;
      some = gaps.some;
      from = gaps.from;
      early = gaps.early;
      eight = gaps.eight;
      numbers = gaps.numbers;
      digits = gaps.digits;
      behind = record {
        instant = omega (arith, gaps.behind.instant, frames, seqs, behind_instant_length packet.frame packet.seq gaps.number gaps.hex, behind_instant_length frame seq gaps.number gaps.hex, behind_frame_length packet.seq gaps.number gaps.hex, behind_frame_length seq gaps.number gaps.hex);
        frame = omega (arith, gaps.behind.frame, seqs, behind_frame_length packet.seq gaps.number gaps.hex, behind_frame_length seq gaps.number gaps.hex);
        seq = gaps.behind.seq;
      };
    }
