use Rattle.std.proofs.Common.{◌≡◌, ◌+◌, ◌*◌, ◌^◌, ◌<◌, ◌++◌, List, ℕ, pos, ◌+ℤ◌, length, decimal, refl, sym, ap, ◌∙◌, arith, w64, to_z, of_z, to_z-of_z, rules}
use Rattle.std.proofs.lemmas.Int.{ints}
use Rattle.hex.specs.Hex.{encode_lower, lower_digits}
use Rattle.hex.proofs.HexLemmas.{length-encode_with}
use Rattle.avtp_text.specs.Listen.{due_text, place_text}
use Rattle.avtp_text.specs.state.Pairs.{eight_digits}
use Rattle.avtp_text.specs.Pieces.{newline}
use Rattle.avtp_text.specs.SampleLines.{SamplePacket}
use Rattle.avtp_text.specs.state.SampleLines.{hex_end}
use Rattle.avtp_text.proofs.Digits.{length_eight}
use Rattle.avtp_text.proofs.Gaps.{at_hex, at_number, before_hex, before_number, hex_end_length, hex_written, low_written, number_written, room, sample_text}
use Rattle.avtp_text.proofs.Overwriting.{all_left}
use Rattle.avtp_text.proofs.sample_line.SampleLine.add_to.Goals as goal

pub overwrite_decimal-requires : goal.overwrite_decimal-requires
overwrite_decimal-requires c =
    let fits = rw (to_z-of_z c.ranges.instant) at c.in-Some.ensures in
    let gaps = c.self.invariant (omega (arith, fits.least, fits.limit)) in
    let b = c.args.buffer.now in
    let frame = c.self.inside.frame in
    let seq = c.self.inside.seq in
    let low = eight_digits c.in-Some.low in
    let same = gaps.numbers c.args.j fits.least fits.limit in
    let size = ap (λ (p : SamplePacket). p.size) c.self.view_is in
    let copied = c.waiting_mut-text.ensures.value ∙ c.push_first.ensures ∙ ap (λ (x : List ℕ). b ++ x) gaps.text in
    let first = low_written b c.waiting_mut-text.result.now c.overwrite_eight_digits.new.text gaps.high gaps.low frame seq gaps.number gaps.hex copied c.self.inside.line.behind.instant low (gaps.eight ∙ sym (length_eight c.in-Some.low)) gaps.behind.instant c.overwrite_eight_digits.ensures in
    let gap = room c.overwrite_eight_digits.new.text (before_number b gaps.high low frame seq) gaps.number (hex_end gaps.hex) (first ∙ at_number b gaps.high low frame seq gaps.number gaps.hex) in
    omega (arith, same, gap, hex_end_length gaps.hex, gaps.digits, c.requires.size, size)

pub overwrite_hex-requires : goal.overwrite_hex-requires
overwrite_hex-requires c =
    let fits = rw (to_z-of_z c.ranges.instant) at c.in-Some.ensures in
    let gaps = c.self.invariant (omega (arith, fits.least, fits.limit)) in
    let b = c.args.buffer.now in
    let frame = c.self.inside.frame in
    let seq = c.self.inside.seq in
    let low = eight_digits c.in-Some.low in
    let same = gaps.numbers c.args.j fits.least fits.limit in
    let size = ap (λ (p : SamplePacket). p.size) c.self.view_is in
    let copied = c.waiting_mut-text.ensures.value ∙ c.push_first.ensures ∙ ap (λ (x : List ℕ). b ++ x) gaps.text in
    let first = low_written b c.waiting_mut-text.result.now c.overwrite_eight_digits.new.text gaps.high gaps.low frame seq gaps.number gaps.hex copied c.self.inside.line.behind.instant low (gaps.eight ∙ sym (length_eight c.in-Some.low)) gaps.behind.instant c.overwrite_eight_digits.ensures in
    let end : 2 * length c.args.bytes.now + 2 ≡ length (hex_end gaps.hex) = omega (arith, hex_end_length gaps.hex, gaps.digits, c.requires.size, size) in
    let second = number_written b c.overwrite_eight_digits.new.text c.overwrite_decimal.new.text gaps.high low frame seq gaps.number gaps.hex first (2 * length c.args.bytes.now + 2) (decimal c.args.j) (sym same) end c.overwrite_decimal.ensures.overwrites in
    let gap = room c.overwrite_decimal.new.text (before_hex b gaps.high low frame seq (decimal c.args.j)) gaps.hex newline (second ∙ at_hex b gaps.high low frame seq (decimal c.args.j) gaps.hex) in
    omega (arith, gap, gaps.digits, c.requires.size, size)

pub returns : goal.returns
returns c =
    let fits = rw (to_z-of_z c.ranges.instant) at c.in-Some.ensures in
    let gaps = c.self.invariant (omega (arith, fits.least, fits.limit)) in
    let b = c.args.buffer.now in
    let frame = c.self.inside.frame in
    let seq = c.self.inside.seq in
    let low = eight_digits c.in-Some.low in
    let same = gaps.numbers c.args.j fits.least fits.limit in
    let size = ap (λ (p : SamplePacket). p.size) c.self.view_is in
    let copied = c.waiting_mut-text.ensures.value ∙ c.push_first.ensures ∙ ap (λ (x : List ℕ). b ++ x) gaps.text in
    let first = low_written b c.waiting_mut-text.result.now c.overwrite_eight_digits.new.text gaps.high gaps.low frame seq gaps.number gaps.hex copied c.self.inside.line.behind.instant low (gaps.eight ∙ sym (length_eight c.in-Some.low)) gaps.behind.instant c.overwrite_eight_digits.ensures in
    let end : 2 * length c.args.bytes.now + 2 ≡ length (hex_end gaps.hex) = omega (arith, hex_end_length gaps.hex, gaps.digits, c.requires.size, size) in
    let second = number_written b c.overwrite_eight_digits.new.text c.overwrite_decimal.new.text gaps.high low frame seq gaps.number gaps.hex first (2 * length c.args.bytes.now + 2) (decimal c.args.j) (sym same) end c.overwrite_decimal.ensures.overwrites in
    let hex = encode_lower c.args.bytes.now in
    let len : length gaps.hex ≡ length hex = omega (arith, length-encode_with lower_digits c.args.bytes.now, gaps.digits, c.requires.size, size) in
    let third = hex_written b c.overwrite_decimal.new.text c.overwrite_hex.new.text gaps.high low frame seq (decimal c.args.j) gaps.hex second 1 hex len refl c.overwrite_hex.ensures in
    let from : to_z w64 (of_z w64 c.self.inside.line.from) ≡ pos (gaps.high * 100000000) = omega (arith, ints, gaps.from, gaps.early) in
    let at : c.args.instant ≡ pos (gaps.high * 100000000 + c.in-Some.low) = fits.at ∙ ap (λ z. z +ℤ pos c.in-Some.low) from in
    let latest = rw at at c.ranges.instant.sfits in
    let within : gaps.high * 100000000 + c.in-Some.low < 2 ^ 64 = omega (arith, ints, latest) in
    let line = ap (λ (x : List ℕ). b ++ x) (sample_text c.args.instant gaps.high c.in-Some.low frame seq c.args.j hex gaps.some fits.small at within) in
    let left = c.overwrite_hex.auto.text ∙ c.overwrite_decimal.auto.text ∙ c.overwrite_eight_digits.auto.text ∙ ap length c.waiting_mut-text.ensures.value in
    let text = all_left c.push_first.new.self c.overwrite_hex.new.text left ∙ third ∙ line
    ∙ ap (λ (p : SamplePacket). b ++ (due_text c.args.instant p.frame ++ place_text p.seq c.args.j ++ hex ++ newline)) c.self.view_is in
    record { text = text; packet = search rules }
