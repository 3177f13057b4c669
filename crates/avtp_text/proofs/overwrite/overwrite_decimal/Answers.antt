use Rattle.std.proofs.Common.{◌≡◌, ◌+◌, ◌-◌, ◌<◌, ◌++◌, drop, length, ap, sym, ◌∙◌, decimal, arith}
use Rattle.std.proofs.lemmas.Fmt.{decimal_digit}
use Rattle.avtp_text.proofs.Digits.{one_digit}
use Rattle.avtp_text.proofs.Overwriting.{overwritten, part_overwritten}
use Rattle.avtp_text.proofs.overwrite.overwrite_decimal.Goals as goal

pub returns-then-number-lt10 : goal.returns-then-number-lt10
returns-then-number-lt10 c =
    let text = c.args.text.now in
    let end = length text - c.args.behind in
    let small : c.args.number < 10 = omega (arith, c.if-number-lt10.true) in
    let one = one_digit c.args.number small in
    let len : end - (end - 1) ≡ 1 = omega (arith, one, c.requires) in
    let digit = c.write_bytes.ensures ∙ sym (decimal_digit c.args.number small) in
    record {
      len = sym one;
      overwrites = rw (len, digit) (part_overwritten text (decimal c.args.number) (end - 1) 1 c.args.behind one (omega (arith, one, c.requires)));
    }

pub returns : goal.returns
returns c =
    let start = c.write_digits.ensures.start in
    let end : length c.args.text.now - c.args.behind ≡ c.write_digits.result + length (decimal c.args.number) = omega (arith, start) in
    record {
      len = omega (arith, end);
      overwrites = overwritten c.args.text.now c.write_digits.new.buf (decimal c.args.number) c.write_digits.result c.args.behind (omega (arith, end, c.requires))
          c.write_digits.ensures.before (c.write_digits.ensures.written ∙ ap (λ k. decimal c.args.number ++ drop k c.args.text.now) end);
    }
