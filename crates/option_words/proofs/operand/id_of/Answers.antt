use Rattle.std.proofs.Common.{sym, ◌∙◌, ap}
use Rattle.std.specs.Prelude.{Ok}
use Rattle.std.proofs.lemmas.Nat.{be_bytes_8}
use Rattle.option_words.proofs.Operands.{decoded, decoded_bytes}
use Rattle.option_words.proofs.operand.id_of.Goals as goal

pub returns-in-Ok : goal.returns-in-Ok
returns-in-Ok c = record {
  spelled = let value = rw c.as_bytes.ensures.value at c.decode_to_slice.ensures.value in
      let bytes = c.decode_to_slice.new.out in
      let digits = decoded c.args.word.now c.decode_to_slice.result bytes c.in-Ok.is value in
      record {
        fits = c.from_be_bytes.type_inv;
        digits = digits ∙ ap Ok (sym (be_bytes_8 bytes c.from_be_bytes.result c.decode_to_slice.auto.out (decoded_bytes c.args.word.now bytes digits) c.from_be_bytes.ensures));
      };
  none = tt;
}
