use Rattle.std.proofs.Common.{Some, refl, sym}
use Rattle.option_words.proofs.option.value_len.Goals as goal

pub returns-in-Some : goal.returns-in-Some
returns-in-Some c = record {
  some = record {
    value = Some c.in-Some.word.now;
    taken = c.accepts.ensures.0 c.if-accepts.true;
    here = sym c.in-Some.ensures;
    size = refl;
  };
  none = tt;
}
