use Rattle.std.proofs.Common.{◌∷◌, codes}
use Rattle.avtp_words.specs.Grammar.{listening_of}
use Rattle.option_words.specs.Word.{texts}
use Rattle.avtp_words.proofs.Commands.{offence_of_names}
use Rattle.avtp_words.proofs.listen.read_listen.Goals as goal

pub returns-else-keeps_names : goal.returns-else-keeps_names
returns-else-keeps_names c = record {
  ok = tt;
  err = offence_of_names (codes "listen" ∷ texts c.args.words.now) (listening_of c.in_ok-asked.asked) c.in_ok-asked.ensures.ok (λ keeps. absurd (let kept = c.if-keeps_names.ensures.1 keeps in cc));
}
