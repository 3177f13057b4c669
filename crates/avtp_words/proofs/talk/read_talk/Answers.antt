use Rattle.std.proofs.Common.{◌∷◌, codes}
use Rattle.avtp_words.specs.Grammar.{talking_of}
use Rattle.option_words.specs.Word.{texts}
use Rattle.avtp_words.proofs.Commands.{offence_of_rule, talk_clock}
use Rattle.avtp_words.proofs.talk.read_talk.Goals as goal

pub keeps_rules-requires : goal.keeps_rules-requires
keeps_rules-requires c = talk_clock (codes "talk" ∷ texts c.args.words.now) (talking_of c.in_ok-asked.asked) c.in_ok-asked.ensures.ok

pub returns-else-keeps_rules : goal.returns-else-keeps_rules
returns-else-keeps_rules c = record {
  ok = tt;
  err = offence_of_rule (codes "talk" ∷ texts c.args.words.now) (talking_of c.in_ok-asked.asked) c.in_ok-asked.ensures.ok (λ keeps. absurd (let kept = c.if-keeps_rules.ensures.1 keeps in cc));
}
