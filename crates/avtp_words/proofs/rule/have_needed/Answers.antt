use Rattle.std.proofs.Common.{◌≡◌, true, false, sym, ◌∙◌}
use Rattle.avtp_words.specs.state.Reading.{names_of}
use Rattle.option_words.specs.Word.{texts}
use Rattle.avtp_words.proofs.Rules.{need_none, needed_there, none_needs}
use Rattle.option_words.proofs.Steps.{contained}
use Rattle.avtp_words.proofs.rule.have_needed.Goals as goal

pub returns-then-contains : goal.returns-then-contains
returns-then-contains c = (
  (λ yes. needed_there (texts c.args.words.now) c.args.needed.now (names_of c.args.options.now) ((contained c.args.words.now c.args.needed.now c.contains.result c.contains.ensures).0 c.if-contains.true)),
  λ need. c.if-contains.true,
)

pub returns-else-contains : goal.returns-else-contains
returns-else-contains c =
    let told = contained c.args.words.now c.args.needed.now c.contains.result c.contains.ensures in (
      (λ yes. none_needs (texts c.args.words.now) c.args.needed.now (names_of c.args.options.now) (c.lacks.ensures.0 yes)),
      λ need. c.lacks.ensures.1 (need_none (texts c.args.words.now) c.args.needed.now (names_of c.args.options.now) (λ there. absurd (let no : false ≡ true = sym c.if-contains.false ∙ told.1 there in cc)) need),
    )
