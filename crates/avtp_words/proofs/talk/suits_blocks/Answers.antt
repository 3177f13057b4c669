use Rattle.std.proofs.Common.{sym, ◌∙◌}
use Rattle.avtp_words.proofs.Rates.{suited, suiting}
use Rattle.avtp_words.proofs.talk.suits_blocks.Goals as goal

pub returns : goal.returns
returns c = (
  λ yes. suited c.args.rate c.args.count (sym c.has_suiting.ensures ∙ yes),
  λ (fdf, named, long). c.has_suiting.ensures ∙ suiting c.args.rate c.args.count fdf named long,
)
