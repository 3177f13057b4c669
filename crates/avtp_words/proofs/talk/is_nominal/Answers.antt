use Rattle.std.proofs.Common.{sym, ◌∙◌}
use Rattle.avtp_words.proofs.Rates.{rate_named, named_rate}
use Rattle.avtp_words.proofs.talk.is_nominal.Goals as goal

pub returns : goal.returns
returns c = (
  λ yes. rate_named c.args.rate (sym c.has_rate.ensures ∙ yes),
  λ (code, named). c.has_rate.ensures ∙ named_rate c.args.rate code named,
)
