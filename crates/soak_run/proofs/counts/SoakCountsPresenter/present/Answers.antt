use Rattle.std.proofs.Common.{◌∷◌, [], sym, ap, ◌∙◌}
use Rattle.soak_run.specs.declared.counts.SoakCounts.{SoakCounts}
use Rattle.soak_run.specs.state.Counting.{with_shown}
use Rattle.soak_run.proofs.CountLemmas.{with_all_append}
use Rattle.soak_run.proofs.counts.SoakCountsPresenter.present.Goals as goal

pub returns-clause-handed : goal.returns-clause-handed
returns-clause-handed c begun items handed =
    c.with_shown.ensures ∙ ap (λ (counts : SoakCounts). with_shown counts c.args.shown.now) handed ∙ sym (with_all_append begun items (c.args.shown.now ∷ []))
