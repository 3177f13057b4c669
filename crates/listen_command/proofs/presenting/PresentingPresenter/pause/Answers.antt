use Rattle.std.proofs.Common.{sym, ◌∙◌}
use Rattle.listen_command.proofs.Passing.{gives_flushed}
use Rattle.listen_command.proofs.presenting.PresentingPresenter.pause.Goals as goal

pub returns-clause-handed : goal.returns-clause-handed
returns-clause-handed g c begun items handed =
    let f = c.flush-self.ensures in (
      handed.0,
      handed.1,
      handed.2,
      λ fine. gives_flushed items c.args.self.now.result c.flush-self.result (sym c.is_err.ensures.value ∙ c.if-is_err.false) (handed.3 fine)
          (record { kept = f.written; sink = record { grows = f.grows; counted = f.counted } }),
    )
