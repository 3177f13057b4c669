use Rattle.std.proofs.Common.{[], ◌∷◌, sym, ◌∙◌, ap}
use Rattle.std.specs.Prelude.{is_err}
use Rattle.run_report.proofs.Yields.{hands_both}
use Rattle.listen_command.proofs.Passing.{gives_no_more, gives_failed, gives_one}
use Rattle.listen_command.proofs.presenting.PresentingPresenter.present.Goals as goal

pub returns-then-is_err-clause-handed : goal.returns-then-is_err-clause-handed
returns-then-is_err-clause-handed g c begun items handed =
    (handed.0, handed.1, handed.2, λ fine. gives_no_more items (c.args.shown.now ∷ []) c.args.self.now.result (sym c.is_err.ensures.value ∙ c.if-is_err.true) (handed.3 fine))

pub returns-in_err-self-clause-handed : goal.returns-in_err-self-clause-handed
returns-in_err-self-clause-handed g c begun items handed =
    (handed.0, handed.1, handed.2, λ fine. gives_failed items c.args.shown.now c.args.self.now.result c.shown-self.result (sym c.is_err.ensures.value ∙ c.if-is_err.false) (ap is_err c.in_err-self.was) (handed.3 fine) c.shown-self.ensures)

pub returns-clause-handed : goal.returns-clause-handed
returns-clause-handed g c begun items handed = (
  handed.0,
  handed.1,
  handed.2,
  λ fine. gives_one items c.args.shown.now c.args.self.now.result c.shown-self.result (sym c.is_err.ensures.value ∙ c.if-is_err.false) (ap is_err c.in_ok-self.was)
      (λ h. hands_both g.D.Devices.handed begun.rack.now c.args.self.now.rack.now _ items (c.args.shown.now ∷ []) h c.hand.ensures) (handed.3 fine) c.shown-self.ensures,
)
