use Rattle.std.proofs.Common.{refl, inl, inr}
use Rattle.run_report.proofs.Yields.{hands_nothing}
use Rattle.run_report.specs.declared.status.Status.TheVariants as status
use Rattle.avtp_tool.proofs.Promised.{no_memory, tells_nothing, has_run, refuses_words}
use Rattle.avtp_tool.proofs.Ended.{ended_as}
use Rattle.avtp_tool.proofs.command.run.Goals as goal

-- ---- there was no memory for the text

pub returns-in_default-clause-has_run : goal.returns-in_default-clause-has_run
returns-in_default-clause-has_run g c request line = no_memory _ request _ _ _ _ _ line (hands_nothing g.D.Devices.handed c.args.rack.now) refl

pub returns-in_default-clause-refuses : goal.returns-in_default-clause-refuses
returns-in_default-clause-refuses g c position offence = tells_nothing position _ _ (refl, refl)

-- ---- the text was written

pub returns-clause-has_run : goal.returns-clause-has_run
returns-clause-has_run g c request line = has_run _ line c.in-Ok.ensures (c.execute-ended.ensures.runs request line) c.finish.ensures (c.execute-ended.ensures.devices request line)

pub returns-clause-refuses : goal.returns-clause-refuses
returns-clause-refuses g c position offence =
    let words = c.execute-ended.ensures.words position offence in
    refuses_words c.in-Ok.ensures (words.0, words.1) words.2 c.finish.ensures

pub returns-clause-only_words : goal.returns-clause-only_words
returns-clause-only_words g c is =
    elim c.execute-ended.ensures.either [
      | inl request ↦ absurd ((c.execute-ended.ensures.runs request.0 request.1).no_words (ended_as status.Words (λ e. cc) c.finish.ensures is))
      | inr offence ↦ offence
    ]
