use Rattle.std.proofs.Common.{refl, Ok, ap, ◌∙◌}
use Rattle.avtp_words.specs.Grammar.{listening_of}
use Rattle.run_report.specs.declared.status.Status.{Status}
use Rattle.avtp_tool.proofs.HearFiles.{err_plain, failed_as, plain_runs, fault_runs, less_is, more_is}
use Rattle.avtp_tool.proofs.files.hear_files.Goals as goal

pub returns-in_err-ended : goal.returns-in_err-ended
returns-in_err-ended g c =
    let err = c.from_residual.ensures.0 in
    plain_runs (listening_of c.args.asked.now) _ c.from_residual.result c.from_residual.result refl (err_plain _ c.from_residual.result err) (failed_as c.from_residual.result err c.in_err-ended.ensures.does)

pub returns-then-failed-count_failed : goal.returns-then-failed-count_failed
returns-then-failed-count_failed g c =
    fault_runs (listening_of c.args.asked.now) _ c.read_files.result c.print_device_fault.result (c.in_ok-ended.was ∙ ap (λ (s : Status). Ok s) c.in-Done.is) (less_is c.count_failed-failed.ensures c.count_failed.ensures c.if-failed-count_failed.true) c.print_device_fault.ensures c.read_files.ensures.does

pub returns : goal.returns
returns g c =
    plain_runs (listening_of c.args.asked.now) _ c.read_files.result _ (c.in_ok-ended.was ∙ ap (λ (s : Status). Ok s) c.in-Done.is) (λ done. more_is c.count_failed-failed.ensures c.count_failed.ensures c.if-failed-count_failed.false) c.read_files.ensures.does

pub returns-in_default : goal.returns-in_default
returns-in_default g c =
    plain_runs (listening_of c.args.asked.now) _ c.read_files.result _ c.in_ok-ended.was (λ done failed. c.in_default.not-Done cc) c.read_files.ensures.does
