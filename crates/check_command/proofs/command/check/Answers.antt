use Rattle.std.proofs.Common.{refl, Ok, Err, inl}
use Rattle.avtp_base.proofs.Told.{Keeps-refl}
use Rattle.capture_io.proofs.Leaving.{reads_nothing}
use Rattle.run_report.proofs.DoesFile.{does_unopened, does_cut, does_read}
use Rattle.run_report.proofs.Leaving.{on_err}
use Rattle.run_report.proofs.Yields.{part_none}
use Rattle.run_report.proofs.Outcomes.{counts_memory, sink_still, sink_then, counts_failed, sink_err}
use Rattle.run_report.specs.Reading.{DoesFile}
use Rattle.run_report.specs.Yield.{HandsNothing}
use Rattle.run_report.specs.declared.status.Status.TheVariants as status
use Rattle.check_command.specs.Check.{check_report}
use Rattle.check_command.proofs.CheckedTo.{check_told, counts_checked, own_checked, some_lines}
use Rattle.check_command.proofs.command.check.Goals as goal

pub returns-in-Err : goal.returns-in-Err
returns-in-Err g c = does_unopened (check_report c.args.limit c.args.file.now) c.args.limit c.in-Err.fault refl c.in-Err.ensures.tries c.print_unopened.ensures

pub returns-in_default : goal.returns-in_default
returns-in_default g c =
    let opened = c.in-Ok.ensures in
    does_cut (check_report c.args.limit c.args.file.now) opened (reads_nothing _ _ opened.tries.opened.live) c.close.ensures (Ok status.Memory) (λ bytes given. part_none refl _ (Keeps-refl _)) (inl refl) (λ falls. counts_memory _ falls refl) refl (sink_still _ _)

pub returns-in_err-checked : goal.returns-in_err-checked
returns-in_err-checked g c =
    let limit = c.args.limit in
    let name = c.args.file.now in
    let read = rw c.in_err-checked.was at c.check_records-checked.ensures in
    on_err (DoesFile (check_report limit name) HandsNothing limit name _ _ _ _ _ _) c.from_residual.result c.from_residual.ensures.0
    (λ e. does_cut (check_report limit name) c.in-Ok.ensures read.reads.reads c.close-2.ensures (Err e) (λ bytes given. some_lines limit name bytes _ _ (read.told limit bytes given)) tt (λ falls. counts_failed e falls) tt (sink_err read.sink))

pub returns : goal.returns
returns g c =
    let limit = c.args.limit in
    let name = c.args.file.now in
    let total = c.in_ok-checked.field-0 in
    let result = c.print_total.result in
    let read = rw c.in_ok-checked.was at c.check_records-checked.ensures in
    let last = c.print_total.ensures in
    does_read (check_report limit name) c.in-Ok.ensures read.reads.reads c.close-2.ensures total.end result read.reads.counted (λ bytes given. check_told limit name bytes _ total _ (read.told limit bytes given) last)
    (λ falls counts. counts_checked total.findings total.end result falls counts last.status) (own_checked total.findings total.end result last.status) (sink_then read.sink last.sink)
