use Rattle.std.proofs.Common.{refl, Err}
use Rattle.run_report.proofs.DoesFile.{does_unopened, does_read, does_cut}
use Rattle.run_report.proofs.Leaving.{on_err, own_ended}
use Rattle.run_report.proofs.Outcomes.{counts_ended, sink_then, counts_failed, sink_err}
use Rattle.run_report.specs.Reading.{DoesFile}
use Rattle.run_report.specs.Yield.{HandsNothing}
use Rattle.avtp_tool.specs.Show.{show_report}
use Rattle.avtp_tool.proofs.Shown.{show_told, some_lines}
use Rattle.avtp_tool.proofs.show.show.Goals as goal

pub returns-in-Err : goal.returns-in-Err
returns-in-Err g c = does_unopened (show_report c.args.limit) c.args.limit c.in-Err.fault refl c.in-Err.ensures.tries c.print_unopened.ensures

pub returns-in_err-printed : goal.returns-in_err-printed
returns-in_err-printed g c =
    let limit = c.args.limit in
    let read = rw c.in_err-printed.was at c.print_records-printed.ensures in
    on_err (DoesFile (show_report limit) HandsNothing limit c.args.file.now _ _ _ _ _ _) c.from_residual.result c.from_residual.ensures.0
    (λ e. does_cut (show_report limit) c.in-Ok.ensures read.reads.reads c.close.ensures (Err e) (λ bytes given. some_lines limit bytes _ _ (read.told limit bytes given)) tt (λ falls. counts_failed e falls) tt (sink_err read.sink))

pub returns : goal.returns
returns g c =
    let limit = c.args.limit in
    let printed = c.in_ok-printed.field-0 in
    let result = c.print_end.result in
    let read = rw c.in_ok-printed.was at c.print_records-printed.ensures in
    let last = c.print_end.ensures in
    does_read (show_report limit) c.in-Ok.ensures read.reads.reads c.close.ensures printed.end result read.reads.counted (λ bytes given. show_told limit bytes _ printed _ (read.told limit bytes given) last)
    (λ falls counts. counts_ended printed.end result falls counts last.status) (own_ended result printed.end last.status) (sink_then read.sink last.sink)
