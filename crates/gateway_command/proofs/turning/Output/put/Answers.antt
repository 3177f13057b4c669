use Rattle.std.proofs.Common.{ap}
use Rattle.sample_schedule.specs.Batches.{Presented}
use Rattle.run_report.proofs.Leaving.{on_err}
use Rattle.gateway_command.proofs.Putting.{puts_written, puts_part, puts_skipped, puts_unsaid}
use Rattle.gateway_command.specs.state.Turning.{PutsBatch}
use Rattle.gateway_command.proofs.turning.Output.put.Goals as goal

pub returns-in-Ok-write_frames : goal.returns-in-Ok-write_frames
returns-in-Ok-write_frames g c = puts_written c.args.batch _ _ c.in-Ok.ensures.taken c.in-Ok.ensures.given c.in-Ok.ensures.number c.in-Ok-write_frames.ensures

pub returns-in-Err-write_frames : goal.returns-in-Err-write_frames
returns-in-Err-write_frames g c = puts_part c.args.batch _ _ c.in-Ok.ensures.taken c.in-Ok.ensures.given c.in-Err-write_frames.ensures

pub returns-in_ok-print_skip-in-Err : goal.returns-in_ok-print_skip-in-Err
returns-in_ok-print_skip-in-Err g c =
    let frame = ap (λ (b : Presented). b.frame) c.batch.view_is in
    let printed = rw frame at c.in_ok-print_skip-in-Err.ensures in
    puts_skipped c.args.self.now c.put.new.self c.args.batch c.in-Err.skip c.in-Err.ensures.skip c.in-Err.ensures.same c.requires.made printed

pub returns-in_err-print_skip-in-Err : goal.returns-in_err-print_skip-in-Err
returns-in_err-print_skip-in-Err g c =
    on_err (PutsBatch _ _ _ _ _ _ _ _ _) c.from_residual.result c.from_residual.ensures.0
    (λ e. puts_unsaid c.args.self.now c.put.new.self c.args.batch c.in-Err.skip c.in-Err.ensures.skip c.in-Err.ensures.same c.requires.made c.in_err-print_skip-in-Err.ensures)
