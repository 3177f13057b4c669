use Rattle.std.proofs.Common.{arith, ap, sym}
use Rattle.sample_schedule.specs.Batches.{Presented}
use Rattle.avtp_text.specs.Listen.{sample_line}
use Rattle.avtp_text.proofs.Printing.{part_as, part_then}
use Rattle.avtp_text.proofs.Samples.{one_more, lines_failed}
use Rattle.avtp_text.proofs.buffer.Text.long_samples.Goals as goal

pub returns-in_err-sample : goal.returns-in_err-sample
returns-in_err-sample g c =
    lines_failed (sample_line c.args.batch.now) c.args.batch.now.count c.loop-j.j (omega (arith, c.loop-j-test.true, ap (λ (b : Presented). b.count) c.batch.view_is)) c.from_residual.ensures.0 c.loop-j.invariant c.in_err-sample.ensures

pub loop-j-preserved : goal.loop-j-preserved
loop-j-preserved g c =
    part_as _ _ (sym (one_more (sample_line c.args.batch.now) c.loop-j.j)) (part_then _ _ c.loop-j.invariant c.in_ok-sample.ensures)
