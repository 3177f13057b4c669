use Rattle.std.proofs.Common.{◌+◌, arith, rules, ap, subst, sym, ◌∙◌}
use Rattle.sample_schedule.specs.Batches.{IsPresentable, Presented}
use Rattle.avtp_text.specs.Listen.{sample_line}
use Rattle.avtp_text.proofs.Printing.{part_as, part_none, part_of, part_then}
use Rattle.avtp_text.proofs.Samples.{one_more, lines_failed, sample_as}
use Rattle.avtp_text.proofs.listen.short_samples.Goals as goal

pub loop-j-init : goal.loop-j-init
loop-j-init g c = record {
  printed = part_none _ _ tt;
  number = c.first-instant.ensures.first;
  instant = c.first-instant.ensures.is;
  packet = search rules;
}

pub returns-in_err-print_sample : goal.returns-in_err-print_sample
returns-in_err-print_sample g c =
    let count = ap (λ (b : Presented). b.count) c.batch.view_is in
    let all = c.as_slice-bytes.ensures ∙ ap (λ (b : Presented). b.bytes) c.batch.view_is in
    let instants = (subst IsPresentable c.batch.view_is c.batch.invariant).instants in
    let loop = c.loop-j.invariant in
    let text = sample_as c.args.batch.now c.loop-j.instant c.loop-j.j c.args.size c.loop-j.line c.as_slice-bytes.result.now loop.number loop.instant.at (instants c.loop-j.j (omega (arith, c.loop-j-test.true, count))) loop.packet all c.requires.size in
    lines_failed (sample_line c.args.batch.now) c.args.batch.now.count c.loop-j.j (omega (arith, c.loop-j-test.true, count)) c.from_residual.ensures.0 loop.printed (part_as _ _ text (part_of c.in_err-print_sample.ensures.prints))

pub loop-j-preserved : goal.loop-j-preserved
loop-j-preserved g c =
    let count = ap (λ (b : Presented). b.count) c.batch.view_is in
    let all = c.as_slice-bytes.ensures ∙ ap (λ (b : Presented). b.bytes) c.batch.view_is in
    let instants = (subst IsPresentable c.batch.view_is c.batch.invariant).instants in
    let loop = c.loop-j.invariant in
    let text = sample_as c.args.batch.now c.loop-j.instant c.loop-j.j c.args.size c.loop-j.line c.as_slice-bytes.result.now loop.number loop.instant.at (instants c.loop-j.j (omega (arith, c.loop-j-test.true, count))) loop.packet all c.requires.size in
    record {
      printed = part_as _ _ (sym (one_more (sample_line c.args.batch.now) c.loop-j.j)) (part_then _ _ loop.printed (part_as _ _ text (part_of c.in_ok-print_sample.ensures.prints)));
      number = c.next.ensures.next ∙ ap (λ n. n + 1) loop.number;
      instant = c.next.ensures.is;
      packet = search rules;
    }
