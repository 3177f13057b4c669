use Rattle.std.proofs.Common.{sym}
use Rattle.std.proofs.lemmas.List.{take_all}
use Rattle.avtp_text.specs.Listen.{shown_lines}
use Rattle.avtp_text.proofs.Printing.{part_as, part_then}
use Rattle.avtp_text.proofs.Samples.{one_shown, shown_failed}
use Rattle.avtp_text.proofs.buffer.Text.shown_list.Goals as goal

pub returns-in_err-shown : goal.returns-in_err-shown
returns-in_err-shown g c =
    let next = rw c.shown-item.is at c.in_err-shown.ensures in
    shown_failed shown_lines c.args.list.now c.loop-shown.shown-index c.shown-item.result c.loop-shown-test.true c.from_residual.ensures.0 c.loop-shown.invariant next

pub loop-shown-preserved : goal.loop-shown-preserved
loop-shown-preserved g c =
    let next = rw c.shown-item.is at c.in_ok-shown.ensures in
    part_as _ _ (sym (one_shown shown_lines c.args.list.now c.loop-shown.shown-index c.shown-item.result c.loop-shown-test.true)) (part_then _ _ c.loop-shown.invariant next)

pub returns : goal.returns
returns g c = rw (take_all c.loop-shown.shown-index c.args.list.now c.loop-shown-test.false) at c.loop-shown.invariant
