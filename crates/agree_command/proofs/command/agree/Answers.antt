use Rattle.std.proofs.Common.{[], ◌∷◌}
use Rattle.avtp_words.specs.Grammar.{agreeing_of}
use Rattle.run_report.specs.Reading.{DoesReading}
use Rattle.run_report.specs.Yield.{HandsNothing}
use Rattle.run_report.proofs.Leaving.{on_err}
use Rattle.agree_command.proofs.AgreeRun.{agree_unopened, agree_ends, agree_stops, agree_no_memory, agree_failed}
use Rattle.agree_command.specs.Agree.{AgreeYields}
use Rattle.agree_command.proofs.command.agree.Goals as goal
use Rattle.agree_command.proofs.command.agree.Goals.{in-Ended, in-Fault, in-NoMemory}

pub returns-in-Err : goal.returns-in-Err
returns-in-Err g c = agree_unopened (agreeing_of c.args.asked.now) c.in-Err.fault c.in-Err.ensures.refused c.print_unopened.ensures

pub returns : goal.returns
returns g c =
    let asked = agreeing_of c.args.asked.now in
    elim c.match-branch-2.branch [
      | in-Ended w ↦ rw (w.text-is, w.out-is, w.result-is) (agree_ends asked c.in-Ok.ensures (rw w.in-Ended.is at c.in_ok-ended.ensures) c.close.ensures w.print_end.ensures)
      | in-Fault w ↦ rw (w.text-is, w.out-is, w.result-is) (agree_stops asked c.in-Ok.ensures (rw w.in-Fault.is at c.in_ok-ended.ensures) c.close.ensures w.print_fault.ensures)
      | in-NoMemory w ↦ rw (w.text-is, w.out-is, w.result-is) (agree_no_memory asked c.in-Ok.ensures (rw w.in-NoMemory.is at c.in_ok-ended.ensures) c.close.ensures)
    ]

pub returns-in_err-ended : goal.returns-in_err-ended
returns-in_err-ended g c =
    on_err (DoesReading (AgreeYields (agreeing_of c.args.asked.now)) (c.args.asked.now.a.now ∷ c.args.asked.now.b.now ∷ []) HandsNothing (g.F.Shelf.state c.args.context.shelf.now) (g.F.Shelf.state c.close.new.shelf) (g.S.Sink.state c.args.context.out.now)
    (g.S.Sink.state c.compare-compared.new.context.1.1.0) c.args.context.text.now c.compare-compared.new.context.1.0) c.from_residual.result c.from_residual.ensures.0
    (λ e. agree_failed e (agreeing_of c.args.asked.now) c.in-Ok.ensures c.in_err-ended.ensures c.close.ensures)
