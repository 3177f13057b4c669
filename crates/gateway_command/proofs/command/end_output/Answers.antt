use Rattle.gateway_command.proofs.TurnRun.{ends_unfinished}
use Rattle.gateway_command.proofs.command.end_output.Goals as goal

pub returns-in-Ok-Ended : goal.returns-in-Ok-Ended
returns-in-Ok-Ended g c =
    rw c.in-Ok-Ended.is (ends_unfinished {before = g.F.Shelf.state c.args.context.shelf.now} {after = g.F.Shelf.state c.finish.new.shelf} c.args.output (g.S.Sink.state c.args.context.out.now) c.args.context.text.now c.args.limit c.in-Ok-Ended.field-0 c.in-Ok-Ended.end c.in-Ok-Ended.presented c.in-Err-finish.field-0 (rw c.in-Ok-Ended.is at c.in-Ok-Ended.field-0-is) (rw c.in-Err-finish.is at c.finish.ensures))
