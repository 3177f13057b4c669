use Rattle.std.proofs.Common.{◌∙◌}
use Rattle.avtp_words.specs.Grammar.{turning_of}
use Rattle.gateway_command.proofs.TurnRun.{turns_nothing, turns_unmade, put_none, turns_file}
use Rattle.gateway_command.proofs.command.turn.Goals as goal

pub returns-in_default : goal.returns-in_default
returns-in_default g c = turns_nothing (turning_of c.args.asked.now) c.args.shape

pub returns-in_default-begin : goal.returns-in_default-begin
returns-in_default-begin g c = turns_nothing (turning_of c.args.asked.now) c.args.shape

pub returns-in_default-new : goal.returns-in_default-new
returns-in_default-new g c = turns_nothing (turning_of c.args.asked.now) c.args.shape

pub returns-in-Err : goal.returns-in-Err
returns-in-Err g c = rw c.unmade.ensures (turns_unmade (turning_of c.args.asked.now) c.args.shape c.in-Err.fault c.in-Err.ensures)

pub returns : goal.returns
returns g c =
    let asked = turning_of c.args.asked.now in
    turns_file (g.F.Shelf.state c.end_output.new.context.0) (g.S.Sink.state c.end_output.new.context.1.1.0) c.end_output.new.context.1.0 c.end_output.result asked c.args.shape c.requires.asked.apart c.in-Ok-create.ensures c.turn_input-turned.ensures c.end_output.ensures
    (put_none asked c.args.shape c.format-to.ensures c.in-Ok.ensures) c.in-Ok-begin.ensures.stands c.in-Ok-begin.ensures.open (c.in-Ok-begin.ensures.plan ∙ c.plan.ensures)
