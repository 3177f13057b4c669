use Rattle.avtp_words.specs.Grammar.{turning_of}
use Rattle.gateway_command.proofs.TurnedInput.{input_unread, opened_open, still_live, input_turned}
use Rattle.gateway_command.proofs.command.turn_input.Goals as goal

pub returns-in-Err : goal.returns-in-Err
returns-in-Err g c = rw c.unread.ensures (input_unread (turning_of c.args.asked.now) c.in-Err.fault c.requires.made c.in-Err.ensures.tries)

pub turn_records-turned-requires-clause-open : goal.turn_records-turned-requires-clause-open
turn_records-turned-requires-clause-open g c = opened_open (turning_of c.args.asked.now) c.args.output.now c.requires.made c.in-Ok.ensures

pub close-requires : goal.close-requires
close-requires g c = still_live (turning_of c.args.asked.now) c.in-Ok.ensures c.turn_records-turned.ensures

pub returns : goal.returns
returns g c = input_turned (turning_of c.args.asked.now) c.requires.made c.in-Ok.ensures c.turn_records-turned.ensures c.close.ensures
