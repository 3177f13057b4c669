use Rattle.std.proofs.Common.{length, rules}
use Rattle.listener.proofs.Fed.{given_ended}
use Rattle.listener.proofs.capture.end.Goals as goal

pub returns-in-Ok : goal.returns-in-Ok
returns-in-Ok c = record {
  given = λ bytes list has.
      given_ended bytes list c.args.listener.now c.end.new.self has c.requires.opened (c.end.ensures.ended c.requires.ready.memory) c.end.ensures.plan (c.end.ensures.stands bytes (length list) has.stands);
  refused = search rules;
  plan = search rules;
  ended = search rules;
}

pub returns-in-Err-Refused : goal.returns-in-Err-Refused
returns-in-Err-Refused c = record {
  given = λ bytes list has.
      given_ended bytes list c.args.listener.now c.end.new.self has c.requires.opened (c.end.ensures.ended c.requires.ready.memory) c.end.ensures.plan (c.end.ensures.stands bytes (length list) has.stands);
  refused = search rules;
  plan = search rules;
  ended = search rules;
}
