-- The listener that the words ask for.
use Rattle.listener.specs.declared.plan.ListenPlan.{ListenPlan}
use Rattle.avtp_words.specs.declared.listener.ListenerOptions.{ListenerOptions}

-- the plan of the listener that the words ask for
abbrev pub plan_of : ListenerOptions → ListenPlan
plan_of asked = record { stream = asked.stream; clock = asked.clock; buffer = asked.buffer; room = asked.room; look = asked.look; lead = asked.lead; shift = asked.shift }
