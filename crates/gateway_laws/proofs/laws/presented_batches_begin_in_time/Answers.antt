use Rattle.gateway_laws.proofs.Timely.{due_in_time, shown_in_time}
use Rattle.gateway_laws.proofs.laws.presented_batches_begin_in_time.Goals as goal

pub returns : goal.returns
returns c plan records = record { shown = shown_in_time plan records; due = due_in_time plan records }
