use Rattle.gateway_laws.proofs.Shaped.{due_shaped, not_shape_off, shown_shaped}
use Rattle.gateway_laws.proofs.laws.presented_batches_have_the_shape.Goals as goal

pub returns-clause-held : goal.returns-clause-held
returns-clause-held c to plan records none = record { shown = shown_shaped to plan records none; due = due_shaped to plan records none }

pub returns-clause-kept : goal.returns-clause-kept
returns-clause-kept c = not_shape_off
