use Rattle.std.proofs.Common.{ap, ◌∙◌}
use Rattle.sample_schedule.specs.Verdicts.{total_bytes}
use Rattle.schedule_judge.specs.Waiting.{Held}
use Rattle.schedule_judge.proofs.waiting_room.Waiting.bytes.Goals as goal

pub returns : goal.returns
returns c = c.self.invariant.total ∙ ap (λ (h : Held). total_bytes h.list) c.self.view_is
