use Rattle.std.proofs.Common.{◌≡◌, ap, rules, sym, ◌∙◌, length}
use Rattle.schedule_judge.specs.Waiting.{Held}
use Rattle.schedule_judge.proofs.Keys.{held-length}
use Rattle.schedule_judge.proofs.waiting_room.Waiting.len.Goals as goal

pub returns : goal.returns
returns c =
    let count : c.len.result ≡ length c.self.inside.keys.list = search rules in
    count ∙ sym (held-length c.self.inside.batches c.self.inside.keys.list c.self.invariant.there) ∙ ap (λ (h : Held). length h.list) c.self.view_is
