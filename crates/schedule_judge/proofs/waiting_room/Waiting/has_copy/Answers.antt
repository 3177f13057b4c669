use Rattle.std.proofs.Common.{◌≡◌, ap, ◌∙◌, arith, w64, to_z, of_z}
use Rattle.std.specs.List.{list_any}
use Rattle.std.proofs.lemmas.Int.{ints}
use Rattle.sample_schedule.specs.Verdicts.{is_copy}
use Rattle.schedule_judge.specs.Waiting.{Held}
use Rattle.schedule_judge.proofs.Keys.{held-copies}
use Rattle.schedule_judge.proofs.waiting_room.Waiting.has_copy.Goals as goal

pub returns : goal.returns
returns c =
    let t = to_z w64 (of_z w64 c.args.instant) in
    let now : t ≡ c.args.instant = omega (arith, ints) in
    rw now at (c.has.ensures ∙ held-copies t c.args.seq c.self.inside.batches c.self.inside.keys.list c.self.invariant.there
    ∙ ap (λ (h : Held). list_any (is_copy t c.args.seq) h.list) c.self.view_is)
