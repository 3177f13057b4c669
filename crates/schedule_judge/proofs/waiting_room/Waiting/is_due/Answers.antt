use Rattle.std.proofs.Common.{◌≡◌, ap, sym, ◌∙◌, rules, w64, to_z, of_z}
use Rattle.std.proofs.lemmas.Int.{ints}
use Rattle.schedule_judge.specs.state.Order.{starts_due}
use Rattle.schedule_judge.specs.Waiting.{Held}
use Rattle.schedule_judge.proofs.Keys.{first-due, none-due}
use Rattle.schedule_judge.proofs.waiting_room.Waiting.is_due.Goals as goal

pub returns-in-Some : goal.returns-in-Some
returns-in-Some c =
    let first : to_z w64 (of_z w64 c.in-Some.first.instant) ≡ c.in-Some.first.instant = search (rules, ints) in
    let now : to_z w64 (of_z w64 c.args.now) ≡ c.args.now = search (rules, ints) in
    rw (first, now) (sym (first-due c.args.now c.self.inside.batches c.self.inside.keys.list c.in-Some.first c.self.invariant.there (sym c.first.ensures ∙ c.in-Some.is))
    ∙ ap (λ (h : Held). starts_due c.args.now h.list) c.self.view_is)

pub returns-in-None : goal.returns-in-None
returns-in-None c =
    sym (none-due c.args.now c.self.inside.batches c.self.inside.keys.list (sym c.first.ensures ∙ c.in-None.is))
    ∙ ap (λ (h : Held). starts_due c.args.now h.list) c.self.view_is
