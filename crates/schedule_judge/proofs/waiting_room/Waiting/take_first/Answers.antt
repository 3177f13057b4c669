-- The first key belongs to the first batch.
use Rattle.std.proofs.Common.{◌-◌, ℕ, List, ap, sym, ◌∙◌, subst, rules}
use Rattle.sorted_keys.specs.declared.key.Key.{Key}
use Rattle.schedule_judge.specs.Waiting.{Held}
use Rattle.schedule_judge.specs.state.Waiting.{IsWaiting, held}
use Rattle.schedule_judge.proofs.Keys.{take-list, take-waiting}
use Rattle.schedule_judge.proofs.waiting_room.Waiting.take_first.Goals as goal

pub invariant_of-self-2 : goal.invariant_of-self-2
invariant_of-self-2 c =
    let w = subst (λ (l : List Key). IsWaiting l c.self.inside.batches c.self.inside.bytes) c.in-Some.ensures.taken c.self.invariant in
    subst (λ (n : ℕ). IsWaiting c.take_first.new.self.list c.remove-first.new.self (c.self.inside.bytes - n)) (sym c.size.ensures)
    (take-waiting c.self.inside.batches c.remove-first.new.self c.in-Some.key c.take_first.new.self.list c.remove-first.result c.self.inside.bytes w c.remove-first.ensures.value c.remove-first.ensures.updates c.remove-first.ensures.len)

pub returns : goal.returns
returns c = record {
  hands = record {
    list =
        let w = subst (λ (l : List Key). IsWaiting l c.self.inside.batches c.self.inside.bytes) c.in-Some.ensures.taken c.self.invariant in
        ap (λ (h : Held). h.list) (sym c.self.view_is)
        ∙ ap (λ (l : List Key). held c.self.inside.batches l) c.in-Some.ensures.taken
        ∙ take-list c.self.inside.batches c.remove-first.new.self c.in-Some.key c.take_first.new.self.list c.remove-first.result c.self.inside.bytes w c.remove-first.ensures.value c.remove-first.ensures.updates;
    room = search rules;
  };
  none = tt;
}
