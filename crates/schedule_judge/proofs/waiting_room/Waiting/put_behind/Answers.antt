-- The key is put after all keys with earlier or equal instants.
use Rattle.std.proofs.Common.{◌+◌, ℕ, ap, rules, sym, ◌∙◌, subst, length, w64, to_z, of_z, arith}
use Rattle.std.proofs.lemmas.Int.{ints}
use Rattle.sorted_keys.specs.declared.key.Key.{Key}
use Rattle.sample_schedule.specs.Order.{put_behind}
use Rattle.schedule_judge.specs.Waiting.{Held}
use Rattle.schedule_judge.specs.state.Waiting.{IsWaiting}
use Rattle.schedule_judge.proofs.Keys.{IsPut, held-length, put-list, put-waiting}
use Rattle.schedule_judge.proofs.waiting_room.Waiting.put_behind.Goals as goal

pub insert_reserved-slot-requires : goal.insert_reserved-slot-requires
insert_reserved-slot-requires c =
    let count = c.self.invariant.count in
    let keys = held-length c.self.inside.batches c.self.inside.keys.list c.self.invariant.there in
    let list = ap (λ (h : Held). length h.list) c.self.view_is in
    let room = ap (λ (h : Held). h.room) c.self.view_is in
    omega arith

pub put-requires : goal.put-requires
put-requires c =
    let keys = held-length c.self.inside.batches c.self.inside.keys.list c.self.invariant.there in
    let list = ap (λ (h : Held). length h.list) c.self.view_is in
    let room = ap (λ (h : Held). h.room) c.self.view_is in
    omega arith

abbrev key : (c : goal.After-put) → Key
key c = record { instant = to_z w64 (of_z w64 c.args.accepted.instant); seq = c.sequence_number-seq.result; slot = c.insert_reserved-slot.result }

put : (c : goal.After-put) → IsPut c.self.inside.batches c.insert_reserved-slot.new.self c.self.inside.keys.list c.put.new.self.list (key c) c.args.accepted
put c = record {
  free = c.insert_reserved-slot.ensures.was_vacant;
  slot = c.insert_reserved-slot.ensures.updates;
  instant = search (rules, ints);
  seq = c.sequence_number-seq.ensures;
  keys = c.put.ensures.list;
}

pub invariant_of-self : goal.invariant_of-self
invariant_of-self c =
    subst (λ (n : ℕ). IsWaiting c.put.new.self.list c.insert_reserved-slot.new.self (c.self.inside.bytes + n)) (sym c.size.ensures)
    (put-waiting c.self.inside.batches c.insert_reserved-slot.new.self c.self.inside.keys.list c.put.new.self.list (key c) c.args.accepted c.self.inside.bytes (put c) c.insert_reserved-slot.ensures.len c.self.invariant)

pub returns : goal.returns
returns c = record {
  list =
      put-list c.self.inside.batches c.insert_reserved-slot.new.self c.self.inside.keys.list c.put.new.self.list (key c) c.args.accepted (put c) c.self.invariant.there
      ∙ ap (λ (h : Held). put_behind h.list c.args.accepted) c.self.view_is;
  room = search rules;
}
