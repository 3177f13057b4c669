use Rattle.std.proofs.Common.{not, arith}
use Rattle.device_rack.proofs.Walks.{HasWalked-start, HasWalked-next, HasWalked-end, HasWalked-bound, turned_counts, from_bool-le}
use Rattle.device_rack.proofs.place.hand_each.Goals as goal

pub loop-place-init : goal.loop-place-init
loop-place-init g c = HasWalked-start _ _ c.args.places.now

pub overflow_add-failures : goal.overflow_add-failures
overflow_add-failures g c =
    let passed = HasWalked-bound _ _ _ _ _ _ c.loop-place.invariant in
    let one = from_bool-le c.hand.result in
    omega (arith, passed, one, c.from-failures.ensures)

pub loop-place-preserved : goal.loop-place-preserved
loop-place-preserved g c =
    HasWalked-next _ (λ place. not place.live) c.args.places.now c.loop-place.places c.loop-place.place-index c.loop-place.failures c.from-failures.result c.place-item.result c.hand.new.place
    c.loop-place.invariant (omega arith) c.place-item.is c.hand.ensures.handed
    (rw c.from-failures.ensures (turned_counts _ _ _ c.hand.ensures.turned c.hand.ensures.stays))

pub returns : goal.returns
returns g c =
    let ended = HasWalked-end _ _ _ _ _ _ c.loop-place.invariant (omega arith) in
    record { places = ended.0; failures = ended.1 }
