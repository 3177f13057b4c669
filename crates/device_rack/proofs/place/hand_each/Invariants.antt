use Rattle.std.proofs.Common.{not}
use Rattle.device_rack.specs.Racks.{IsHanded}
use Rattle.device_rack.proofs.Walks.{HasWalked}
use Rattle.device_rack.proofs.place.hand_each.Given as goal

abbrev pub invariant-loop-place : goal.invariant-loop-place
invariant-loop-place g l =
    HasWalked
    (IsHanded (λ b. (goal.Device-dyn g (b.vtable, b.value)).took b.value) (λ b. (goal.Device-dyn g (b.vtable, b.value)).faults b.value) (λ b. (goal.Device-dyn g (b.vtable, b.value)).failing b.value) l.shown)
    (λ place. not place.live) l.initial.places l.places l.place-index l.failures
