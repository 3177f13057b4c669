use Rattle.std.proofs.Common.{◌≡◌, take}
use Rattle.device_rack.specs.Racks.{live_count}
use Rattle.device_rack.proofs.rack.Rack.live.Given as goal

abbrev pub invariant-loop-place : goal.invariant-loop-place
invariant-loop-place g l = l.live ≡ live_count (take l.place-index l.self.places.items)
