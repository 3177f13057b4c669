use Rattle.std.proofs.Common.{arith}
use Rattle.device_rack.proofs.Walks.{both_counts}
use Rattle.device_rack.proofs.rack.Rack.failed.Goals as goal

pub returns : goal.returns
returns g c = omega (arith, both_counts (λ place. place.live) c.args.self.now.places.items, c.len.ensures, c.live.ensures)
