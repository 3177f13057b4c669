use Rattle.device_rack.proofs.Handed.{hands_each}
use Rattle.device_rack.proofs.laws.lists_are_handed.Goals as goal

pub returns : goal.returns
returns g c = λ items handed. hands_each _ _ _ items c.args.before.now.places.items c.args.after.now.places.items handed
