use Rattle.std.proofs.Common.{[], ◌∷◌}
use Rattle.device_rack.proofs.Handed.{hands_join, hands_one}
use Rattle.device_rack.proofs.devices.RackDevices.hand_on.Goals as goal

pub returns : goal.returns
returns g c begun items handed = hands_join _ _ _ items (c.args.shown.now ∷ []) _ _ _ handed (hands_one _ _ _ c.args.shown.now _ _ c.hand.ensures.places)
