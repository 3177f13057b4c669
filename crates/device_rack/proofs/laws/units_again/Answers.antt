use Rattle.std.proofs.Common.{refl, arith}
use Rattle.device_rack.specs.RawOutput.{annexb, units}
use Rattle.device_rack.proofs.Carried.{units_stand}
use Rattle.device_rack.proofs.laws.units_again.Goals as goal

pub returns : goal.returns
returns c = λ items carried. units_stand (annexb items) (units items) 0 (omega arith) carried refl
