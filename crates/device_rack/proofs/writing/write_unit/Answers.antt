use Rattle.std.proofs.Common.{◌∷◌, []}
use Rattle.device_rack.proofs.Writings.{HasWritten-cut, HasWritten-then}
use Rattle.device_rack.proofs.writing.write_unit.Goals as goal

pub returns-in_err-write_all : goal.returns-in_err-write_all
returns-in_err-write_all g c = HasWritten-cut (0 ∷ 0 ∷ 0 ∷ 1 ∷ []) c.args.bytes.now c.in_err-write_all.ensures c.from_residual.ensures.0

pub returns : goal.returns
returns g c = HasWritten-then (0 ∷ 0 ∷ 0 ∷ 1 ∷ []) c.args.bytes.now c.in_ok-write_all.ensures c.write_all-2.ensures
