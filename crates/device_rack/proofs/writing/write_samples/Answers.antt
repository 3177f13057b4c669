use Rattle.device_rack.proofs.Writings.{HasWritten-cut, HasWritten-then}
use Rattle.device_rack.proofs.writing.write_samples.Goals as goal

pub returns-in_err-write_silence : goal.returns-in_err-write_silence
returns-in_err-write_silence g c = HasWritten-cut _ c.args.bytes.now c.in_err-write_silence.ensures c.from_residual.ensures.0

pub returns : goal.returns
returns g c = HasWritten-then _ _ c.in_ok-write_silence.ensures c.write_all.ensures
