use Rattle.std.proofs.Common.{◌*◌, Ok}
use Rattle.device_rack.specs.RawOutput.{silence_of}
use Rattle.device_rack.specs.state.Written.{HasWritten}
use Rattle.device_rack.proofs.writing.write_silence.Given as goal

abbrev pub invariant-loop : goal.invariant-loop
invariant-loop g l = HasWritten {T = Unit} (g.S.Sink.state l.fn.sink) (g.S.Sink.state l.sink) (Ok tt) (silence_of l.fn.silence (l.counter * 1024))
