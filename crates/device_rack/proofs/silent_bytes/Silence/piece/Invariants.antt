use Rattle.std.proofs.Common.{◌≡◌, take}
use Rattle.device_rack.specs.RawOutput.{silence_of}
use Rattle.device_rack.proofs.silent_bytes.Silence.piece.Given as goal

abbrev pub invariant-loop-j : goal.invariant-loop-j
invariant-loop-j l = take l.j l.byte-items ≡ silence_of l.self l.j
