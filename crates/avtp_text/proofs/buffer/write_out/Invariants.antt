use Rattle.std.proofs.Common.{◌≡◌, ◌≤◌, ◌-◌, length, take}
use Rattle.avtp_base.specs.Told.{Appends}
use Rattle.avtp_text.proofs.buffer.write_out.Given as goal

abbrev pub invariant-loop-taken : goal.invariant-loop-taken
invariant-loop-taken g l = record {
  within : l.taken ≤ length l.bytes;
  took : Appends (g.S.Sink.state l.fn.out).held (g.S.Sink.state l.out).held (take l.taken l.bytes);
  quiet : (g.S.Sink.state l.out).faults ≡ (g.S.Sink.state l.fn.out).faults;
}

abbrev pub decreases-loop-taken : goal.decreases-loop-taken
decreases-loop-taken g l = length l.bytes - l.taken
