use Rattle.std.proofs.Common.{◌≡◌, ◌+◌, ◌-◌, ◌≤◌, false, length}
use Rattle.pcap_frames.specs.Reading.{taken}
use Rattle.listener.specs.Feeding.{IsReady, is_ended}
use Rattle.measured.proofs.hearing.hear_all.Given as goal

abbrev pub invariant-loop-used : goal.invariant-loop-used
invariant-loop-used l = record {
  within : l.used ≤ length l.capture;
  bounded : taken l.listener.reader ≤ taken l.fn.listener.reader + l.used;
  opened : is_ended l.listener ≡ false;
  ready : IsReady l.listener;
}

abbrev pub decreases-loop-used : goal.decreases-loop-used
decreases-loop-used l = length l.capture - l.used
