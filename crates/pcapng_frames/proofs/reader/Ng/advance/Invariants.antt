use Rattle.std.proofs.Common.{◌≡◌, ◌-◌, true, length, Ok}
use Rattle.pcap_frames.specs.state.Readers.{Steps}
use Rattle.pcapng_frames.specs.Reading.{progress}
use Rattle.pcapng_frames.proofs.reader.Ng.advance.Given as goal

abbrev pub invariant-loop-used : goal.invariant-loop-used
invariant-loop-used l = record {
  steps : Steps (progress l.fn.self) l.piece (Ok l.used) (progress l.self);
  same : l.used ≡ 0 → l.self ≡ l.fn.self;
  stuck : l.fn.self.whole ≡ true → l.used ≡ 0;
}

abbrev pub decreases-loop-used : goal.decreases-loop-used
decreases-loop-used l = length l.piece - l.used
