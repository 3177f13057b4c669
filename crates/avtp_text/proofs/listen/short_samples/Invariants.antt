use Rattle.std.proofs.Common.{◌≡◌, Ok, flat_map}
use Rattle.std.specs.List.{range_with_len}
use Rattle.sample_schedule.specs.Instants.{IsInstantOf}
use Rattle.avtp_text.specs.Listen.{sample_line}
use Rattle.avtp_text.specs.state.SampleLines.{packet_of}
use Rattle.avtp_text.specs.Written.{PrintsPart}
use Rattle.avtp_text.proofs.listen.short_samples.Given as goal

abbrev pub invariant-loop-j : goal.invariant-loop-j
invariant-loop-j g l = record {
  printed : PrintsPart (g.S.Sink.state l.fn.out) (g.S.Sink.state l.out) l.fn.buffer l.buffer (Ok tt) (flat_map (sample_line l.fn.batch) (range_with_len 0 l.j));
  number : l.instant.j ≡ l.j;
  instant : IsInstantOf l.instant l.fn.batch;
  packet : l.line ≡ packet_of l.fn.batch l.fn.size;
}
