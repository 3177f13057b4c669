use Rattle.std.proofs.Common.{sym, ◌∙◌}
use Rattle.run_report.proofs.Outcomes.{sink_ok}
use Rattle.agree_command.proofs.SideBySide.{no_fault, shuts_by}
use Rattle.agree_command.proofs.comparing.read_side.Goals as goal

pub returns : goal.returns
returns g c = record {
  steps = (c.in-Some.is, rw c.in-Some.is at c.in_ok-end.ensures.gives, no_fault c.in-Some.end (sym c.is_fault.ensures ∙ c.if-is_fault.false), shuts_by c.args.which c.args.pair.now c.close.new.self c.close.ensures.stands c.close.ensures.closed);
  cut = tt;
  kept = c.in_ok-end.ensures.kept;
  sink = sink_ok _ c.in_ok-end.ensures.sink;
}
