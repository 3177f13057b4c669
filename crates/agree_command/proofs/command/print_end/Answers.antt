use Rattle.run_report.proofs.Outcomes.{sink_err, sink_part, sink_ok}
use Rattle.run_report.proofs.Leaving.{on_err}
use Rattle.agree_command.specs.state.Agree.{EndsWithLines}
use Rattle.agree_command.proofs.command.print_end.Goals as goal

pub returns-in_err-print_last : goal.returns-in_err-print_last
returns-in_err-print_last g c =
    on_err (EndsWithLines c.args.limit c.args.ended.now (g.S.Sink.state c.args.out.now) (g.S.Sink.state c.print_last.new.out) c.args.text.now c.print_last.new.text) c.from_residual.result c.from_residual.ensures.0
    (λ e. record { status = tt; written = c.in_err-print_last.ensures.written; sink = sink_err (sink_part c.in_err-print_last.ensures) })

pub returns : goal.returns
returns g c = record {
  status = c.status_of.ensures;
  written = c.in_ok-print_last.ensures.written;
  sink = sink_ok _ (sink_part c.in_ok-print_last.ensures);
}
