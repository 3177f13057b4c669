use Rattle.std.proofs.Common.{refl}
use Rattle.avtp_base.proofs.Told.{Keeps-refl}
use Rattle.run_report.proofs.Outcomes.{sink_still, sink_err, sink_ok}
use Rattle.run_report.specs.Reading.{ReadsAhead}
use Rattle.run_report.proofs.Leaving.{on_err}
use Rattle.run_report.proofs.ahead.next_record.Goals as goal

pub returns-then-advance : goal.returns-then-advance
returns-then-advance g c = record {
  gives = c.advance.ensures.given c.if-advance.true _ c.requires;
  cut = tt;
  kept = Keeps-refl _;
  sink = sink_still _ _;
}

pub returns-in_err-write_ahead : goal.returns-in_err-write_ahead
returns-in_err-write_ahead g c = on_err (ReadsAhead _ _ _ _ _ _ _ _) c.from_residual.result c.from_residual.ensures.0 (λ e. record {
  gives = tt;
  cut = (refl, c.advance.ensures.slot);
  kept = c.in_err-write_ahead.ensures.kept;
  sink = sink_err c.in_err-write_ahead.ensures.sink;
})

pub returns : goal.returns
returns g c = record {
  gives = c.advance.ensures.further c.if-advance.false _ _ _ _ c.next.ensures;
  cut = tt;
  kept = c.in_ok-write_ahead.ensures.kept;
  sink = sink_ok _ c.in_ok-write_ahead.ensures.sink;
}
