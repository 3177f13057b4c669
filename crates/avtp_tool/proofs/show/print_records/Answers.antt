use Rattle.avtp_base.proofs.Told.{Appends-kept}
use Rattle.run_report.proofs.Leaving.{amid_begun, amid_next, none_left, some_same, amid_ends, amid_over, amid_cut, on_err}
use Rattle.run_report.proofs.Outcomes.{sink_still, sink_printed, sink_then, sink_ok, sink_err}
use Rattle.run_report.specs.Lines.{of_each}
use Rattle.run_report.specs.Reading.{ReadsRecords}
use Rattle.run_report.proofs.Lines.{each_first, prefix_kept, some_first}
use Rattle.avtp_tool.proofs.Shown.{none_printed, one_printed}
use Rattle.avtp_tool.specs.Show.{show_line}
use Rattle.avtp_tool.proofs.show.print_records.Goals as goal

pub loop-end-init : goal.loop-end-init
loop-end-init g c = record {
  amid = amid_begun _ _ c.requires;
  sink = sink_still _ tt;
  printed = λ limit bytes given. none_printed limit bytes _ _ _ given;
}

pub loop-end-preserved : goal.loop-end-preserved
loop-end-preserved g c =
    let before = c.loop-end.invariant in
    let next = c.in_ok-end.ensures.gives in
    let none = none_left _ c.in_default.not-Some in
    record {
      amid = amid_next before.amid none next;
      sink = sink_then before.sink (sink_then c.in_ok-end.ensures.sink (sink_printed c.in_ok-print_record.ensures));
      printed = λ limit bytes given.
          let to = before.printed limit bytes given in
          let more = next.given none limit bytes to.records to.given in
          let same = some_same _ _ _ more.1 c.record.ensures.exact in
          one_printed limit bytes _ _ to.records more.0 c.loop-end.frames _ _ _ more.2 to.counted (Appends-kept _ _ _ _ to.lines c.in_ok-end.ensures.kept) (rw same c.in_ok-print_record.ensures.written);
    }

pub returns-in-Some : goal.returns-in-Some
returns-in-Some g c =
    let before = c.loop-end.invariant in
    let how = c.in-Some.end in
    let gives = rw c.in-Some.is at c.in_ok-end.ensures.gives in
    record {
      told = λ limit bytes given.
          let to = before.printed limit bytes given in
          record { records = to.records; ends = amid_ends how limit bytes to.records before.amid gives to.given; counted = to.counted; lines = Appends-kept _ _ _ _ to.lines c.in_ok-end.ensures.kept };
      reads = amid_over how before.amid gives;
      sink = sink_ok _ (sink_then before.sink c.in_ok-end.ensures.sink);
    }

pub returns-in_err-end : goal.returns-in_err-end
returns-in_err-end g c =
    let before = c.loop-end.invariant in
    on_err (ReadsRecords _ _ _ _ _ _ _ _ _ _) c.from_residual.result c.from_residual.ensures.0 (λ e. record {
      told = λ limit bytes given.
          let to = before.printed limit bytes given in
          some_first (of_each show_line) (each_first show_line) to.given (prefix_kept _ _ _ _ to.lines c.in_err-end.ensures.kept);
      reads = rw (c.in_err-end.ensures.cut.0, c.in_err-end.ensures.cut.1) (amid_cut before.amid);
      sink = sink_err (sink_then before.sink c.in_err-end.ensures.sink);
    })

pub returns-in_err-print_record : goal.returns-in_err-print_record
returns-in_err-print_record g c =
    let before = c.loop-end.invariant in
    on_err (ReadsRecords _ _ _ _ _ _ _ _ _ _) c.from_residual-in_err-print_record.result c.from_residual-in_err-print_record.ensures.0 (λ e. record {
      told = λ limit bytes given.
          let to = before.printed limit bytes given in
          some_first (of_each show_line) (each_first show_line) to.given (prefix_kept _ _ _ _ (Appends-kept _ _ _ _ to.lines c.in_ok-end.ensures.kept) c.in_err-print_record.ensures.written);
      reads = amid_cut (amid_next before.amid (none_left _ c.in_default.not-Some) c.in_ok-end.ensures.gives);
      sink = sink_err (sink_then before.sink (sink_then c.in_ok-end.ensures.sink (sink_printed c.in_err-print_record.ensures)));
    })
