use Rattle.std.proofs.Common.{arith, [], ◌∷◌, ◌++◌, subst}
use Rattle.pcap_frames.specs.Capture.{Record}
use Rattle.pcap_frames.specs.Reading.{shown}
use Rattle.capture_io.specs.Source.{HasGivenOf}
use Rattle.run_report.specs.Reading.{ReadsRecords}
use Rattle.run_report.proofs.Leaving.{amid_begun, amid_cut, on_err, amid_next, none_left, some_same, amid_ends, amid_over}
use Rattle.run_report.proofs.Outcomes.{sink_err, sink_part, sink_ok, sink_then}
use Rattle.run_report.proofs.Lines.{prefix_kept, some_first}
use Rattle.check_command.proofs.CheckedTo.{name_checked, none_checked, checked_kept, one_checked, text_first, text_of}
use Rattle.check_command.specs.Check.{notes_of}
use Rattle.check_command.proofs.command.check_records.Goals as goal

pub returns-in_err-capture : goal.returns-in_err-capture
returns-in_err-capture g c = on_err (ReadsRecords _ _ _ _ _ _ _ _ _ _) c.from_residual.result c.from_residual.ensures.0 (λ e. record {
  told = λ limit bytes given. name_checked limit bytes c.args.file.now c.in_err-capture.ensures.written;
  reads = amid_cut (amid_begun _ c.args.source.now c.requires.open);
  sink = sink_err (sink_part c.in_err-capture.ensures);
})

pub loop-tracker-init : goal.loop-tracker-init
loop-tracker-init g c = record {
  amid = amid_begun _ _ c.requires.open;
  few = omega arith;
  sink = sink_ok tt (sink_part c.in_ok-capture.ensures);
  checked = λ limit bytes given. none_checked c.args.file.now given c.requires.stands c.in_ok-capture.ensures.written;
}

pub loop-tracker-preserved : goal.loop-tracker-preserved
loop-tracker-preserved g c =
    let before = c.loop-tracker.invariant in
    let next = c.in_ok-end.ensures.gives in
    let none = none_left _ c.in_default.not-Some in
    let here = rw c.checked_record-checked.ensures at c.in_ok-findings.ensures in
    record {
      amid = amid_next before.amid none next;
      few = omega (arith, before.few, here.few);
      sink = sink_ok tt (sink_then before.sink (sink_then c.in_ok-end.ensures.sink here.sink));
      checked = λ limit bytes given.
          let to = checked_kept (before.checked limit bytes given) c.in_ok-end.ensures.kept in
          let more = next.given none limit bytes to.records to.given in
          let same = some_same _ _ _ more.1 c.record.ensures.exact in
          one_checked (shown c.record.result) to
          (subst (λ (r : Record). HasGivenOf limit bytes (g.F.Shelf.state c.next_record.new.shelf) c.next_record.new.source (to.records ++ r ∷ [])) same more.2) here.stands here.prints;
    }

pub returns-in-Some : goal.returns-in-Some
returns-in-Some g c =
    let before = c.loop-tracker.invariant in
    let how = c.in-Some.end in
    let gives = rw c.in-Some.is at c.in_ok-end.ensures.gives in
    record {
      told = λ limit bytes given.
          let to = checked_kept (before.checked limit bytes given) c.in_ok-end.ensures.kept in
          record {
            records = to.records;
            ends = amid_ends how limit bytes to.records before.amid gives to.given;
            frames = to.counted;
            streams = c.streams.ensures (notes_of to.records) to.stands;
            found = to.total;
            lines = to.lines;
          };
      reads = amid_over how before.amid gives;
      sink = sink_ok _ (sink_then before.sink c.in_ok-end.ensures.sink);
    }

pub returns-in_err-end : goal.returns-in_err-end
returns-in_err-end g c =
    let before = c.loop-tracker.invariant in
    on_err (ReadsRecords _ _ _ _ _ _ _ _ _ _) c.from_residual-in_err-end.result c.from_residual-in_err-end.ensures.0 (λ e. record {
      told = λ limit bytes given.
          let to = before.checked limit bytes given in
          some_first (text_of c.args.file.now) (text_first c.args.file.now) to.given (prefix_kept _ _ _ _ to.lines c.in_err-end.ensures.kept);
      reads = rw (c.in_err-end.ensures.cut.0, c.in_err-end.ensures.cut.1) (amid_cut before.amid);
      sink = sink_err (sink_then before.sink c.in_err-end.ensures.sink);
    })

pub returns-in_err-findings : goal.returns-in_err-findings
returns-in_err-findings g c =
    let before = c.loop-tracker.invariant in
    let here = c.in_err-findings.ensures in
    on_err (ReadsRecords _ _ _ _ _ _ _ _ _ _) c.from_residual-in_err-findings.result c.from_residual-in_err-findings.ensures.0 (λ e. record {
      told = λ limit bytes given.
          let to = checked_kept (before.checked limit bytes given) c.in_ok-end.ensures.kept in
          some_first (text_of c.args.file.now) (text_first c.args.file.now) to.given (prefix_kept _ _ _ _ to.lines (here.prints (notes_of to.records) to.stands).written);
      reads = amid_cut (amid_next before.amid (none_left _ c.in_default.not-Some) c.in_ok-end.ensures.gives);
      sink = sink_err (sink_then before.sink (sink_then c.in_ok-end.ensures.sink here.sink));
    })
