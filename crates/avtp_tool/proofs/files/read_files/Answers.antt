use Rattle.std.proofs.Common.{refl, ◌≡◌, true, get_or, sym, ap, ◌∙◌, Ok}
use Rattle.std.specs.Prelude.{string_bytes}
use Rattle.option_words.specs.Word.{texts}
use Rattle.run_report.proofs.Outcomes.{sink_still, sink_ok, sink_then}
use Rattle.run_report.proofs.Yields.{hands_nothing, hands_both}
use Rattle.run_report.specs.declared.status.Status.{Status}
use Rattle.run_report.specs.Outcome.{is_done}
use Rattle.run_report.specs.Yield.{HandsOn}
use Rattle.run_report.specs.declared.status.Status.TheVariants as status
use Rattle.avtp_tool.specs.state.Files.{plan_for}
use Rattle.avtp_tool.proofs.ReadFiles.{reads_none, does_failed, never_done, reads_stopped, other_ends, reads_more, reads_all, stops_all}
use Rattle.avtp_tool.proofs.files.read_files.Goals.{in-Done, in-Findings}
use Rattle.avtp_tool.proofs.files.read_files.Goals as goal

pub loop-file-init : goal.loop-file-init
loop-file-init g c = record { kept = λ deaf. refl; sink = sink_still _ tt; reads = reads_none (plan_for c.args.reading.now (texts c.args.files.now)) (hands_nothing g.D.Devices.handed _) }

pub returns-in_err-other-clause-does : goal.returns-in_err-other-clause-does
returns-in_err-other-clause-does g c =
    let files = c.args.files.now in
    let d = c.file-item.result in
    let is : string_bytes (get_or files c.loop-file.file-index d) ≡ c.deref.result.now = ap string_bytes (sym c.file-item.is) ∙ sym c.deref.ensures in
    let err = c.from_residual.ensures.0 in
    reads_stopped (plan_for c.args.reading.now (texts files)) files c.loop-file.file-index d c.deref.result.now (hands_both g.D.Devices.handed _ _ _) refl c.loop-file-test.true is (never_done _ err) c.loop-file.invariant.reads c.loop-file.invariant.sink (does_failed _ err c.in_err-other.ensures.does)

pub returns-in_default-clause-does : goal.returns-in_default-clause-does
returns-in_default-clause-does g c =
    let files = c.args.files.now in
    let d = c.file-item.result in
    let is : string_bytes (get_or files c.loop-file.file-index d) ≡ c.deref.result.now = ap string_bytes (sym c.file-item.is) ∙ sym c.deref.ensures in
    reads_stopped (plan_for c.args.reading.now (texts files)) files c.loop-file.file-index d c.deref.result.now (hands_both g.D.Devices.handed _ _ _) refl c.loop-file-test.true is (other_ends _ c.in_default.not-Done c.in_default.not-Findings) c.loop-file.invariant.reads c.loop-file.invariant.sink c.in_ok-other.ensures.does

pub loop-file-preserved : goal.loop-file-preserved
loop-file-preserved g c =
    let files = c.args.files.now in
    let d = c.file-item.result in
    let is : string_bytes (get_or files c.loop-file.file-index d) ≡ c.deref.result.now = ap string_bytes (sym c.file-item.is) ∙ sym c.deref.ensures in
    let more = λ (ended : Status) (goes : is_done ended ≡ true) (same : c.in_ok-other.other ≡ ended).
    reads_more {all_handed = HandsOn g.D.Devices.handed c.args.rack.now c.read_file.new.rack} (plan_for c.args.reading.now (texts files)) files c.loop-file.file-index d c.deref.result.now ended (stops_all c.args.reading.now (texts files)) (hands_both g.D.Devices.handed _ _ _) c.loop-file-test.true is goes (ap (λ (s : Status). Ok s) same) c.loop-file.invariant.reads c.in_ok-other.ensures.does in
    record {
      kept = λ deaf. c.in_ok-other.ensures.kept deaf ∙ c.loop-file.invariant.kept deaf;
      sink = sink_ok tt (sink_then c.loop-file.invariant.sink c.in_ok-other.ensures.does.sink);
      reads = elim c.match-branch-2.branch [
        | in-Done w ↦ rw w.ended-is (more status.Done refl w.in-Done.is)
        | in-Findings w ↦ rw w.ended-is (more status.Findings refl w.in-Findings.is)
      ];
    }

pub returns-clause-does : goal.returns-clause-does
returns-clause-does g c =
    reads_all (plan_for c.args.reading.now (texts c.args.files.now)) c.args.files.now c.loop-file.file-index c.loop-file.ended refl c.loop-file-test.false c.loop-file.invariant.reads c.loop-file.invariant.sink
