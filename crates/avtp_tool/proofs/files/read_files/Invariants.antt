use Rattle.std.proofs.Common.{◌≡◌, false, Ok, take}
use Rattle.avtp_text.specs.Written.{written}
use Rattle.option_words.specs.Word.{texts}
use Rattle.run_report.specs.Yield.{HandsOn}
use Rattle.run_report.specs.Outcome.{KeepsSink}
use Rattle.avtp_tool.specs.state.Files.{is_hearing, plan_for}
use Rattle.avtp_tool.proofs.ReadFiles.{ReadsTo}
use Rattle.avtp_tool.proofs.files.read_files.Given as goal

abbrev pub invariant-loop-file : goal.invariant-loop-file
invariant-loop-file g l =
    record {
      kept : is_hearing l.reading ≡ false → l.rack ≡ l.fn.rack;
      sink : KeepsSink {T = Unit} (g.S.Sink.state l.fn.context.out.now) (g.S.Sink.state l.out) (Ok tt);
      reads : ReadsTo (plan_for l.reading (texts l.files)) (HandsOn g.D.Devices.handed l.fn.rack l.rack) (take l.file-index (texts l.files)) l.ended (g.F.Shelf.state l.fn.context.shelf.now) (g.F.Shelf.state l.shelf) (written (g.S.Sink.state l.fn.context.out.now).held l.fn.context.text.now) (written (g.S.Sink.state l.out).held l.text);
    }
