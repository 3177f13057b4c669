-- The lines of a capture's records, and what `show` prints of them.
use Rattle.std.proofs.Common.{◌≡◌, ℕ, List, length, Option, [], refl, sym, subst, ◌+◌, ◌∷◌, ◌++◌, ap, ◌∙◌, arith, length-append, Result, take, Some}
use Rattle.avtp_base.specs.declared.failed.FaultPlace.{FaultPlace}
use Rattle.avtp_base.specs.Told.{Appends}
use Rattle.pcap_frames.specs.Capture.{Record}
use Rattle.capture_io.specs.Source.{HasGiven, Sourcing}
use Rattle.avtp_base.proofs.Told.{Appends-nil, Appends-trans}
use Rattle.avtp_text.specs.Show.{frame_line}
use Rattle.avtp_base.specs.declared.failed.Failed.{Failed}
use Rattle.avtp_base.specs.States.{SinkState}
use Rattle.avtp_text.specs.Written.{written, AppendsPrefix}
use Rattle.capture_io.specs.Formats.{records_in}
use Rattle.avtp_text.proofs.Printing.{prefix_before}
use Rattle.capture_io.specs.Ends.{end_of}
use Rattle.run_report.specs.Lines.{of_each}
use Rattle.run_report.proofs.Lines.{each_none, each_more}
use Rattle.run_report.specs.declared.status.Status.{Status}
use Rattle.run_report.specs.Outcome.{EndsWith}
use Rattle.run_report.specs.Yield.{says, HandsNothing, GivesPart}
use Rattle.run_report.specs.Status.{status_of}
use Rattle.run_report.proofs.DoesFile.{IsReadAndTold}
use Rattle.run_report.proofs.Outcomes.{tells_end}
use Rattle.run_report.specs.Reading.{file_yield}
use Rattle.run_report.specs.Halt.{no_halt}
use Rattle.run_report.proofs.Yields.{part_text}
use Rattle.avtp_tool.specs.Show.{show_line, end_line, show_report}
use Rattle.avtp_tool.specs.Record.{record_content}
use Rattle.avtp_tool.specs.declared.show.Printed.{Printed}
use Rattle.avtp_tool.specs.state.Show.{HasPrinted}

-- The records that a source gave were printed and counted.
pub record IsPrintedTo (limit : ℕ) (bytes : List ℕ) (remains : Option (List ℕ)) (source : Sourcing) (frames : ℕ) (before now : Option (List ℕ)) : Type 0 where
  pub records : List Record
  pub given : HasGiven limit bytes remains source records
  pub counted : frames ≡ length records
  pub lines : Appends before now (of_each show_line records)

pub none_printed : (limit : ℕ) (bytes : List ℕ) (remains : Option (List ℕ)) (source : Sourcing) (before : Option (List ℕ)) → HasGiven limit bytes remains source [] → IsPrintedTo limit bytes remains source 0 before before
none_printed limit bytes remains source before given = record { records = []; given = given; counted = refl; lines = subst (Appends before before) (sym (each_none show_line)) (Appends-nil before) }

line_of : (frames : ℕ) (records : List Record) (r : Record) → frames ≡ length records → of_each show_line (records ++ r ∷ []) ≡ of_each show_line records ++ frame_line (frames + 1) r.arrival (record_content r.bytes)
line_of frames records r counted = each_more show_line records r ∙ ap (λ (n : ℕ). of_each show_line records ++ frame_line (n + 1) r.arrival (record_content r.bytes)) (sym counted)

pub one_printed : (limit : ℕ) (bytes : List ℕ) (remains : Option (List ℕ)) (source : Sourcing) (records : List Record) (r : Record) (frames : ℕ) (before mid now : Option (List ℕ))
    → HasGiven limit bytes remains source (records ++ r ∷ []) → frames ≡ length records → Appends before mid (of_each show_line records) → Appends mid now (frame_line (frames + 1) r.arrival (record_content r.bytes))
    → IsPrintedTo limit bytes remains source (frames + 1) before now
one_printed limit bytes remains source records r frames before mid now given counted lines line = record {
  records = records ++ r ∷ [];
  given = given;
  counted = simp length-append (omega (arith, counted));
  lines = subst (Appends before now) (sym (line_of frames records r counted)) (Appends-trans before mid now _ _ lines line);
}

-- ---- what `show` yields for a file

pub show_told : {h h' : SinkState} {w w' : List ℕ} {result : Result Status Failed} (limit : ℕ) (bytes : List ℕ) (fault : FaultPlace → Type 0) (printed : Printed) (before : Option (List ℕ)) → HasPrinted limit bytes fault printed before (written h.held w)
    → EndsWith (status_of printed.end) h h' w w' result (end_line limit printed.frames printed.end) → IsReadAndTold (show_report limit) HandsNothing limit bytes fault printed.end before (written h'.held w') result
show_told limit bytes fault printed before p ends = record {
  records = p.records;
  ends = p.ends;
  tells = tells_end (of_each show_line p.records) [] (refl, ap (λ (k : ℕ). says (of_each show_line p.records ++ end_line limit k printed.end)) p.counted) p.lines refl ends;
}

pub some_lines : (limit : ℕ) (bytes : List ℕ) (before now : Option (List ℕ)) → AppendsPrefix before now (of_each show_line (records_in (take limit bytes))) → GivesPart HandsNothing before now (file_yield (show_report limit) limit (Some bytes) no_halt)
some_lines limit bytes before now prefix = part_text refl _ (prefix_before before now _ (end_line limit (length (records_in (take limit bytes))) (end_of limit bytes)) prefix)
