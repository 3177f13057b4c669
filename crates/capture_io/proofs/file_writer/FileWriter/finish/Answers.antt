use Rattle.std.proofs.Common.{ℕ, rules, sym, subst, ◌∙◌}
use Rattle.avtp_base.specs.Faults.{IsCounted}
use Rattle.capture_io.proofs.Making.{ok_one, puts_all, puts_prefix}
use Rattle.capture_io.proofs.file_writer.FileWriter.finish.Goals as goal

pub returns : goal.returns
returns g c =
    let wrote = c.flush-written.ensures in
    let shut = c.close_file.ensures.does in
    record {
      put = ok_one c.flush-written.result _ _ wrote.none_waits (λ none begun name all is. puts_all begun _ _ _ name all (wrote.kept begun name all is) none shut.files);
      closes = record {
        prefix = λ begun name all is. puts_prefix begun _ _ _ name all (wrote.kept begun name all is) shut.files;
        slots = λ begun name all is. (search rules);
        reading = shut.reading ∙ wrote.writes.reading;
        counted = subst (λ (n : ℕ). IsCounted (g.F.Shelf.state c.args.shelf.now).writing_faults n c.flush-written.result) (sym shut.writing) wrote.writes.counted;
        asked = λ names stands. shut.asked names (wrote.writes.asked names stands);
      };
    }
