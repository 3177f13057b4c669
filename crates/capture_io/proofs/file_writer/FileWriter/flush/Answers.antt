use Rattle.std.proofs.Common.{ℕ, List, refl, take, sym, subst}
use Rattle.avtp_base.specs.Files.{AppendsTo, name_in}
use Rattle.capture_io.specs.Writing.{IsWriting}
use Rattle.capture_io.proofs.Making.{writes_then, writing_more}
use Rattle.capture_io.proofs.file_writer.FileWriter.flush.Goals as goal

pub loop-self-preserved : goal.loop-self-preserved
loop-self-preserved g c =
    let before = c.loop-self.invariant in
    let wrote = c.in_ok-count.ensures.does in
    let piece = c.waiting-in-loop-self.ensures in
    let slots = (g.F.Shelf.state c.loop-self.shelf).slots in
    let k : ℕ = c.loop-self.self-inside.slot.0 in
    record {
      writes = writes_then before.writes (record { slot = refl; made = wrote.live; slots = wrote.slots; reading = wrote.reading; counted = record { never_falls = wrote.writing.never_falls; ok = wrote.writing.ok; failed = tt }; asked = wrote.asked });
      kept = λ begun name all is.
          let more = subst (λ (l : List ℕ). AppendsTo (g.F.Shelf.state c.loop-self.shelf).files (g.F.Shelf.state c.write.new.self).files (name_in slots k) (take c.in_ok-count.count l)) piece wrote.appended in
          let written = writing_more begun _ _ _ name all c.in_ok-count.count (before.kept begun name all is) more wrote.live wrote.slots wrote.reading in
          subst (λ (l : List ℕ). IsWriting begun (g.F.Shelf.state c.write.new.self) (record { slot = k; waiting = l }) name all)
          (sym c.drop_front.ensures) written;
    }
