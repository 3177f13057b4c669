use Rattle.capture_io.proofs.CaptureWriting.{closes_capture}
use Rattle.capture_io.proofs.capture_writer.CaptureWriter.abandon.Goals as goal

pub returns : goal.returns
returns g c = rw (← c.self.view_is) (closes_capture _ _ _ _ c.abandon.ensures)
