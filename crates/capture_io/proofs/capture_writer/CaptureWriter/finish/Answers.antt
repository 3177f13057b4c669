use Rattle.capture_io.proofs.CaptureWriting.{finishes_capture}
use Rattle.capture_io.proofs.capture_writer.CaptureWriter.finish.Goals as goal

pub returns : goal.returns
returns g c = rw (← c.self.view_is) (finishes_capture _ _ _ _ c.finish.ensures)
