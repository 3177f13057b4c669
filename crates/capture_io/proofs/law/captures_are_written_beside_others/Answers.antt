use Rattle.capture_io.specs.CaptureWriting.{capture_bytes}
use Rattle.capture_io.proofs.CaptureWriting.{beside_then, holds_beside}
use Rattle.capture_io.proofs.law.captures_are_written_beside_others.Goals as goal

pub returns : goal.returns
returns c = record {
  kept = λ files s t w name records holds keeps same. holds_beside files s t w name (capture_bytes records) holds keeps same;
  beside = λ files a b d k name first second. beside_then first second;
}
