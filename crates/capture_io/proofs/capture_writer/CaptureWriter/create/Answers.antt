use Rattle.std.proofs.Common.{◌≡◌, ℕ, List, ◌++◌, length, ap, ◌∙◌, arith}
use Rattle.capture_io.specs.Writing.{Writing}
use Rattle.capture_io.proofs.CaptureWriting.{begins_capture, header_length, none_waits}
use Rattle.capture_io.proofs.capture_writer.CaptureWriter.create.Goals as goal

pub push-requires : goal.push-requires
push-requires g c =
    let header : length c.file_header.result ≡ 24 = ap (λ (l : List ℕ). length l) c.file_header.ensures ∙ header_length in
    omega (arith, header, ap (λ (w : Writing). length w.waiting) c.file.view_is, none_waits _ _ _ _ c.in_ok-file.ensures.begun)

pub returns : goal.returns
returns g c =
    begins_capture _ _ _ _ _ _ c.in_ok-file.ensures c.file_header.ensures
    (ap (λ (l : List ℕ). record { slot = c.file.inside.slot.0; waiting = l }) c.push.ensures ∙ ap (λ (w : Writing). record w { waiting = w.waiting ++ c.file_header.result }) c.file.view_is)
