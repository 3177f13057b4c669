use Rattle.std.proofs.Common.{refl}
use Rattle.capture_io.proofs.CaptureWriting.{header_fills, header_fits}
use Rattle.capture_io.proofs.capture_writer.file_header.Goals as goal

pub unreachable-requires : goal.unreachable-requires
unreachable-requires c = header_fits _ _ c.in_default.field-0 refl c.in_default.ensures

pub returns : goal.returns
returns c = header_fills _ _ c.in-Ok.field-0 refl (rw c.in-Ok.is at c.write_header.ensures)
