-- Only private functions and proofs use these definitions. How a scan notes a packet of samples.
use Rattle.std.specs.Prelude.{◌≡◌, None, Some, Result, OnOk, IfErr}
use Rattle.am824_gateway.specs.declared.content.Content.TheVariants.{Audio}
use Rattle.am824_gateway.specs.declared.content.Samples.{Samples}
use Rattle.am824_gateway.specs.declared.scan.ScanFault.{ScanFault}
use Rattle.am824_gateway.specs.Scan.{Scanning, content_fault, shape_after}

-- At `Ok`, the samples have no fault, and the scan knows the shape of the first packet. At `Err`, the result is their
-- fault. The wanted format and the stream are unchanged.
pub record NotesSamples (old new : Scanning) (samples : Samples) (result : Result Unit ScanFault) : Type 0 where
  pub to : new.to ≡ old.to
  pub stream : new.stream ≡ old.stream
  pub shape : OnOk result (new.shape ≡ shape_after old.shape (Audio samples))
  pub none : OnOk result (content_fault old.to old.shape (Audio samples) ≡ None)
  pub fault : IfErr result (λ fault. content_fault old.to old.shape (Audio samples) ≡ Some fault)
