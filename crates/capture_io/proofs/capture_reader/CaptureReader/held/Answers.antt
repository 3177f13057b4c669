use Rattle.std.proofs.Common.{Option, Some, subst, sym}
use Rattle.pcap_frames.specs.Capture.{Record}
use Rattle.pcap_frames.specs.Readers.{Views}
use Rattle.capture_io.proofs.Reader.{held_classic, held_pcapng, views_some}
use Rattle.capture_io.proofs.capture_reader.CaptureReader.held.Goals as goal

pub returns-in-Some : goal.returns-in-Some
returns-in-Some c = rw (← c.self.view_is) (subst (λ (h : Option Record). Views h (Some c.in-Some.record)) (held_classic _ _ _ _ c.self.invariant.1 (views_some _ _ c.in-Some.ensures)) c.in-Some.ensures)

pub returns-in-None : goal.returns-in-None
returns-in-None c = rw (← c.self.view_is) (subst (λ (h : Option Record). Views h c.held-in-None.result) (held_pcapng _ _ _ _ c.self.invariant.1 (sym c.in-None.ensures.exact)) c.held-in-None.ensures)
