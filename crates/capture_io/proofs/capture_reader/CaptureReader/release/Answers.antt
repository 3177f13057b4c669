use Rattle.capture_io.proofs.Reader.{both_kept, both_release, still}
use Rattle.capture_io.proofs.capture_reader.CaptureReader.release.Goals as goal

pub invariant_of-self : goal.invariant_of-self
invariant_of-self c = (
  c.self.invariant.0,
  both_kept _ _ _ _ _ _ c.self.invariant.1 (still _ _ _ _ c.release.ensures.answer c.release.ensures.still) (still _ _ _ _ c.release-2.ensures.answer c.release-2.ensures.still),
)

pub returns : goal.returns
returns c = rw (← c.self.view_is) (both_release _ _ _ _ _ _ c.self.invariant.1 c.release.ensures.releases c.release-2.ensures.releases
    (still _ _ _ _ c.release.ensures.answer c.release.ensures.still) (still _ _ _ _ c.release-2.ensures.answer c.release-2.ensures.still))
