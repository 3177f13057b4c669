use Rattle.std.proofs.Common.{List, sym, subst}
use Rattle.clock_track.specs.declared.bounds.Bounds.{Bounds}
use Rattle.clock_track.specs.state.Bounds.{AreGroups}
use Rattle.clock_track.proofs.Noted.{bounds-kept}
use Rattle.clock_track.proofs.clock.RingRows.groups.Goals as goal

pub returns : goal.returns
returns c shift row all there =
    subst (λ (l : List Bounds). AreGroups shift row l) (sym c.as_slice.ensures.value)
    (bounds-kept shift c.args.self.now.rows.now.items c.args.place c.in-Some.kept.now row (sym c.in-Some.ensures) all there).1
