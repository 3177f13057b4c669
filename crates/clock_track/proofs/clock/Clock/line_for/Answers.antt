-- The packets that the clock keeps are those of the window.
use Rattle.std.proofs.Common.{◌≡◌, ℤ, All, ap, sym, subst, ◌∙◌, map, w64, to_z, of_z, arith}
use Rattle.std.proofs.lemmas.Int.{ints}
use Rattle.clock_track.specs.Rows.{used, window}
use Rattle.clock_track.specs.Window.{ClockState}
use Rattle.clock_track.specs.state.Window.{HasBounds, kept_row}
use Rattle.clock_track.proofs.Windows.{used-window}
use Rattle.clock_track.proofs.clock.Clock.line_for.Goals as goal

pub returns-clause-value : goal.returns-clause-value
returns-clause-value c rows stands =
    let shift : c.self.inside.shift ≡ c.args.self.now.shift = ap (λ (s : ClockState). s.shift) c.self.view_is in
    let rows_are : used (map kept_row c.self.inside.rows.items) ≡ window rows = ap used (ap (λ (s : ClockState). s.rows) c.self.view_is ∙ stands) ∙ used-window rows in
    let within = c.self.invariant.1 in
    let from = within.from in
    let to = within.to in
    let same : to_z w64 (of_z w64 c.self.inside.shift) ≡ c.self.inside.shift = omega (arith, ints) in
    let instant : to_z w64 (of_z w64 c.args.instant) ≡ c.args.instant = omega (arith, ints) in
    rw (same, shift, instant, rows_are) at c.line_among.ensures.value

pub line_among-requires : goal.line_among-requires
line_among-requires c =
    let from = c.self.invariant.1.from in
    let to = c.self.invariant.1.to in
    let same : to_z w64 (of_z w64 c.self.inside.shift) ≡ c.self.inside.shift = omega (arith, ints) in
    record {
      rows = c.self.invariant.0.notable;
      bounded = subst (λ (s : ℤ). All (HasBounds s) c.self.inside.rows.items) (sym same) c.self.invariant.0.bounds;
    }
