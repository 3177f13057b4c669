-- In the list of pairs, the pairs that end at the packet's first timestamp precede the pairs inside the packet.
use Rattle.std.proofs.Common.{◌≡◌, ◌-◌, ℤ, sym, subst, ◌∙◌, w64, to_z, of_z, arith}
use Rattle.std.specs.List.{filter_map, range_with_len}
use Rattle.std.proofs.lemmas.Int.{ints}
use Rattle.time_unfold.specs.Stamps.{find_last}
use Rattle.clock_track.specs.Limits.{IsShift}
use Rattle.clock_track.specs.Rows.{across, inside, timestamps, used}
use Rattle.clock_track.specs.state.Bounds.{AreGroups, IsOutside}
use Rattle.clock_track.specs.state.Search.{test_of}
use Rattle.clock_track.specs.Views.{row_of}
use Rattle.clock_track.proofs.Lists.{across-last, inside-last, row-is}
use Rattle.clock_track.proofs.Outside.{none-if, pairs-none}
use Rattle.clock_track.proofs.search.latest_at.Goals as goal

pub returns-then-excludes : goal.returns-then-excludes
returns-then-excludes g c row there =
    let instant : to_z w64 (of_z w64 c.args.query.now.instant) ≡ c.args.query.now.instant = omega (arith, ints) in
    let outside : IsOutside c.in-Some.bounds c.args.query.now.instant c.args.query.now.lead = rw instant at (c.excludes.ensures c.if-excludes.true) in
    none-if row.usable _ (pairs-none c.args.query.now.shift row c.in-Some.bounds c.args.query.now.rate c.args.query.now.lead c.args.query.now.instant
    (used (g.R.Rows.rows c.args.rows.now)) c.args.query.now.leads
    (c.in-Some.ensures c.args.query.now.shift row c.requires.searched.bounded there) outside)

pub invariant_of-row : goal.invariant_of-row
invariant_of-row g c =
    let shift : to_z w64 (of_z w64 c.args.query.now.shift) ≡ c.args.query.now.shift = omega (arith, ints) in
    record {
      within = row-is (g.R.Rows.rows c.args.rows.now) c.args.place (row_of c.row-points.result) c.requires.searched.rows
          c.row-points.ensures c.if-not-points.false;
      short = subst IsShift (sym shift) c.args.query.now.short;
    }

pub returns-then-is_some : goal.returns-then-is_some
returns-then-is_some g c row there =
    let shift : to_z w64 (of_z w64 c.args.query.now.shift) ≡ c.args.query.now.shift = omega (arith, ints) in
    let here = row_of c.row-points.result in
    let found = subst (λ (z : ℤ). c.latest_inside-pair.result ≡ find_last (test_of c.args.query.now) (filter_map (inside z here) (range_with_len 0 (timestamps here - 1)))) shift c.latest_inside-pair.ensures in
    inside-last c.args.query.now.shift (used (g.R.Rows.rows c.args.rows.now)) (test_of c.args.query.now) here row _ c.latest_inside-pair.result
    c.row-points.ensures c.if-not-points.false found (sym c.is_some.ensures ∙ c.if-is_some.true) there

pub returns : goal.returns
returns g c row there =
    let shift : to_z w64 (of_z w64 c.args.query.now.shift) ≡ c.args.query.now.shift = omega (arith, ints) in
    let here = row_of c.row-points.result in
    let found = subst (λ (z : ℤ). c.latest_inside-pair.result ≡ find_last (test_of c.args.query.now) (filter_map (inside z here) (range_with_len 0 (timestamps here - 1)))) shift c.latest_inside-pair.ensures in
    let first = subst (λ (z : ℤ). c.latest_across.result ≡ find_last (test_of c.args.query.now) (filter_map (across z here) (used (g.R.Rows.rows c.args.rows.now)))) shift c.latest_across.ensures in
    across-last c.args.query.now.shift (used (g.R.Rows.rows c.args.rows.now)) (test_of c.args.query.now) here row _ c.latest_inside-pair.result c.latest_across.result
    c.row-points.ensures c.if-not-points.false found (sym c.is_some.ensures ∙ c.if-is_some.false) first there

pub latest_inside-pair-requires : goal.latest_inside-pair-requires
latest_inside-pair-requires g c =
    let shift : to_z w64 (of_z w64 c.args.query.now.shift) ≡ c.args.query.now.shift = omega (arith, ints) in
    subst (λ (z : ℤ). AreGroups z (row_of c.row-points.result) c.groups.result.now) (sym shift)
    (c.groups.ensures c.args.query.now.shift (row_of c.row-points.result) c.requires.searched.bounded c.row-points.ensures)
