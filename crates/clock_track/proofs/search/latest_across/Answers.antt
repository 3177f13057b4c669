-- The last of the remaining packets gives the result, or is dropped from the search.
use Rattle.std.proofs.Common.{ap, sym, ◌∙◌, List, arith}
use Rattle.std.specs.List.{filter_map}
use Rattle.time_unfold.specs.Stamps.{find_last}
use Rattle.clock_track.specs.declared.clock_row.ClockRow.{ClockRow}
use Rattle.clock_track.specs.Rows.{across, used}
use Rattle.clock_track.specs.state.Search.{test_of}
use Rattle.clock_track.specs.Views.{row_of}
use Rattle.clock_track.proofs.Lists.{across-found, all-taken, go_on, stop}
use Rattle.clock_track.proofs.TooLate.{none-found}
use Rattle.clock_track.proofs.search.latest_across.Goals as goal

pub loop-left-init : goal.loop-left-init
loop-left-init g c = record {
  within = omega arith;
  same = ap (λ (l : List ClockRow). find_last (test_of c.args.query.now) (filter_map (across c.args.row.now.shift (row_of c.args.row.now.points)) (used l)))
      (all-taken (g.R.Rows.rows c.args.rows.now) c.count-left.result c.count-left.ensures);
}

pub returns-then-is_some : goal.returns-then-is_some
returns-then-is_some g c =
    stop c.covering_from-pair.result _ _ (sym c.is_some.ensures ∙ c.if-is_some.true)
    (across-found c.args.row.now.shift (row_of c.args.row.now.points) (test_of c.args.query.now) (g.R.Rows.rows c.args.rows.now) c.loop-left.left c.covering_from-pair.result _
    (omega arith) c.loop-left.invariant.within c.covering_from-pair.ensures c.loop-left.invariant.same)

pub loop-left-preserved : goal.loop-left-preserved
loop-left-preserved g c = record {
  within = let h = c.loop-left.invariant.within in omega arith;
  same = go_on c.covering_from-pair.result _ _ (sym c.is_some.ensures ∙ c.if-is_some.false)
      (across-found c.args.row.now.shift (row_of c.args.row.now.points) (test_of c.args.query.now) (g.R.Rows.rows c.args.rows.now) c.loop-left.left c.covering_from-pair.result _
      (omega arith) c.loop-left.invariant.within c.covering_from-pair.ensures c.loop-left.invariant.same);
}

pub returns-then-is_too_late : goal.returns-then-is_too_late
returns-then-is_too_late g c =
    sym (none-found (across c.args.row.now.shift (row_of c.args.row.now.points)) (test_of c.args.query.now) (used (g.R.Rows.rows c.args.rows.now)) (c.is_too_late.ensures c.if-is_too_late.true))
