-- The last of the remaining groups gives the result, or is dropped from the search.
use Rattle.std.proofs.Common.{◌*◌, ◌-◌, ◌/◌, sym, ◌∙◌, arith}
use Rattle.clock_track.specs.Rows.{inside}
use Rattle.clock_track.specs.state.Search.{test_of}
use Rattle.clock_track.specs.Views.{row_of}
use Rattle.clock_track.proofs.Lists.{go_on, group-found, stop}
use Rattle.clock_track.proofs.search.latest_inside.Goals as goal

pub returns-then-is_some : goal.returns-then-is_some
returns-then-is_some c =
    stop c.latest_of_group-pair.result _ _ (sym c.is_some.ensures ∙ c.if-is_some.true)
    (group-found (inside c.args.row.now.shift (row_of c.args.row.now.points)) (test_of c.args.query.now) (32 * ((c.loop-left.left - 1) / 32)) c.loop-left.left
    c.latest_of_group-pair.result _ (omega arith) c.latest_of_group-pair.ensures c.loop-left.invariant.same)

pub loop-left-preserved : goal.loop-left-preserved
loop-left-preserved c = record {
  within = let within = c.loop-left.invariant.within in omega arith;
  same = go_on c.latest_of_group-pair.result _ _ (sym c.is_some.ensures ∙ c.if-is_some.false)
      (group-found (inside c.args.row.now.shift (row_of c.args.row.now.points)) (test_of c.args.query.now) (32 * ((c.loop-left.left - 1) / 32)) c.loop-left.left
      c.latest_of_group-pair.result _ (omega arith) c.latest_of_group-pair.ensures c.loop-left.invariant.same);
}
