-- The last of the remaining pairs is the result, or is dropped from the search.
use Rattle.std.proofs.Common.{sym, ◌∙◌, arith}
use Rattle.clock_track.specs.state.Search.{test_of}
use Rattle.clock_track.specs.Views.{row_of}
use Rattle.clock_track.proofs.Lists.{between-found, go_on, stop}
use Rattle.clock_track.proofs.search.latest_between.Goals as goal

pub returns-then-is_some : goal.returns-then-is_some
returns-then-is_some c =
    stop c.covering-pair.result _ _ (sym c.is_some.ensures ∙ c.if-is_some.true)
    (between-found c.args.row.now.shift (row_of c.args.row.now.points) (test_of c.args.query.now) c.args.first c.loop-left.left c.timestamp.result c.timestamp-in-loop-left.result
    c.covering-pair.result _ (omega arith) c.timestamp.ensures c.timestamp-in-loop-left.ensures c.covering-pair.ensures c.loop-left.invariant.same)

pub loop-left-preserved : goal.loop-left-preserved
loop-left-preserved c = record {
  within = let within = c.loop-left.invariant.within in omega arith;
  same = go_on c.covering-pair.result _ _ (sym c.is_some.ensures ∙ c.if-is_some.false)
      (between-found c.args.row.now.shift (row_of c.args.row.now.points) (test_of c.args.query.now) c.args.first c.loop-left.left c.timestamp.result c.timestamp-in-loop-left.result
      c.covering-pair.result _ (omega arith) c.timestamp.ensures c.timestamp-in-loop-left.ensures c.covering-pair.ensures c.loop-left.invariant.same);
}
