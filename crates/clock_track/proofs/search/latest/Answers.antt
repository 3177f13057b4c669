-- The last of the remaining packets gives the result, or is dropped from the search.
use Rattle.std.proofs.Common.{ap, sym, ◌∙◌, List, arith}
use Rattle.std.specs.List.{flat_map}
use Rattle.time_unfold.specs.Stamps.{find_last}
use Rattle.clock_track.specs.declared.clock_row.ClockRow.{ClockRow}
use Rattle.clock_track.specs.Rows.{pairs_at, used}
use Rattle.clock_track.specs.state.Search.{test_of}
use Rattle.clock_track.proofs.Latest.{found_covers}
use Rattle.clock_track.proofs.Lists.{all-taken, go_on, pairs-found, stop}
use Rattle.clock_track.proofs.search.latest.Goals as goal

pub loop-left-init : goal.loop-left-init
loop-left-init g c = record {
  within = omega arith;
  same = ap (λ (l : List ClockRow). find_last (test_of c.args.query.now) (flat_map (pairs_at c.args.query.now.shift (used (g.R.Rows.rows c.args.rows.now))) (used l)))
      (all-taken (g.R.Rows.rows c.args.rows.now) c.count-left.result c.count-left.ensures);
}

pub returns-then-is_some : goal.returns-then-is_some
returns-then-is_some g c =
    let value =
    stop c.latest_at-pair.result _ _ (sym c.is_some.ensures ∙ c.if-is_some.true)
    (pairs-found (pairs_at c.args.query.now.shift (used (g.R.Rows.rows c.args.rows.now))) (test_of c.args.query.now) (g.R.Rows.rows c.args.rows.now) c.loop-left.left
    c.latest_at-pair.result _ (omega arith) c.loop-left.invariant.within c.latest_at-pair.ensures c.loop-left.invariant.same) in
    record {
      value = value;
      covering = found_covers c.args.query.now.shift c.args.query.now.instant c.args.query.now.rate (g.R.Rows.rows c.args.rows.now) c.latest_at-pair.result c.args.query.now.short c.requires.rows value;
    }

pub loop-left-preserved : goal.loop-left-preserved
loop-left-preserved g c = record {
  within = let h = c.loop-left.invariant.within in omega arith;
  same = go_on c.latest_at-pair.result _ _ (sym c.is_some.ensures ∙ c.if-is_some.false)
      (pairs-found (pairs_at c.args.query.now.shift (used (g.R.Rows.rows c.args.rows.now))) (test_of c.args.query.now) (g.R.Rows.rows c.args.rows.now) c.loop-left.left
      c.latest_at-pair.result _ (omega arith) c.loop-left.invariant.within c.latest_at-pair.ensures c.loop-left.invariant.same);
}
