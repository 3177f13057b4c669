-- The bounds of each group are appended to those of the groups before it.
use Rattle.std.proofs.Common.{◌≡◌, ◌*◌, List, length, sym, ap, subst, arith, rules}
use Rattle.clock_track.specs.declared.bounds.Bounds.{Bounds}
use Rattle.clock_track.specs.state.Bounds.{AreGroups}
use Rattle.clock_track.specs.Views.{row_of}
use Rattle.clock_track.proofs.Outside.{groups-more, no-groups}
use Rattle.clock_track.proofs.search.bound_groups.Goals as goal

pub loop-groups-init : goal.loop-groups-init
loop-groups-init c = record {
  few = omega arith;
  has = subst (λ (l : List Bounds). AreGroups c.args.row.now.shift (row_of c.args.row.now.points) l) (sym c.clear.ensures.items) (no-groups c.args.row.now.shift (row_of c.args.row.now.points));
}

pub loop-groups-preserved : goal.loop-groups-preserved
loop-groups-preserved c = record {
  few = let len = c.in-Ok.ensures.len in omega arith;
  has =
      let n : c.len-group.result ≡ length c.loop-groups.groups.items = search rules in
      let most = c.group_end.ensures.most in
      subst (λ (l : List Bounds). AreGroups c.args.row.now.shift (row_of c.args.row.now.points) l) (sym c.in-Ok.ensures.items)
      (groups-more c.args.row.now.shift (row_of c.args.row.now.points) c.loop-groups.groups.items c.bounds_inside-bounds.result (32 * c.len-group.result) c.group_end.result c.loop-groups.invariant.has
      (ap (λ m. 32 * m) n) (λ end within inner. most end (omega arith) (omega arith)) c.bounds_inside-bounds.ensures);
}

pub returns-in-Err : goal.returns-in-Err
returns-in-Err c = subst (λ (l : List Bounds). AreGroups c.args.row.now.shift (row_of c.args.row.now.points) l) (sym c.in-Err.ensures.items) c.loop-groups.invariant.has
