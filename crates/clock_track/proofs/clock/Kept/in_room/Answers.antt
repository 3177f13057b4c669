use Rattle.std.proofs.Common.{◌≡◌, ◌++◌, List, ℕ, ap, ◌∙◌, rules}
use Rattle.clock_track.specs.Views.{row_of}
use Rattle.clock_track.proofs.Noted.{has-bounds}
use Rattle.clock_track.proofs.clock.Kept.in_room.Goals as goal

pub returns : goal.returns
returns c =
    let payload : c.extend_from_slice.new.self.items ≡ c.args.row.now.points.payload.now = c.in-Ok.ensures.items ∙ ap (λ (l : List ℕ). l ++ c.args.row.now.points.payload.now) c.clear.ensures.items in
    record {
      row = search rules;
      room = search rules;
      bounds = has-bounds c.args.row.now.shift (row_of c.args.row.now.points) _ (ap (λ (l : List ℕ). record (row_of c.args.row.now.points) { payload = l }) payload) c.bounds_of.ensures c.bound_groups.ensures;
    }
