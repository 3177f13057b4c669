use Rattle.std.proofs.Common.{◌≡◌, ◌+◌, ◌<◌, Option, length, sym, ap, ◌∙◌, arith, rules, w64, to_z, of_z}
use Rattle.std.proofs.lemmas.Int.{ints}
use Rattle.am824_gateway.specs.declared.gateway.Current.{Current}
use Rattle.am824_gateway.specs.Gateways.{Gating}
use Rattle.am824_gateway.specs.Packets.{frames_from}
use Rattle.am824_gateway.specs.state.Kept.{IsCut, frames_in}
use Rattle.am824_gateway.proofs.GatewayLemmas.{begun, frame_at, in_time, known, turn_is, within_at}
use Rattle.am824_gateway.proofs.PieceLemmas.{frame_fits}
use Rattle.am824_gateway.proofs.gateway.Gateway.turn.Goals as goal

pub index-piece-requires : goal.index-piece-requires
index-piece-requires c =
    let inside = c.self.inside in
    let asked = rw (← c.self.view_is) at c.requires in
    let here : c.args.i < length inside.pieces.list.items = known inside.current inside.pieces.list.items c.in-Some.current c.args.i c.in-Some.is asked in
    search rules

pub instant-requires : goal.instant-requires
instant-requires c =
    let inside = c.self.inside in
    let asked = rw (← c.self.view_is) at c.requires in
    let here = known inside.current inside.pieces.list.items c.in-Some.current c.args.i c.in-Some.is asked in
    let p = c.index-piece.result.now in
    let within = within_at inside.current inside.pieces.list.items c.in-Some.current c.args.i p c.in-Some.is c.self.invariant.cut here c.index-piece.ensures in
    omega (arith, within.inside)

pub returns : goal.returns
returns c =
    let inside = c.self.inside in
    let cur = c.in-Some.current in
    let items = inside.pieces.list.items in
    let asked = rw (← c.self.view_is) at c.requires in
    let here = known inside.current items cur c.args.i c.in-Some.is asked in
    let p = c.index-piece.result.now in
    let within = within_at inside.current items cur c.args.i p c.in-Some.is c.self.invariant.cut here c.index-piece.ensures in
    let cut : IsCut cur items = rw c.in-Some.is at c.self.invariant.cut in
    let at = cut.presentable.instants p.first (omega (arith, within.inside)) in
    let at = rw (← c.instant.ensures) at at in
    let same : to_z w64 (of_z w64 c.instant.result) ≡ c.instant.result = omega (arith, ints, at.from, at.to) in
    let arrival = rw (same, c.instant.ensures) at c.arrival_of.ensures in
    let early = begun (c.instant.result) in
    let early = rw (c.instant.ensures, ← arrival) at early in
    let late = in_time cur.batch p within.in_time in
    let late = rw (← arrival) at late in
    let fits : to_z w64 (of_z w64 c.arrival_of.result) ≡ c.arrival_of.result = omega (arith, ints, early, late) in
    let frames : c.args.self.now.frames ≡ frames_from cur.stream.to cur.stream.shape cur.stream.id cur.first cur.batch items =
    sym (ap (λ (g : Gating). g.frames) c.self.view_is) ∙ ap (λ (o : Option Current). frames_in o items) c.in-Some.is in
    let frame = frame_at cur.stream.to cur.stream.shape cur.stream.id cur.first cur.batch items c.args.i (cur.first + c.from.result) p here c.index-piece.ensures (omega (arith, c.from.ensures)) in
    let frame = rw (← frames) at frame in
    let turn = turn_is cur.stream.to cur.stream.shape cur.stream.id (cur.first + c.from.result) cur.batch c.args.self.now.frames c.args.i c.frame_size.result c.arrival_of.result p frame within.inside cut.size arrival c.frame_size.ensures in
    rw fits record {
      is = turn;
      begun = early;
      ended = late;
      most = rw c.frame_size.ensures (frame_fits cur.stream.to cur.stream.shape p within.fits);
    }
