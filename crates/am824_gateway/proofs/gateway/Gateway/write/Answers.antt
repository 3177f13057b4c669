use Rattle.std.proofs.Common.{◌≡◌, ◌+◌, ◌<◌, Option, length, refl, sym, ap, ◌∙◌, arith, rules}
use Rattle.am824_gateway.specs.declared.gateway.Current.{Current}
use Rattle.am824_gateway.specs.Gateways.{Gating}
use Rattle.am824_gateway.specs.Packets.{frames_from}
use Rattle.am824_gateway.specs.state.Kept.{frames_in}
use Rattle.am824_gateway.proofs.GatewayLemmas.{cut_one, frame_at, frame_is, known_by, size_is}
use Rattle.am824_gateway.proofs.gateway.Gateway.write.Goals as goal

pub index-piece-requires : goal.index-piece-requires
index-piece-requires c =
    let inside = c.self.inside in
    let asked = rw (← c.self.view_is) at c.requires.turn.is in
    let here : c.args.i < length inside.pieces.list.items = known_by inside.current inside.pieces.list.items c.in-Some.current c.args.i c.args.turn c.in-Some.is asked in
    search rules

pub write-requires-clause-cut : goal.write-requires-clause-cut
write-requires-clause-cut c =
    let inside = c.self.inside in
    let asked = rw (← c.self.view_is) at c.requires.turn.is in
    let here = known_by inside.current inside.pieces.list.items c.in-Some.current c.args.i c.args.turn c.in-Some.is asked in
    cut_one inside.current inside.pieces.list.items c.in-Some.current c.args.i c.index-piece.result.now c.in-Some.is c.self.invariant.cut here c.index-piece.ensures

pub write-requires-clause-room : goal.write-requires-clause-room
write-requires-clause-room c =
    let inside = c.self.inside in
    let cur = c.in-Some.current in
    let items = inside.pieces.list.items in
    let asked = rw (← c.self.view_is) at c.requires.turn.is in
    let here = known_by inside.current items cur c.args.i c.args.turn c.in-Some.is asked in
    let p = c.index-piece.result.now in
    let cut = cut_one inside.current items cur c.args.i p c.in-Some.is c.self.invariant.cut here c.index-piece.ensures in
    let frames : c.args.self.now.frames ≡ frames_from cur.stream.to cur.stream.shape cur.stream.id cur.first cur.batch items =
    sym (ap (λ (g : Gating). g.frames) c.self.view_is) ∙ ap (λ (o : Option Current). frames_in o items) c.in-Some.is in
    let frame = frame_at cur.stream.to cur.stream.shape cur.stream.id cur.first cur.batch items c.args.i (cur.first + c.args.i) p here c.index-piece.ensures refl in
    let frame = rw (← frames) at frame in
    c.requires.room ∙ size_is cur.stream.to cur.stream.shape cur.stream.id (cur.first + c.args.i) cur.batch c.args.self.now.frames c.args.i c.args.turn p frame c.requires.turn.is cut.within.0.inside cut.size

pub returns : goal.returns
returns c =
    let inside = c.self.inside in
    let cur = c.in-Some.current in
    let items = inside.pieces.list.items in
    let asked = rw (← c.self.view_is) at c.requires.turn.is in
    let here = known_by inside.current items cur c.args.i c.args.turn c.in-Some.is asked in
    let p = c.index-piece.result.now in
    let frames : c.args.self.now.frames ≡ frames_from cur.stream.to cur.stream.shape cur.stream.id cur.first cur.batch items =
    sym (ap (λ (g : Gating). g.frames) c.self.view_is) ∙ ap (λ (o : Option Current). frames_in o items) c.in-Some.is in
    let frame = frame_at cur.stream.to cur.stream.shape cur.stream.id cur.first cur.batch items c.args.i (cur.first + c.from.result) p here c.index-piece.ensures (omega (arith, c.from.ensures)) in
    let frame = rw (← frames) at frame in
    frame_is cur.stream.to cur.stream.shape cur.stream.id (cur.first + c.from.result) cur.batch c.args.self.now.frames c.args.i c.args.turn c.write.new.out p frame c.requires.turn.is c.write.ensures
