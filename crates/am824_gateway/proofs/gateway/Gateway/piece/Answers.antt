use Rattle.std.proofs.Common.{◌≡◌, ◌+◌, ◌<◌, ◌≤◌, ℕ, List, Option, length, refl, sym, ap, take, ◌∙◌, arith, rules, w64, to_z, of_z}
use Rattle.std.proofs.lemmas.Grind.{common_steps}
use Rattle.std.proofs.lemmas.Int.{ints}
use Rattle.am824_gateway.specs.declared.gateway.Current.{Current}
use Rattle.am824_gateway.specs.Gateways.{Gating, IsPieceTurn}
use Rattle.am824_gateway.specs.Packets.{frames_from, piece_frame}
use Rattle.am824_gateway.specs.state.Kept.{frames_in}
use Rattle.am824_gateway.proofs.GatewayLemmas.{cut_one, frame_at, frame_is, known, length_frame, number_is, size_is}
use Rattle.am824_gateway.proofs.gateway.Gateway.piece.Goals as goal

pub index-piece-requires : goal.index-piece-requires
index-piece-requires c =
    let inside = c.self.inside in
    let asked = rw (← c.self.view_is) at c.requires in
    let here : c.args.i < length inside.pieces.list.items = known inside.current inside.pieces.list.items c.in-Some.current c.args.i c.in-Some.is asked in
    search rules

pub write_front-requires-clause-cut : goal.write_front-requires-clause-cut
write_front-requires-clause-cut c =
    let inside = c.self.inside in
    let asked = rw (← c.self.view_is) at c.requires in
    let here = known inside.current inside.pieces.list.items c.in-Some.current c.args.i c.in-Some.is asked in
    cut_one inside.current inside.pieces.list.items c.in-Some.current c.args.i c.index-piece.result.now c.in-Some.is c.self.invariant.cut here c.index-piece.ensures

pub write_front-requires-clause-size : goal.write_front-requires-clause-size
write_front-requires-clause-size c =
    let inside = c.self.inside in
    let is : IsPieceTurn c.args.self.now c.args.i c.turn-turn.result = rw c.self.view_is at c.turn-turn.ensures in
    let cur = c.in-Some.current in
    let items = inside.pieces.list.items in
    let asked = rw (← c.self.view_is) at c.requires in
    let here = known inside.current items cur c.args.i c.in-Some.is asked in
    let p = c.index-piece.result.now in
    let cut = cut_one inside.current items cur c.args.i p c.in-Some.is c.self.invariant.cut here c.index-piece.ensures in
    let frames : c.args.self.now.frames ≡ frames_from cur.stream.to cur.stream.shape cur.stream.id cur.first cur.batch items =
    sym (ap (λ (g : Gating). g.frames) c.self.view_is) ∙ ap (λ (o : Option Current). frames_in o items) c.in-Some.is in
    let frame = frame_at cur.stream.to cur.stream.shape cur.stream.id cur.first cur.batch items c.args.i (cur.first + c.args.i) p here c.index-piece.ensures refl in
    let frame = rw (← frames) at frame in
    size_is cur.stream.to cur.stream.shape cur.stream.id (cur.first + c.args.i) cur.batch c.args.self.now.frames c.args.i c.turn-turn.result p frame is.is cut.within.0.inside cut.size

pub returns : goal.returns
returns c =
    let inside = c.self.inside in
    let cur = c.in-Some.current in
    let items = inside.pieces.list.items in
    let turn = c.turn-turn.result in
    let is : IsPieceTurn c.args.self.now c.args.i turn = rw c.self.view_is at c.turn-turn.ensures in
    let asked = rw (← c.self.view_is) at c.requires in
    let here = known inside.current items cur c.args.i c.in-Some.is asked in
    let p = c.index-piece.result.now in
    let frames : c.args.self.now.frames ≡ frames_from cur.stream.to cur.stream.shape cur.stream.id cur.first cur.batch items =
    sym (ap (λ (g : Gating). g.frames) c.self.view_is) ∙ ap (λ (o : Option Current). frames_in o items) c.in-Some.is in
    let first = frame_at cur.stream.to cur.stream.shape cur.stream.id cur.first cur.batch items c.args.i (cur.first + c.args.i) p here c.index-piece.ensures refl in
    let first = rw (← frames) at first in
    let number = number_is cur.stream.to cur.stream.shape cur.stream.id (cur.first + c.args.i) cur.batch c.args.self.now.frames c.args.i turn p first is.is in
    let frame = frame_at cur.stream.to cur.stream.shape cur.stream.id cur.first cur.batch items c.args.i turn.number p here c.index-piece.ensures number in
    let frame = rw (← frames) at frame in
    let kept : c.as_slice.result.now ≡ c.write_front.new.out = grind (arith, common_steps) in
    let made : take turn.size c.as_slice.result.now ≡ (piece_frame cur.stream.to cur.stream.shape cur.stream.id turn.number cur.batch p).bytes = rw kept c.write_front.ensures in
    let at : to_z w64 (of_z w64 turn.arrival) ≡ turn.arrival = omega (arith, ints, is.begun, is.ended) in
    let whole = frame_is cur.stream.to cur.stream.shape cur.stream.id turn.number cur.batch c.args.self.now.frames c.args.i turn (take turn.size c.as_slice.result.now) p frame is.is made in
    let cut = cut_one inside.current items cur c.args.i p c.in-Some.is c.self.invariant.cut here c.index-piece.ensures in
    let size = size_is cur.stream.to cur.stream.shape cur.stream.id turn.number cur.batch c.args.self.now.frames c.args.i turn p frame is.is cut.within.0.inside cut.size in
    let long = length_frame cur.stream.to cur.stream.shape cur.stream.id turn.number cur.batch p cut.within.0.inside cut.size in
    let most = is.most in
    let most : length (take turn.size c.as_slice.result.now) ≤ 1518 = (let e = ap (λ (xs : List ℕ). length xs) made in omega (arith, e, long, size, most)) in (
      (refl, (λ _. tt), c.self.view_is),
      record {
        lent = record { is = rw at whole; most = most };
        after = tt;
      },
    )
