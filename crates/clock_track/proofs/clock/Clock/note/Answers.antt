-- The packet is appended to the kept packets. If 64 packets are kept already, the oldest packet is dropped and its
-- memory is reused.
use Rattle.std.proofs.Common.{ℕ, [], ◌∷◌, ◌++◌, ap, sym, ◌∙◌, ◌≡◌, ℤ, w64, to_z, of_z, arith, subst}
use Rattle.std.proofs.lemmas.Int.{ints}
use Rattle.circular_buffer.specs.Buffer.{Buffer, buffer, keep_last}
use Rattle.clock_track.specs.declared.clock.Kept.{Kept}
use Rattle.clock_track.specs.Limits.{IsNotable}
use Rattle.clock_track.specs.Views.{row_of}
use Rattle.clock_track.specs.state.Window.{HasBounds, HoldsRooms}
use Rattle.clock_track.specs.Window.{ClockState}
use Rattle.clock_track.proofs.Noted.{stands-noted, window-noted}
use Rattle.clock_track.proofs.clock.Clock.note.Goals as goal

pub invariant_of-self : goal.invariant_of-self
invariant_of-self c =
    let from = c.self.invariant.1.from in
    let to = c.self.invariant.1.to in
    let shift : to_z w64 (of_z w64 c.self.inside.shift) ≡ c.self.inside.shift = omega (arith, ints) in (
      window-noted c.self.inside.shift c.self.inside.rows c.try_push_back.new.self c.in_room.result c.self.inside.spare c.take_room-room.new.spare c.self.invariant.0
          (c.in-Ok.ensures.ok ∙ ap (λ (b : Buffer Kept). buffer (b.items ++ c.in_room.result ∷ []) b.capacity) c.take_room-room.ensures.rows ∙ ap (λ (n : ℕ). buffer (keep_last 63 c.self.inside.rows.items ++ c.in_room.result ∷ []) n) c.self.invariant.0.capacity)
          c.in_room.ensures.room (subst IsNotable (sym c.in_room.ensures.row) c.requires) (subst (λ (s : ℤ). HasBounds s c.in_room.result) shift c.in_room.ensures.bounds)
          (subst (λ (b : Buffer Kept). HoldsRooms b.items c.take_room-room.new.spare 63) c.take_room-room.ensures.rows c.take_room-room.ensures.left),
      c.self.invariant.1,
    )

pub returns-in-Ok-clause-noted : goal.returns-in-Ok-clause-noted
returns-in-Ok-clause-noted c rows stands =
    stands-noted c.self.inside.rows c.try_push_back.new.self c.in_room.result rows (row_of c.args.points.now)
    (c.in-Ok.ensures.ok ∙ ap (λ (b : Buffer Kept). buffer (b.items ++ c.in_room.result ∷ []) b.capacity) c.take_room-room.ensures.rows ∙ ap (λ (n : ℕ). buffer (keep_last 63 c.self.inside.rows.items ++ c.in_room.result ∷ []) n) c.self.invariant.0.capacity)
    c.in_room.ensures.row c.if-points.true (ap (λ (s : ClockState). s.rows) c.self.view_is ∙ stands)
