use Rattle.std.proofs.Common.{◌≡◌, ◌-◌, ℕ, [], nat_lt, take, length, arith, refl, rules, sym, subst, ap, ◌∙◌}
use Rattle.std.specs.Prelude.{slice_range}
use Rattle.std.proofs.lemmas.Grind.{common_steps}
use Rattle.std.specs.Vec.{with_items}
use Rattle.std.proofs.lemmas.Bool.{ltb-true, ltb-false}
use Rattle.std.proofs.lemmas.List.{with_items_is}
use Rattle.capture_io.specs.Pieces.{Piecing}
use Rattle.capture_io.specs.state.Pieces.{HasTakenOf}
use Rattle.capture_io.proofs.Taking.{read_more}
use Rattle.capture_io.proofs.pieces.Pieces.read.Goals as goal

pub returns-after-within-eq0 : goal.returns-after-within-eq0
returns-after-within-eq0 g c = record {
  more = λ goes limit bytes prefix h.
      let view = c.self.view_is in
      let here = subst (λ (p : Piecing). HasTakenOf limit bytes (g.F.Shelf.state c.args.shelf.now) p prefix) (sym view) h in
      let none : _ ≡ [] = ap (λ (p : Piecing). p.waiting) view ∙ c.requires.1 in
      let within : ℕ = c.min-within.result in
      let q : Piecing = record { slot = c.self.inside.slot.0; waiting = slice_range (with_items c.self.inside.piece c.read.new.buf).items 0 within; left = c.self.inside.left - within; over = nat_lt within c.in-Ok.count } in
      let len : length c.read.new.buf ≡ c.self.inside.piece.len = omega (arith, c.deref_mut.ensures.len, c.read.auto.buf) in
      let whole = with_items_is c.self.inside.piece c.read.new.buf len in
      let bare : within - 0 ≡ within = omega arith in
      read_more limit bytes _ _ _ q prefix c.read.new.buf c.in-Ok.count within here c.if-self.false none
      c.in-Ok.ensures.does.moved.0 c.in-Ok.ensures.does.within (omega (arith, c.min-within.ensures)) (omega (arith, c.min-within.ensures)) (λ part. omega (arith, c.min-within.ensures))
      (ap (λ (n : ℕ). take n (with_items c.self.inside.piece c.read.new.buf).items) bare ∙ ap (take within) whole) refl (ltb-true _ _) (ltb-false _ _);
  stopped = grind (arith, common_steps);
  bounded = grind (arith, common_steps);
  some = grind (arith, common_steps);
  none = grind (arith, common_steps);
  counted = (search rules);
  reads = (search rules);
}
