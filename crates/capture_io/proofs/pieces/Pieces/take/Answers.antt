use Rattle.std.proofs.Common.{ℕ, ◌-◌, ◌≤◌, List, drop, length, arith, ap, ◌∙◌, length-take}
use Rattle.capture_io.specs.Pieces.{Piecing}
use Rattle.capture_io.proofs.Taking.{range_drop}
use Rattle.capture_io.proofs.pieces.Pieces.take.Goals as goal

pub returns : goal.returns
returns c =
    let p = c.self.inside in
    let n = c.args.count in
    let fits : n ≤ p.end - p.start = let short = simp length-take at (ap (λ (q : Piecing). length q.waiting) c.self.view_is) in omega (arith, c.requires) in
    ap (λ (w : List ℕ). record { slot = p.slot.0; waiting = w; left = p.left; over = p.over }) (range_drop p.piece.items p.start p.end n fits)
    ∙ ap (λ (q : Piecing). record q { waiting = drop n q.waiting }) c.self.view_is
