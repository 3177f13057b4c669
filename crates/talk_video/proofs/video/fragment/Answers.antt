use Rattle.std.proofs.Common.{◌*◌, List, ℕ, length, take, drop, ap, sym, ◌∙◌, arith}
use Rattle.std.proofs.lemmas.List.{length-drop, length-take, take_all, take_rest}
use Rattle.talk_video.proofs.video.fragment.Goals as goal

pub returns-then-behind-lt-FULL_BODY : goal.returns-then-behind-lt-FULL_BODY
returns-then-behind-lt-FULL_BODY c =
    let size = length-drop (c.args.k * 1398) c.args.rest.now in
    let value = take_rest c.args.rest.now (c.args.k * 1398) ∙ sym (take_all 1398 (drop (c.args.k * 1398) c.args.rest.now) (omega arith)) in
    let long = ap (λ (bytes : List ℕ). length bytes) value in
    record { value = value; short = omega (arith, long, length-take 1398 (drop (c.args.k * 1398) c.args.rest.now)) }

pub returns-else-behind-lt-FULL_BODY : goal.returns-else-behind-lt-FULL_BODY
returns-else-behind-lt-FULL_BODY c =
    let value = ap (λ (bytes : List ℕ). take 1398 bytes) (take_rest c.args.rest.now (c.args.k * 1398)) in
    let long = ap (λ (bytes : List ℕ). length bytes) value in
    record { value = value; short = omega (arith, long, length-take 1398 (drop (c.args.k * 1398) c.args.rest.now)) }
