-- The code computes `unfolded`. The lemmas say that `unfolded` is the only instant that the timestamp means.
use Rattle.std.proofs.Common.{◌≡◌, ◌^◌, ℤ, pos, ◌-ℤ◌, sym, ap, ◌∙◌, subst, arith}
use Rattle.std.proofs.lemmas.Int.{ints}
use Rattle.std.specs.Int.{int_rem_euclid}
use Rattle.time_unfold.specs.Time.{Unfolds, unfolded}
use Rattle.time_unfold.proofs.Instants.{unfolded-unfolds, one_unfolded}
use Rattle.time_unfold.proofs.timestamp.unfold.Goals as goal

pub returns-clause-value : goal.returns-clause-value
unfolding unfolded
returns-clause-value c =
    let first = c.args.arrival -ℤ pos (2 ^ 31) in
    let rest : c.rem_euclid.result ≡ int_rem_euclid (pos c.args.timestamp -ℤ first) (pos (2 ^ 32)) =
    c.rem_euclid.ensures.value ∙ ap (λ (z : ℤ). int_rem_euclid z (pos (2 ^ 32))) (omega (arith, ints)) in
    omega (arith, ints)

pub returns-clause-unfolds : goal.returns-clause-unfolds
returns-clause-unfolds c =
    subst (λ (z : ℤ). Unfolds c.args.timestamp c.args.arrival z) (sym (returns-clause-value c)) (unfolded-unfolds c.args.timestamp c.args.arrival (omega arith))

pub returns-clause-only : goal.returns-clause-only
returns-clause-only c other u =
    one_unfolded c.args.timestamp c.args.arrival other _ u (returns-clause-unfolds c)
