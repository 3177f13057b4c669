use Rattle.std.proofs.Common.{◌≡◌, ◌-◌, ◌≤◌, ℕ, sum, take, ap, ◌∙◌, arith, rules}
use Rattle.std.proofs.lemmas.Int.{ints}
use Rattle.value_spread.proofs.Spreads.{all-below}
use Rattle.value_spread.proofs.spread.Spread.place_of_rank.Goals as goal

all-places : {p : ℕ} → 7424 ≤ p → p ≤ 7424 → p ≡ 7424
all-places le ge = omega (arith, le, ge)

pub returns : goal.returns
returns c = record {
  within = search rules;
  reaches = λ values tells within.
      let at : c.loop-place.place ≡ 7424 = all-places c.loop-place-test.false (c.loop-place.auto.place-end (omega (arith, tells.places))) in
      let is = c.loop-place.invariant.0 ∙ ap (λ (p : ℕ). sum (take (p - c.args.self.now.first) c.args.self.now.counts.items)) at ∙ tells.counts 7424 (omega arith) in
      absurd (omega (arith, is, c.loop-place.invariant.1, within, all-below c.args.self.now values tells (omega (arith, ints))));
}
