use Rattle.std.proofs.Common.{◌≡◌, ℕ, ◌<◌, length, ap, ◌∙◌, subst, arith, rules}
use Rattle.std.proofs.lemmas.Int.{clamps, ints}
use Rattle.value_spread.specs.Spreads.{rank}
use Rattle.value_spread.specs.state.Places.{Reaches}
use Rattle.value_spread.proofs.Spreads.{rank-within, told}
use Rattle.value_spread.proofs.spread.Spread.percentile.Goals as goal

pub returns : goal.returns
returns c = record {
  none = search rules;
  told = λ values tells within.
      let some : 0 < length values = omega (arith, tells.count, c.if-self-eq0.false) in
      let is : c.rank_of.result ≡ rank (length values) c.args.hundredths = c.rank_of.ensures ∙ ap (λ (n : ℕ). rank n c.args.hundredths) tells.count in
      told c.args.self.now values c.args.hundredths c.place_of_rank-place.result _ tells some within c.place_of_rank-place.ensures.within
      (subst (λ (r : ℕ). Reaches values r c.place_of_rank-place.result) is
      (c.place_of_rank-place.ensures.reaches values tells (omega (arith, is, rank-within (length values) c.args.hundredths some within))))
      (omega (arith, ints, clamps, c.min.ensures.value, c.max.ensures.value, c.last_at.ensures));
}
