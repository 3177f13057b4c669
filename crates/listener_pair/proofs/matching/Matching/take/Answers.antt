-- The batch that is taken becomes the next batch of its side.
use Rattle.std.proofs.Common.{◌≡◌, [], ◌∷◌, ◌++◌, Some, rules, ap, sym, ◌∙◌, subst}
use Rattle.sample_schedule.specs.Batches.{Presented}
use Rattle.listener_pair.specs.declared.difference.Which.{Which}
use Rattle.listener_pair.specs.declared.difference.Which.TheVariants.{A, B}
use Rattle.listener_pair.specs.Matching.{MatchingState, StandsFor, given_to}
use Rattle.listener_pair.proofs.Standing.{given-a, given-b}
use Rattle.listener_pair.proofs.matching.Matching.take.Goals as goal

taken : (which s : Which) (batch b : Presented) (old new : MatchingState) → new ≡ given_to which b old → b ≡ batch → which ≡ s → new ≡ given_to s batch old
taken which s batch b old new e f w = e ∙ ap (λ x. given_to which x old) f ∙ ap (λ x. given_to x batch old) w

pub returns : goal.returns
returns c = record {
  given = search rules;
  stands_a = λ which xs ys given s order few.
      subst (λ (m : MatchingState). StandsFor (xs ++ c.args.batch ∷ []) ys given m)
      (sym (taken c.args.which A c.args.batch c.over.result c.args.self.now c.put.new.self c.put.ensures c.over.ensures which))
      (given-a xs ys given c.args.self.now c.args.batch s (c.requires ∙ ap Some which) order few);
  stands_b = λ which xs ys given s order few.
      subst (λ (m : MatchingState). StandsFor xs (ys ++ c.args.batch ∷ []) given m)
      (sym (taken c.args.which B c.args.batch c.over.result c.args.self.now c.put.new.self c.put.ensures c.over.ensures which))
      (given-b xs ys given c.args.self.now c.args.batch s (c.requires ∙ ap Some which) order few);
}
