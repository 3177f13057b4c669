-- The next batch is worked through.
use Rattle.std.proofs.Common.{◌+◌, length, rules, ap, sym, ◌∙◌, subst}
use Rattle.std.specs.Option.{option_to_list}
use Rattle.listener_pair.specs.Matching.{MatchingState, StandsFor}
use Rattle.listener_pair.specs.state.Window.{counted, risen}
use Rattle.listener_pair.proofs.Stepping.{Came, comes, left, next-known, step-first, step-stands}
use Rattle.listener_pair.proofs.matching.Matching.step.Goals as goal

pub enter-entered-requires : goal.enter-entered-requires
enter-entered-requires c = next-known c.args.side c.args.self.now c.requires

came : (c : goal.After-self-2-1) → Came c.args.side c.args.self.now (left c.enter-entered.new.self c.saturating_add-self-inside.result c.counted-self-inside.result) c.enter-entered.result
came c =
    comes c.args.side c.args.self.now c.enter-entered.new.self c.enter-entered.result c.saturating_add-self-inside.result c.counted-self-inside.result c.requires c.enter-entered.ensures.same c.enter-entered.ensures.enters
    c.enter-entered.ensures.tells (c.saturating_add-self-inside.ensures ∙ ap (λ (m : MatchingState). risen m.place) c.self.view_is)
    (λ pair told. c.counted-self-inside.ensures pair told ∙ ap (λ (m : MatchingState). counted c.args.side pair m.counts) c.self.view_is)

pub returns : goal.returns
returns c =
    let t = came c in
    let after = left c.enter-entered.new.self c.saturating_add-self-inside.result c.counted-self-inside.result in
    record {
      stands = λ xs ys given h.
          subst (λ (m : MatchingState). StandsFor xs ys (given + length (option_to_list c.enter-entered.result.difference)) m)
          (sym (ap (λ (m : MatchingState). left m c.saturating_add-self-inside.result c.counted-self-inside.result) c.self.view_is))
          (step-stands c.args.side t.batch c.args.self.now after t.pair c.enter-entered.result.difference c.requires t.next t.steps t.tells xs ys given h);
      first = step-first c.args.side t.batch c.args.self.now after t.pair c.enter-entered.result.difference c.requires t.next t.steps t.tells;
      ended = search rules;
      less = search rules;
    }
