-- The copies are sorted by arrival.
use Rattle.std.proofs.Common.{ap, ◌∙◌, rules}
use Rattle.std.proofs.lemmas.List.Sorted.{answers_always}
use Rattle.soak_run.specs.Network.{by_arrival}
use Rattle.soak_run.proofs.Arrivals.{arrivals}
use Rattle.soak_run.proofs.deliveries.soak_deliveries.Goals as goal

pub returns : goal.returns
returns c =
    arrivals c.in_ok-deliveries.deliveries.items c.sort_by_key.new.self.items
    (c.in_ok-sort_by_key.ensures.sorted (λ copy. copy.0) (answers_always _ _ _ (λ f a r g h. search rules)))
    (c.in_ok-sort_by_key.ensures.stable (λ copy. copy.0) (answers_always _ _ _ (λ f a r g h. search rules)))
    ∙ ap by_arrival c.in_ok-deliveries.ensures
