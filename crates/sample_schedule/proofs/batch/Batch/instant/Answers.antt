use Rattle.std.proofs.Common.{◌≡◌, ◌≤◌, ℤ, pos, ◌+ℤ◌, ap, ◌∙◌, arith, w64, to_z, of_z}
use Rattle.std.proofs.lemmas.Int.{ints}
use Rattle.time_unfold.specs.Lines.{instant_at}
use Rattle.sample_schedule.specs.Batches.{Presented}
use Rattle.sample_schedule.proofs.batch.Batch.instant.Goals as goal

pub returns : goal.returns
returns c =
    let within : c.args.j ≤ c.self.inside.count =
    let same_count : c.self.inside.count ≡ c.args.self.now.count = ap (λ (b : Presented). b.count) c.self.view_is in omega arith in
    let numbers = c.self.invariant.numbers in
    let number : to_z w64 (of_z w64 (to_z w64 (of_z w64 c.self.inside.from) +ℤ to_z w64 (of_z w64 c.from.result))) ≡ c.self.inside.from +ℤ pos c.args.j = omega (arith, ints) in
    let at : c.at.result ≡ instant_at c.self.inside.line (c.self.inside.from +ℤ pos c.args.j) =
    c.at.ensures.value ∙ ap (λ (z : ℤ). instant_at c.self.inside.line z) number in
    let same : to_z w64 (of_z w64 c.at.result) ≡ c.at.result = omega (arith, ints) in
    rw (← c.self.view_is) (same ∙ at)
