use Rattle.std.proofs.Common.{◌≡◌, ◌+◌, ◌*◌, ℕ, List, length, refl, ap, ◌∙◌, arith, w64, to_z, of_z}
use Rattle.std.proofs.lemmas.Int.{ints}
use Rattle.sample_schedule.specs.Batches.{Presented}
use Rattle.am824_gateway.specs.Labels.{value_in}
use Rattle.am824_gateway.proofs.GatewayLemmas.{made_is, values_within}
use Rattle.am824_gateway.proofs.gateway.Current.write.Goals as goal

pub slice_bounds-values-end : goal.slice_bounds-values-end
slice_bounds-values-end c =
    let cur = c.args.self.now in
    let p = c.args.piece in
    let cut = c.requires.cut in
    let within = cut.within.0 in
    let bytes = ap (λ (b : Presented). b.bytes) c.batch.view_is in
    let s : ℕ = c.value_size.result * c.from.result in
    let sized : length cur.batch.bytes ≡ cur.batch.count * s = rw (c.value_size.ensures, c.from.ensures) cut.size in
    let long : length c.as_slice.result.now ≡ length cur.batch.bytes = ap (λ (l : List ℕ). length l) (c.as_slice.ensures ∙ bytes) in
    let fits = values_within p.first p.count cur.batch.count s (length cur.batch.bytes) within.inside sized in
    omega (arith, fits, long)

pub instant-requires : goal.instant-requires
instant-requires c = omega (arith, c.requires.cut.within.0.inside)

pub returns : goal.returns
returns c =
    let cur = c.args.self.now in
    let p = c.args.piece in
    let cut = c.requires.cut in
    let within = cut.within.0 in
    let bytes = ap (λ (b : Presented). b.bytes) c.batch.view_is in
    let at = cut.presentable.instants p.first (omega (arith, within.inside)) in
    let at = rw (← c.instant.ensures) at at in
    let same : to_z w64 (of_z w64 c.instant.result) ≡ c.instant.result = omega (arith, ints, at.from, at.to) in
    let s : ℕ = c.value_size.result * c.from.result in
    let made = rw (same, c.instant.ensures) at c.write.ensures in
    made_is cur.stream.to cur.stream.shape cur.stream.id c.args.number cur.batch p c.write.new.out c.as_slice.result.now s (p.first * s) (p.first * s + p.count * s)
    (ap (λ (x : ℕ). x * c.from.result) c.value_size.ensures ∙ ap (λ (x : ℕ). value_in cur.stream.to * x) c.from.ensures) (c.as_slice.ensures ∙ bytes) refl refl made
