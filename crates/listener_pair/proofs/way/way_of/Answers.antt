-- If the lines and the bytes of both batches are equal, no sample differs.
use Rattle.std.proofs.Common.{◌≡◌, sym, ap, ◌∙◌, rules}
use Rattle.std.proofs.lemmas.Int.{ints}
use Rattle.sample_schedule.specs.Batches.{Presented}
use Rattle.listener_pair.proofs.Samples.{bytes-equal, equal-batches, lines-equal, no-way}
use Rattle.listener_pair.proofs.way.way_of.Goals as goal

pub returns-then-eq-2 : goal.returns-then-eq-2
returns-then-eq-2 c =
    let va = c.a.view_is in
    let vb = c.b.view_is in
    let line : c.args.a.now.line ≡ c.args.b.now.line = sym (ap (λ (p : Presented). p.line) va) ∙ lines-equal c.a.inside.line c.b.inside.line c.eq.result c.eq.ensures c.if-eq.true ∙ ap (λ (p : Presented). p.line) vb in
    let from_is : c.a.inside.from ≡ c.b.inside.from = search (rules, ints) in
    let from : c.args.a.now.from ≡ c.args.b.now.from = sym (ap (λ (p : Presented). p.from) va) ∙ from_is ∙ ap (λ (p : Presented). p.from) vb in
    let count : c.args.a.now.count ≡ c.args.b.now.count = sym (ap (λ (p : Presented). p.count) va) ∙ c.if-a-b.false ∙ ap (λ (p : Presented). p.count) vb in
    let same = bytes-equal c.as_slice.result.now c.as_slice-then-a-b-2.result.now c.eq-then-a-b-2.result c.eq-then-a-b-2.ensures c.if-eq-2.true in
    let bytes : c.args.a.now.bytes ≡ c.args.b.now.bytes = sym (ap (λ (p : Presented). p.bytes) va) ∙ sym c.as_slice.ensures ∙ same ∙ c.as_slice-then-a-b-2.ensures ∙ ap (λ (p : Presented). p.bytes) vb in
    no-way c.args.a.now c.args.b.now count (equal-batches c.args.a.now c.args.b.now c.args.a.now.count line from count bytes)
