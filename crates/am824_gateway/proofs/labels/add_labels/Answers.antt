use Rattle.std.proofs.Common.{◌≡◌, ◌+◌, ◌*◌, ℕ, List, ◌∷◌, ◌++◌, length, take, drop, refl, ap, ◌∙◌, arith, suc}
use Rattle.am824_gateway.proofs.ListLemmas.{labelled_more, length-part, length_same, three_in}
use Rattle.am824_gateway.proofs.labels.add_labels.Goals as goal

pub loop-k-preserved : goal.loop-k-preserved
loop-k-preserved c =
    let k = c.loop-k.k in
    let out = c.loop-k.out in
    let values = c.args.values.now in
    let i = c.loop-k.invariant in
    let here = c.loop-k-test.true in
    let q : List ℕ = 0x40 ∷ take 3 (drop (3 * k) values) in
    let value = three_in (3 * k) (3 * k + 3) values refl (omega (arith, here, c.requires.size)) in
    let put = c.put_bytes.ensures ∙ ap (λ (v : List ℕ). take (4 * k) out ++ ((64 ∷ v) ++ drop (4 * k + 4) out)) value in
    let size : length q ≡ 4 = ap suc (length-part (3 * k) 3 values (omega (arith, here, c.requires.size))) in
    record {
      written = labelled_more k out values c.put_bytes.new.out (omega (arith, here, i.size)) (omega (arith, here, c.requires.size)) i.written put;
      size = length_same (take (4 * k) out) q (drop (4 * k + 4) out) out c.put_bytes.new.out (4 * k) (4 * k + 4) refl refl (omega (arith, size)) (omega (arith, here, i.size)) put ∙ i.size;
    }
