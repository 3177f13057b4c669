use Rattle.std.proofs.Common.{◌≡◌, ◌+◌, ◌*◌, ℕ, List, ◌++◌, length, take, drop, refl, ap, ◌∙◌, arith}
use Rattle.am824_gateway.proofs.ListLemmas.{unlabelled_more, length-part, length_same, three_in}
use Rattle.am824_gateway.proofs.labels.take_labels.Goals as goal

pub loop-k-preserved : goal.loop-k-preserved
loop-k-preserved c =
    let k = c.loop-k.k in
    let out = c.loop-k.out in
    let values = c.args.quadlets.now in
    let i = c.loop-k.invariant in
    let here = c.loop-k-test.true in
    let q : List ℕ = take 3 (drop (4 * k + 1) values) in
    let value = three_in (4 * k + 1) (4 * k + 4) values (omega arith) (omega (arith, here, c.requires.size)) in
    let put = c.put_bytes.ensures ∙ ap (λ (v : List ℕ). take (3 * k) out ++ (v ++ drop (3 * k + 3) out)) value in
    let size : length q ≡ 3 = length-part (4 * k + 1) 3 values (omega (arith, here, c.requires.size)) in
    record {
      written = unlabelled_more k out values c.put_bytes.new.out (omega (arith, here, i.size)) (omega (arith, here, c.requires.size)) i.written put;
      size = length_same (take (3 * k) out) q (drop (3 * k + 3) out) out c.put_bytes.new.out (3 * k) (3 * k + 3) refl refl (omega (arith, size)) (omega (arith, here, i.size)) put ∙ i.size;
    }
