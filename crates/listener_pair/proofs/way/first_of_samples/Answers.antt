-- No sample before `j` differs. So if sample `j` differs, it is the first sample that differs.
use Rattle.std.proofs.Common.{◌≡◌, ◌+◌, ◌≤◌, ℕ, suc, true, false, Option, Some, None, sym, ap, ◌∙◌, subst, arith}
use Rattle.std.specs.Prelude.{is_some}
use Rattle.sample_schedule.specs.Batches.{Presented}
use Rattle.listener_pair.specs.declared.difference.Way.{Way}
use Rattle.listener_pair.specs.Ways.{first_way, sample_way}
use Rattle.listener_pair.proofs.Samples.{first-next, first-none, first-stays}
use Rattle.listener_pair.proofs.way.first_of_samples.Goals as goal

pub loop-j-init : goal.loop-j-init
loop-j-init c = first-none c.args.a.now c.args.b.now

some-decides : (a b : Presented) (j n : ℕ) (w : Option Way) → is_some w ≡ true → j + 1 ≤ n → first_way a b j ≡ None → w ≡ sample_way a b j → w ≡ first_way a b n
some-decides a b j n None some le none e = absurd (cc)
some-decides a b j n (Some w) some le none e = sym (first-stays a b (suc j) n w (omega arith) (first-next a b j none ∙ sym e))

pub returns-then-is_some : goal.returns-then-is_some
returns-then-is_some c =
    let same : c.a.inside.count ≡ c.args.a.now.count = ap (λ (p : Presented). p.count) c.a.view_is in
    let le : c.loop-j.j + 1 ≤ c.args.a.now.count = let t = c.loop-j-test.true in omega arith in
    some-decides c.args.a.now c.args.b.now c.loop-j.j c.args.a.now.count c.sample_way-way.result (sym c.is_some.ensures ∙ c.if-is_some.true) le c.loop-j.invariant c.sample_way-way.ensures

none-goes : (a b : Presented) (j : ℕ) (w : Option Way) → is_some w ≡ false → first_way a b j ≡ None → w ≡ sample_way a b j → first_way a b (j + 1) ≡ None
none-goes a b j None some none e = subst (λ (n : ℕ). first_way a b n ≡ None) (omega arith) (first-next a b j none ∙ sym e)
none-goes a b j (Some w) some none e = absurd (cc)

pub loop-j-preserved : goal.loop-j-preserved
loop-j-preserved c = none-goes c.args.a.now c.args.b.now c.loop-j.j c.sample_way-way.result (sym c.is_some.ensures ∙ c.if-is_some.false) c.loop-j.invariant c.sample_way-way.ensures
