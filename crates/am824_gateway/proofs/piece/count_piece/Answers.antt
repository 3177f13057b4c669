use Rattle.std.proofs.Common.{◌≡◌, ◌+◌, ◌-◌, ◌<◌, ℕ, true, false, sym, ap, ◌∙◌, subst, arith, w64, to_z, of_z}
use Rattle.std.proofs.lemmas.Int.{ints}
use Rattle.sample_schedule.specs.Batches.{IsPresentable, Presented}
use Rattle.am824_gateway.specs.Pieces.{going_on, is_nominal}
use Rattle.am824_gateway.proofs.GatewayLemmas.{in_range}
use Rattle.am824_gateway.proofs.PieceLemmas.{goes_on, stops, test_is}
use Rattle.am824_gateway.proofs.piece.count_piece.Goals as goal

pub loop-count-preserved : goal.loop-count-preserved
loop-count-preserved c =
    let batch = c.args.batch.now in
    let first = c.args.instant.now.j in
    let rate = c.args.rate in
    let i = c.loop-count.invariant in
    let k = c.loop-count.count in
    let limit = c.min-limit.result in
    let presentable = subst IsPresentable c.batch.view_is c.batch.invariant in
    let count = ap (λ (b : Presented). b.count) c.batch.view_is in
    let inside : k < limit = c.loop-count-test.true in
    let now = in_range batch c.loop-count.instant presentable i.is (omega arith) in
    let begun = in_range batch c.args.instant.now presentable c.requires.is (omega arith) in
    let now_same : to_z w64 (of_z w64 c.loop-count.instant.nanoseconds) ≡ c.loop-count.instant.nanoseconds = omega (arith, ints, now.from, now.to) in
    let begun_same : to_z w64 (of_z w64 c.args.instant.now.nanoseconds) ≡ c.args.instant.now.nanoseconds = omega (arith, ints, begun.from, begun.to) in
    let test = test_is rate first k c.loop-count.instant.j batch c.loop-count.instant.nanoseconds c.args.instant.now.nanoseconds c.is_on_line.result
    (rw (now_same, begun_same) at c.is_on_line.ensures) i.is.at i.after c.requires.is.at in
    let on : is_nominal rate batch first k ≡ true = test ∙ c.if-is_on_line.true in
    let next = goes_on (is_nominal rate batch first) k (limit - k) (omega arith) on in
    let less : limit - k - 1 ≡ limit - (k + 1) = omega arith in
    record {
      value = sym (rw less at next) ∙ i.value;
      some = omega arith;
      most = omega arith;
      after = c.next-in-loop-count.ensures.next ∙ omega (arith, i.after);
      is = c.next-in-loop-count.ensures.is;
    }

pub returns-else-is_on_line : goal.returns-else-is_on_line
returns-else-is_on_line c =
    let batch = c.args.batch.now in
    let first = c.args.instant.now.j in
    let rate = c.args.rate in
    let i = c.loop-count.invariant in
    let k = c.loop-count.count in
    let limit = c.min-limit.result in
    let presentable = subst IsPresentable c.batch.view_is c.batch.invariant in
    let count = ap (λ (b : Presented). b.count) c.batch.view_is in
    let now = in_range batch c.loop-count.instant presentable i.is (omega arith) in
    let begun = in_range batch c.args.instant.now presentable c.requires.is (omega arith) in
    let now_same : to_z w64 (of_z w64 c.loop-count.instant.nanoseconds) ≡ c.loop-count.instant.nanoseconds = omega (arith, ints, now.from, now.to) in
    let begun_same : to_z w64 (of_z w64 c.args.instant.now.nanoseconds) ≡ c.args.instant.now.nanoseconds = omega (arith, ints, begun.from, begun.to) in
    let test = test_is rate first k c.loop-count.instant.j batch c.loop-count.instant.nanoseconds c.args.instant.now.nanoseconds c.is_on_line.result
    (rw (now_same, begun_same) at c.is_on_line.ensures) i.is.at i.after c.requires.is.at in
    let off : is_nominal rate batch first k ≡ false = test ∙ c.if-is_on_line.false in
    record {
      value = sym (stops (is_nominal rate batch first) k (limit - k) off) ∙ (i.value ∙ ap (λ (n : ℕ). going_on (is_nominal rate batch first) 1 (n - 1)) (rw count at c.min-limit.ensures));
      some = i.some;
      within = omega arith;
      after = i.after;
      is = i.is;
    }
