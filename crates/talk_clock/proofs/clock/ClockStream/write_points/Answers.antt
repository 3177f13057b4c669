use Rattle.std.proofs.Common.{◌≡◌, ℕ, suc, ◌+◌, ◌<◌, length, map, refl, sym, ap, ◌∙◌, arith}
use Rattle.std.specs.List.{range_with_len}
use Rattle.std.proofs.lemmas.Grind.{common_steps, take-set_at}
use Rattle.std.proofs.lemmas.List.{take_all}
use Rattle.talk_clock.specs.Clock.{clock_point, first_point, points_in, points_size}
use Rattle.talk_plan.proofs.CountLemmas.{map_more}
use Rattle.talk_clock.proofs.ClockLemmas.{few_points}
use Rattle.talk_clock.proofs.clock.ClockStream.write_points.Goals as goal

pub overflow_add-first : goal.overflow_add-first
overflow_add-first c =
    let clock = c.args.self.now in
    let few = few_points clock c.requires.packet.clock in
    omega (arith, few, c.first-first.ensures.known.known, c.loop-i.invariant.size, c.loop-i-test.true)

pub loop-i-preserved : goal.loop-i-preserved
loop-i-preserved c =
    let clock = c.args.self.now in
    let i : ℕ = c.loop-i.i in
    let value = c.point.ensures.value in
    let first = c.first-first.ensures.value in
    let more : i + 1 ≡ suc i = omega arith in
    let within : i < length c.loop-i.points = omega (arith, c.loop-i.invariant.size, c.requires.room, c.loop-i-test.true) in
    let here = take-set_at c.loop-i.points i (i + 1) c.point.result (omega arith) within in
    record {
      size = grind (arith, common_steps, c.loop-i.invariant.size);
      begun = here ∙ rw (c.loop-i.invariant.begun, more, map_more (clock_point clock.crf clock.plan) (first_point clock.crf c.args.m) i, value, first) refl;
    }

pub returns : goal.returns
unfolding points_in
returns c =
    let clock = c.args.self.now in
    let all = take_all c.loop-i.i c.loop-i.points (omega arith) in
    let whole : c.loop-i.i ≡ points_size clock.crf clock.plan clock.stream c.args.m = omega (arith, c.loop-i.invariant.size) in
    sym all ∙ c.loop-i.invariant.begun ∙ ap (λ (n : ℕ). map (clock_point clock.crf clock.plan) (range_with_len (first_point clock.crf c.args.m) n)) whole
