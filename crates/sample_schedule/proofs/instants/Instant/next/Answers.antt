use Rattle.std.proofs.Common.{◌≡◌, ◌+◌, ◌-◌, pos, ◌+ℤ◌, refl, ap, arith, rules, subst}
use Rattle.sample_schedule.specs.Batches.{Presented, IsPresentable}
use Rattle.time_unfold.specs.Time.{IsInstant}
use Rattle.sample_schedule.proofs.Carried.{carried, instant_from_rest, sum_fits, sum_is}
use Rattle.sample_schedule.proofs.instants.Instant.next.Goals as goal

pub overflow_add-self-then-rest-den : goal.overflow_add-self-then-rest-den
overflow_add-self-then-rest-den c =
    let is = c.requires.is in
    let i = c.args.self.now in
    let den = ap (λ (b : Presented). b.line.den) c.batch.view_is in
    let instants = (subst IsPresentable c.batch.view_is c.batch.invariant).instants in
    let inside = c.requires.inside in
    let now : IsInstant i.nanoseconds = rw is.at (instants i.j (omega (arith, inside))) in
    let rest = carried c.args.batch.now i.j i.nanoseconds i.rest i.step i.step_rest 0 (i.rest + i.step_rest) is.is_rest is.is_step (omega arith) (omega (arith, c.if-rest-den.true, den)) in
    let step : i.step + 0 ≡ i.step = omega arith in
    let rest = rw step at rest in
    let next = instant_from_rest c.args.batch.now (i.j + 1) (i.nanoseconds +ℤ pos (i.step)) _ rest in
    let later : IsInstant (i.nanoseconds +ℤ pos (i.step)) = rw next (instants (i.j + 1) (omega (arith, inside))) in
    let small = is.small in
    sum_fits i.nanoseconds (i.nanoseconds +ℤ pos i.step) i.step refl now later (omega (arith, small))

pub overflow_add-self-else-rest-den-2 : goal.overflow_add-self-else-rest-den-2
overflow_add-self-else-rest-den-2 c =
    let is = c.requires.is in
    let i = c.args.self.now in
    let den = ap (λ (b : Presented). b.line.den) c.batch.view_is in
    let instants = (subst IsPresentable c.batch.view_is c.batch.invariant).instants in
    let inside = c.requires.inside in
    let now : IsInstant i.nanoseconds = rw is.at (instants i.j (omega (arith, inside))) in
    let rest = carried c.args.batch.now i.j i.nanoseconds i.rest i.step i.step_rest 1 (i.rest + i.step_rest - c.args.batch.now.line.den) is.is_rest is.is_step (omega (arith, c.if-rest-den.false, den)) (omega (arith, is.is_rest.below, is.below)) in
    let next = instant_from_rest c.args.batch.now (i.j + 1) (i.nanoseconds +ℤ pos (i.step + 1)) _ rest in
    let later : IsInstant (i.nanoseconds +ℤ pos (i.step + 1)) = rw next (instants (i.j + 1) (omega (arith, inside))) in
    let small = is.small in
    sum_fits i.nanoseconds (i.nanoseconds +ℤ pos (i.step + 1)) (i.step + 1) refl now later (omega (arith, small))

pub returns-then-rest-den : goal.returns-then-rest-den
returns-then-rest-den c =
    let is = c.requires.is in
    let i = c.args.self.now in
    let den = ap (λ (b : Presented). b.line.den) c.batch.view_is in
    let instants = (subst IsPresentable c.batch.view_is c.batch.invariant).instants in
    let inside = c.requires.inside in
    let now : IsInstant i.nanoseconds = rw is.at (instants i.j (omega (arith, inside))) in
    let rest = carried c.args.batch.now i.j i.nanoseconds i.rest i.step i.step_rest 0 (i.rest + i.step_rest) is.is_rest is.is_step (omega arith) (omega (arith, c.if-rest-den.true, den)) in
    let step : i.step + 0 ≡ i.step = omega arith in
    let rest = rw step at rest in
    let next = instant_from_rest c.args.batch.now (i.j + 1) (i.nanoseconds +ℤ pos (i.step)) _ rest in
    let later : IsInstant (i.nanoseconds +ℤ pos (i.step)) = rw next (instants (i.j + 1) (omega (arith, inside))) in
    let small = is.small in
    let value = sum_is i.nanoseconds (i.nanoseconds +ℤ pos (i.step)) (i.step) refl now later (omega (arith, small)) in
    record {
      next = search rules;
      is = rw value record {
        at = next;
        is_rest = rest;
        is_step = is.is_step;
        below = is.below;
        small = is.small;
      };
    }

pub returns-else-rest-den : goal.returns-else-rest-den
returns-else-rest-den c =
    let is = c.requires.is in
    let i = c.args.self.now in
    let den = ap (λ (b : Presented). b.line.den) c.batch.view_is in
    let instants = (subst IsPresentable c.batch.view_is c.batch.invariant).instants in
    let inside = c.requires.inside in
    let now : IsInstant i.nanoseconds = rw is.at (instants i.j (omega (arith, inside))) in
    let rest = carried c.args.batch.now i.j i.nanoseconds i.rest i.step i.step_rest 1 (i.rest + i.step_rest - c.args.batch.now.line.den) is.is_rest is.is_step (omega (arith, c.if-rest-den.false, den)) (omega (arith, is.is_rest.below, is.below)) in
    let next = instant_from_rest c.args.batch.now (i.j + 1) (i.nanoseconds +ℤ pos (i.step + 1)) _ rest in
    let later : IsInstant (i.nanoseconds +ℤ pos (i.step + 1)) = rw next (instants (i.j + 1) (omega (arith, inside))) in
    let small = is.small in
    let value = sum_is i.nanoseconds (i.nanoseconds +ℤ pos (i.step + 1)) (i.step + 1) refl now later (omega (arith, small)) in
    record {
      next = search rules;
      is = rw value record {
        at = next;
        is_rest = rw den rest;
        is_step = is.is_step;
        below = is.below;
        small = is.small;
      };
    }
