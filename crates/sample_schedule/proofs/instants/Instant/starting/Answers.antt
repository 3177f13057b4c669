use Rattle.std.proofs.Common.{◌≡◌, refl, arith, rules, w64, to_z, of_z}
use Rattle.std.proofs.lemmas.Int.{ints}
use Rattle.std.proofs.lemmas.Nat.{div-add-mod'}
use Rattle.sample_schedule.proofs.Carried.{instant_from_rest}
use Rattle.sample_schedule.proofs.instants.Instant.starting.Goals as goal

pub returns : goal.returns
returns c =
    let same : to_z w64 (of_z w64 c.args.nanoseconds) ≡ c.args.nanoseconds = omega (arith, ints) in
    rw same (record {
      first = refl;
      is = record {
        at = instant_from_rest c.args.batch.now 0 c.args.nanoseconds c.args.rest c.requires;
        is_rest = c.requires;
        is_step = rw (← c.batch.view_is) (div-add-mod' c.batch.inside.line.num c.batch.inside.line.den);
        below = search rules;
        small = search rules;
      };
    })
