use Rattle.std.proofs.Common.{length, ap, arith, rules, ◌∙◌}
use Rattle.soak_run.proofs.HeardLemmas.{counts_of_bytes, counts_total}
use Rattle.soak_run.proofs.StreamSizes.{input_within, only_memory}
use Rattle.soak_run.proofs.Taken.{all_deliverable, counted_all}
use Rattle.soak_run.proofs.run.soak.Goals as goal

pub begin-requires-clause-limit : goal.begin-requires-clause-limit
begin-requires-clause-limit g c = omega (arith, input_within c.args.packets c.requires, ap length (c.as_slice.ensures.value ∙ c.in_ok-input.ensures))

pub hear-requires-clause-deliverable : goal.hear-requires-clause-deliverable
hear-requires-clause-deliverable g c κs within = record {
  deliverable =
      all_deliverable c.args.packets c.as_slice.result.now c.in-Ok.talker c.as_slice-in-Ok.result.now c.requires (c.as_slice.ensures.value ∙ c.in_ok-input.ensures) c.in-Ok.ensures.begun
      (c.as_slice-in-Ok.ensures.value ∙ c.in_ok-deliveries.ensures);
  few = search rules;
}

pub want_of_memory-requires : goal.want_of_memory-requires
want_of_memory-requires g c = only_memory c.args.packets c.as_slice.result.now c.in-Err.fault c.requires (c.as_slice.ensures.value ∙ c.in_ok-input.ensures) c.in-Err.ensures.only

pub returns-in-Ok-clause-exact : goal.returns-in-Ok-clause-exact
returns-in-Ok-clause-exact g c =
    counted_all c.args.packets c.as_slice.result.now c.in-Ok.talker c.as_slice-in-Ok.result.now c.in_ok-counts-in-Ok.counts (c.as_slice.ensures.value ∙ c.in_ok-input.ensures) c.in-Ok.ensures.begun
    (c.as_slice-in-Ok.ensures.value ∙ c.in_ok-deliveries.ensures) c.in_ok-counts-in-Ok.ensures

pub returns-in-Ok-clause-heard : goal.returns-in-Ok-clause-heard
returns-in-Ok-clause-heard g c =
    counts_of_bytes c.args.packets c.in_ok-counts-in-Ok.counts c.requires
    (counted_all c.args.packets c.as_slice.result.now c.in-Ok.talker c.as_slice-in-Ok.result.now c.in_ok-counts-in-Ok.counts (c.as_slice.ensures.value ∙ c.in_ok-input.ensures) c.in-Ok.ensures.begun
    (c.as_slice-in-Ok.ensures.value ∙ c.in_ok-deliveries.ensures) c.in_ok-counts-in-Ok.ensures)

pub returns-in-Ok-clause-added : goal.returns-in-Ok-clause-added
returns-in-Ok-clause-added g c =
    counts_total c.args.packets c.in_ok-counts-in-Ok.counts (c.counts_add_up.ensures c.args.packets c.requires)
    (counted_all c.args.packets c.as_slice.result.now c.in-Ok.talker c.as_slice-in-Ok.result.now c.in_ok-counts-in-Ok.counts (c.as_slice.ensures.value ∙ c.in_ok-input.ensures) c.in-Ok.ensures.begun
    (c.as_slice-in-Ok.ensures.value ∙ c.in_ok-deliveries.ensures) c.in_ok-counts-in-Ok.ensures)
