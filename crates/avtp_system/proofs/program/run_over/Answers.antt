use Rattle.std.proofs.Common.{inr}
use Rattle.option_words.specs.Word.{texts}
use Rattle.avtp_system.proofs.Told.{refuses_as, said_as}
use Rattle.avtp_system.proofs.program.run_over.Goals as goal

pub returns-in-Ok-outputs_for : goal.returns-in-Ok-outputs_for
returns-in-Ok-outputs_for g c = said_as _ (g.Y.System.told c.args.system.now) (texts c.in-Ok.words.items) c.in-Ok.ensures.said (λ some. record {
  runs = λ request line. inr (record {
    before = c.in-Ok-outputs_for.outputs;
    after = c.run.new.rack;
    asked = c.in-Ok-outputs_for.ensures some request (rw c.deref.ensures.value line);
    run = c.run.ensures.has_run request (rw c.deref-in-Ok-outputs_for.ensures.value line);
  });
  refuses = λ position offence.
      let refused = c.run.ensures.refuses position (rw c.deref-in-Ok-outputs_for.ensures.value offence) in
      inr (refuses_as refused (λ kept. kept.0));
})
