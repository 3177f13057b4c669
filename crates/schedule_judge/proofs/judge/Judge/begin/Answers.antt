use Rattle.std.proofs.Common.{ap, rules}
use Rattle.circular_buffer.specs.Buffer.{Buffer}
use Rattle.schedule_judge.specs.declared.pending.Pending.{Pending}
use Rattle.schedule_judge.proofs.JudgeLemmas.{stands-begin}
use Rattle.schedule_judge.proofs.judge.Judge.begin.Goals as goal

pub returns : goal.returns
returns c = record {
  stands = λ clock asks. stands-begin clock c.args.plan c.in_ok-noted.noted _ _ asks c.in_ok-noted.ensures c.in_ok-waiting.ensures.none (ap (λ (b : Buffer Pending). b.items) c.in_ok-ahead.ensures);
  plan = search rules;
  none = search rules;
  «open» = search rules;
  idle = search rules;
}
