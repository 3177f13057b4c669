use Rattle.std.proofs.Common.{◌≡◌, ℕ, ◌-◌, ◌∙◌, arith}
use Rattle.stream_report.specs.Sequence.{greatest}
use Rattle.stream_report.proofs.Numbers.{ahead-exact}
use Rattle.stream_report.proofs.Orders.{counts-ahead}
use Rattle.stream_report.proofs.order.Order.resume.Goals as goal

missing-is : (a d g n : ℕ) → d ≡ a - 1 → a ≡ n - g → d ≡ n - g - 1
missing-is a d g n e f = omega (arith, e, f)

pub returns : goal.returns
returns c = record {
  missing = λ first later number counts passes seq.
      missing-is _ _ _ _ c.saturating_sub-missing.ensures (c.ahead.ensures ∙ ahead-exact (greatest first later) number c.args.seq _ seq counts.window.newest passes.ahead passes.most);
  counts = λ first later number counts passes seq few.
      counts-ahead c.args.self.now _ first later number c.saturating_sub-missing.result counts passes.ahead
      (missing-is _ _ _ _ c.saturating_sub-missing.ensures (c.ahead.ensures ∙ ahead-exact (greatest first later) number c.args.seq _ seq counts.window.newest passes.ahead passes.most))
      c.pass.ensures.passed (c.pass.ensures.stands first later number counts.window passes seq) few;
}
