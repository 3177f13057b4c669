use Rattle.std.proofs.Common.{◌≡◌, ℕ, ◌-◌, sym, ◌∙◌, subst, arith}
use Rattle.stream_report.specs.Sequence.{greatest}
use Rattle.stream_report.specs.state.Bits.{Moves}
use Rattle.stream_report.proofs.Numbers.{passed, ahead-exact}
use Rattle.stream_report.proofs.sequence.Window.pass.Goals as goal

pub returns : goal.returns
returns c = record {
  stands = λ first later number s p e.
      let g = greatest first later in
      let ahead : c.ahead-ahead.result ≡ number - g =
      c.ahead-ahead.ensures ∙ ahead-exact g number c.args.seq c.args.self.now.newest e s.newest p.ahead p.most in
      passed c.args.self.now (record { newest = c.args.seq; came = c.moved-self.result; begin = c.min-self.result }) first later number s p (sym e)
      (subst (λ (a : ℕ). Moves c.args.self.now.came a c.moved-self.result) ahead (c.moved-self.ensures (omega (arith, ahead, p.ahead))))
      (omega (arith, ahead, c.saturating_add.ensures, c.min-self.ensures, p.most, s.begin));
}
