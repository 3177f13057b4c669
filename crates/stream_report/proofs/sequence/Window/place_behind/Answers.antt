use Rattle.std.proofs.Common.{◌≡◌, ℕ, ◌+◌, ◌≤◌, sym, ◌∙◌, arith}
use Rattle.stream_report.specs.Sequence.{greatest}
use Rattle.stream_report.proofs.Numbers.{first-least, is-late, not-before}
use Rattle.stream_report.proofs.sequence.Window.place_behind.Goals as goal

within : (number behind g : ℕ) → number + behind ≡ g → number ≤ g
within number behind g e = omega arith

pub returns-else-from-self : goal.returns-else-from-self
returns-else-from-self c = record {
  place = λ first later number s r.
      is-late first later number (within number c.args.behind (greatest first later) r.place)
      (sym (s.came number c.args.behind r) ∙ sym (c.has_come.ensures r.near) ∙ c.if-has_come.false)
      (not-before (greatest first later) first number c.args.behind c.args.self.now.begin r.place r.near (first-least first later) s.begin
      (omega (arith, c.if-from-self.false, c.from.ensures)));
}
