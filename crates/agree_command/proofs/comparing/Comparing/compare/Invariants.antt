use Rattle.std.proofs.Common.{ℕ, List, Ok, ◌+◌}
use Rattle.avtp_text.specs.Written.{written}
use Rattle.avtp_words.specs.Grammar.{Agreeing}
use Rattle.run_report.specs.Outcome.{KeepsSink}
use Rattle.agree_command.specs.state.Comparing.{AreUnread, IsAmidTwo, IsComparedTo, left_of}
use Rattle.agree_command.proofs.comparing.Comparing.compare.Given as goal

abbrev pub invariant-loop-self : goal.invariant-loop-self
invariant-loop-self g l =
    record {
      amid : IsAmidTwo (g.F.Shelf.state l.fn.context.shelf.now) (g.F.Shelf.state l.shelf) l.fn.self l.self;
      sink : KeepsSink {T = Unit} (g.S.Sink.state l.fn.context.out.now) (g.S.Sink.state l.out) (Ok tt);
      told : (asked : Agreeing) (x y : List ℕ) → AreUnread asked x y (g.F.Shelf.state l.fn.context.shelf.now) l.fn.self
          → IsComparedTo asked x y (g.F.Shelf.state l.shelf) l.self (written (g.S.Sink.state l.fn.context.out.now).held l.fn.context.text.now) (written (g.S.Sink.state l.out).held l.text);
    }

abbrev pub decreases-loop-self : goal.decreases-loop-self
decreases-loop-self g l = left_of l.self.a + left_of l.self.b
