use Rattle.std.proofs.Common.{◌≡◌, ◌+◌, List, Some, sym, ap, subst, ℕ, None, arith}
use Rattle.std.specs.Prelude.{slice_get}
use Rattle.avtp_base.specs.Told.{Appends}
use Rattle.avtp_base.proofs.Told.{Appends-trans, Appends-kept}
use Rattle.avtp_text.specs.Written.{written}
use Rattle.listener_pair.specs.declared.difference.Difference.{Difference}
use Rattle.listener_pair.specs.Differences.{differences}
use Rattle.capture_pair.specs.Pairing.{known_by, StandsFor}
use Rattle.capture_pair.proofs.Stays.{given-all}
use Rattle.run_report.proofs.Outcomes.{sink_printed, sink_then, sink_err}
use Rattle.run_report.proofs.Leaving.{on_err}
use Rattle.agree_command.proofs.SideBySide.{known_same, lines_next, pair_then}
use Rattle.agree_command.specs.state.Comparing.{PrintsDifferences}
use Rattle.agree_command.specs.Agree.{difference_lines}
use Rattle.agree_command.proofs.comparing.print_differences.Goals as goal

pub loop-difference-preserved : goal.loop-difference-preserved
loop-difference-preserved g c =
    let before = c.loop-difference.invariant in
    let gave = c.in-Some.ensures in
    record {
      keeps = pair_then _ _ _ before.keeps gave.keeps;
      sink = sink_then before.sink (sink_printed c.in_ok-print_difference.ensures);
      printed = λ records others given base stands lines.
          let so = before.printed records others given base stands lines in
          let same = ap differences (known_same c.args.pair.now c.loop-difference.pair records others before.keeps) in
          let at = subst (λ (l : List Difference). slice_get l so.0 ≡ Some c.in-Some.difference) same (sym (gave.given records others so.0 so.1)) in (
            so.0 + 1,
            gave.stands records others so.0 so.1,
            subst (Appends base _) (sym (lines_next (differences (known_by c.args.pair.now records others)) so.0 c.in-Some.difference at)) (Appends-trans base _ _ _ _ so.2 c.in_ok-print_difference.ensures.written),
          );
    }

pub returns-in_err-print_difference : goal.returns-in_err-print_difference
returns-in_err-print_difference g c =
    let before = c.loop-difference.invariant in
    let gave = c.in-Some.ensures in
    on_err (PrintsDifferences c.args.pair.now c.next_difference.new.self (g.S.Sink.state c.args.out.now) (g.S.Sink.state c.print_difference.new.out) c.args.text.now c.print_difference.new.text) c.from_residual.result c.from_residual.ensures.0 (λ e. record {
      printed = λ records others given base stands lines.
          let so = before.printed records others given base stands lines in
          (so.0, gave.stands records others so.0 so.1, Appends-kept base _ _ _ so.2 c.in_err-print_difference.ensures.written);
      through = tt;
      ends = gave.ends;
      keeps = pair_then _ _ _ before.keeps gave.keeps;
      sink = sink_err (sink_then before.sink (sink_printed c.in_err-print_difference.ensures));
    })

pub returns : goal.returns
returns g c =
    let before = c.loop-difference.invariant in
    let gave = c.in_default.ensures in
    record {
      printed = λ records others given base stands lines.
          let so = before.printed records others given base stands lines in
          let same = ap differences (known_same c.args.pair.now c.loop-difference.pair records others before.keeps) in
          let at = subst (λ (l : List Difference). slice_get l so.0 ≡ None) same (sym (gave.given records others so.0 so.1)) in
          let all = given-all (differences (known_by c.args.pair.now records others)) so.0 at in
          let none : so.0 + 0 ≡ so.0 = omega arith in
          (so.0, all, subst (λ (n : ℕ). StandsFor records others n c.next_difference.new.self) none (gave.stands records others so.0 so.1), subst (λ (l : List Difference). Appends base (written (g.S.Sink.state c.loop-difference.out).held c.loop-difference.text) (difference_lines l)) all so.2);
      through = gave.through;
      ends = gave.ends;
      keeps = pair_then _ _ _ before.keeps gave.keeps;
      sink = before.sink;
    }
