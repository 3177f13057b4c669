use Rattle.std.proofs.Common.{ℕ, List, Option, Ok, take}
use Rattle.avtp_base.specs.Told.{Appends}
use Rattle.avtp_text.specs.Written.{written}
use Rattle.pcap_frames.specs.Capture.{Record}
use Rattle.listener_pair.specs.Differences.{differences}
use Rattle.capture_pair.specs.Pairing.{Keeps as KeepsPair, StandsFor, known_by, most_left}
use Rattle.run_report.specs.Outcome.{KeepsSink}
use Rattle.agree_command.specs.Agree.{difference_lines}
use Rattle.agree_command.proofs.comparing.print_differences.Given as goal

abbrev pub invariant-loop-difference : goal.invariant-loop-difference
invariant-loop-difference g l =
    record {
      keeps : KeepsPair l.fn.pair l.pair;
      sink : KeepsSink {T = Unit} (g.S.Sink.state l.fn.out) (g.S.Sink.state l.out) (Ok tt);
      printed : (records others : List Record) (given : ℕ) (base : Option (List ℕ)) → StandsFor records others given l.fn.pair
          → Appends base (written (g.S.Sink.state l.fn.out).held l.fn.text) (difference_lines (take given (differences (known_by l.fn.pair records others))))
          → (n : ℕ) × StandsFor records others n l.pair × Appends base (written (g.S.Sink.state l.out).held l.text) (difference_lines (take n (differences (known_by l.fn.pair records others))));
    }

abbrev pub decreases-loop-difference : goal.decreases-loop-difference
decreases-loop-difference g l = most_left l.pair
