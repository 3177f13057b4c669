use Rattle.avtp_words.specs.Grammar.{turning_of}
use Rattle.gateway_command.proofs.ScanRuns.{clean_runs, faulty_runs, cut_runs, unscanned_runs}
use Rattle.gateway_command.proofs.command.gateway.Goals.{in-Ok-Clean, in-Ok-Faulty, in-Ok-Cut, in-Err}
use Rattle.gateway_command.proofs.command.gateway.Goals as goal

pub turn-requires-clause-shape : goal.turn-requires-clause-shape
turn-requires-clause-shape g c = (rw c.in-Ok-Clean.field-0-is at c.in-Ok-Clean.ensures).sound c.in-Ok-Clean.shape cc

pub returns : goal.returns
returns g c =
    let asked = turning_of c.args.asked.now in
    elim c.match-scan.branch [
      | in-Ok-Clean w ↦ rw (w.shelf-is, w.text-is, w.out-is, w.result-is) (clean_runs asked w.in-Ok-Clean.shape c.requires.apart (rw w.in-Ok-Clean.field-0-is at w.in-Ok-Clean.ensures) w.turn.ensures)
      | in-Ok-Faulty w ↦ rw (w.shelf-is, w.text-is, w.out-is, w.result-is) (faulty_runs asked w.in-Ok-Faulty.fault w.in-Ok-Faulty.frame (rw w.in-Ok-Faulty.field-0-is at w.in-Ok-Faulty.ensures) w.print_fault.ensures)
      | in-Ok-Cut w ↦ rw (w.shelf-is, w.text-is, w.out-is, w.result-is) (cut_runs asked w.in-Ok-Cut.end (rw w.in-Ok-Cut.field-0-is at w.in-Ok-Cut.ensures) w.print_cut.ensures)
      | in-Err w ↦ rw (w.shelf-is, w.text-is, w.out-is, w.result-is) (unscanned_runs asked w.in-Err.fault w.in-Err.ensures w.print_unopened.ensures)
    ]
