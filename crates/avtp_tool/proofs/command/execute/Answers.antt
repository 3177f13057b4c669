use Rattle.std.proofs.Common.{refl, false, sym, ap}
use Rattle.avtp_words.specs.Grammar.{talk, talking_of, listen, listening_of, show, check, soak, agree, agreeing_of, gateway, turning_of}
use Rattle.option_words.specs.Word.{texts}
use Rattle.run_report.proofs.Yields.{hands_nothing}
use Rattle.avtp_tool.proofs.Asked.{requested, not_offence}
use Rattle.avtp_tool.specs.Show.{show_plan}
use Rattle.avtp_tool.specs.Run.{is_listening}
use Rattle.avtp_tool.proofs.PlanRuns.{one_file, reading_runs, runs_deaf, runs_of}
use Rattle.avtp_tool.proofs.Soaked.{soak_runs}
use Rattle.avtp_tool.proofs.command.execute.Goals as goal

pub talk-requires : goal.talk-requires
talk-requires g c = requested (texts c.args.words.now) (talk (talking_of c.in-Ok-Talk.asked)) (rw c.in-Ok-Talk.field-0-is at c.in-Ok-Talk.ensures.found)

pub hear_files-requires-after_bounds : goal.hear_files-requires-after_bounds
hear_files-requires-after_bounds g c κs within = requested (texts c.args.words.now) (listen (listening_of c.in-Ok-Listen.asked)) (rw c.in-Ok-Listen.field-0-is at c.in-Ok-Listen.ensures.found)

pub returns-in-Ok-Show-clause-words : goal.returns-in-Ok-Show-clause-words
returns-in-Ok-Show-clause-words g c position offence = absurd (not_offence c.parse.result _ position (c.parse.ensures.only_offence position offence) c.in-Ok-Show.is)

pub returns-in-Ok-Listen-clause-words : goal.returns-in-Ok-Listen-clause-words
returns-in-Ok-Listen-clause-words g c position offence = absurd (not_offence c.parse.result _ position (c.parse.ensures.only_offence position offence) c.in-Ok-Listen.is)

pub returns-in-Ok-Talk-clause-words : goal.returns-in-Ok-Talk-clause-words
returns-in-Ok-Talk-clause-words g c position offence = absurd (not_offence c.parse.result _ position (c.parse.ensures.only_offence position offence) c.in-Ok-Talk.is)

pub returns-in-Err-clause-words : goal.returns-in-Err-clause-words
returns-in-Err-clause-words g c position offence = (refl, refl, rw (c.in-Err.ensures.only_offence position offence) at c.print_offence.ensures)

pub returns-in-Ok-Show-clause-runs : goal.returns-in-Ok-Show-clause-runs
returns-in-Ok-Show-clause-runs g c request line =
    let limit = c.in-Ok-Show.limit in
    let file = c.in-Ok-Show.file.now in
    let same = rw c.in-Ok-Show.field-0-is at (c.in-Ok-Show.ensures.only request line) in
    runs_deaf request (ap is_listening (sym same)) (hands_nothing g.D.Devices.handed _) (reading_runs (show limit file) false request same (λ all fault failed came ended yields o. o) refl refl refl refl (one_file (show_plan limit file) file refl c.show.ensures))

pub returns-in-Ok-Check-clause-runs : goal.returns-in-Ok-Check-clause-runs
returns-in-Ok-Check-clause-runs g c request line =
    let limit = c.in-Ok-Check.limit in
    let names = texts c.in-Ok-Check.files.now in
    let same = rw c.in-Ok-Check.field-0-is at (c.in-Ok-Check.ensures.only request line) in
    reading_runs (check limit names) _ request same (λ all fault failed came ended yields o. o) refl refl refl refl c.read_files.ensures.does

pub returns-in-Ok-Check-clause-words : goal.returns-in-Ok-Check-clause-words
returns-in-Ok-Check-clause-words g c position offence = absurd (not_offence c.parse.result _ position (c.parse.ensures.only_offence position offence) c.in-Ok-Check.is)

pub returns-in-Ok-Listen-clause-runs : goal.returns-in-Ok-Listen-clause-runs
returns-in-Ok-Listen-clause-runs g c request line =
    let same = rw c.in-Ok-Listen.field-0-is at (c.in-Ok-Listen.ensures.only request line) in
    runs_of same c.hear_files.ensures

pub returns-in-Ok-Talk-clause-runs : goal.returns-in-Ok-Talk-clause-runs
returns-in-Ok-Talk-clause-runs g c request line =
    let same = rw c.in-Ok-Talk.field-0-is at (c.in-Ok-Talk.ensures.only request line) in
    runs_deaf request (ap is_listening (sym same)) (hands_nothing g.D.Devices.handed _) (runs_of same c.talk.ensures)

pub soak-requires-after_bounds : goal.soak-requires-after_bounds
soak-requires-after_bounds g c κs within = requested (texts c.args.words.now) (soak c.in-Ok-Soak.packets) (rw c.in-Ok-Soak.field-0-is at c.in-Ok-Soak.ensures.found)

pub returns-in-Ok-Soak-clause-words : goal.returns-in-Ok-Soak-clause-words
returns-in-Ok-Soak-clause-words g c position offence = absurd (not_offence c.parse.result _ position (c.parse.ensures.only_offence position offence) c.in-Ok-Soak.is)

pub returns-in-Ok-Soak-clause-runs : goal.returns-in-Ok-Soak-clause-runs
returns-in-Ok-Soak-clause-runs g c request line =
    let same = rw c.in-Ok-Soak.field-0-is at (c.in-Ok-Soak.ensures.only request line) in
    runs_deaf request (ap is_listening (sym same)) (hands_nothing g.D.Devices.handed _) (soak_runs c.in-Ok-Soak.packets request same c.soak.ensures)

pub agree-requires : goal.agree-requires
agree-requires g c = requested (texts c.args.words.now) (agree (agreeing_of c.in-Ok-Agree.asked)) (rw c.in-Ok-Agree.field-0-is at c.in-Ok-Agree.ensures.found)

pub returns-in-Ok-Agree-clause-words : goal.returns-in-Ok-Agree-clause-words
returns-in-Ok-Agree-clause-words g c position offence = absurd (not_offence c.parse.result _ position (c.parse.ensures.only_offence position offence) c.in-Ok-Agree.is)

pub returns-in-Ok-Agree-clause-runs : goal.returns-in-Ok-Agree-clause-runs
returns-in-Ok-Agree-clause-runs g c request line =
    let same = rw c.in-Ok-Agree.field-0-is at (c.in-Ok-Agree.ensures.only request line) in
    runs_deaf request (ap is_listening (sym same)) (hands_nothing g.D.Devices.handed _)
    (reading_runs (agree (agreeing_of c.in-Ok-Agree.asked)) false request same (λ all fault failed came ended yields o. o) refl refl refl refl c.agree.ensures)

pub gateway-requires : goal.gateway-requires
gateway-requires g c = requested (texts c.args.words.now) (gateway (turning_of c.in-Ok-Gateway.asked)) (rw c.in-Ok-Gateway.field-0-is at c.in-Ok-Gateway.ensures.found)

pub returns-in-Ok-Gateway-clause-words : goal.returns-in-Ok-Gateway-clause-words
returns-in-Ok-Gateway-clause-words g c position offence = absurd (not_offence c.parse.result _ position (c.parse.ensures.only_offence position offence) c.in-Ok-Gateway.is)

pub returns-in-Ok-Gateway-clause-runs : goal.returns-in-Ok-Gateway-clause-runs
returns-in-Ok-Gateway-clause-runs g c request line =
    let same = rw c.in-Ok-Gateway.field-0-is at (c.in-Ok-Gateway.ensures.only request line) in
    runs_deaf request (ap is_listening (sym same)) (hands_nothing g.D.Devices.handed _) (runs_of same c.gateway.ensures)
