-- Only private functions and proofs use these definitions. What a command does with each file, if it
-- reads several files.
use Rattle.std.specs.Prelude.{ℕ, List, Bool, true, false, ◌^◌, ◌≤◌}
use Rattle.avtp_words.specs.Grammar.{listening_of}
use Rattle.run_report.specs.Reading.{Report, ReadPlan}
use Rattle.check_command.specs.Check.{check_report}
use Rattle.listen_command.specs.Listen.{listen_report, IsListening}
use Rattle.avtp_tool.specs.declared.files.Reading.{Reading}
use Rattle.avtp_tool.specs.declared.files.Reading.TheVariants.{Check, Listen}

abbrev pub report_for : Reading → List ℕ → Report
report_for (Check limit) name = check_report limit name
report_for (Listen asked) name = listen_report (listening_of asked.now) name

abbrev pub limit_for : Reading → ℕ
limit_for (Check limit) = limit
limit_for (Listen asked) = asked.now.listener.limit

abbrev pub plan_for : Reading → List (List ℕ) → ReadPlan
plan_for reading names = record { names = names; limit = limit_for reading; report = report_for reading }

-- the command gives items to devices
abbrev pub is_hearing : Reading → Bool
is_hearing (Check limit) = false
is_hearing (Listen asked) = true

abbrev pub IsReading : Reading → Type 0
IsReading (Check limit) = limit ≤ 2 ^ 40
IsReading (Listen asked) = IsListening (listening_of asked.now)
