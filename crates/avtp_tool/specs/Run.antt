-- What a run of any command does.
use Rattle.std.specs.Prelude.{◌≡◌, ℕ, List, [], None, Bool, ◌∷◌, ◌++◌, option_to_list, true, false}
use Rattle.avtp_base.specs.declared.failed.FaultPlace.{FaultPlace}
use Rattle.avtp_base.specs.Files.{Files}
use Rattle.avtp_words.specs.Grammar.{Request, show, check, listen, talk, soak, agree, gateway, files_of, output_of}
use Rattle.run_report.specs.Halt.{CanHalt, Halt, no_halt}
use Rattle.run_report.specs.Reading.{plan_report}
use Rattle.run_report.specs.RunReport.{RunReport}
use Rattle.run_report.specs.Yield.{says}
use Rattle.run_report.specs.declared.status.Status.TheVariants as status
use Rattle.check_command.specs.Check.{check_plan}
use Rattle.listen_command.specs.Listen.{listen_plan, with_devices}
use Rattle.agree_command.specs.Agree.{agree_report}
use Rattle.gateway_command.specs.Gateway.{gateway_report}
use Rattle.talk_command.specs.Talk.{CanTalkHalt, FailsSomewhere, talk_report}
use Rattle.avtp_tool.specs.Show.{show_plan}
use Rattle.avtp_tool.specs.Soak.{soak_report}

-- What a run of the request over these files does. `failed` says whether a device failed. `halt` is the read fault that
-- ends the run, if one does.
abbrev pub report_for : Request → Files → Bool → Halt → RunReport
report_for (show limit file) files failed halt = plan_report (show_plan limit file) files halt
report_for (check limit names) files failed halt = plan_report (check_plan limit names) files halt
report_for (listen asked) files failed halt = with_devices failed (plan_report (listen_plan asked) files halt)
report_for (talk asked) files failed halt = talk_report asked (files asked.input) halt
report_for (soak packets) files failed halt = record { came = []; ended = status.Done; yields = says (soak_report packets); made = None }
report_for (agree asked) files failed halt = agree_report asked (files asked.a) (files asked.b) halt
report_for (gateway asked) files failed halt = gateway_report asked (files asked.input) halt

-- A run of the request over these files can end with this read fault. A read fault is possible only if `fault` holds of
-- its place.
abbrev pub CanEndWith : Request → Files → (FaultPlace → Type 0) → Halt → Type 0
CanEndWith (show limit file) files fault halt = CanHalt limit (file ∷ []) files fault halt
CanEndWith (check limit names) files fault halt = CanHalt limit names files fault halt
CanEndWith (listen asked) files fault halt = CanHalt asked.listener.limit asked.files files fault halt
CanEndWith (talk asked) files fault halt = CanTalkHalt (FailsSomewhere fault) halt
CanEndWith (soak packets) files fault halt = halt ≡ no_halt
CanEndWith (agree asked) files fault halt = CanHalt asked.listener.limit (asked.a ∷ asked.b ∷ []) files fault halt
CanEndWith (gateway asked) files fault halt = CanHalt asked.listener.limit (asked.input ∷ asked.input ∷ []) files fault halt

-- ---- the names that a run asks for, and its devices

-- the files that are read again after the output was made
abbrev pub again_of : Request → List (List ℕ)
again_of (gateway asked) = asked.input ∷ []
again_of request = []

-- The names that a request asks a shelf for, in order. The order is this: the files that are read, the file that is
-- written, and the files that are read again.
abbrev pub names_of : Request → List (List ℕ)
names_of request = files_of request ++ (option_to_list (output_of request) ++ again_of request)

-- the request is `listen`, the only command that gives items to devices
abbrev pub is_listening : Request → Bool
is_listening (listen asked) = true
is_listening request = false
