-- What the command promises: `HasRun` if the words are a command line, `RefusesWords` if they are not.
use Rattle.std.specs.Prelude.{◌≡◌, ℕ, ℤ, List, take, Some, ◌≢◌, ◌++◌, ◌∷◌, Bool, true, false, ◌≤◌, ◌⊎◌, None, IsSome}
use mathlib.Core.List.{IsPrefix}
use Rattle.avtp_base.specs.Faults.{FailsAt, HasOneMore, IsQuiet, Rose}
use Rattle.avtp_base.specs.States.{ShelfState, Asks, SinkState}
use Rattle.avtp_base.specs.Files.{Files}
use Rattle.capture_io.specs.Formats.{records_in}
use Rattle.packet_journal.specs.Packets.{PacketJournal}
use Rattle.listener.specs.Laws.{HearsTalker}
use Rattle.avtp_words.specs.Grammar.{agree, Agreeing, Request, gateway, listen, Listening, output_of, Turning, files_of}
use Rattle.avtp_base.specs.Told.{Appends}
use Rattle.sample_schedule.specs.declared.shown.Shown.{Shown}
use Rattle.avtp_text.specs.Written.{AppendsPrefix, Grows}
use Rattle.avtp_text.specs.Notices.{words_line}
use Rattle.run_report.specs.Listener.{plan_of}
use Rattle.run_report.specs.declared.status.Status.{Status}
use Rattle.run_report.specs.Made.{MakesOutput, MakesPart, KeepsFilesBut, KeepsSlotsFor}
use Rattle.run_report.specs.Halt.{Halt, no_halt}
use Rattle.run_report.specs.RunReport.{RunReport}
use Rattle.run_report.specs.Outcome.{IsOneMissing, AsksFor, is_through}
use Rattle.run_report.specs.declared.status.Status.TheVariants as status
use Rattle.listen_command.specs.Listen.{HasHeadline}
use Rattle.agree_command.specs.Agree.{HasAgreement}
use Rattle.gateway_command.specs.Gateway.{KeepsInput}
use Rattle.avtp_tool.specs.Run.{CanEndWith, report_for, is_listening, names_of}

-- ---- what is printed and given to devices

-- no read fault occurred
abbrev pub ReadsAll : ShelfState → ShelfState → Type 0
ReadsAll shelf shelf' = IsQuiet shelf.reading_faults.count shelf'.reading_faults.count

-- `agree` compares the captures `x` and `y`, each up to its end, a refused field or the limit. In both captures, a
-- listener hears the same talker, which keeps the rules. In each capture, packets may be lost, repeated or reordered.
pub record ComparesTalker (request : Request) (files : Files) (asked : Agreeing) (x y : List ℕ) (shift : ℤ) (p : PacketJournal) : Type 0 where
  pub compares : request ≡ agree asked
  pub told_a : files asked.a ≡ Some x
  pub told_b : files asked.b ≡ Some y
  pub hears_a : HearsTalker shift p (plan_of asked.listener) (records_in (take asked.listener.limit x))
  pub hears_b : HearsTalker shift p (plan_of asked.listener) (records_in (take asked.listener.limit y))

-- A run did what `report` says, or a part of it if memory ran out or a write failed.
pub record Follows (report : RunReport) (request : Request) (handed : List Shown → Type 0) (shelf shelf' : ShelfState) (out out' : SinkState) (ended : Status) : Type 0 where
  -- The following holds unless memory ran out or a write failed. The run ended with the report's status. All of the text
  -- was written. All items were given to the devices. The shelf was asked for exactly the report's names. The output
  -- file has the capture that the report says is made, if any.
  pub whole : ended ≢ status.Memory → ended ≢ status.WriteFault →
      (ended ≡ report.ended) × Appends out.held out'.held report.yields.text × handed report.yields.items × Asks report.came shelf shelf'
      × MakesOutput (output_of request) report.made shelf.files shelf'.files
  -- In any case, a prefix of the text was written, and a prefix of the items was given to the devices. The output file
  -- is unchanged or has a prefix of the capture that the report says is made.
  pub written : AppendsPrefix out.held out'.held report.yields.text
  pub items : List Shown
  pub first : IsPrefix items report.yields.items
  pub given : handed items
  pub begun : MakesPart (output_of request) report.made shelf.files shelf'.files

-- What a run of the request over these files printed, gave to devices, asked for and made.
pub record Reports (request : Request) (files : Files) (failed : Bool) (handed : List Shown → Type 0) (shelf shelf' : ShelfState)
    (out out' : SinkState) (ended : Status) : Type 0 where
  -- The read fault that ended the run, if one did. It is the only read fault of the run, and if the shelf shows where
  -- its last read fault occurred, it is this one.
  pub halt : Halt
  pub possible : CanEndWith request files (FailsAt shelf.reading_faults shelf'.reading_faults) halt
  pub complete : ReadsAll shelf shelf' → halt ≡ no_halt
  -- The request, the files, `failed` and the read fault alone determine what the run did.
  pub did : Follows (report_for request files failed halt) request handed shelf shelf' out out' ended
  -- Take a file that `listen` reached. If a talker that keeps the rules sent the records that were read, the file
  -- yields what the headline says of these records. Different files can have different talkers.
  pub headline : (asked : Listening) (earlier later : List (List ℕ)) (name bytes : List ℕ) → request ≡ listen asked → (report_for request files failed halt).came ≡ earlier ++ name ∷ later →
      files name ≡ Some bytes → HasHeadline asked files (FailsAt shelf.reading_faults shelf'.reading_faults) earlier name bytes (report_for request files failed halt).yields
  -- what `agree` prints of two captures of one talker that keeps the rules, if no read fault occurred
  pub agreement : ReadsAll shelf shelf' → (asked : Agreeing) (x y : List ℕ) (shift : ℤ) (p : PacketJournal) →
      ComparesTalker request files asked x y shift p → HasAgreement asked p x y (report_for request files failed halt).yields.text
  -- what `gateway` keeps of its input in the capture that it makes
  pub kept : (asked : Turning) (capture : List ℕ) → request ≡ gateway asked → (report_for request files failed halt).made ≡ Some capture →
      KeepsInput asked files (FailsAt shelf.reading_faults shelf'.reading_faults) (report_for request files failed halt).ended capture

-- ---- why a run ended with a fault

-- A run ends with the status `DeviceFault` only if the command is `listen` and a device failed. If a device failed in a
-- run of `listen`, the run does not end with `Done`.
pub record TellsFailed (request : Request) (failed : Bool) (ended : Status) : Type 0 where
  pub fault : ended ≡ status.DeviceFault → (is_listening request ≡ true) × (failed ≡ true)
  pub quiet : is_listening request ≡ true → ended ≡ status.Done → failed ≡ false

-- A run ends with a read fault only if the shelf counted exactly one read fault or a file is missing. The run ends with
-- a write fault only if the sink or the shelf counted a write fault. The counts of write faults rise only if the run
-- ends with a write fault. If the run ends with a status that is none of `ReadFault`, `WriteFault` and `Memory`, the
-- read faults are unchanged.
pub record HasCauses (request : Request) (shelf shelf' : ShelfState) (out out' : SinkState) (ended : Status) : Type 0 where
  pub read : ended ≡ status.ReadFault → HasOneMore shelf.reading_faults shelf'.reading_faults ⊎ IsOneMissing (files_of request) shelf.files
  pub not_read : ended ≢ status.ReadFault → ended ≢ status.WriteFault → ended ≢ status.Memory → shelf'.reading_faults ≡ shelf.reading_faults
  pub write : ended ≡ status.WriteFault → Rose out.faults out'.faults ⊎ Rose shelf.writing_faults shelf'.writing_faults
  pub not_write : ended ≢ status.WriteFault → (out'.faults ≡ out.faults) × (shelf'.writing_faults ≡ shelf.writing_faults)
  pub no_output : output_of request ≡ None → shelf'.writing_faults ≡ shelf.writing_faults
  pub reading : shelf.reading_faults.count ≤ shelf'.reading_faults.count
  pub writing : shelf.writing_faults ≤ shelf'.writing_faults

-- ---- the command

-- What a run of the request did. `handed items` says that the devices got exactly these items. `still` says that the
-- devices are unchanged. `failed` says whether a device failed.
pub record HasRun (request : Request) (handed : List Shown → Type 0) (still : Type 0) (failed : Bool) (shelf shelf' : ShelfState)
    (out out' : SinkState) (ended : Status) : Type 0 where
  -- what the run printed and gave to devices, if the shelf shows its files before and after the run
  pub reports : (files : Files) → shelf.files ≡ Some files → IsSome shelf'.files → Reports request files failed handed shelf shelf' out out' ended
  -- the sink keeps what it held
  pub grows : Grows out.held out'.held
  -- all files but the output are unchanged
  pub files : KeepsFilesBut (output_of request) shelf.files shelf'.files
  -- each file that was opened is closed
  pub slots : KeepsSlotsFor (output_of request) shelf'.files shelf.slots shelf'.slots
  -- The shelf was asked only for names that the words give, in the order of `names_of`. If everything was done, the
  -- shelf was asked for all these names.
  pub names : AsksFor (names_of request) shelf shelf' (is_through ended ≡ true)
  pub devices : TellsFailed request failed ended
  -- unless the command is `listen`, the devices are unchanged
  pub silent : is_listening request ≡ false → still
  pub causes : HasCauses request shelf shelf' out out' ended
  pub not_words : ended ≢ status.Words

-- If the words are not a command line, the run prints the position of the first wrong word, and does nothing else.
-- `still` says that the shelf and the devices are unchanged.
pub record RefusesWords (position : ℕ) (still : Type 0) (out out' : SinkState) (ended : Status) : Type 0 where
  pub whole : ended ≢ status.Memory → ended ≢ status.WriteFault → (ended ≡ status.Words) × Appends out.held out'.held (words_line position)
  pub written : AppendsPrefix out.held out'.held (words_line position)
  pub grows : Grows out.held out'.held
  pub kept : still
  pub write : ended ≡ status.WriteFault → Rose out.faults out'.faults
  pub not_write : ended ≢ status.WriteFault → out'.faults ≡ out.faults
