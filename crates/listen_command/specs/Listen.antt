-- What `listen` prints and how it ends.
use Rattle.std.specs.Prelude.{ℕ, List, ◌++◌, Bool, true, false, ◌≡◌, ℤ, Some, ◌⊎◌, [], ◌^◌, ◌≤◌}
use mathlib.Core.List.{IsPrefix}
use Rattle.listener.specs.declared.heard.Counts.{Counts}
use Rattle.avtp_text.specs.Listen.{end_listen_line, capture_line, list_lines}
use Rattle.avtp_text.specs.Notices.{capture_refused_line, read_fault_line, limit_line, device_fault_line}
use Rattle.capture_io.specs.declared.end.End.{End}
use Rattle.sample_schedule.specs.declared.shown.Shown.{Shown}
use Rattle.pcap_frames.specs.Capture.{Record}
use Rattle.listener.specs.Heard.{counts_of, due_of, schedule_plan}
use Rattle.avtp_words.specs.Grammar.{Listening}
use Rattle.capture_io.specs.Ends.{EndsAt}
use Rattle.capture_io.specs.Formats.{records_in}
use Rattle.packet_journal.specs.Packets.{PacketJournal}
use Rattle.listener.specs.Headline.{KeepsHeadline}
use Rattle.listener.specs.Laws.{HearsTalker}
use Rattle.listener_laws.specs.Fronts.{IsTrueFront}
use Rattle.avtp_base.specs.declared.failed.FaultPlace.TheVariants as fault_place
use Rattle.avtp_base.specs.declared.failed.FaultPlace.{FaultPlace}
use Rattle.avtp_base.specs.Files.{Files}
use Rattle.sample_schedule.specs.Limits.{IsPlan as IsSchedulePlan}
use Rattle.capture_io.specs.declared.end.End.TheVariants as end
use Rattle.run_report.specs.Yield.{Yield, says, with_more}
use Rattle.run_report.specs.Listener.{plan_of}
use Rattle.run_report.specs.Reading.{Report, ReadPlan, in_order_status, in_order_yield, one_status, one_yield}
use Rattle.run_report.specs.Halt.{no_halt}
use Rattle.run_report.specs.RunReport.{RunReport}
use Rattle.run_report.specs.Outcome.{is_done}
use Rattle.run_report.specs.Status.{status_of}
use Rattle.run_report.specs.declared.status.Status.{Status}
use Rattle.run_report.specs.declared.status.Status.TheVariants as status
use Rattle.capture_hearing.specs.Shown.{shown_by}

-- the last line: the counts, or why the capture was not read to its end
abbrev pub last_line : ℕ → Counts → End → List ℕ
last_line limit counts end.Whole = end_listen_line counts
last_line limit counts (end.Refused refusal) = capture_refused_line refusal
last_line limit counts end.ReadFault = read_fault_line
last_line limit counts end.Limit = limit_line limit

-- the capture's name, and the lines of what is shown of the capture
abbrev pub shown_text : List ℕ → List Shown → List ℕ
shown_text name shown = capture_line name ++ list_lines shown

-- What the open capture `name` yields if its reading ends after these records, given how it ends. The text is the name,
-- the lines of each shown item, and the last line. The devices get the shown items.
abbrev pub heard_yield : Listening → List ℕ → List Record → End → Yield
heard_yield asked name records how = record {
  text = shown_text name (shown_by (plan_of asked.listener) records how)
      ++ last_line asked.listener.limit (counts_of (plan_of asked.listener) records (shown_by (plan_of asked.listener) records how)) how;
  items = shown_by (plan_of asked.listener) records how;
}

-- what `listen` makes of a file of this name
abbrev pub listen_report : Listening → List ℕ → Report
listen_report asked name = record { status = λ records how. status_of how; yields = heard_yield asked name }

-- the plan of `listen`: which files it reads, and what it makes of each
abbrev pub listen_plan : Listening → ReadPlan
listen_plan asked = record { names = asked.files; limit = asked.listener.limit; report = listen_report asked }

-- ---- a talker that keeps the rules

-- the reading was cut short, by a read fault or the limit
abbrev pub is_cut_short : End → Bool
is_cut_short end.Whole = false
is_cut_short (end.Refused refusal) = false
is_cut_short end.ReadFault = true
is_cut_short end.Limit = true

-- What an opened capture yields: the text and the items of the records that were read. Suppose that a talker that keeps
-- the rules sent a prefix of these records. Then the items that are shown of this prefix are as the headline says.
pub record YieldsHeadline (asked : Listening) (name bytes : List ℕ) (fault : FaultPlace → Type 0) (yields : Yield) : Type 0 where
  -- how the reading ended, and the bytes that were read before it ended
  pub how : End
  pub read : List ℕ
  pub ends : EndsAt asked.listener.limit (Some bytes) fault how read
  pub same : yields ≡ heard_yield asked name (records_in read) how
  -- Let a talker that keeps the rules have sent the records `first`. The shown items then begin with the due items of
  -- `first`. The due items of `first` keep the headline, whatever records follow.
  pub front : (shift : ℤ) (p : PacketJournal) (first others : List Record) → records_in read ≡ first ++ others → HearsTalker shift p (plan_of asked.listener) first →
      IsPrefix (due_of (plan_of asked.listener) first) yields.items × IsTrueFront p (plan_of asked.listener) first others
  -- Suppose that one talker sent all records and keeps the rules, and that the reading was not cut short. Then all
  -- shown items are as the headline says.
  pub whole : (shift : ℤ) (p : PacketJournal) → is_cut_short how ≡ false → HearsTalker shift p (plan_of asked.listener) (records_in read) →
      KeepsHeadline shift p (plan_of asked.listener) (records_in read) yields.items

-- What a run yields, in three parts: first what the earlier files yield, all of which were read to their ends; then
-- `here`, what the file `name` yields; then `after`, what the later files yield. `here` is the line of a read fault if
-- the file could not be opened, otherwise what the headline says.
pub record HasHeadline (asked : Listening) (files : Files) (fault : FaultPlace → Type 0) (earlier : List (List ℕ)) (name bytes : List ℕ) (yields : Yield) : Type 0 where
  pub done : is_done (in_order_status (one_status (listen_plan asked) files) no_halt earlier) ≡ true
  pub here : Yield
  pub keeps : (fault fault_place.Opening × (here ≡ says read_fault_line)) ⊎ YieldsHeadline asked name bytes fault here
  pub after : Yield
  pub split : yields ≡ with_more (in_order_yield (one_status (listen_plan asked) files) (one_yield (listen_plan asked) files) no_halt earlier) (with_more here after)

-- The status of a run of `listen`, given whether a device failed and the status of reading the files. A failed device
-- changes the status only if reading the files ended with `Done`.
abbrev pub device_status : Bool → Status → Status
device_status true status.Done = status.DeviceFault
device_status failed ended = ended

-- The last line of a run of `listen`, given whether a device failed and the status of reading the files. If a device
-- failed and reading the files ended with `Done`, the line says that a device failed; otherwise the line is empty.
abbrev pub device_notice : Bool → Status → List ℕ
device_notice true status.Done = device_fault_line
device_notice failed ended = []

-- what `listen` does if reading the files does this
abbrev pub with_devices : Bool → RunReport → RunReport
with_devices failed read = record read { ended = device_status failed read.ended; yields = with_more read.yields (says (device_notice failed read.ended)) }

-- ---- values within their bounds

-- the values that the words give to `listen` are within their bounds
pub record IsListening (asked : Listening) : Type 0 where
  pub limit : asked.listener.limit ≤ 2 ^ 40
  pub plan : IsSchedulePlan (schedule_plan (plan_of asked.listener))
  pub ring : (1 ≤ asked.ring) × (asked.ring ≤ 256)
