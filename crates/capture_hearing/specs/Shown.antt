-- What is shown of the records of a capture.
use Rattle.std.specs.Prelude.{List}
use Rattle.pcap_frames.specs.Capture.{Record}
use Rattle.sample_schedule.specs.declared.shown.Shown.{Shown}
use Rattle.listener.specs.declared.plan.ListenPlan.{ListenPlan}
use Rattle.listener.specs.Heard.{due_of, shown_of}
use Rattle.capture_io.specs.declared.end.End.{End}
use Rattle.capture_io.specs.declared.end.End.TheVariants as end

-- What is shown of these records, given how the reading of their capture ended. At the capture's end or at a refused
-- field, everything is shown. If the reading was cut short, only what was due by then is shown.
abbrev pub shown_by : ListenPlan → List Record → End → List Shown
shown_by plan records end.Whole = shown_of plan records
shown_by plan records (end.Refused refusal) = shown_of plan records
shown_by plan records end.ReadFault = due_of plan records
shown_by plan records end.Limit = due_of plan records
