-- Only private functions and proofs use these definitions. What `check` prints and how it ends. The
-- rules of `check` are this project's own.
use Rattle.std.specs.Prelude.{◌≡◌, ◌≤◌, ℕ, List, length, MatchResult, IfOk, Result, ◌++◌, Option, take, Ok, Err}
use Rattle.avtp_base.specs.declared.failed.FaultPlace.{FaultPlace}
use Rattle.avtp_base.specs.declared.failed.Failed.{Failed}
use Rattle.avtp_base.specs.Told.{Appends, Keeps}
use Rattle.avtp_text.specs.Written.{written, AppendsPrefix}
use Rattle.avtp_base.specs.States.{SinkState}
use Rattle.sequence_track.specs.declared.seen.Seen.{Seen}
use Rattle.sequence_track.specs.declared.stream.StreamKey.{StreamKey}
use Rattle.sequence_track.specs.declared.stream.StreamState.{StreamState}
use Rattle.sequence_track.specs.Tracking.{StandsFor}
use Rattle.pcap_frames.specs.Capture.{Record}
use Rattle.sequence_track.specs.Findings.{tracked}
use Rattle.avtp_text.specs.Listen.{capture_line}
use Rattle.capture_io.specs.Source.{EndsAfter}
use Rattle.capture_io.specs.Formats.{records_in}
use Rattle.run_report.specs.Outcome.{KeepsSink}
use Rattle.run_report.specs.Lines.{of_each}
use Rattle.check_command.specs.Check.{joined_lines, noted, found_lines, notes_of, check_lines}
use Rattle.check_command.specs.declared.checked.Checked.{Checked}
use Rattle.check_command.specs.declared.command.Total.{Total}

-- ---- what `check` does

-- With `Ok`, the lines of a record's findings, at most five, were printed and counted. If the result is `Err`, the sink
-- failed, and none of these lines was printed.
pub record PrintsFound (out out' : SinkState) (waits waits' : List ℕ) (result : Result ℕ Failed) (lines : List (List ℕ)) : Type 0 where
  pub written : MatchResult result (λ _. Appends (written out.held waits) (written out'.held waits') (joined_lines lines)) (λ _. Keeps (written out.held waits) (written out'.held waits'))
  pub counted : IfOk result (λ n. n ≡ length lines)
  pub few : IfOk result (λ n. n ≤ 5)
  pub sink : KeepsSink out out' result

-- The packet of the record `number` was noted, and the findings in the record were printed.
pub record ChecksOne (tracker tracker' : List (StreamKey × StreamState)) (number : ℕ) (checked : Checked) (out out' : SinkState) (waits waits' : List ℕ) (result : Result ℕ Failed) : Type 0 where
  pub stands : (notes : List Seen) → StandsFor tracker notes → StandsFor tracker' (notes ++ noted checked)
  pub prints : (notes : List Seen) → StandsFor tracker notes → PrintsFound out out' waits waits' result (found_lines number notes checked)
  pub few : IfOk result (λ n. n ≤ 5)
  pub sink : KeepsSink out out' result

-- The records of a file of these bytes were checked and counted, as far as the file could be read. `total` has the
-- counts, and says how the reading ended.
pub record HasChecked (limit : ℕ) (name bytes : List ℕ) (fault : FaultPlace → Type 0) (total : Total) (before now : Option (List ℕ)) : Type 0 where
  pub records : List Record
  pub ends : EndsAfter limit bytes fault total.end records
  pub frames : total.frames ≡ length records
  pub streams : total.streams ≡ length (tracked (notes_of records))
  pub found : total.findings ≡ length (of_each check_lines records)
  pub lines : Appends before now (capture_line name ++ joined_lines (of_each check_lines records))

-- With `Ok`, the records were checked. With `Err`, the sink failed, and only a prefix of the records' lines was
-- printed.
abbrev pub ChecksRecords : ℕ → List ℕ → List ℕ → (FaultPlace → Type 0) → Option (List ℕ) → Option (List ℕ) → Result Total Failed → Type 0
ChecksRecords limit name bytes fault before now (Ok total) = HasChecked limit name bytes fault total before now
ChecksRecords limit name bytes fault before now (Err e) =
    AppendsPrefix before now (capture_line name ++ joined_lines (of_each check_lines (records_in (take limit bytes))))
