-- Only private functions and proofs use these definitions. What `show` prints and how it ends.
use Rattle.std.specs.Prelude.{◌≡◌, ℕ, List, length, Option, take, Result, Ok, Err}
use Rattle.pcap_frames.specs.Capture.{Record}
use Rattle.capture_io.specs.Source.{EndsAfter}
use Rattle.avtp_base.specs.declared.failed.FaultPlace.{FaultPlace}
use Rattle.avtp_base.specs.Told.{Appends}
use Rattle.capture_io.specs.Formats.{records_in}
use Rattle.avtp_base.specs.declared.failed.Failed.{Failed}
use Rattle.avtp_text.specs.Written.{AppendsPrefix}
use Rattle.run_report.specs.Lines.{of_each}
use Rattle.avtp_tool.specs.declared.show.Printed.{Printed}
use Rattle.avtp_tool.specs.Show.{show_line}

-- ---- the records of a capture

-- The records of a file of these bytes were printed and counted, as far as the file could be read. `printed` has the
-- number of records, and says how the reading ended.
pub record HasPrinted (limit : ℕ) (bytes : List ℕ) (fault : FaultPlace → Type 0) (printed : Printed) (before now : Option (List ℕ)) : Type 0 where
  pub records : List Record
  pub ends : EndsAfter limit bytes fault printed.end records
  pub counted : printed.frames ≡ length records
  pub lines : Appends before now (of_each show_line records)

-- With `Ok`, the records were printed. With `Err`, the sink failed, and only a prefix of the records' lines was
-- printed.
abbrev pub PrintsRecords : ℕ → List ℕ → (FaultPlace → Type 0) → Option (List ℕ) → Option (List ℕ) → Result Printed Failed → Type 0
PrintsRecords limit bytes fault before now (Ok printed) = HasPrinted limit bytes fault printed before now
PrintsRecords limit bytes fault before now (Err e) = AppendsPrefix before now (of_each show_line (records_in (take limit bytes)))
