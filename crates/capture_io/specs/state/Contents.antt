-- Only private functions and proofs use these definitions. A file that is read whole.
use Rattle.std.specs.Prelude.{Option, Some, None, Result, Ok, Err}
use Rattle.avtp_base.specs.declared.failed.NoMemory.{NoMemory}
use Rattle.capture_io.specs.declared.contents.Contents.{Contents}
use Rattle.capture_io.specs.declared.end.Stop.{Stop}

-- where the reading stopped, if there was memory for what was read
abbrev pub stop_of : Result Contents NoMemory → Option Stop
stop_of (Ok contents) = Some contents.stop
stop_of (Err e) = None
