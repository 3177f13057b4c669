-- Only private functions and proofs use these definitions. What contracts see of a quiet shelf.
use Rattle.std.specs.Prelude.{None, Some}
use Rattle.avtp_memory.specs.declared.quiet_shelf.QuietShelf.{QuietShelf}
use Rattle.avtp_memory.specs.state.Asked.{account_of}
use Rattle.avtp_base.specs.States.{ShelfState}
use Rattle.avtp_memory.specs.QuietShelf.{files_of, slots_of}

-- the state of a quiet shelf, as contracts see it
abbrev pub state_of : QuietShelf → ShelfState
state_of shelf = record { files = files_of shelf; slots = slots_of shelf; reading_faults = record { count = 0; last = None }; writing_faults = 0; asked = Some (account_of shelf.asked) }
