-- Only private functions and proofs use these definitions. What contracts see of a shelf in memory.
use Rattle.std.specs.Prelude.{Some}
use Rattle.avtp_memory.specs.declared.memory_shelf.MemoryShelf.{MemoryShelf}
use Rattle.avtp_memory.specs.state.Asked.{account_of}
use Rattle.avtp_base.specs.States.{ShelfState}
use Rattle.avtp_memory.specs.MemoryShelf.{files_of, slots_of, reading_of, writing_count}

-- the state of a shelf in memory, as contracts see it
abbrev pub state_of : MemoryShelf → ShelfState
state_of shelf = record { files = Some (files_of shelf); slots = slots_of shelf; reading_faults = reading_of shelf; writing_faults = writing_count shelf; asked = Some (account_of shelf.asked) }
