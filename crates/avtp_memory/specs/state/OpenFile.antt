-- Only private functions and proofs use these definitions. An open file of a shelf in memory.
use Rattle.std.specs.Prelude.{ℕ, ◌+◌, ◌≤◌, IsTrue, List, Option, IsSome, string_bytes, String}
use Rattle.std.specs.Option.{ForSome}
use Rattle.std.specs.Global.{Vec, Global}
use Rattle.avtp_memory.specs.declared.open_file.OpenFile.{OpenFile}
use Rattle.avtp_files.specs.Entries.{entry_at}
use Rattle.avtp_memory.specs.NamedFiles.{bytes_under}
use Rattle.avtp_memory.specs.state.NamedFiles.{capacity_under}

-- the open file after n more of its bytes were read
abbrev pub moved_on : ℕ → OpenFile → OpenFile
moved_on n file = record file { place = file.place + n }

-- each open file is among the kept files
abbrev pub AreNamed : List (String Global × Vec ℕ) → List (Option OpenFile) → Type 0
AreNamed files entries = (k : ℕ) → ForSome (entry_at entries k) (λ file. IsSome (bytes_under files (string_bytes file.name)))

-- each file that is open for writing has memory for `room` bytes
abbrev pub HaveRoom : ℕ → List (String Global × Vec ℕ) → List (Option OpenFile) → Type 0
HaveRoom room files entries = (k : ℕ) → ForSome (entry_at entries k) (λ file. IsTrue file.made → room ≤ capacity_under files (string_bytes file.name))
