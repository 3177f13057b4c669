-- What contracts see of a shelf of real files.
use Rattle.std.specs.Prelude.{ℕ, List, Option, None, option_and_then, option_map}
use Rattle.avtp_files.specs.declared.file_shelf.RealFile.{RealFile}
use Rattle.avtp_files.specs.declared.slots.Slots.{Slots}
use Rattle.avtp_files.specs.Entries.{entry_at}
use Rattle.avtp_base.specs.Files as files

-- the open files of a shelf of real files, by slot; their names and contents are not shown
abbrev pub real_slots : {F : Type 0} → Slots (RealFile F) → files.Slots
real_slots live k = option_map (λ open_file. record { made = open_file.made; name = None; left = None }) (entry_at live.entries.items k)

-- The bytes that `known` gives for the file in slot k. Depending on `known`, these bytes are the file's contents or
-- what is left to read. `None` if no file is open in the slot, or if `known` gives no bytes for the file.
abbrev pub known_at : {F : Type 0} → (F → Option (List ℕ)) → Slots (RealFile F) → ℕ → Option (List ℕ)
known_at known live k = option_and_then (λ open_file. known open_file.file) (entry_at live.entries.items k)
