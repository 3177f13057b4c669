-- The names that a shelf was asked for, in order. A shelf in memory keeps the names that it was asked for. If there is
-- no memory for a name, the shelf keeps neither that name nor any later name.
use Rattle.std.specs.Prelude.{ℕ, List, map, string_bytes, String}
use Rattle.std.specs.Global.{Global}
use Rattle.avtp_memory.specs.declared.asked_names.AskedNames.{AskedNames}
use Rattle.avtp_base.specs.States.{AreNames}

-- the names that were kept
abbrev pub names_kept : AskedNames → List (List ℕ)
names_kept asked = map (λ (name : String Global). string_bytes name) asked.names.items

-- The shelf was possibly asked for these names, in this order. Two things hold: the names begin with the kept names,
-- and if all names were kept, no others follow.
abbrev pub StandsForNames : AskedNames → List (List ℕ) → Type 0
StandsForNames asked names = AreNames asked.all (names_kept asked) names
