-- The states of shelves and sinks, as contracts see them.
use Rattle.std.specs.Prelude.{◌≡◌, ℕ, ⊤, Bool, true, false, List, ◌++◌, Option, None, Some}
use Rattle.avtp_base.specs.Faults.{ReadingFaults}
use Rattle.avtp_base.specs.Files.{Files, Slots}

-- a shelf's account of the names that it was asked for: the names that it kept, and whether it kept all names
pub record Account : Type 0 where
  pub kept : List (List ℕ)
  pub all : Bool

-- what contracts see of a shelf: its files, its open files, its faults, and the names that it was asked for
pub record ShelfState : Type 0 where
  -- the files, if the shelf shows them; a shelf in memory shows them, a shelf of real files does not
  pub files : Option Files
  -- the open file of each live slot
  pub slots : Slots
  -- the reading faults so far, and the number of writing faults so far
  pub reading_faults : ReadingFaults
  pub writing_faults : ℕ
  -- the names that the shelf was asked for so far, if it keeps an account of them
  pub asked : Option Account

-- what contracts see of a sink: the bytes that it holds, and its count of faults
pub record SinkState : Type 0 where
  -- the bytes that the sink holds, if it shows them
  pub held : Option (List ℕ)
  -- the number of faults so far
  pub faults : ℕ

-- The shelf can have been asked for exactly the names `names`, in this order. If all names were kept, `names` equals
-- the kept names. If not all names were kept, `names` begins with the kept names.
abbrev pub AreNames : Bool → List (List ℕ) → List (List ℕ) → Type 0
AreNames true kept names = names ≡ kept
AreNames false kept names = (rest : List (List ℕ)) × (names ≡ kept ++ rest)

-- According to the shelf's account, it is possible that the shelf was asked for exactly these names so far, in this
-- order. If the shelf has no account, it can have been asked for any names.
abbrev pub WasAsked : Option Account → List (List ℕ) → Type 0
WasAsked None names = ⊤
WasAsked (Some account) names = AreNames account.all account.kept names

-- between these two states, the shelf was asked for exactly these names, in this order
abbrev pub Asks : List (List ℕ) → ShelfState → ShelfState → Type 0
Asks names before after = (earlier : List (List ℕ)) → WasAsked before.asked earlier → WasAsked after.asked (earlier ++ names)

-- between these two states, the shelf was asked for no name
abbrev pub AsksNothing : ShelfState → ShelfState → Type 0
AsksNothing before after = (names : List (List ℕ)) → WasAsked before.asked names → WasAsked after.asked names
