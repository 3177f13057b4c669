-- Bytes that are kept up to a limit.
use Rattle.std.specs.Prelude.{ℕ, ◌-◌, ◌≤◌, Bool, true, false, List, ◌++◌, length, take, Option, Some, None}

-- the kept bytes, followed by as much of the piece as fits the room
abbrev pub kept_within : ℕ → List ℕ → List ℕ → List ℕ
kept_within room kept piece = kept ++ take (room - length kept) piece

-- the whole piece fits the room that is left
abbrev pub FitsRoom : ℕ → List ℕ → List ℕ → Type 0
FitsRoom room kept piece = length piece ≤ room - length kept

-- if everything was kept, `x`; otherwise `None`
abbrev pub told_while : {T : Type 0} → Bool → T → Option T
told_while true x = Some x
told_while false x = None
