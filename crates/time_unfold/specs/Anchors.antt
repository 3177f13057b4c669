-- The most recently noted stamps.
use Rattle.std.specs.Prelude.{◌≡◌, ◌≤◌, ℕ, List}
use Rattle.time_unfold.specs.declared.stamp.Stamp.{Stamp}
use Rattle.time_unfold.specs.Stamps.{last_of}

-- the number of stamps that can be kept is from 1 to 80
pub record IsRoom (room : ℕ) : Type 0 where
  pub some : 1 ≤ room
  pub most : room ≤ 80

-- the stamps that are kept, and the greatest number of stamps that can be kept
pub record LastStamps : Type 0 where
  pub room : ℕ
  pub stamps : List Stamp

-- the kept stamps are the last `room` of the stamps that were noted
abbrev pub KeepsLast : LastStamps → List Stamp → Type 0
KeepsLast kept noted = kept.stamps ≡ last_of kept.room noted
