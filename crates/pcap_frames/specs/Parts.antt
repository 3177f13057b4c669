-- How the bytes of a header or a record are collected if they are cut across pieces.
use Rattle.std.specs.Prelude.{◌≡◌, ℕ, ◌+◌, ◌-◌, ◌≤◌, List, ◌++◌, length, take, min, vec_capacity}
use Rattle.std.specs.Global.{Vec}

-- The first n bytes of the piece were moved to the end of a part: as many as the part lacks to have `end` bytes, or all
-- bytes of the piece if there are fewer.
pub record Gathers (old : Vec ℕ) (end : ℕ) (piece : List ℕ) (n : ℕ) (new : Vec ℕ) : Type 0 where
  pub taken : n ≡ min (length piece) (end - length old.items)
  pub within : n ≤ length piece
  pub moved : new.items ≡ old.items ++ take n piece
  pub grown : length new.items ≡ length old.items + n
  pub capacity : vec_capacity old ≤ vec_capacity new
