-- A file that is read in pieces, up to a limit.
use Rattle.std.specs.Prelude.{◌≡◌, ◌++◌, ◌+◌, ◌<◌, ℕ, Bool, true, false, List, length, Option, Some}

-- A file that is read in pieces, and its slot. The bytes `waiting` were read but not taken: they are the buffered
-- bytes. At most `left` more bytes may be read. `over` tells whether a read has shown that the file exceeds the limit.
pub record Piecing : Type 0 where
  pub slot : ℕ
  pub waiting : List ℕ
  pub left : ℕ
  pub over : Bool

-- The bytes of the file after the buffered bytes. Until a read has shown that the file exceeds the limit, these bytes
-- are the bytes of the slot that are still to be read. Once a read has shown that the file exceeds the limit, at least
-- one byte of the file follows the buffered bytes, and no further byte may be read.
abbrev pub IsAhead : Bool → Option (List ℕ) → ℕ → List ℕ → Type 0
IsAhead false remains left rest = remains ≡ Some rest
IsAhead true remains left rest = (left ≡ 0) × (0 < length rest)

-- `prefix` was taken from the front of a file with these bytes. At most `limit` bytes of the file may be read.
pub record HasTaken (limit : ℕ) (bytes : List ℕ) (remains : Option (List ℕ)) (pieces : Piecing) (prefix : List ℕ) : Type 0 where
  pub rest : List ℕ
  pub split : bytes ≡ (prefix ++ pieces.waiting) ++ rest
  pub ahead : IsAhead pieces.over remains pieces.left rest
  pub count : length prefix + length pieces.waiting + pieces.left ≡ limit
