-- Only private functions and proofs use these definitions. Lines that are built backwards from their
-- end, and lines that are appended to a text.
use Rattle.std.specs.Prelude.{◌≡◌, ℕ, ◌+◌, ◌≤◌, List, ◌++◌, length}

-- the line `new` is `piece`, followed by the line `old`, and the piece has at most `most` bytes
pub record Prepends (old new piece : List ℕ) (most : ℕ) : Type 0 where
  pub text : new ≡ piece ++ old
  pub len : length new ≤ most + length old

-- the text `new` is the text `old`, followed by `added`, which has at most `most` bytes
pub record AppendsUpTo (old new added : List ℕ) (most : ℕ) : Type 0 where
  pub text : new ≡ old ++ added
  pub len : length new ≤ length old + most

-- `slice` is the line, which has at most 256 bytes
pub record IsTextOf (line slice : List ℕ) : Type 0 where
  pub text : slice ≡ line
  pub short : length slice ≤ 256

-- a name of at most 8 bytes, and the room that the line of a finding with this name needs after the text `old`
pub record FitsFinding (old name : List ℕ) : Type 0 where
  pub short : length name ≤ 8
  pub room : length old + 80 ≤ 65536
