-- Only private functions and proofs use these definitions. A piece of a text that is overwritten.
use Rattle.std.specs.Prelude.{◌≡◌, ℕ, ◌+◌, ◌<◌, ◌≤◌, List, ◌++◌, length, decimal}

-- The text `new` is the text `old` with `piece` in place of equally many bytes. The number of bytes after the piece is
-- `behind`.
abbrev pub Overwrites : List ℕ → List ℕ → List ℕ → ℕ → Type 0
Overwrites old new piece behind = (before was after : List ℕ) → old ≡ before ++ was ++ after → length was ≡ length piece → length after ≡ behind → new ≡ before ++ piece ++ after

-- the number `n` has at most eight decimal digits, and the text has eight bytes before its last `behind` bytes
pub record HasEight (text : List ℕ) (n behind : ℕ) : Type 0 where
  pub number : n < 100000000
  pub room : 8 + behind ≤ length text

-- The text `new` is the text `old` with the digits of `n` in place of equally many bytes. The number of digits is
-- `result`, and the number of bytes after them is `behind`.
pub record OverwritesDecimal (old new : List ℕ) (n behind result : ℕ) : Type 0 where
  pub len : result ≡ length (decimal n)
  pub overwrites : Overwrites old new (decimal n) behind
