-- Lists of entries by index.
use Rattle.std.specs.Prelude.{◌≡◌, ◌≢◌, ◌<◌, ℕ, List, Option, None, Result, IfOk, slice_index_or}
use Rattle.avtp_files.specs.declared.shelf.Slot.{Slot}

-- the entry at index k of a list; `None` past the end of the list
abbrev pub entry_at : {T : Type 0} → List (Option T) → ℕ → Option T
entry_at entries k = slice_index_or entries k None

-- the entry at index k is now `entry`, and all other entries are unchanged
pub record SetsEntry {T : Type 0} (old new : List (Option T)) (k : ℕ) (entry : Option T) : Type 0 where
  pub set : entry_at new k ≡ entry
  pub others : (j : ℕ) → j ≢ k → entry_at new j ≡ entry_at old j

-- At `Ok` the slot is free, and below the number of entries, `count`. Every entry is unchanged.
pub record FindsFree {T E : Type 0} (old new : List (Option T)) (count : ℕ) (result : Result Slot E) : Type 0 where
  pub free : IfOk result (λ slot. entry_at old slot.0 ≡ None)
  pub inside : IfOk result (λ slot. slot.0 < count)
  pub same : (k : ℕ) → entry_at new k ≡ entry_at old k

-- The result is the entry at index k, which is free now. The number of entries, `count`, is unchanged.
pub record TakesEntry {T : Type 0} (old new : List (Option T)) (count count' k : ℕ) (result : Option T) : Type 0 where
  pub entry : result ≡ entry_at old k
  pub taken : SetsEntry old new k None
  pub len : count' ≡ count
