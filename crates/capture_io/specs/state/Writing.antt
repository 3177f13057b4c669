-- Only private functions and proofs use these definitions. A file that is written through a buffer.
use Rattle.std.specs.Prelude.{◌≡◌, ℕ, ◌+◌, ◌≤◌, List, [], length, OnOk, Result}
use Rattle.avtp_base.specs.declared.failed.Failed.{Failed}
use Rattle.avtp_base.specs.States.{ShelfState}
use Rattle.capture_io.specs.Writing.{Writing, IsWriting, WritesSlot}

-- If the result is `Ok`, all buffered bytes were written. With `Err` the shelf failed, and possibly only some of the
-- buffered bytes were written.
pub record WritesOut (before after : ShelfState) (old new : Writing) (result : Result Unit Failed) : Type 0 where
  pub none_waits : OnOk result (new.waiting ≡ [])
  pub kept : (begun : ShelfState) (name all : List ℕ) → IsWriting begun before old name all → IsWriting begun after new name all
  pub writes : WritesSlot before after old new result

-- With `Ok` there is room for `size` more bytes. With `Err` the shelf failed. Whatever the result, buffered bytes may
-- have been written.
pub record MakesRoom (before after : ShelfState) (old new : Writing) (size : ℕ) (result : Result Unit Failed) : Type 0 where
  pub room : OnOk result (length new.waiting + size ≤ 65536)
  pub kept : (begun : ShelfState) (name all : List ℕ) → IsWriting begun before old name all → IsWriting begun after new name all
  pub writes : WritesSlot before after old new result
