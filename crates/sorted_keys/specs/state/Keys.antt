-- Only private functions and proofs use these definitions. Sorted keys, and the blocks that hold them.
use Rattle.std.specs.Prelude.{◌≡◌, ⊤, ℕ, ◌+◌, ◌*◌, ◌-◌, ◌≤◌, zero, suc, Bool, true, false, ℤ, int_le, int_lt, ◌≤ℤ◌, ◌<ℤ◌, ◌<◌, List, [], ◌∷◌, length, take, drop, slice_index_or, slice_set, ◌++◌, vec_capacity, vec_len, Option, IfSome}
use Rattle.std.specs.Global.{Global, Vec}
use Rattle.std.specs.Option.{option_to_list}
use Rattle.std.specs.VecDeque.{deque_capacity}
use Rattle.std.specs.declared.collections.VecDeque.{VecDeque}
use Rattle.std.specs.List.{AllByRecursion, flat_map}
use Rattle.sorted_keys.specs.declared.key.Key.{Key}
use Rattle.sorted_keys.specs.Keys.{put_key}

-- ---- a sorted list

-- the keys are sorted by instant, the earliest first
abbrev pub KeysAreInOrder : List Key → Type 0
KeysAreInOrder [] = ⊤
KeysAreInOrder (key ∷ rest) = AllByRecursion (λ other. key.instant ≤ℤ other.instant) rest × KeysAreInOrder rest

-- ---- a block

-- The first `place` keys are at or before `instant`, and the other keys are after `instant`.
pub record IsPlace (instant : ℤ) (keys : List Key) (place : ℕ) : Type 0 where
  pub within : place ≤ length keys
  pub not_later : AllByRecursion (λ key. key.instant ≤ℤ instant) (take place keys)
  pub later : AllByRecursion (λ key. instant <ℤ key.instant) (drop place keys)

-- the first key is at or before the instant, or there is no key
abbrev pub starts_by : ℤ → List Key → Bool
starts_by instant [] = true
starts_by instant (key ∷ rest) = int_le key.instant instant

-- the first key is earlier than the instant
abbrev pub starts_before : ℤ → List Key → Bool
starts_before instant [] = false
starts_before instant (key ∷ rest) = int_lt key.instant instant

-- ---- blocks

abbrev pub all_keys : List (List Key) → List Key
all_keys blocks = flat_map (λ block. block) blocks

-- there is a first block; if there are other blocks, the first block has keys
abbrev pub IsStarted : List (List Key) → Type 0
IsStarted [] = ⊥
IsStarted (block ∷ []) = ⊤
IsStarted ([] ∷ next ∷ rest) = ⊥
IsStarted ((key ∷ keys) ∷ next ∷ rest) = ⊤

-- Sorted keys in blocks. Each block has room for one more key, because it has fewer than 512 keys. Each block after the
-- first has at least 256 keys, so that there are few blocks.
pub record AreBlocks (blocks : List (List Key)) : Type 0 where
  pub in_order : KeysAreInOrder (all_keys blocks)
  pub started : IsStarted blocks
  pub filled : AllByRecursion (λ block. 256 ≤ length block) (drop 1 blocks)
  pub short : AllByRecursion (λ block. length block < 512) blocks

-- Sorted keys in blocks. Only the block at index `place` can be full.
pub record AreBlocksBut (place : ℕ) (blocks : List (List Key)) : Type 0 where
  pub in_order : KeysAreInOrder (all_keys blocks)
  pub started : IsStarted blocks
  pub filled : AllByRecursion (λ block. 256 ≤ length block) (drop 1 blocks)
  pub within : place < length blocks
  pub most : length (slice_index_or blocks place []) ≤ 512
  pub others : AllByRecursion (λ block. length block < 512) (slice_set blocks place [])

-- the block at index `place` is full, and no other block is
pub record IsFullAt (place : ℕ) (blocks : List (List Key)) : Type 0 where
  pub but : AreBlocksBut place blocks
  pub full : length (slice_index_or blocks place []) ≡ 512

-- the keys are kept in other blocks, in the same order
pub record KeepsKeys (old new : List (List Key)) : Type 0 where
  pub all : all_keys new ≡ all_keys old
  pub blocks : AreBlocks new

-- Sorted keys in blocks. The first block can be without keys even if there are other blocks.
pub record AreTaken (blocks : List (List Key)) : Type 0 where
  pub in_order : KeysAreInOrder (all_keys blocks)
  pub some : 1 ≤ length blocks
  pub filled : AllByRecursion (λ block. 256 ≤ length block) (drop 1 blocks)
  pub short : AllByRecursion (λ block. length block < 512) blocks

-- A key with this instant goes into the block at this index. All keys in the earlier blocks are at or before the
-- instant. All keys in the later blocks are after the instant.
abbrev pub IsBlockFor : ℤ → List (List Key) → ℕ → Type 0
IsBlockFor instant [] place = ⊥
IsBlockFor instant (block ∷ rest) zero = AllByRecursion (λ key. instant <ℤ key.instant) (all_keys rest)
IsBlockFor instant (block ∷ rest) (suc place) = AllByRecursion (λ key. key.instant ≤ℤ instant) block × IsBlockFor instant rest place

-- if each block except the first has at least 256 keys, this many blocks always suffice for the resulting number of
-- keys
abbrev pub room_of : ℕ → ℕ
room_of blocks = 256 * (blocks - 1)

-- `blocks` holds sorted keys, and the blocks in `spare` have no keys. `blocks` and `spare` together have at most
-- `places` blocks.
pub record HaveRoom (blocks spare : List (List Key)) (places : ℕ) : Type 0 where
  pub kept : AreBlocks blocks
  pub empty : AllByRecursion (λ block. block ≡ []) spare
  pub within : length blocks + length spare ≤ places

-- `count` blocks without keys, in a vector that has room for one more block
pub record AreSpare (count : ℕ) (spare : Vec (List Key)) : Type 0 where
  pub empty : AllByRecursion (λ block. block ≡ []) spare.items
  pub number : vec_len spare ≡ count
  pub capacity : count + 1 ≤ vec_capacity spare

-- keys were moved from the end of `keys` to the beginning of `others`, until the first list had `count` keys
pub record Moves (count : ℕ) (keys others keys_after others_after : List Key) : Type 0 where
  pub all : keys_after ++ others_after ≡ keys ++ others
  pub left : length keys_after ≡ count

-- keys were moved from the end of one queue to the beginning of another queue, and both queues keep their memory
pub record MovesBehind (count : ℕ) (keys others keys_after others_after : VecDeque Key Global) : Type 0 where
  pub moves : Moves count keys.items others.items keys_after.items others_after.items
  pub capacity : deque_capacity keys_after ≡ deque_capacity keys
  pub others_capacity : deque_capacity others_after ≡ deque_capacity others

-- a key was put into the block at index `place`; only this block can now be full
pub record PutsInto (key : Key) (place : ℕ) (old new : VecDeque (List Key) Global) : Type 0 where
  pub all : all_keys new.items ≡ put_key (all_keys old.items) key
  pub blocks : AreBlocksBut place new.items
  pub count : length new.items ≡ length old.items
  pub capacity : deque_capacity new ≡ deque_capacity old

-- one block was split into two
pub record Splits (old new : VecDeque (List Key) Global) : Type 0 where
  pub keys : KeepsKeys old.items new.items
  pub count : length new.items ≡ length old.items + 1
  pub capacity : deque_capacity old ≤ deque_capacity new

-- the first block, which had no keys, was removed; `taken` is `None` if no block was removed
pub record TakesEmpty (old : VecDeque (List Key) Global) (taken : Option (List Key)) (new : VecDeque (List Key) Global) : Type 0 where
  pub keys : KeepsKeys old.items new.items
  pub empty : IfSome taken (λ block. block ≡ [])
  pub count : length new.items + length (option_to_list taken) ≡ length old.items
  pub capacity : deque_capacity new ≡ deque_capacity old
