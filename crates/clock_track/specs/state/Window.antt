-- Only private functions and proofs use these definitions. A clock that keeps its last packets.
use Rattle.std.specs.Prelude.{◌≡◌, ◌≤◌, ◌+◌, ℕ, ℤ, List, All, length, map, vec_capacity, vec_len}
use Rattle.std.specs.Global.{Vec}
use Rattle.circular_buffer.specs.Buffer.{Buffer, buffer, keep_last}
use Rattle.clock_track.specs.declared.clock.Kept.{Kept}
use Rattle.clock_track.specs.declared.clock.Room.{Room}
use Rattle.clock_track.specs.declared.clock_row.ClockRow.{ClockRow}
use Rattle.clock_track.specs.Limits.{IsNotable}
use Rattle.clock_track.specs.state.Bounds.{AreGroups, HasPairs}

abbrev pub kept_row : Kept → ClockRow
kept_row kept = record {
  usable = kept.usable;
  seq = kept.seq;
  mr = kept.mr;
  base_frequency = kept.base_frequency;
  pull = kept.pull;
  interval = kept.interval;
  payload = kept.payload.items;
}

-- the timestamps of any packet fit into the room
abbrev pub IsRoom : Room → Type 0
IsRoom room = 65528 ≤ vec_capacity room.payload

abbrev pub HasRoom : Kept → Type 0
HasRoom kept = 65528 ≤ vec_capacity kept.payload

-- the bounds that are kept with a packet hold its pairs
pub record HasBounds (shift : ℤ) (kept : Kept) : Type 0 where
  pub all : HasPairs shift (kept_row kept) kept.bounds
  pub groups : AreGroups shift (kept_row kept) kept.groups.items

-- the packet is kept, with room for any packet's timestamps and with the bounds of its pairs
pub record IsKept (shift : ℤ) (packet : ClockRow) (kept : Kept) : Type 0 where
  pub row : kept_row kept ≡ packet
  pub room : HasRoom kept
  pub bounds : HasBounds shift kept

-- The kept packets and the spare rooms together number `count`. Each kept packet's room and each spare room can hold
-- any packet's timestamps.
pub record HoldsRooms (rows : List Kept) (spare : Vec Room) (count : ℕ) : Type 0 where
  pub all : length rows + vec_len spare ≡ count
  pub kept : All HasRoom rows
  pub unused : All IsRoom spare.items

-- A room for one packet was taken, and at most 63 packets, the last ones, were kept.
pub record TakesRoom (old new : Buffer Kept) (spare : Vec Room) (room : Room) : Type 0 where
  pub taken : IsRoom room
  pub rows : new ≡ buffer (keep_last 63 old.items) old.capacity
  pub left : HoldsRooms new.items spare 63

-- The kept packets and the spare rooms together number 64. The bounds of each packet hold its pairs.
pub record IsWindow (shift : ℤ) (rows : Buffer Kept) (spare : Vec Room) : Type 0 where
  pub capacity : rows.capacity ≡ 64
  pub rooms : HoldsRooms rows.items spare 64
  pub notable : All IsNotable (map kept_row rows.items)
  pub bounds : All (HasBounds shift) rows.items
