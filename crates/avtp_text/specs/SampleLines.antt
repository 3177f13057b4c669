-- The line of a sample. The line is reused for the next samples.
use Rattle.std.specs.Prelude.{ℕ}

-- the packet whose samples a line shows: the number of the packet's frame, the packet's sequence number, and the size
-- of a sample in bytes
pub record SamplePacket : Type 0 where
  pub frame : ℕ
  pub seq : ℕ
  pub size : ℕ
