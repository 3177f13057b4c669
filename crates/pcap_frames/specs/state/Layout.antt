-- Only private functions and proofs use these definitions. Numbers that are written into a header.
use Rattle.std.specs.Prelude.{◌≡◌, ℕ, ◌+◌, ◌≤◌, List, ◌++◌, take, drop}
use Rattle.pcap_frames.specs.declared.style.Order.{Order}
use Rattle.pcap_frames.specs.Layout.{number_bytes}

-- A number of `size` bytes was written at an offset, and nothing after it changed.
pub record Puts (order : Order) (offset size number : ℕ) (old new : List ℕ) : Type 0 where
  pub spelled : take (offset + size) new ≡ take offset old ++ number_bytes order size number
  pub rest : (n : ℕ) → offset + size ≤ n → drop n new ≡ drop n old
