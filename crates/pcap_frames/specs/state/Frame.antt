-- Only private functions and proofs use these definitions. Ethernet frames whose header is whole.
use Rattle.std.specs.Prelude.{◌≡◌, ℕ, ◌≤◌, Bool, List, length}
use Rattle.pcap_frames.specs.Frame.{header_len, is_tagged}

-- The bytes contain a frame's whole header; `tagged` says whether it has a tag.
pub record HasHeader (tagged : Bool) (bytes : List ℕ) : Type 0 where
  pub whole : header_len tagged ≤ length bytes
  pub kind : is_tagged bytes ≡ tagged
