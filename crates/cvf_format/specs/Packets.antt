-- How many packets carry a NAL unit (RFC 6184, 5.6 and 5.8). Both lengths, 1400 and 1398 bytes, are a choice of this
-- project.
use Rattle.std.specs.Prelude.{◌≡◌, ℕ, ◌+◌, ◌-◌, ◌*◌, ◌/◌, ◌<◌, ◌≤◌, nat_le, if◌then◌else◌}

-- the length in bytes of the longest NAL unit that is sent whole
abbrev pub longest_single : ℕ
longest_single = 1400

-- the length in bytes of the body of each fragment except the last
abbrev pub full_body : ℕ
full_body = 1398

-- A NAL unit of `len` bytes is carried by `packets` packets. A unit that is sent whole has one packet. A longer unit is
-- cut into fragments, which carry the bytes after the unit's first byte. Each fragment except the last carries a full
-- body. The last fragment carries the remaining bytes, from one byte to a full body.
pub record IsCut (len packets : ℕ) : Type 0 where
  pub whole : len ≤ longest_single → packets ≡ 1
  pub some_left : longest_single < len → full_body * (packets - 1) < len - 1
  pub all : longest_single < len → len - 1 ≤ full_body * packets

-- how many packets carry a NAL unit of `len` bytes
abbrev pub packets_of : ℕ → ℕ
packets_of len = if nat_le len longest_single then 1 else (len - 1 + (full_body - 1)) / full_body
