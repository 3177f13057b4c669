-- The NAL unit of an H.264 packet.
use Rattle.std.specs.Prelude.{◌≡◌, ℕ, ◌<◌, ◌≤◌}
use Rattle.stream_journal.specs.Journal.{Journal, Part}
use Rattle.packet_journal.specs.Units.{AreUnit}

-- Packets `from` to `to` carry one NAL unit, and packet n is one of them. The talker sent packets `from` to `to`, and
-- they are due at the same instant.
pub record IsInUnit (j : Journal) (part : ℕ → Part) (n : ℕ) : Type 0 where
  pub from : ℕ
  pub to : ℕ
  pub low : from ≤ n
  pub high : n ≤ to
  pub known : to < j.packets
  pub packets : AreUnit part from to
  pub due : (k : ℕ) → from ≤ k → k ≤ to → j.due k ≡ j.due n
