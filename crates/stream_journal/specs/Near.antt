-- How near two instants are, as a multiple of a packet's time.
use Rattle.std.specs.Prelude.{ℕ, ◌*◌, ◌≤◌, ℤ, ◌-ℤ◌, unsigned_abs}
use Rattle.stream_journal.specs.Journal.{Journal}

-- two instants differ by at most the time of this many packets, at the journal's rate and count
abbrev pub IsNear : Journal → ℕ → ℤ → ℤ → Type 0
IsNear j times x y = unsigned_abs (x -ℤ y) * j.rate ≤ times * (j.count * 1000000000)
