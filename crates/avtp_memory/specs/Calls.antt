-- Numbers of calls and of faults.
use Rattle.std.specs.Prelude.{ℕ, ◌+◌, min}
use Rattle.avtp_base.specs.Faults.{last_count}

-- n + 1, but at most the greatest 64-bit number
abbrev pub next_number : ℕ → ℕ
next_number n = min (n + 1) last_count
