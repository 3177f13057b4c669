-- What `soak` prints and how it ends.
use Rattle.std.specs.Prelude.{ℕ, List}
use Rattle.avtp_text.specs.Soak.{soak_line}
use Rattle.soak_run.specs.Outcomes.{soak_counts}

-- the whole text of `soak`: what becomes of the deliveries of this many packets
abbrev pub soak_report : ℕ → List ℕ
soak_report packets = soak_line packets (soak_counts packets)
