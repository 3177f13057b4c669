-- The line of `soak`.
use Rattle.std.specs.Prelude.{List, ℕ, ◌++◌, codes, decimal}
use Rattle.soak_run.specs.declared.counts.SoakCounts.{SoakCounts}
use Rattle.avtp_text.specs.Pieces.{newline}

-- the line of `soak`: the number of packets, and what became of their deliveries
unfoldable pub soak_line : ℕ → SoakCounts → List ℕ
soak_line packets counts =
    codes "soak " ++ decimal packets
    ++ codes " delivered " ++ decimal counts.delivered
    ++ codes " presented " ++ decimal counts.presented
    ++ codes " late " ++ decimal counts.late
    ++ codes " repeat " ++ decimal counts.repeat
    ++ codes " untimed " ++ decimal counts.untimed
    ++ codes " full " ++ decimal counts.full
    ++ newline
