-- Clock points that were worked out by hand.
use Rattle.std.specs.Prelude.{ℕ, Bool, true, false, pos, List, [], ◌∷◌}
use Rattle.byteorder.specs.Endian.{big_bytes}
use Rattle.clock_track.specs.declared.clock_row.ClockRow.{ClockRow}
use Rattle.clock_track.specs.declared.pair.Pair.{Pair}

-- two points of a 44.1 kHz clock, 147 events apart; 147 events take 3,333,333 1/3 ns
abbrev pub second_pair : Pair
second_pair = record { earlier = pos 1002000000; later = pos 1005333333; interval = 147; up = 44100; down = 1 }

-- a clock packet with this sequence number, restart bit, base frequency in Hz and timestamp; it has no other timestamp,
-- and its interval is 96 events
abbrev pub worked_row : ℕ → Bool → ℕ → ℕ → ClockRow
worked_row seq mr base timestamp = record {
  usable = true;
  seq = seq;
  mr = mr;
  base_frequency = base;
  pull = 0;
  interval = 96;
  payload = big_bytes 8 timestamp;
}

-- Two successive clock packets with this base frequency in Hz. The points of the two packets are 2 ms apart. If
-- `restarts` is true, the clock restarts between the two packets.
abbrev pub worked_rows : ℕ → Bool → List ClockRow
worked_rows base restarts = worked_row 255 false base 1002000000 ∷ worked_row 0 restarts base 1004000000 ∷ []
