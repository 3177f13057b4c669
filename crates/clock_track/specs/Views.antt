-- A clock packet with borrowed timestamps, and the answer of a search for a line.
use Rattle.std.specs.Prelude.{pos, Option, Some, None}
use Rattle.clock_track.specs.declared.clock_row.ClockRow.{ClockRow}
use Rattle.clock_track.specs.declared.clock_row.Points.{Points}
use Rattle.clock_track.specs.declared.answer.ClockAnswer.{ClockAnswer}
use Rattle.clock_track.specs.declared.answer.ClockAnswer.TheVariants.{OnLine, NoClock}
use Rattle.clock_track.specs.PairLines.{Spot}

-- the value of a clock packet with borrowed timestamps
abbrev pub row_of : Points → ClockRow
row_of points = record {
  usable = points.usable;
  seq = points.seq;
  mr = points.mr;
  base_frequency = points.base_frequency;
  pull = points.pull;
  interval = points.interval;
  payload = points.payload.now;
}

-- the line of an answer and the sample's number on it; `None` if there is no line
abbrev pub answered : ClockAnswer → Option Spot
answered (OnLine line offset) = Some (record { line = line; from = pos offset })
answered NoClock = None
