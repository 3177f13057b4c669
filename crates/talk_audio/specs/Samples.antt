-- The samples of a plan's packets. The input consists of sample frames, one after another.
use Rattle.std.specs.Prelude.{ℕ, ◌*◌, ◌/◌, ◌%◌, ◌==◌, Bool, List, ◌++◌, length, take, drop}
use Rattle.std.specs.Int.{div_ceil}

-- the input is a whole number of sample frames of `frame` bytes
abbrev pub is_whole : ℕ → List ℕ → Bool
is_whole frame input = length input % frame == 0

-- how many packets of `count` sample frames are needed to hold the input; the last packet can be partly filled
abbrev pub packets_for : ℕ → ℕ → List ℕ → ℕ
packets_for frame count input = div_ceil (length input / frame) count

-- `count` sample frames of the input from sample frame `first` on, or fewer if the input ends earlier
abbrev pub sample_frames : ℕ → ℕ → ℕ → List ℕ → List ℕ
sample_frames frame first count input = take (count * frame) (drop (first * frame) input)

-- the samples, followed by silence up to the size of a packet
abbrev pub filled_up : List ℕ → List ℕ → List ℕ
filled_up silence samples = samples ++ drop (length samples) silence

-- the samples of packet n, with silence after the end of the input
unfoldable pub samples_of : List ℕ → ℕ → ℕ → List ℕ → ℕ → List ℕ
samples_of silence frame count input n = filled_up silence (sample_frames frame (n * count) count input)
