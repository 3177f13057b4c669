-- The bytes that devices write to their files for the items that they took.
use Rattle.std.specs.Prelude.{ℕ, ◌*◌, ◌/◌, ◌%◌, ◌==◌, not, if◌then◌else◌, min, ℤ, pos, negsuc, ◌+ℤ◌, ◌-ℤ◌, ◌*ℤ◌, List, [], ◌∷◌, ◌++◌, length, map, filter, flat_map, Option, None, Some}
use Rattle.std.specs.List.{filter_map, range_with_len}
use Rattle.sample_schedule.specs.Batches.{Presented, is_unit, sample_instant}
use Rattle.sample_schedule.specs.declared.shown.Shown.{Shown}
use Rattle.sample_schedule.specs.declared.shown.Shown.TheVariants.{Present, Flag}
use Rattle.time_unfold.specs.declared.line.Line.{Line}
use Rattle.time_unfold.specs.Lines.{floor_of}
use Rattle.device_rack.specs.declared.silent_bytes.Silence.{Silence}
use Rattle.device_rack.specs.declared.silent_bytes.Silence.TheVariants.{Zero, Am824}

-- the batch of an item, if the item is presented
abbrev pub batch_of : Shown → Option Presented
batch_of (Present batch) = Some batch
batch_of (Flag frame seq reason) = None

-- the batches of all items that are presented, in order
abbrev pub batches : List Shown → List Presented
batches items = filter_map batch_of items

-- the units of H.264 among the items that are presented, in order
abbrev pub units : List Shown → List Presented
units items = filter is_unit (batches items)

-- the batches of samples among the items that are presented, in order
abbrev pub sample_batches : List Shown → List Presented
sample_batches items = filter (λ batch. not (is_unit batch)) (batches items)

-- ---- a byte stream of units (ITU-T H.264, annex B): each after a start code

-- the units of the items as a byte stream (ITU-T H.264, annex B): each after the start code 00 00 00 01
abbrev pub annexb : List Shown → List ℕ
annexb items = flat_map (λ (unit : Presented). 0 ∷ 0 ∷ 0 ∷ 1 ∷ unit.bytes) (units items)

-- ---- raw samples, with silence for missing ones

-- the number of bytes in one sample of a batch, with all channels
abbrev pub sample_size : Presented → ℕ
sample_size batch = length batch.bytes / batch.count

-- an integer, or 0 if it is negative
abbrev pub at_least_0 : ℤ → ℕ
at_least_0 (pos n) = n
at_least_0 (negsuc n) = 0

-- How many samples of a line fit a span of nanoseconds. The number is rounded to the nearest whole number, and half a
-- sample is rounded up. The number is span * den / num + 1 / 2, rounded down, or 0 if this is negative.
abbrev pub samples_in : Line → ℤ → ℕ
samples_in line span = at_least_0 (floor_of (pos 2 *ℤ span *ℤ pos line.den +ℤ pos line.num) (2 * line.num))

-- the maximum number of bytes of silence that are written between two batches
abbrev pub longest_silence : ℕ
longest_silence = 16777216

-- the number of bytes of silence for a span of nanoseconds, in whole samples of `size` bytes
abbrev pub silent_bytes : Line → ℕ → ℤ → ℕ
silent_bytes line size span = min (samples_in line span) (longest_silence / size) * size

-- byte j of silence: for AM824, byte j of a sequence of quadlets 40 00 00 00 (IEC 61883-6); otherwise, 0
abbrev pub silent_byte : Silence → ℕ → ℕ
silent_byte Zero j = 0
silent_byte Am824 j = if j % 4 == 0 then 0x40 else 0

-- `count` bytes of silence
abbrev pub silence_of : Silence → ℕ → List ℕ
silence_of silence count = map (silent_byte silence) (range_with_len 0 count)

-- The silence from the end of the batch `before` to the next batch, in samples of the line of `before`. If the next
-- batch is the first one, there is no silence.
abbrev pub silence_before : Silence → Option Presented → Presented → List ℕ
silence_before silence None batch = []
silence_before silence (Some before) batch =
    silence_of silence (silent_bytes before.line (sample_size before) (sample_instant batch 0 -ℤ sample_instant before before.count))

-- the bytes of the batches of samples in a list, each batch after its silence; `before` is the batch that precedes the
-- list
abbrev pub raw_behind : Silence → Option Presented → List Presented → List ℕ
raw_behind silence before [] = []
raw_behind silence before (batch ∷ batches) =
    silence_before silence before batch ++ batch.bytes ++ raw_behind silence (Some batch) batches

-- The bytes that are written for the samples of items, with silence for samples that are missing between two batches.
-- Units and flags between the batches do not matter. The items of all files of one run are one list, so silence between
-- two files follows the rule for silence between two batches.
abbrev pub raw : Silence → List Shown → List ℕ
raw silence items = raw_behind silence None (sample_batches items)
