-- How the batches that a listener presents are cut into pieces. Each piece is carried by one packet of the other
-- format.
use Rattle.std.specs.Prelude.{ℕ, zero, suc, ◌+◌, ◌-◌, ◌*◌, ◌/◌, ◌%◌, ◌^◌, ◌==◌, min, Bool, true, false, not, ◌&&◌, nat_lt, if◌then◌else◌, ℤ, pos, ◌+ℤ◌, ◌-ℤ◌, int_le, List, [], ◌∷◌, length, Option, Some, None}
use Rattle.std.specs.Int.{div_ceil, int_max}
use Rattle.std.specs.List.{list_any}
use Rattle.std.specs.Ordering.{int_eq}
use Rattle.sample_schedule.specs.Batches.{Presented, is_unit, sample_instant}
use Rattle.talk_plan.specs.Plan.{interval_of, most_blocks, most_samples}
use Rattle.talk_plan.specs.Timing.{nominal_offset}
use Rattle.am824_gateway.specs.declared.piece.Piece.{Piece}
use Rattle.am824_gateway.specs.declared.scan.Shape.{Shape}
use Rattle.am824_gateway.specs.declared.scan.To.{To}
use Rattle.am824_gateway.specs.declared.scan.To.TheVariants.{Aaf, Am824}
use Rattle.am824_gateway.specs.declared.skip.Skip.{Skip}
use Rattle.am824_gateway.specs.declared.skip.Skip.TheVariants.{ShapeOff, Overlap, Range}
use Rattle.am824_gateway.specs.Labels.{are_linear, value_in, value_out}

-- ---- sizes

-- the maximum number of bytes of samples that a packet of this format can hold in an Ethernet frame
abbrev pub most_bytes : To → ℕ
most_bytes Am824 = most_blocks
most_bytes Aaf = most_samples

-- the maximum number of sample frames in a packet of this format
abbrev pub most_frames : To → ℕ → ℕ
most_frames to channels = most_bytes to / (value_out to * channels)

-- ---- where a batch is cut

-- A piece begins with sample `first` of a batch. Sample k of this piece is at its nominal instant, counted from the
-- piece's first sample. Listeners compute the instants of a packet's samples from the packet's timestamp in the same
-- way.
abbrev pub is_nominal : ℕ → Presented → ℕ → ℕ → Bool
is_nominal rate batch first k =
    int_eq (sample_instant batch (first + k)) (sample_instant batch first +ℤ pos (nominal_offset rate k))

-- At most `more` samples are tested in order, from sample k on. The result is the number of the first sample that fails
-- the test. If no sample fails, the result is k + more.
abbrev pub going_on : (ℕ → Bool) → ℕ → ℕ → ℕ
going_on test k zero = k
going_on test k (suc more) = if test k then going_on test (suc k) more else k

-- The number of samples in the piece that begins with sample `first` of a batch. The piece goes on as long as three
-- conditions hold: it has fewer samples than a packet can have, the batch has a further sample, and that sample is at
-- its nominal instant.
abbrev pub piece_count : To → Shape → Presented → ℕ → ℕ
piece_count to shape batch first =
    going_on (is_nominal shape.rate batch first) 1 (min (most_frames to shape.channels) (batch.count - first) - 1)

-- ---- block counts

-- The block count of the first data block of an AM824 packet: add the previous packet's number of blocks to that
-- packet's block count, raise the sum to a multiple of SYT_INTERVAL, and take it modulo 256. So the timestamp always
-- belongs to the packet's first block (IEC 61883-6). If the sum is not already a multiple of SYT_INTERVAL, the block
-- count has a gap before this packet.
abbrev pub next_block : ℕ → ℕ → ℕ → ℕ
next_block interval block count = div_ceil (block + count) interval * interval % 256

-- the block count of the packet after these pieces, if the first piece has the block count `block`
abbrev pub block_after : ℕ → ℕ → List Piece → ℕ
block_after interval block [] = block
block_after interval block (p ∷ pieces) = block_after interval (next_block interval p.block p.count) pieces

-- ---- the pieces of a batch

-- at most `most` pieces of a batch, from sample `first` on; the first piece has the block count `block`
abbrev pub pieces_from : To → Shape → Presented → ℕ → ℕ → ℕ → List Piece
pieces_from to shape batch zero first block = []
pieces_from to shape batch (suc most) first block =
    if nat_lt first batch.count then
    record { first = first; count = piece_count to shape batch first; block = block }
    ∷ pieces_from to shape batch most (first + piece_count to shape batch first)
    (next_block (interval_of shape.rate) block (piece_count to shape batch first))
    else []

-- The pieces of a batch, in order. The first piece has this block count. Each piece has at least one sample, so a batch
-- never has more pieces than samples.
abbrev pub pieces_of : To → Shape → Presented → ℕ → List Piece
pieces_of to shape batch block = pieces_from to shape batch batch.count 0 block

-- ---- arrivals

-- a packet arrives this long before its presentation time, in nanoseconds: the max transit time of stream reservation
-- class A (IEEE 802.1BA)
abbrev pub transit : ℕ
transit = 2000000

-- the arrival of a packet whose first sample is presented at this instant; no packet arrives before 0
abbrev pub arrival_at : ℤ → ℤ
arrival_at instant = int_max (instant -ℤ pos transit) (pos 0)

-- 2^32 seconds, in nanoseconds: a capture cannot state an arrival at or after that time
abbrev pub captures_end : ℕ
captures_end = 2 ^ 32 * 1000000000

-- The packet of this piece would arrive at a time that a capture cannot state.
abbrev pub is_late : Presented → Piece → Bool
is_late batch p = int_le (pos captures_end) (arrival_at (sample_instant batch p.first))

-- ---- what is skipped

-- The history of a gateway: the number of batches that were not skipped, and the number of their packets; the block
-- count of the next packet; and the instant of the last sample.
pub record Given : Type 0 where
  pub batches : ℕ
  pub packets : ℕ
  pub block : ℕ
  pub last : Option ℤ

-- the history of a gateway before its first batch
abbrev pub nothing_given : Given
nothing_given = record { batches = 0; packets = 0; block = 0; last = None }

-- each value that has a label has the label of linear audio of 24 bits
abbrev pub has_labels : To → List ℕ → Bool
has_labels Am824 bytes = true
has_labels Aaf bytes = are_linear bytes

-- A batch consists of samples of this shape: it is not a unit of H.264, and it has one value of 24 bits for each
-- channel of each sample. If the values have labels, each label is that of linear audio of 24 bits.
abbrev pub has_shape : To → Shape → Presented → Bool
has_shape to shape batch =
    not (is_unit batch)
    && (length batch.bytes == batch.count * (value_in to * shape.channels))
    && has_labels to batch.bytes

-- the batch begins at or before `last`, the instant of the last sample of the batches that were not skipped
abbrev pub overlaps : Option ℤ → Presented → Bool
overlaps None batch = false
overlaps (Some last) batch = int_le (sample_instant batch 0) last

-- Why a batch of a stream of this shape is skipped; `None` if it is not skipped. `given` is the gateway's history
-- before this batch.
abbrev pub skip_by : To → Shape → Given → Presented → Option Skip
skip_by to shape given batch =
    if not (has_shape to shape batch) then Some ShapeOff
    else if overlaps given.last batch then Some Overlap
    else if list_any (is_late batch) (pieces_of to shape batch given.block) then Some Range
    else None

-- Why a batch is skipped; `None` if it is not skipped. `ShapeOff`: the stream has no shape, or the batch has another
-- shape. `Overlap`: the batch begins at or before the last sample of the batches that were not skipped. `Range`: a
-- packet of the batch would arrive too late for a capture.
abbrev pub skip_of : To → Option Shape → Given → Presented → Option Skip
skip_of to None given batch = Some ShapeOff
skip_of to (Some shape) given batch = skip_by to shape given batch

-- the gateway's history after `batch`, which is not skipped; `given` is the history before it
abbrev pub given_with : To → Shape → Given → Presented → Given
given_with to shape given batch = record {
  batches = given.batches + 1;
  packets = given.packets + length (pieces_of to shape batch given.block);
  block = block_after (interval_of shape.rate) given.block (pieces_of to shape batch given.block);
  last = Some (sample_instant batch (batch.count - 1));
}

-- the first value if a batch is not skipped, and the second value if it is skipped
abbrev pub unless : {T : Type 0} → Option Skip → T → T → T
unless None given skipped = given
unless (Some skip) given skipped = skipped

-- the gateway's history after `batches`; `given` is the history before them, and a skipped batch leaves the history as
-- it is
abbrev pub given_by : To → Shape → Given → List Presented → Given
given_by to shape given [] = given
given_by to shape given (batch ∷ batches) = given_by to shape (unless (skip_by to shape given batch) (given_with to shape given batch) given) batches
