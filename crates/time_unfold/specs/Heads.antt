-- The rules for timestamps of audio packets. A packet's timestamp belongs to one of the packet's samples. A packet
-- without a timestamp is counted from a stamped sample of an earlier packet. Packets are numbered through the stream; a
-- packet's number can be given modulo 256.
use Rattle.std.specs.Prelude.{ℕ, ◌+◌, ◌-◌, ◌*◌, ◌%◌, ◌==◌, nat_lt, if◌then◌else◌, Option, Some, None}
use Rattle.std.specs.Int.{div_ceil}
use Rattle.time_unfold.specs.declared.head_rule.Distance.{Distance}
use Rattle.time_unfold.specs.declared.head_rule.HeadRule.{HeadRule}
use Rattle.time_unfold.specs.declared.head_rule.HeadRule.TheVariants.{Own, Eight, Blocks}

-- A packet's timestamp belongs to one sample, and the result is the index of that sample. In AAF, the timestamp belongs
-- to the first sample (IEEE 1722-2016, 7). In IEC 61883-6 the timestamp belongs to the first block whose block count is
-- a multiple of the interval.
abbrev pub stamped_index : HeadRule → ℕ
stamped_index Own = 0
stamped_index Eight = 0
stamped_index (Blocks dbc interval) = (interval - dbc % interval) % interval

-- in IEC 61883-6, a packet's timestamp belongs to one block; the result is the block count of that block, modulo 256,
-- or `None` for AAF
abbrev pub stamped_block : HeadRule → Option ℕ
stamped_block Own = None
stamped_block Eight = None
stamped_block (Blocks dbc interval) = Some ((dbc + stamped_index (Blocks dbc interval)) % 256)

-- How far back the stamped sample is from packet n, if packet n has `count` samples and no timestamp. In sparse AAF,
-- the stamped sample is the first sample of the nearest earlier packet whose number is a multiple of 8. In IEC 61883-6,
-- the stamped sample is the nearest earlier block whose block count is a multiple of the interval. `None` for AAF that
-- is not sparse. The result is also `None` if the packet's own first sample should be stamped, or if the stamped sample
-- is more than 7 packets back.
abbrev pub distance : HeadRule → ℕ → ℕ → Option Distance
distance Own n count = None
distance Eight n count =
    if n % 8 == 0 then None else Some (record { packets = n % 8; samples = n % 8 * count })
distance (Blocks dbc interval) n count =
    if dbc % interval == 0 then None else
    if nat_lt 7 (div_ceil (dbc % interval) count) then None else
    Some (record { packets = div_ceil (dbc % interval) count; samples = dbc % interval })

-- The time of a packet without a timestamp is counted from an earlier stamped block. In IEC 61883-6, the result is the
-- block count of that block, modulo 256; for AAF it is `None`.
abbrev pub counted_block : HeadRule → Option ℕ
counted_block Own = None
counted_block Eight = None
counted_block (Blocks dbc interval) = Some ((dbc + 256 - dbc % interval) % 256)
