-- The verdict on an item: it is accepted, or it is refused for a reason.
use Rattle.std.specs.Prelude.{◌≡◌, ℕ, ◌+◌, ◌==◌, nat_lt, nat_le, Bool, true, false, if◌then◌else◌, ℤ, pos, ◌+ℤ◌, int_lt, List, length, sum_by, Option, Some, None, option_map, Result, Ok, Err}
use Rattle.std.specs.List.{filter_map, list_any}
use Rattle.clock_track.specs.declared.clock_row.ClockRow.{ClockRow}
use Rattle.clock_track.specs.PairLines.{Spot}
use Rattle.clock_track.specs.Rows.{clock_spot}
use Rattle.time_unfold.specs.declared.head_rule.Head.{Head}
use Rattle.time_unfold.specs.Lines.{nominal_line}
use Rattle.sample_schedule.specs.declared.accepted.Accepted.{Accepted}
use Rattle.sample_schedule.specs.declared.entry.Entry.{Entry}
use Rattle.sample_schedule.specs.declared.entry.Entry.TheVariants.{Item as OfItem, Clock as OfClock}
use Rattle.sample_schedule.specs.declared.item.Item.{Item}
use Rattle.sample_schedule.specs.declared.item.Item.TheVariants.{Packet as OfPacket, Unit as OfUnit, Bad as OfBad}
use Rattle.sample_schedule.specs.declared.item.Packet.{Packet}
use Rattle.sample_schedule.specs.declared.item.Unit.{Unit as WholeUnit}
use Rattle.sample_schedule.specs.declared.plan.SchedulePlan.{SchedulePlan}
use Rattle.sample_schedule.specs.declared.shown.Reason.{Reason}
use Rattle.sample_schedule.specs.declared.shown.Reason.TheVariants.{Uncertain, Empty, NoRate, Untimed, NoClock, Late, Repeat, Full}
use Rattle.sample_schedule.specs.Batches.{Presented, sample_instant}
use Rattle.sample_schedule.specs.Order.{standing}
use Rattle.sample_schedule.specs.Heads.{head_of}
pub use Rattle.sorted_keys.specs.Keys.{same_instant}

-- ---- where the samples of an item are

-- The answer of a media clock: where on the clock's lines an instant is. The answer depends on the clock's packets so
-- far, the shift of their timestamps, the instant, and the rate of the stream. The answer is `None` if no line covers
-- the instant.
abbrev pub Clock : Type 0
Clock = List ClockRow → ℤ → ℤ → ℕ → Option Spot

-- If the plan has a clock, the answers of `clock` are those that follow from the packets of the plan's clock. If the
-- plan has no clock, `clock` is not used, and can be any function.
abbrev pub IsClockOf : SchedulePlan → Clock → Type 0
IsClockOf plan clock = plan.clock ≡ true → clock ≡ clock_spot

-- the row of a clock packet, or `None` for an item, because the clock keeps nothing of an item
abbrev pub row_of : Entry → Option ClockRow
row_of (OfItem item) = None
row_of (OfClock arrival row) = Some row

-- `spot`, moved by `n` samples along its line
abbrev pub moved : ℤ → Spot → Spot
moved n spot = record spot { from = spot.from +ℤ n }

-- The spot of a packet's first sample on the nominal line of the packet's head. Sample 0 of that line is the stamped
-- sample.
abbrev pub nominal_spot : ℕ → Head → Spot
nominal_spot rate head = record { line = nominal_line head.instant rate; from = head.first }

-- The spot of a packet's first sample, counted from the packet's head. If the plan has no clock, the spot is on the
-- head's nominal line. If the plan has a clock, the spot is on the clock's line that covers the head's instant; if no
-- line covers that instant, the result is `None`.
abbrev pub spot_of : Clock → SchedulePlan → List Entry → ℕ → Head → Option Spot
spot_of clock plan prefix rate head =
    if plan.clock
    then option_map (moved head.first) (clock (filter_map row_of prefix) plan.shift head.instant rate)
    else Some (nominal_spot rate head)

-- the samples of a packet as a batch whose first sample is at `spot`
abbrev pub samples_at : Packet → Spot → Presented
samples_at p spot =
    record { frame = p.frame; seq = p.seq; line = spot.line; from = spot.from; count = p.count; bytes = p.bytes }

-- a unit of H.264 as a batch whose bytes are all presented at one instant
abbrev pub unit_at_once : WholeUnit → Presented
unit_at_once u =
    record { frame = u.frame; seq = u.seq; line = record { base = u.instant; num = 1; den = 1 }; from = pos 0; count = 1; bytes = u.bytes }

-- the batch if there is one, otherwise the reason
abbrev pub ok_or_reason : Reason → Option Presented → Result Presented Reason
ok_or_reason reason None = Err reason
ok_or_reason reason (Some batch) = Ok batch

-- The samples of a packet, counted from its head. The result is `Untimed` if the packet has no head, and `NoClock` if
-- no line of the clock covers the head's instant.
abbrev pub counted_from : Clock → SchedulePlan → List Entry → Packet → Option Head → Result Presented Reason
counted_from clock plan prefix p None = Err Untimed
counted_from clock plan prefix p (Some head) =
    ok_or_reason NoClock (option_map (samples_at p) (spot_of clock plan prefix p.rate head))

-- The batch that can be made of an item, or the first reason why none can be made. The reasons `Late`, `Repeat` and
-- `Full` are not checked here. `prefix` holds the entries that are known when the item is judged.
unfoldable pub timed : Clock → SchedulePlan → List Entry → Item → Result Presented Reason
timed clock plan prefix (OfPacket p) =
    if p.tu then Err Uncertain else
    if p.count == 0 then Err Empty else
    if p.rate == 0 then Err NoRate else
    counted_from clock plan prefix p (head_of plan prefix p)
timed clock plan prefix (OfUnit u) = Ok (unit_at_once u)
timed clock plan prefix (OfBad b) = Err b.reason

-- ---- the verdict

-- the instant of a batch's first sample
abbrev pub first_instant : Presented → ℤ
first_instant batch = sample_instant batch 0

-- the number of bytes of all accepted batches
abbrev pub total_bytes : List Accepted → ℕ
total_bytes accepted = sum_by (λ a. length a.batch.bytes) accepted

-- the accepted item has this first instant and this sequence number, so it counts as a copy of the same packet
abbrev pub is_copy : ℤ → ℕ → Accepted → Bool
is_copy instant seq a = if same_instant a.instant instant then a.batch.seq == seq else false

-- the buffer holds the maximum number of batches, or `size` more bytes would exceed its room
abbrev pub is_full : SchedulePlan → List Accepted → ℕ → Bool
is_full plan waiting size =
    if nat_le plan.buffer (length waiting) then true else nat_lt plan.room (total_bytes waiting + size)

-- The first condition that holds decides: the first instant has passed (late); a copy was accepted before (repeat); the
-- buffer is full. If none of these conditions holds, the item is accepted.
abbrev pub decided : Bool → Bool → Bool → ℕ → Presented → Result Accepted Reason
decided late repeat full place batch =
    if late then Err Late else
    if repeat then Err Repeat else
    if full then Err Full else
    Ok (record { place = place; instant = first_instant batch; batch = batch })

-- The verdict on the item at index `place`. `now` is the greatest arrival so far, including the arrival of the item,
-- and `earlier` holds the items that were accepted before.
unfoldable pub verdict : SchedulePlan → ℤ → List Accepted → ℕ → Result Presented Reason → Result Accepted Reason
verdict plan now earlier place (Err reason) = Err reason
verdict plan now earlier place (Ok batch) =
    decided
    (int_lt (first_instant batch) now)
    (list_any (is_copy (first_instant batch) batch.seq) earlier)
    (is_full plan (standing now earlier) (length batch.bytes))
    place batch
