-- The deliveries of a stream over a bad network. Drawn numbers decide which packets are lost, copied or late. This
-- project defines the network; no standard does.
use Rattle.std.specs.Prelude.{ℕ, ℤ, pos, zero, suc, ◌+◌, ◌*◌, ◌%◌, ◌==◌, true, int_lt, if◌then◌else◌, List, [], ◌∷◌, map, None}
use Rattle.std.specs.List.{flat_map, range_with_len}
use Rattle.aaf_format.specs.declared.aaf.AafFormat.TheVariants.{Int16}
use Rattle.talk_plan.specs.declared.plan.TalkKind.TheVariants.{Aaf}
use Rattle.talk_plan.specs.declared.plan.TalkPlan.{TalkPlan}
use Rattle.soak_run.specs.Generator.{draw_after}
use Rattle.talk_plan.specs.Timing.{arrival_of}

-- the stream: sparse PCM
abbrev pub soak_plan : TalkPlan
soak_plan = record {
  kind = Aaf Int16 true;
  rate = 48000;
  channels = 2;
  count = 6;
  id = 0x0200000000010001;
  start = pos 1000000000;
  lead = 2000000;
  restart = None;
  jump = 1000000;
  crf = None;
}

-- ---- what a number that is drawn means

-- the number of copies of a packet that are delivered: one packet in 16 is lost, and one in 16 is delivered twice
abbrev pub copies_by : ℕ → ℕ
copies_by draw = if draw % 16 == 0 then 0 else if draw % 16 == 1 then 2 else 1

-- the delay of a copy, in nanoseconds
abbrev pub delay_by : ℕ → ℕ
delay_by draw = draw % 64 * 40000

-- ---- the copies of each packet

-- How many numbers are drawn before the number for packet n. For each earlier packet, one number is drawn for the
-- packet, and one for each of its copies.
unfoldable pub draws_before : ℕ → ℕ → ℕ
draws_before seed zero = 0
draws_before seed (suc n) = draws_before seed n + 1 + copies_by (draw_after seed (draws_before seed n))

-- how many copies of packet n are delivered
abbrev pub copies_of : ℕ → ℕ → ℕ
copies_of seed n = copies_by (draw_after seed (draws_before seed n))

-- copy k of packet n: when it arrives, in nanoseconds of gPTP, and the number of the packet
abbrev pub copy_of : ℕ → ℕ → ℕ → ℤ × ℕ
copy_of seed n k = (pos (arrival_of soak_plan n + delay_by (draw_after seed (draws_before seed n + 1 + k))), n)

-- the copies of packet n
abbrev pub copies : ℕ → ℕ → List (ℤ × ℕ)
copies seed n = map (copy_of seed n) (range_with_len 0 (copies_of seed n))

-- the copies of this many packets, from packet 0 on, one packet after another
abbrev pub all_copies : ℕ → ℕ → List (ℤ × ℕ)
all_copies seed packets = flat_map (copies seed) (range_with_len 0 packets)

-- ---- the copies, sorted by arrival

-- a sorted list where one more copy was inserted, directly after all copies that arrive earlier
abbrev pub put_in : ℤ × ℕ → List (ℤ × ℕ) → List (ℤ × ℕ)
put_in copy [] = copy ∷ []
put_in copy (next ∷ rest) = if int_lt next.0 copy.0 then next ∷ put_in copy rest else copy ∷ next ∷ rest

-- copies sorted by arrival; copies with the same arrival keep their order
abbrev pub by_arrival : List (ℤ × ℕ) → List (ℤ × ℕ)
by_arrival [] = []
by_arrival (copy ∷ rest) = put_in copy (by_arrival rest)

-- The deliveries of this many packets, from packet 0 on. The deliveries are sorted by arrival, then by packet, then by
-- copy. The seed of the noise is the number of packets.
abbrev pub deliveries_of : ℕ → List (ℤ × ℕ)
deliveries_of packets = by_arrival (all_copies packets packets)
