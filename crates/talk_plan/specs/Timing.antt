-- When the packets of a plan are sent, and with which timestamps.
--
-- Instants are whole nanoseconds of gPTP, and never below 0. The events of a stream are its sample frames, counted from
-- 0 in each run. A run begins at the start of the stream, and at each restart of its media clock.
use Rattle.std.specs.Prelude.{ℕ, ◌+◌, ◌-◌, ◌*◌, ◌/◌, ◌%◌, ◌^◌, ◌==◌, Bool, nat_abs, Option, Some, None}
use Rattle.talk_plan.specs.declared.plan.TalkPlan.{TalkPlan}

-- the nominal time from event 0 to event k at `rate` events a second, in nanoseconds, rounded down
abbrev pub nominal_offset : ℕ → ℕ → ℕ
nominal_offset rate k = k * 1000000000 / rate

-- ---- runs

-- the number of the run that packet n is in, counted from 0, if each run has `packets` packets; without restarts, all
-- packets are in run 0
abbrev pub run_by : Option ℕ → ℕ → ℕ
run_by None n = 0
run_by (Some packets) n = n / packets

-- the number of the run that packet n of a plan is in; runs are counted from 0
abbrev pub run_of : TalkPlan → ℕ → ℕ
run_of plan n = run_by plan.restart n

-- the first packet of run g if each run has `packets` packets; without restarts, packet 0
abbrev pub first_by : Option ℕ → ℕ → ℕ
first_by None g = 0
first_by (Some packets) g = g * packets

-- the first packet of run g of a plan
abbrev pub first_packet : TalkPlan → ℕ → ℕ
first_packet plan g = first_by plan.restart g

-- the instant of event 0 of run g: each restart sets the presentation times forward by the plan's jump
abbrev pub run_start : TalkPlan → ℕ → ℕ
run_start plan g =
    nat_abs plan.start + plan.lead + g * plan.jump + nominal_offset plan.rate (first_packet plan g * plan.count)

-- ---- packets

-- sample frame i of packet n is this event of the packet's run
abbrev pub event_of : TalkPlan → ℕ → ℕ → ℕ
event_of plan n i = (n - first_packet plan (run_of plan n)) * plan.count + i

-- the nominal instant of sample frame i of packet n
unfoldable pub nominal_instant : TalkPlan → ℕ → ℕ → ℕ
nominal_instant plan n i = run_start plan (run_of plan n) + nominal_offset plan.rate (event_of plan n i)

-- the nominal instant of the first sample frame of packet n
abbrev pub first_instant : TalkPlan → ℕ → ℕ
first_instant plan n = nominal_instant plan n 0

-- when packet n is sent: `plan.lead` nanoseconds before the nominal instant of the packet's first sample frame
abbrev pub arrival_of : TalkPlan → ℕ → ℕ
arrival_of plan n = first_instant plan n - plan.lead

-- the sequence number of packet n
abbrev pub seq_of : ℕ → ℕ
seq_of n = n % 256

-- the media clock restart bit of packet n, which toggles with each run
abbrev pub mr_of : TalkPlan → ℕ → Bool
mr_of plan n = run_of plan n % 2 == 1

-- the timestamp of an instant: its low 32 bits
abbrev pub timestamp_of : ℕ → ℕ
timestamp_of instant = instant % 2 ^ 32
