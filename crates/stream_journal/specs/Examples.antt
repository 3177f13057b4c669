-- Small journals, which show what the rules of a talker demand.
use Rattle.std.specs.Prelude.{ℕ, zero, suc, ◌+◌, ◌-◌, ◌*◌, ◌%◌, ◌==◌, nat_lt, nat_le, if◌then◌else◌, List, [], ◌∷◌, get_or, false, Option, Some, None}
use Rattle.stream_journal.specs.Clocks.{ClockJournal, no_clock}
use Rattle.stream_journal.specs.Delivered.{Copy}
use Rattle.stream_journal.specs.Journal.{Journal, DenseAaf, SparseAaf, Am824, H264, Part, Single, First, Middle, Last}

-- Three packets of 6 sample frames at 48 kHz, `spacing` nanoseconds apart. Each packet has a timestamp.
abbrev pub three_packets : ℕ → Journal
three_packets spacing = record {
  kind = DenseAaf;
  rate = 48000;
  count = 6;
  packets = 3;
  due = λ n. 1002000000 + n * spacing;
  stamp = λ n. Some (1002000000 + n * spacing);
  mr = λ n. false;
  clock = no_clock;
}

-- the instant at which packet n is due: 125 microseconds after the packet before it, or 1,125 microseconds for packet
-- 10
abbrev pub restarted_due : ℕ → ℕ
restarted_due n = if nat_lt n 10 then 1002000000 + n * 125000 else 1004250000 + (n - 10) * 125000

-- Twenty packets of 6 sample frames at 48 kHz in sparse mode. Every eighth packet has a timestamp. The media clock
-- restarts at packet 10, which is a millisecond late.
abbrev pub restarted : Journal
restarted = record {
  kind = SparseAaf;
  rate = 48000;
  count = 6;
  packets = 20;
  due = restarted_due;
  stamp = λ n. if n % 8 == 0 then Some (restarted_due n) else None;
  mr = λ n. nat_le 10 n;
  clock = no_clock;
}

-- a copy of the packet with this number, captured at this time
abbrev pub came : ℕ → ℕ → Copy
came number arrival = record { number = number; arrival = arrival }

-- What reaches a listener of `restarted`. Packet 8 is lost, packet 5 arrives twice, and packet 18 arrives before packet
-- 17.
abbrev pub restarted_copies : List Copy
restarted_copies =
    came 0 1000000000 ∷
    came 1 1000125000 ∷
    came 2 1000250000 ∷
    came 3 1000375000 ∷
    came 4 1000500000 ∷
    came 5 1000625000 ∷
    came 5 1000675000 ∷
    came 6 1000750000 ∷
    came 7 1000875000 ∷
    came 9 1001125000 ∷
    came 10 1002250000 ∷
    came 11 1002375000 ∷
    came 12 1002500000 ∷
    came 13 1002625000 ∷
    came 14 1002750000 ∷
    came 15 1002875000 ∷
    came 16 1003000000 ∷
    came 18 1003250000 ∷
    came 17 1003260000 ∷
    came 19 1003375000 ∷
    []

-- Eight packets of 6 data blocks of AM824, with blocks counted from 0. The two lists say when the packets are due, and
-- which timestamps they have.
abbrev pub blocks_of_six : ℕ → ℕ → List ℕ → List (Option ℕ) → Journal
blocks_of_six rate interval dues stamps = record {
  kind = Am824 interval (λ n. n * 6 % 256);
  rate = rate;
  count = 6;
  packets = 8;
  due = λ n. get_or dues n 0;
  stamp = λ n. get_or stamps n None;
  mr = λ n. false;
  clock = no_clock;
}

-- At 48 kHz every eighth block has a timestamp: block 0 of packet 0, block 2 of packet 1, and block 4 of packet 2.
-- Packet 3 has no timestamp. Packets 4 to 7 repeat this pattern.
abbrev pub each_eighth : Journal
each_eighth = blocks_of_six 48000 8
    (1002000000 ∷ 1002124999 ∷ 1002249999 ∷ 1002374999 ∷ 1002500000 ∷ 1002624999 ∷ 1002749999 ∷ 1002874999 ∷ [])
    (Some 1002000000 ∷ Some 1002166666 ∷ Some 1002333333 ∷ None ∷ Some 1002500000 ∷ Some 1002666666 ∷ Some 1002833333 ∷ None ∷ [])

-- At 96 kHz every sixteenth block has a timestamp: block 0 of packet 0, block 4 of packet 2 and block 2 of packet 5.
abbrev pub each_sixteenth : Journal
each_sixteenth = blocks_of_six 96000 16
    (1002000000 ∷ 1002062500 ∷ 1002124999 ∷ 1002187499 ∷ 1002249999 ∷ 1002312499 ∷ 1002374999 ∷ 1002437499 ∷ [])
    (Some 1002000000 ∷ None ∷ Some 1002166666 ∷ None ∷ None ∷ Some 1002333333 ∷ None ∷ None ∷ [])

-- What reaches a listener of `each_sixteenth`. Packets 3 and 4 are counted from the timestamp of packet 2. Packet 2 is
-- lost, so this timestamp is missing.
abbrev pub sixteenth_copies : List Copy
sixteenth_copies =
    came 0 1000000000 ∷
    came 1 1000062500 ∷
    came 3 1000187500 ∷
    came 4 1000250000 ∷
    came 5 1000312500 ∷
    came 6 1000375000 ∷
    came 7 1000437500 ∷
    []

-- Sixty-four packets of 6 sample frames at 48 kHz, each with a timestamp. The clock has the base frequency `base`. The
-- clock's two packets have two points each. Adjacent points are 2 ms apart, with an interval of 96 events.
abbrev pub clocked : ℕ → Journal
clocked base = record {
  kind = DenseAaf;
  rate = 48000;
  count = 6;
  packets = 64;
  due = λ n. 1002000000 + n * 125000;
  stamp = λ n. Some (1002000000 + n * 125000);
  mr = λ n. false;
  clock = record {
    base = base;
    pull = 0;
    interval = 96;
    packets = 2;
    points = λ m. (1002000000 + m * 4000000) ∷ (1004000000 + m * 4000000) ∷ [];
    mr = λ m. false;
  };
}

-- the parts of four packets: a whole NAL unit, and the first, the middle and the last fragment of another
abbrev pub video_part : ℕ → Part
video_part zero = Single
video_part (suc zero) = First
video_part (suc (suc zero)) = Middle
video_part (suc (suc (suc n))) = Last

-- Four packets of H.264: a whole NAL unit, and a unit of three fragments. The last packet of each unit has a timestamp.
-- The two units belong to different access units, whose instants differ by a thirtieth of a second.
abbrev pub video : Journal
video = record {
  kind = H264 video_part;
  rate = 30;
  count = 1;
  packets = 4;
  due = λ n. if n == 0 then 1002000000 else 1035333333;
  stamp = λ n. if n == 0 then Some 1002000000 else if n == 3 then Some 1035333333 else None;
  mr = λ n. false;
  clock = no_clock;
}

-- ---- examples at the limits of the rules

-- a clock without packets, with this pull code
abbrev pub pulled : ℕ → ClockJournal
pulled pull = record no_clock { pull = pull }

-- a clock of 48 kHz with three points, 96 events apart; the last point is `late` nanoseconds late
abbrev pub unsteady : ℕ → ClockJournal
unsteady late = record {
  base = 48000;
  pull = 0;
  interval = 96;
  packets = 1;
  points = λ m. 1002000000 ∷ 1004000000 ∷ (1006000000 + late) ∷ [];
  mr = λ m. false;
}

-- A clock of 44.1 kHz with three points; the last point is 4,000 ns early. Some instants are covered by both pairs of
-- points, and a packet is due at one of these instants.
abbrev pub overlapped : Journal
overlapped = record {
  kind = DenseAaf;
  rate = 48000;
  count = 6;
  packets = 1;
  due = λ n. 1005988000;
  stamp = λ n. Some 1005988000;
  mr = λ n. false;
  clock = record {
    base = 44100;
    pull = 0;
    interval = 96;
    packets = 1;
    points = λ m. 1002000000 ∷ 1004000000 ∷ 1005996000 ∷ [];
    mr = λ m. false;
  };
}

-- `packets` whole NAL units in one access unit, each with a timestamp
abbrev pub one_access_unit : ℕ → Journal
one_access_unit packets = record {
  kind = H264 (λ n. Single);
  rate = 30;
  count = 1;
  packets = packets;
  due = λ n. 1002000000;
  stamp = λ n. Some 1002000000;
  mr = λ n. false;
  clock = no_clock;
}
