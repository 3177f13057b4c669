-- A small capture of a talker with a clock.
use Rattle.std.specs.Prelude.{ℕ, pos, List, [], ◌∷◌, length, None, Some}
use Rattle.pcap_frames.specs.Capture.{Record}
use Rattle.pcap_frames.specs.Frame.{Frame, frame_spelling}
use Rattle.aaf_format.specs.Aaf.{aaf_spelling}
use Rattle.crf_format.specs.Crf.{crf_spelling}
use Rattle.packet_journal.specs.Deliveries.{avtp_ethertype}
use Rattle.packet_journal.specs.Delivered.{Origin, OfClock, OfStream}
use Rattle.packet_journal.specs.Examples.{clock_data, silent}
use Rattle.listener.specs.declared.plan.ListenPlan.{ListenPlan}

-- an Ethernet frame that carries this AVTP packet
abbrev pub framed : List ℕ → Frame
framed packet = record { dst = 0x91E0F000FE00; src = 0x020000000001; tag = None; ethertype = avtp_ethertype; start = 14; payload = packet }

-- a record of this AVTP packet, captured at this time
abbrev pub recorded : ℕ → List ℕ → Record
recorded arrival packet = record { arrival = pos arrival; orig_len = length packet; bytes = frame_spelling (framed packet) }

-- a record of packet n of `clocked_packets`, captured at this time
abbrev pub recorded_stream : ℕ → ℕ → Record
recorded_stream arrival n = recorded arrival (aaf_spelling (silent n))

-- a record of packet m of the clock of `clocked_packets`, captured at this time
abbrev pub recorded_clock : ℕ → ℕ → Record
recorded_clock arrival m = recorded arrival (crf_spelling (clock_data m))

-- the packets that the example's capture carries: two packets of the clock, then packet 34, and then packet 33 twice
abbrev pub swapped : List Origin
swapped = OfClock 0 ∷ OfClock 1 ∷ OfStream 34 ∷ OfStream 33 ∷ OfStream 33 ∷ []

-- the records of the example's capture: two packets of the clock, then packet 34, and then packet 33 twice
abbrev pub swapped_records : List Record
swapped_records =
    recorded_clock 1003000000 0 ∷
    recorded_clock 1003100000 1 ∷
    recorded_stream 1003200000 34 ∷
    recorded_stream 1003300000 33 ∷
    recorded_stream 1003400000 33 ∷
    []

-- A listener with the clock of `clocked_packets`. The listener adds a microsecond to the clock's timestamps. All other
-- options of the listener have the default values of `listen`.
abbrev pub clocked_listener : ListenPlan
clocked_listener = record { stream = 0x0200000000010001; clock = Some 0x0200000000010002; buffer = 4096; room = 67108864; look = 0; lead = 2000000; shift = pos 1000 }
