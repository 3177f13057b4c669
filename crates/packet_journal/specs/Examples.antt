-- Small journals with their packets.
use Rattle.std.specs.Prelude.{ℕ, ◌+◌, ◌*◌, ◌%◌, ◌^◌, false, true, is_some, unwrap_or, [], ◌++◌, flat_map, replicate}
use Rattle.byteorder.specs.Endian.{big_bytes}
use Rattle.avtp_header.specs.declared.header.StreamHeader.{StreamHeader}
use Rattle.aaf_format.specs.declared.aaf.AafFormat.TheVariants.{Int16}
use Rattle.aaf_format.specs.Aaf.{Aaf}
use Rattle.iec61883_format.specs.Iec.{Iec}
use Rattle.crf_format.specs.Crf.{Crf}
use Rattle.stream_journal.specs.Journal.{Journal}
use Rattle.stream_journal.specs.Examples.{clocked, each_eighth, restarted}
use Rattle.packet_journal.specs.Packets.{Am824Data, PacketJournal, Pcm}

-- The stream header of packet n. The stream is stereo PCM of 16 bits at 48 kHz, with 6 sample frames in each packet.
abbrev pub silent_header : Journal → ℕ → StreamHeader
silent_header j n = record {
  subtype = 2;
  sv = true;
  mr = j.mr n;
  format_bits = 0;
  tv = is_some (j.stamp n);
  seq = n % 256;
  tu = false;
  stream_id = 0x0200000000010001;
  timestamp = unwrap_or (j.stamp n) 0 % 2 ^ 32;
  data_length = 24;
}

-- packet n of `restarted`: 6 silent stereo sample frames of 16 bits at 48 kHz, in sparse mode
abbrev pub silent_sparse : ℕ → Aaf
silent_sparse n = record {
  header = silent_header restarted n;
  format = Int16;
  nsr = 5;
  channels = 2;
  depth = 16;
  sparse = true;
  evt = 0;
  count = 6;
  payload = replicate 24 0;
  reserved = false;
}

-- a placeholder for the packets of a clock if the talker sends no clock
abbrev pub no_packet : Crf
no_packet = record {
  sv = false;
  mr = false;
  fs = false;
  tu = false;
  seq = 0;
  kind = 0;
  stream_id = 0;
  pull = 0;
  base_frequency = 1;
  interval = 1;
  payload = [];
  reserved = false;
}

-- the journal `restarted` with its packets; its talker is sparse and restarts
abbrev pub restarted_packets : PacketJournal
restarted_packets = record {
  times = restarted;
  stream = 0x0200000000010001;
  packet = λ n. Pcm (silent_sparse n);
  clock = 0;
  clock_packet = λ m. no_packet;
}

-- packet n of a stereo stream of AM824 at 48 kHz, 6 silent data blocks
abbrev pub silent_blocks : ℕ → Iec
silent_blocks n = record {
  header = record (silent_header each_eighth n) { subtype = 0; data_length = 56 };
  gateway_info = 0;
  channel = 31;
  tcode = 0xA;
  sy = 0;
  cip = record { sid = 63; dbs = 2; dbc = n * 6 % 256; fdf = 2; syt = 0xFFFF };
  count = 6;
  payload = flat_map (big_bytes 4) (replicate 12 0x40000000);
  reserved = false;
}

-- the journal `each_eighth` with its packets; the packets are AM824, and every eighth block has a timestamp
abbrev pub block_packets : PacketJournal
block_packets = record {
  times = each_eighth;
  stream = 0x0200000000010001;
  packet = λ n. Am824Data (silent_blocks n);
  clock = 0;
  clock_packet = λ m. no_packet;
}

-- packet n of `clocked`: 6 silent stereo sample frames of 16 bits at 48 kHz, with a timestamp
abbrev pub silent : ℕ → Aaf
silent n = record (silent_sparse n) { header = silent_header (clocked 48000) n; sparse = false }

-- packet m of the clock of `clocked`, for listeners that add a microsecond to its timestamps
abbrev pub clock_data : ℕ → Crf
clock_data m = record {
  sv = true;
  mr = false;
  fs = false;
  tu = false;
  seq = m % 256;
  kind = 1;
  stream_id = 0x0200000000010002;
  pull = 0;
  base_frequency = 48000;
  interval = 96;
  payload = big_bytes 8 (1001999000 + m * 4000000) ++ big_bytes 8 (1003999000 + m * 4000000);
  reserved = false;
}

-- the journal `clocked` with its packets and the packets of its clock
abbrev pub clocked_packets : PacketJournal
clocked_packets = record {
  times = clocked 48000;
  stream = 0x0200000000010001;
  packet = λ n. Pcm (silent n);
  clock = 0x0200000000010002;
  clock_packet = clock_data;
}
