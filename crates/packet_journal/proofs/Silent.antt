-- Silent packets of a sparse talker that keeps the rules.
use Rattle.std.proofs.Common.{◌≡◌, ℕ, ◌^◌, ◌<◌, Bool, true, false, pos, ◌+ℤ◌, drop, get_or, is_some, refl, lit<, arith}
use Rattle.avtp_base.specs.Octets.{bits, flag}
use Rattle.avtp_base.specs.Layout.{Fits}
use Rattle.aaf_format.specs.Aaf.{aaf_layout}
use Rattle.crf_format.specs.Crf.{crf_layout, point_at}
use Rattle.stream_journal.specs.Conforming.{Conforms}
use Rattle.stream_journal.specs.Examples.{clocked, restarted}
use Rattle.stream_journal.specs.Journal.{Journal}
use Rattle.stream_journal.proofs.Restarted.{Each, each_below}
use Rattle.packet_journal.specs.Packets.{IsAafPacket, IsClockPacket, IsConforming}
use Rattle.packet_journal.specs.Examples.{clock_data, clocked_packets, silent, silent_header, silent_sparse}

small : (b : Bool) → flag b < 2 ^ 1
small true = omega arith
small false = omega arith

rest : (j : Journal) (sparse : Bool) (n : ℕ) → Fits (drop 2 aaf_layout) (record (silent_sparse n) { header = silent_header j n; sparse = sparse })
rest j sparse n = (
  (omega arith, tt),
  (
    (lit< tt, (lit< tt, tt)),
    (
      (lit< tt, tt),
      (
        (omega arith, tt),
        (
          (lit< tt, tt),
          (
            (lit< tt, (lit< tt, (lit< tt, tt))),
            (
              (lit< tt, tt),
              (
                (lit< tt, tt),
                (
                  (lit< tt, (small sparse, (lit< tt, tt))),
                  (
                    (lit< tt, tt),
                    tt,
                  ),
                ),
              ),
            ),
          ),
        ),
      ),
    ),
  ),
)

fits : (n : ℕ) → Fits aaf_layout (silent_sparse n)
fits n = (
  (lit< tt, tt),
  (
    (lit< tt, (lit< tt, (small (restarted.mr n), (lit< tt, (small (is_some (restarted.stamp n)), tt))))),
    rest restarted true n,
  ),
)

-- ---- with a clock

silent_fits : (n : ℕ) → Fits aaf_layout (silent n)
silent_fits n = (
  (lit< tt, tt),
  (
    (lit< tt, (lit< tt, (lit< tt, (lit< tt, (lit< tt, tt))))),
    rest (clocked 48000) false n,
  ),
)

stamped_packet : (n : ℕ) → IsAafPacket (clocked 48000) false 0x0200000000010001 n (silent n)
stamped_packet n = record {
  writable = record { subtype = refl; nsr = omega arith; some_channels = omega arith; channels = omega arith; depth = omega arith; evt = omega arith; data_length = refl; count = refl };
  fits = silent_fits n;
  header = record { valid_id = refl; id = refl; seq = refl; mr = refl; stamped = refl; timestamp = refl; certain = refl };
  sparse = refl;
  rate = refl;
  count = refl;
}

clock_fits : (m : ℕ) → Fits crf_layout (clock_data m)
clock_fits m = (
  (lit< tt, tt),
  (
    (lit< tt, (lit< tt, (lit< tt, (lit< tt, (lit< tt, (lit< tt, tt)))))),
    (
      (omega arith, tt),
      (
        (lit< tt, tt),
        (
          (lit< tt, tt),
          (
            (lit< tt, (lit< tt, tt)),
            (
              (lit< tt, tt),
              (
                (lit< tt, tt),
                tt,
              ),
            ),
          ),
        ),
      ),
    ),
  ),
)

abbrev IsPointOf : ℕ → ℕ → Type 0
IsPointOf m i = pos (get_or ((clocked 48000).clock.points m) i 0) ≡ pos (point_at i (clock_data m).payload) +ℤ pos 1000

abbrev ArePoints : ℕ → Type 0
ArePoints m = IsPointOf m 0 × IsPointOf m 1

each_point : Each ArePoints 2
unfolding bits
each_point = ((tt, (refl, refl)), (refl, refl))

point_of : (m : ℕ) → ArePoints m → (i : ℕ) → i < 2 → IsPointOf m i
point_of m are i h = each_below (IsPointOf m) 2 ((tt, are.0), are.1) i h

clock_packet_is : (m : ℕ) → m < 2 → IsClockPacket (clocked 48000).clock (pos 1000) 0x0200000000010002 m (clock_data m)
clock_packet_is m h = record {
  writable = record { pull = omega arith; some_frequency = omega arith; base_frequency = omega arith; some_interval = omega arith; some_points = omega arith; whole_points = refl; data_length = omega arith };
  fits = clock_fits m;
  valid_id = refl;
  id_is = refl;
  seq = refl;
  mr = refl;
  certain = refl;
  kind = refl;
  base = refl;
  pull = refl;
  interval = refl;
  size = refl;
  points = point_of m (each_below ArePoints 2 each_point m h);
}

pub clocked_conform : Conforms (clocked 48000) → IsConforming (pos 1000) clocked_packets
clocked_conform times = record {
  times = times;
  packets = λ n h. stamped_packet n;
  clock_packets = clock_packet_is;
}
