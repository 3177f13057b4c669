-- Packets of AM824 that keep the rules.
use Rattle.std.proofs.Common.{◌≡◌, ℕ, ◌*◌, ◌%◌, ◌^◌, ℤ, Option, Some, None, is_some, refl, inl, lit<, arith}
use Rattle.std.specs.Prelude.{IfSome, unwrap_or}
use Rattle.avtp_base.specs.Layout.{Fits}
use Rattle.avtp_base.proofs.BitLemmas.{flag-below}
use Rattle.avtp_header.specs.state.Header.{filled_layout}
use Rattle.iec61883_format.specs.Iec.{IsWritableIec}
use Rattle.iec61883_format.proofs.IecLemmas.{cip_fits, fits_whole}
use Rattle.stream_journal.specs.Conforming.{Conforms}
use Rattle.stream_journal.specs.Examples.{each_eighth}
use Rattle.packet_journal.specs.Packets.{IsConforming, IsIecPacket}
use Rattle.packet_journal.specs.Examples.{block_packets, silent_blocks}

pub low : (r : Option ℕ) → IfSome r (λ (i : ℕ). unwrap_or r 0 % 2 ^ 32 ≡ i % 2 ^ 32)
low None = tt
low (Some i) = refl

header : (n : ℕ) → Fits (filled_layout 0 0 0) (silent_blocks n).header
header n = (
  (lit< tt, tt),
  (
    (lit< tt, (lit< tt, (lit< tt, (lit< tt, (flag-below (is_some (each_eighth.stamp n)), tt))))),
    (
      (omega arith, tt),
      (
        (lit< tt, (lit< tt, tt)),
        (
          (lit< tt, tt),
          ((omega arith, tt), ((lit< tt, tt), ((lit< tt, tt), ((lit< tt, tt), tt)))),
        ),
      ),
    ),
  ),
)

writable : (n : ℕ) → IsWritableIec (silent_blocks n)
writable n = record {
  subtype = refl;
  channel = lit< tt;
  tcode = lit< tt;
  sy = lit< tt;
  sid = lit< tt;
  some_quadlets = lit< tt;
  quadlets = omega arith;
  fdf = inl (omega arith);
  data_length = refl;
  count = refl;
}

packet : (n : ℕ) → IsIecPacket each_eighth 8 (n * 6 % 256) 0x0200000000010001 n (silent_blocks n)
packet n = record {
  writable = writable n;
  fits = fits_whole (silent_blocks n) 0 0 0 (writable n) refl (header n) (cip_fits (silent_blocks n).cip (lit< tt) (omega arith) (omega arith) (lit< tt) (lit< tt));
  header = record { valid_id = refl; id = refl; seq = refl; mr = refl; stamped = refl; timestamp = low (each_eighth.stamp n); certain = refl };
  rate = refl;
  interval_is = refl;
  block = refl;
  count = refl;
}

pub blocks_conform : Conforms each_eighth → (shift : ℤ) → IsConforming shift block_packets
blocks_conform times shift = record {
  times = times;
  packets = λ n h. packet n;
  clock_packets = λ m h. absurd (omega arith);
}
