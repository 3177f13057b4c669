-- The stream headers of packets, and how long their frames are.
use Rattle.std.proofs.Common.{◌≡◌, ℕ, ◌^◌, ◌%◌, ◌<◌, Option, Some, None, option_map, refl, arith, ◌+◌, true, length, ◌∙◌}
use Rattle.std.specs.Prelude.{is_some, unwrap_or, IfSome}
use Rattle.avtp_base.specs.Layout.{Fits, spelling}
use Rattle.avtp_base.proofs.BitLemmas.{flag-below}
use Rattle.avtp_header.specs.state.Header.{filled_layout}
use Rattle.packet_journal.specs.Packets.{PacketView, spelling_of}
use Rattle.talk_plan.specs.declared.plan.TalkPlan.{TalkPlan}
use Rattle.talk_plan.specs.Headers.{header_of}
use Rattle.talk_plan.specs.Timing.{mr_of, timestamp_of}
use Rattle.std.proofs.lemmas.List.{length-append}
use Rattle.pcap_frames.specs.Frame.{frame_layout}
use Rattle.talk_plan.specs.Ethernet.{ethernet, packet_bytes}
use Rattle.avtp_base.proofs.OnlySpelling.{length-spelling}

stamp_below : (stamp : Option ℕ) → unwrap_or (option_map timestamp_of stamp) 0 < 2 ^ 32
stamp_below (Some instant) = omega arith
stamp_below None = omega arith

pub header_fits : (subtype : ℕ) (stamp : Option ℕ) (plan : TalkPlan) (n length : ℕ) → subtype < 256 → plan.id < 2 ^ 64 → length < 65536
    → Fits (filled_layout 0 0 0) (header_of subtype stamp plan n length)
header_fits subtype stamp plan n length kind id size = (
  (kind, tt),
  (
    (omega arith, (omega arith, (flag-below (mr_of plan n), (omega arith, (flag-below (is_some stamp), tt))))),
    (
      (omega arith, tt),
      (
        (omega arith, (omega arith, tt)),
        (
          (id, tt),
          ((stamp_below stamp, tt), ((omega arith, tt), ((size, tt), ((omega arith, tt), tt)))),
        ),
      ),
    ),
  ),
)

pub stamped_at : (stamp : Option ℕ) → IfSome stamp (λ i. unwrap_or (option_map timestamp_of stamp) 0 ≡ i % 2 ^ 32)
stamped_at (Some instant) = refl
stamped_at None = tt

pub bytes_size : (packet : PacketView) → length (packet_bytes packet) ≡ 18 + length (spelling_of packet)
unfolding packet_bytes
bytes_size packet =
    let outer = length-spelling (frame_layout true) (ethernet (spelling_of packet)) in
    length-append (spelling (frame_layout true) (ethernet (spelling_of packet))) (spelling_of packet) ∙ omega arith
