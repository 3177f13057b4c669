use Rattle.std.proofs.Common.{◌≡◌, ◌+◌, ◌-◌, ◌∙◌, arith, refl, sym}
use Rattle.pcap_frames.specs.Layout.{number_at}
use Rattle.pcapng_blocks.proofs.Numbers.{arrival_time, stored_time}
use Rattle.pcapng_blocks.proofs.packet.packet_view.Goals as goal

pub returns : goal.returns
returns c =
    let is = sym c.in-Some.is ∙ c.packet_arrival.ensures in
    let time = arrival_time _ _ _ _ is in
    let stored = stored_time c.in-Some.arrival time in
    let captured = number_at c.args.order 20 4 c.args.block.now in
    let less : (28 + captured) - 28 ≡ captured = omega arith in
    record { exact = rw (stored, ← is, c.u32_at.ensures, c.u32_at-captured.ensures, less) refl; time = rw stored time }
