use Rattle.pcapng_blocks.proofs.Numbers.{arrival_time, stored_time}
use Rattle.pcapng_frames.proofs.Feeding.{packet_is}
use Rattle.pcapng_frames.proofs.steps.packet_head.Goals as goal

pub returns : goal.returns
returns c =
    let time = arrival_time _ _ _ _ c.in_ok-arrival.ensures in
    let stored = stored_time _ time in
    record { exact = rw stored (packet_is _ _ _ _ c.in_ok-arrival.ensures c.u32_at.ensures c.requires.whole); time = rw stored time }
