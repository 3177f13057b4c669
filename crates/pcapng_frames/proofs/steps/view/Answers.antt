use Rattle.std.proofs.Common.{refl, arith, length, drop, ◌-◌, length-drop}
use Rattle.std.proofs.lemmas.List.{take_all}
use Rattle.pcapng_blocks.proofs.Numbers.{stored_time}
use Rattle.pcapng_frames.proofs.steps.view.Goals as goal

pub returns : goal.returns
returns c =
    let stored = stored_time c.args.packet.arrival c.requires.time in
    record {
      exact = rw (stored, take_all (length c.args.part.now - 28) (drop 28 c.args.part.now) (omega (arith, length-drop 28 c.args.part.now))) refl;
      time = rw stored c.requires.time;
    }
