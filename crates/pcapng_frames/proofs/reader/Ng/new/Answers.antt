use Rattle.std.proofs.Common.{refl, rules, None}
use Rattle.pcapng_blocks.specs.declared.block.Stage.TheVariants as stage
use Rattle.pcapng_frames.proofs.Moves.{block_begins}
use Rattle.pcapng_frames.proofs.reader.Ng.new.Goals as goal

pub invariant_of-result : goal.invariant_of-result
invariant_of-result c = record {
  front_room = search rules;
  tail_room = search rules;
  described = tt;
  head = tt;
  bounded = search rules;
  reading = block_begins (record { stage = stage.Block; order = None; interface = None; start = 0; total = 0; left = 0; skip = 0; packet = None }) c.in_ok-interfaces.interfaces
      c.in-Ok.part.items c.in-Ok.part.items refl refl refl refl c.in-Ok.ensures.items;
}
