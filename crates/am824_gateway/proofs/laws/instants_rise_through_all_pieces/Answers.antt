use Rattle.am824_gateway.specs.Laws.{cuts_after}
use Rattle.am824_gateway.proofs.CutLemmas.{arrive_in_order, frames_are_cuts, rise_all}
use Rattle.am824_gateway.proofs.laws.instants_rise_through_all_pieces.Goals as goal

pub returns : goal.returns
returns c = record {
  frames = frames_are_cuts;
  rise = λ to shape given batches all. rise_all to shape given batches all;
  arrivals = λ to shape id given batches all.
      rw (frames_are_cuts to shape id given batches) (arrive_in_order to shape id (cuts_after to shape given batches) (rise_all to shape given batches all));
}
