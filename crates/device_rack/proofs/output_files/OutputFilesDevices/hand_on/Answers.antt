use Rattle.device_rack.proofs.OneMore.{both_more}
use Rattle.device_rack.proofs.output_files.OutputFilesDevices.hand_on.Goals as goal

pub returns : goal.returns
returns g c begun items handed = record {
  raw = both_more _ _ items c.args.shown.now _ _ _ handed.raw c.hand.ensures;
  units = both_more _ _ items c.args.shown.now _ _ _ handed.units c.hand-2.ensures;
}
