use Rattle.std.proofs.Common.{None, Some}
use Rattle.cvf_format.proofs.AnnexBLemmas.{found_there}
use Rattle.cvf_format.proofs.annex_b.find_from.Goals as goal

pub returns-in-Some : goal.returns-in-Some
returns-in-Some c = found_there c.args.bytes.now c.args.needle.now c.args.from c.requires c.find.result (Some c.in-Some.found) c.in-Some.is c.find.ensures

pub returns-in-None : goal.returns-in-None
returns-in-None c = found_there c.args.bytes.now c.args.needle.now c.args.from c.requires c.find.result None c.in-None.is c.find.ensures
