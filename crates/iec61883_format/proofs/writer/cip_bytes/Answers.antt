use Rattle.std.proofs.Common.{arith}
use Rattle.iec61883_format.proofs.IecLemmas.{cip_fits}
use Rattle.iec61883_format.proofs.writer.cip_bytes.Goals as goal

pub returns-clause-fits : goal.returns-clause-fits
returns-clause-fits c = cip_fits c.args.cip c.requires.sid c.requires.dbs (omega arith) (omega arith) (omega arith)
