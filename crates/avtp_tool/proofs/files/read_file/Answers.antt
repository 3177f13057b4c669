use Rattle.run_report.proofs.Yields.{hands_nothing}
use Rattle.avtp_tool.proofs.ReadFiles.{does_deaf}
use Rattle.avtp_tool.proofs.files.read_file.Goals as goal

pub returns-in-Check-clause-does : goal.returns-in-Check-clause-does
returns-in-Check-clause-does g c = rw c.in-Check.is (does_deaf (hands_nothing g.D.Devices.handed c.args.rack.now) c.check.ensures)
