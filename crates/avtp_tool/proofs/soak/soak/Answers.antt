use Rattle.avtp_tool.proofs.Soaked.{says_line}
use Rattle.avtp_tool.proofs.soak.soak.Goals as goal

pub returns-in-Ok : goal.returns-in-Ok
returns-in-Ok g c = says_line c.print_counts.result (rw c.in-Ok.ensures.exact at c.print_counts.ensures)
