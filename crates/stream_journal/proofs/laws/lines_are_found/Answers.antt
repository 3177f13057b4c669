use Rattle.stream_journal.proofs.FoundLines.{some_line, the_line}
use Rattle.stream_journal.proofs.laws.lines_are_found.Goals as goal

pub returns-clause-some : goal.returns-clause-some
returns-clause-some c = some_line

pub returns-clause-found : goal.returns-clause-found
returns-clause-found c = the_line
