use Rattle.clock_track.proofs.FoundPairs.{across-found_line, inside-found_line}
use Rattle.clock_track.proofs.laws.covering_pairs_are_found.Goals as goal

pub returns-clause-inside : goal.returns-clause-inside
returns-clause-inside c = inside-found_line

pub returns-clause-across : goal.returns-clause-across
returns-clause-across c = across-found_line
