use Rattle.clock_track.specs.Rows.{joined_pairs}
use Rattle.clock_track.proofs.Latest.{all_joined, last_is}
use Rattle.clock_track.proofs.laws.last_covering_pair_counts.Goals as goal

pub returns-clause-joined : goal.returns-clause-joined
returns-clause-joined c = all_joined

pub returns-clause-latest : goal.returns-clause-latest
returns-clause-latest c shift instant rate rows = last_is rate instant (joined_pairs shift rows)
