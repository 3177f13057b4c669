use Rattle.stream_report.proofs.Lost.{lost-more}
use Rattle.stream_report.proofs.sequence.places_tell_what_is_lost.Goals as goal

pub returns : goal.returns
returns c first later number = lost-more first later number
