use Rattle.stream_journal.proofs.FoundHeads.{found_only, found_so}
use Rattle.stream_journal.proofs.laws.heads_are_found.Goals as goal

pub returns : goal.returns
returns c j lead room copy far stamps stamp is holds un all =
    (found_only j is holds lead room copy far stamps stamp un all, λ h. found_so j is lead room copy far stamps stamp un all h.0 h.1)
