use Rattle.std.proofs.Common.{[], arith}
use Rattle.std.proofs.lemmas.List.Elements.{All-nil}
use Rattle.listener.specs.state.Gathering.{IsTimelyEvent}
use Rattle.listener.proofs.Gathered.{begun_left, none_lost}
use Rattle.listener.proofs.units.Units.new.Goals as goal

pub invariant_of-result : goal.invariant_of-result
invariant_of-result c = (
  record { events = []; stands = c.in_ok-new.ensures; arrivals = All-nil IsTimelyEvent; own = tt },
  none_lost _ c.in_ok-new.ensures,
  omega arith,
)

pub returns : goal.returns
returns c = record { stands = record { assembly = c.in_ok-new.ensures }; none = begun_left _ c.in_ok-new.ensures }
