use Rattle.std.proofs.Common.{◌++◌, length, refl, ap, ◌∙◌, List}
use Rattle.std.specs.Prelude.{slice_get}
use Rattle.packet_journal.specs.Deliveries.{Delivery}
use Rattle.listener.specs.Items.{given_up_by, items_of, items_so_far, unit_by}
use Rattle.listener_laws.specs.Completed.{completed}
use Rattle.listener_laws.proofs.Completed.{unit_there}
use Rattle.listener_laws.proofs.laws.assembled_units_are_true.Goals as goal

pub returns : goal.returns
returns c shift p plan records part before d rest h kind split video flaw whole =
    let place = length (items_so_far before ++ given_up_by before d) in
    c.units_are_true.ensures shift p plan records place (unit_by before d) (completed before d) part h kind
    (ap (λ (l : List Delivery). slice_get (items_of l) place) split ∙ unit_there before d rest video flaw whole) refl
