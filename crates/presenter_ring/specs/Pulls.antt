-- What a receiver's answer means.
use Rattle.std.specs.Prelude.{List, [], ◌∷◌, Option, Some, None}
use Rattle.sample_schedule.specs.declared.shown.Shown.{Shown}
use Rattle.presenter_ring.specs.declared.ending.Ending.{Ending}
use Rattle.presenter_ring.specs.declared.ending.Ending.TheVariants as ending
use Rattle.presenter_ring.specs.declared.receiver.Pull.{Pull}
use Rattle.presenter_ring.specs.declared.receiver.Pull.TheVariants as pull
use Rattle.presenter_ring.specs.declared.receiver.Pull.TheVariants.{Item}

-- the item of an answer, if the answer has one
abbrev pub items_of : Pull → List Shown
items_of (Item shown) = shown ∷ []
items_of _ = []

-- the answer, if it is not an item
abbrev pub ending_of : Pull → Option Pull
ending_of (Item shown) = None
ending_of pull = Some pull

-- the receiver's answer that was turned into an ending
abbrev pub pull_of : Ending → Pull
pull_of ending.Done = pull.Done
pull_of (ending.Refused refusal) = pull.Refused refusal
pull_of ending.ReadFault = pull.ReadFault
pull_of ending.Limit = pull.Limit
pull_of ending.Memory = pull.Memory
