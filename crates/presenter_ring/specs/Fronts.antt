-- The receiver's side of a ring.
use Rattle.std.specs.Prelude.{List, Option, option_map}
use Rattle.std.specs.Option.{option_to_list}
use Rattle.sample_schedule.specs.declared.shown.Shown.{Shown}
use Rattle.presenter_ring.specs.declared.front.Front.{Front}
use Rattle.presenter_ring.specs.declared.receiver.Pull.{Pull}
use Rattle.presenter_ring.specs.Pulls.{pull_of}

-- the item in `hand`, if there is one
abbrev pub hand_of : Front → List Shown
hand_of front = option_to_list front.hand

-- the answer with which the receiver ended, if it has ended
abbrev pub ended_of : Front → Option Pull
ended_of front = option_map pull_of front.ended
