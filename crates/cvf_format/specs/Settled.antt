-- Packets are settled in the order of their arrival. No packet is settled twice, and packets that are not settled yet
-- wait. A packet is settled when a later event gives it up, when it is lost as it arrives, or when its unit is
-- complete.
use Rattle.std.specs.Prelude.{List, [], ◌∷◌, ◌++◌}
use Rattle.cvf_format.specs.declared.piece.Piece.{Piece}
use Rattle.cvf_format.specs.declared.piece.Piece.TheVariants.{Whole, Held, Lost}
use Rattle.cvf_format.specs.WholeOrBroken.{Fragment, Event, packet, cut, last_stretch, piece, given_up}

-- all packets of a list of events, in order
abbrev pub packets : List Event → List Fragment
packets [] = []
packets (cut ∷ events) = packets events
packets (packet fragment ∷ events) = fragment ∷ packets events

-- The packets that a packet settles. A packet that completes its unit settles all packets of the unit. A packet that
-- waits settles no packet. A packet that is lost settles only itself.
abbrev pub settled_as : Piece → Fragment → List Fragment → List Fragment
settled_as Whole fragment stretch = stretch
settled_as Held fragment stretch = []
settled_as (Lost why) fragment stretch = fragment ∷ []

-- The packets that an event settles, after the events `before`: first those that the event gives up, and then those
-- that its own packet settles.
abbrev pub settled_by : List Event → Event → List Fragment
settled_by before cut = given_up (before ++ cut ∷ [])
settled_by before (packet fragment) =
    given_up (before ++ packet fragment ∷ [])
    ++ settled_as (piece (before ++ packet fragment ∷ [])) fragment (last_stretch (before ++ packet fragment ∷ []))

-- The packets that the events of the second list settle, in order. The events of the second list come after the events
-- of the first list.
abbrev pub settled : List Event → List Event → List Fragment
settled before [] = []
settled before (event ∷ events) = settled_by before event ++ settled (before ++ event ∷ []) events
