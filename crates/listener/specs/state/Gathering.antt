-- Only private functions and proofs use these definitions. The units of a stream between two
-- deliveries, and the items that wait to be judged.
use Rattle.std.specs.Prelude.{◌≡◌, ℕ, ℤ, ⊤, List, [], ◌∷◌, ◌++◌, All, map, Option, Some, None, IfNone, IfSome}
use Rattle.std.specs.Option.{option_to_list}
use Rattle.cvf_format.specs.Assembly.{StandsFor}
use Rattle.cvf_format.specs.Cvf.{Cvf}
use Rattle.cvf_format.specs.declared.piece.Lost.TheVariants.{Broken}
use Rattle.cvf_format.specs.declared.piece.Piece.{Piece}
use Rattle.cvf_format.specs.declared.piece.Piece.TheVariants.{Whole, Held, Lost}
use Rattle.cvf_format.specs.WholeOrBroken.{Event, cut, packet, piece, reason, whole_unit}
use Rattle.sample_schedule.specs.declared.item.Item.{Item}
use Rattle.sample_schedule.specs.declared.item.Item.TheVariants.{Unit as OfUnit}
use Rattle.sample_schedule.specs.declared.shown.Reason.{Reason}
use Rattle.sample_schedule.specs.Limits.{IsItem}
use Rattle.time_unfold.specs.Time.{IsArrival, unfolded}
use Rattle.packet_journal.specs.Deliveries.{Delivery}
use Rattle.listener.specs.Items.{given_by, lost_for, made_entry}
use Rattle.listener.specs.Units.{fragment_in, mark_of}
use Rattle.listener.specs.Gathering.{Gathered, lost_item, item_entry, left, HasUnits}

-- ---- what a delivery does

-- A delivery ends the current unit; the delivery's own item is `item`.
pub record Cuts (item : Item) (old new : Gathered) : Type 0 where
  pub stands : (es : List Event) → StandsFor old.assembly es → StandsFor new.assembly (es ++ cut ∷ [])
  pub why : new.why ≡ Broken
  pub taken : new.taken ≡ 0
  pub own : new.own ≡ Some item

-- The units before the first delivery: no item is queued.
pub record Begins (u : Gathered) : Type 0 where
  pub stands : HasUnits [] u
  pub none : left u ≡ []

-- The first of the queued items, if any, is `answer`; the other items stay queued.
pub record GivesItem (old new : Gathered) (answer : Option Item) : Type 0 where
  pub stands : (ds : List Delivery) → HasUnits ds old → HasUnits ds new
  pub none : IfNone answer (left new ≡ [])
  pub item : IfSome answer IsItem
  pub left : left old ≡ option_to_list answer ++ left new

-- A delivery ends the current unit; the delivery's own item is `item`. The first resulting item, if any, is `answer`;
-- the other items are queued.
pub record CutsFirst (item : Item) (old new : Gathered) (answer : Option Item) : Type 0 where
  pub between : Gathered
  pub cuts : Cuts item old between
  pub rest : GivesItem between new answer

-- After the delivery `d`, the state `new` is that of all deliveries so far, and holds the items that `d` yields.
pub record Gives (ds : List Delivery) (d : Delivery) (new : Gathered) : Type 0 where
  pub has : HasUnits (ds ++ d ∷ []) new
  pub gives : map item_entry (left new) ≡ map made_entry (given_by ds d)

-- The delivery `d` was taken, and `first` is the first item that it yields, if it yields any; the others are queued.
pub record GivesFirst (d : Delivery) (old new : Gathered) (first : Option Item) : Type 0 where
  pub stands : (ds : List Delivery) → HasUnits ds old → HasUnits (ds ++ d ∷ []) new
  pub gives : (ds : List Delivery) → HasUnits ds old
      → map item_entry (option_to_list first ++ left new) ≡ map made_entry (given_by ds d)
  pub item : IfSome first IsItem

-- The own item of an H.264 packet: the unit, with the bytes `unit`, if the packet completes one; none if the packet
-- waits for the rest of its unit; and a flagged item if the packet is lost.
abbrev pub own_item : Delivery → ℤ → List ℕ → Piece → Option Item
own_item d instant unit Whole = Some (OfUnit (record { frame = d.frame; arrival = d.arrival; seq = d.seq; instant = instant; bytes = unit }))
own_item d instant unit Held = None
own_item d instant unit (Lost why) = Some (lost_item (lost_for why) (mark_of d))

-- The packet begins a unit, continues one, or is lost.
pub record Pushes (d : Delivery) (v : Cvf) (old new : Gathered) : Type 0 where
  pub stands : (es : List Event) → StandsFor old.assembly es → StandsFor new.assembly (es ++ packet (fragment_in d v) ∷ [])
  pub why : (es : List Event) → StandsFor old.assembly es → new.why ≡ reason (es ++ packet (fragment_in d v) ∷ [])
  pub taken : new.taken ≡ 0
  pub own : (es : List Event) → StandsFor old.assembly es
      → new.own ≡ own_item d (unfolded v.header.timestamp d.arrival) (whole_unit (es ++ packet (fragment_in d v) ∷ [])) (piece (es ++ packet (fragment_in d v) ∷ []))

-- a packet without a flaw is added to the units; a packet with a flaw ends the current unit and is flagged
abbrev pub Takes : Option Reason → Delivery → Cvf → Gathered → Gathered → Type 0
Takes None d v old new = Pushes d v old new
Takes (Some reason) d v old new = Cuts (lost_item reason (mark_of d)) old new

-- ---- between two calls

-- the packet of an event arrived at a time that a schedule accepts
abbrev pub IsTimelyEvent : Event → Type 0
IsTimelyEvent cut = ⊤
IsTimelyEvent (packet f) = IsArrival f.mark.arrival

-- The invariant of the units: a list of events leads to this state, and every item in the state can be judged.
pub record IsSound (u : Gathered) : Type 0 where
  pub events : List Event
  pub stands : StandsFor u.assembly events
  pub arrivals : All IsTimelyEvent events
  pub own : IfSome u.own IsItem
