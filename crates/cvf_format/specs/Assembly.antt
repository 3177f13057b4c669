-- What an assembler keeps of the packets that are pushed. The file `Stretches.antt` says when a unit is broken, and when
-- it is too long.
use Rattle.std.specs.Prelude.{◌≡◌, ℕ, ◌+◌, ◌%◌, Bool, if◌then◌else◌, ℤ, List, [], ◌∷◌, ◌++◌, length, map, Option, None, Some}
use Rattle.cvf_format.specs.declared.cvf.CvfView.{CvfView}
use Rattle.cvf_format.specs.declared.piece.Mark.{Mark}
use Rattle.cvf_format.specs.declared.piece.Pushed.{Pushed}
use Rattle.cvf_format.specs.WholeOrBroken.{Fragment, Event, packet, cut, given_up, reason, piece, mark_of, unit_of, stamps, held, lost_marks, whole_unit, sequence_numbers}

-- The state of an assembler. `bytes` are the bytes of the unit so far, and `whole` is true if the unit is complete.
-- `held` are the marks of the packets that wait for the rest of their unit. `lost` are the marks of the packets that
-- the last event gave up. The next fragment must have the unit's first byte `nal` and the sequence number `next_seq`.
-- If `instant` and the next fragment's instant are both known, they must be equal.
pub record Assembly : Type 0 where
  pub bytes : List ℕ
  pub held : List Mark
  pub lost : List Mark
  pub nal : ℕ
  pub next_seq : ℕ
  pub instant : Option ℤ
  pub whole : Bool

-- the fragment in a packet with this mark, instant and view
abbrev pub fragment_of : Mark → Option ℤ → CvfView → Fragment
fragment_of mark instant view = record {
  mark = mark;
  instant = instant;
  nal = view.nal;
  part = view.part;
  body = view.body.now;
}

-- the length in bytes of the longest body of a packet
abbrev pub longest_body : ℕ
longest_body = 65530

-- ---- the state that a list of events leaves

-- the first instant of a list; `None` if the list is empty
abbrev pub first_stamp : List ℤ → Option ℤ
first_stamp [] = None
first_stamp (instant ∷ rest) = Some instant

-- the last packet of a list of at least one packet
abbrev pub last_of : Fragment → List Fragment → Fragment
last_of fragment [] = fragment
last_of fragment (next ∷ rest) = last_of next rest

-- the assembler keeps the packets `first` and then `rest`, which wait for the next fragment of their unit
pub record Keeps (a : Assembly) (first : Fragment) (rest : List Fragment) : Type 0 where
  pub marks : a.held ≡ map mark_of (first ∷ rest)
  pub bytes : a.bytes ≡ unit_of (first ∷ rest)
  pub nal : a.nal ≡ (last_of first rest).nal
  pub next_seq : a.next_seq ≡ ((last_of first rest).mark.seq + 1) % sequence_numbers
  pub instant : a.instant ≡ first_stamp (stamps (first ∷ rest))

-- The assembler keeps these packets, possibly none. The packets wait for the next fragment of their unit.
abbrev pub KeepsAll : Assembly → List Fragment → Type 0
KeepsAll a [] = a.held ≡ []
KeepsAll a (first ∷ rest) = Keeps a first rest

-- the bytes of the unit that the assembler shows; empty if the unit is not complete
abbrev pub shown_unit : Assembly → List ℕ
shown_unit a = if a.whole then a.bytes else []

-- The state of the assembler `a` after exactly these events. The assembler keeps the packets that wait, the marks of
-- the packets that the last event gave up, and the unit that the last event completed.
pub record StandsFor (a : Assembly) (events : List Event) : Type 0 where
  pub waits : KeepsAll a (held events)
  pub lost : a.lost ≡ lost_marks events
  pub unit : shown_unit a ≡ whole_unit events

-- The packet `f` was pushed. The answer says what becomes of the packet, how many packets were given up and why.
pub record Pushes (old new : Assembly) (f : Fragment) (answer : Pushed) : Type 0 where
  pub stands : (events : List Event) → StandsFor old events → StandsFor new (events ++ packet f ∷ [])
  pub lost : (events : List Event) → StandsFor old events → answer.lost ≡ length (given_up (events ++ packet f ∷ []))
  pub why : (events : List Event) → StandsFor old events → answer.why ≡ reason (events ++ packet f ∷ [])
  pub marks : answer.lost ≡ length new.lost
  pub piece : (events : List Event) → StandsFor old events → answer.piece ≡ piece (events ++ packet f ∷ [])

-- a cut was marked, and this number of packets was given up
pub record Cuts (old new : Assembly) (count : ℕ) : Type 0 where
  pub stands : (events : List Event) → StandsFor old events → StandsFor new (events ++ cut ∷ [])
  pub lost : (events : List Event) → StandsFor old events → count ≡ length (given_up (events ++ cut ∷ []))
  pub marks : count ≡ length new.lost
