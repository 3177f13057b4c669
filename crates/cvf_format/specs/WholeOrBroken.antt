-- How adjacent fragments make one NAL unit (RFC 6184, 5.8). The limits are a choice of this project.
use Rattle.std.specs.Prelude.{ℕ, ◌+◌, ◌-◌, ◌%◌, ◌==◌, nat_le, nat_lt, Bool, true, false, not, ◌&&◌, if◌then◌else◌, ℤ, List, [], ◌∷◌, length, take, map, Option}
use Rattle.std.specs.List.{list_any, list_all, filter_map, flat_map}
use Rattle.std.specs.Ordering.{int_eq}
use Rattle.cvf_format.specs.declared.cvf.NalPart.{NalPart}
use Rattle.cvf_format.specs.declared.cvf.NalPart.TheVariants.{Single, First, Middle, Last}
use Rattle.cvf_format.specs.declared.piece.Mark.{Mark}
use Rattle.cvf_format.specs.declared.piece.Lost.{Lost}
use Rattle.cvf_format.specs.declared.piece.Lost.TheVariants.{Broken, Long}
use Rattle.cvf_format.specs.declared.piece.Piece.{Piece}
use Rattle.cvf_format.specs.declared.piece.Piece.TheVariants as variant

-- the length in bytes of the longest NAL unit that is put together
abbrev pub longest_unit : ℕ
longest_unit = 4194304

-- one NAL unit is put together from at most this many packets
abbrev pub most_fragments : ℕ
most_fragments = 4096

-- the number of different sequence numbers; 255 is followed by 0
abbrev pub sequence_numbers : ℕ
sequence_numbers = 256

-- ---- events

-- A packet that carries a NAL unit or a fragment of one. `instant` is the packet's presentation time, if the packet has
-- a timestamp.
pub record Fragment : Type 0 where
  pub mark : Mark
  pub instant : Option ℤ
  pub nal : ℕ
  pub part : NalPart
  pub body : List ℕ

-- a packet, or a cut between two packets: no NAL unit continues across a cut
pub data Event : Type 0 where
  packet : Fragment → Event
  cut : Event

-- the event is a cut, not a packet
abbrev pub is_cut : Event → Bool
is_cut (packet fragment) = false
is_cut cut = true

-- the packets after the last cut
abbrev pub after_cuts : List Event → List Fragment
after_cuts [] = []
after_cuts (cut ∷ events) = after_cuts events
after_cuts (packet fragment ∷ events) =
    if list_any is_cut events then after_cuts events else fragment ∷ after_cuts events

-- ---- stretches

-- a packet that carries this part begins a NAL unit: the part is a whole unit or a first fragment
abbrev pub begins : NalPart → Bool
begins Single = true
begins First = true
begins Middle = false
begins Last = false

-- a packet that carries this part continues a NAL unit: the part is a middle or last fragment
abbrev pub goes_on : NalPart → Bool
goes_on Single = false
goes_on First = false
goes_on Middle = true
goes_on Last = true

-- if a packet carries this part, the packet completes a NAL unit: the part is a whole unit or a last fragment
abbrev pub completes : NalPart → Bool
completes Single = true
completes First = false
completes Middle = false
completes Last = true

-- a packet continues the NAL unit of the packet before it
abbrev pub follows : Fragment → Fragment → Bool
follows before after =
    not (completes before.part)
    && goes_on after.part
    && (after.nal == before.nal)
    && (after.mark.seq == (before.mark.seq + 1) % sequence_numbers)

-- Each packet of the list continues the NAL unit of the packet before it. `before` is the packet before the list.
abbrev pub are_linked : Fragment → List Fragment → Bool
are_linked before [] = true
are_linked before (after ∷ rest) = follows before after && are_linked after rest

-- the instants of those packets that have an instant
abbrev pub stamps : List Fragment → List ℤ
stamps fragments = filter_map (λ (f : Fragment). f.instant) fragments

-- all instants of a list are equal
abbrev pub all_equal : List ℤ → Bool
all_equal [] = true
all_equal (instant ∷ rest) = list_all (int_eq instant) rest

-- The packets are a stretch. The first packet begins a unit. Each later packet continues the unit of the packet before
-- it. All packets with a timestamp have the same instant.
unfoldable pub is_stretch : List Fragment → Bool
is_stretch [] = false
is_stretch (first ∷ rest) = begins first.part && are_linked first rest && all_equal (stamps (first ∷ rest))

-- the longest stretch at the end of a list of packets; empty if the list ends with no stretch
abbrev pub stretch_of : List Fragment → List Fragment
stretch_of [] = []
stretch_of (first ∷ rest) = if is_stretch (first ∷ rest) then first ∷ rest else stretch_of rest

-- the stretch that ends with the last event; empty if there is none
unfoldable pub last_stretch : List Event → List Fragment
last_stretch events = stretch_of (after_cuts events)

-- ---- units

-- the bytes of the unit of a stretch: the unit's first byte, which each fragment carries, and then all bodies
abbrev pub unit_of : List Fragment → List ℕ
unit_of [] = []
unit_of (first ∷ rest) = first.nal ∷ flat_map (λ (f : Fragment). f.body) (first ∷ rest)

-- a stretch is within the limits of a unit, in bytes and in packets
unfoldable pub is_within : List Fragment → Bool
is_within stretch = nat_le (length (unit_of stretch)) longest_unit && nat_le (length stretch) most_fragments

-- the last packet of a stretch completes its unit
unfoldable pub is_complete : List Fragment → Bool
is_complete [] = false
is_complete (last ∷ []) = completes last.part
is_complete (first ∷ (second ∷ rest)) = is_complete (second ∷ rest)

-- a list without its last item
unfoldable pub before_last : {A : Type 0} → List A → List A
before_last items = take (length items - 1) items

-- ---- what becomes of the packets

-- The packets of a stretch that wait for the rest of their unit: all if the stretch is within the limits and not
-- complete, otherwise none.
abbrev pub waiting : List Fragment → List Fragment
waiting stretch = if is_within stretch && not (is_complete stretch) then stretch else []

-- the packets that wait for the rest of their unit after these events
abbrev pub held : List Event → List Fragment
held events = waiting (last_stretch events)

-- the stretch exceeds the limits only because of its last packet
abbrev pub is_passed : List Fragment → Bool
is_passed stretch = not (is_within stretch) && is_within (before_last stretch)

-- What becomes of a packet, as far as is known when the packet arrives. The list is the stretch that ends with this
-- packet. The list is empty if the packet is in no stretch.
abbrev pub piece_of : List Fragment → Piece
piece_of [] = variant.Lost Broken
piece_of (first ∷ rest) =
    if is_within (first ∷ rest) then (if is_complete (first ∷ rest) then variant.Whole else variant.Held)
    else if is_passed (first ∷ rest) then variant.Lost Long else variant.Lost Broken

-- what becomes of the packet of the last event, as far as is known when the packet arrives
abbrev pub piece : List Event → Piece
piece events = piece_of (last_stretch events)

-- the last packet of the stretch continued the unit of the packets before it, and the stretch is within the limits
abbrev pub is_joined : List Fragment → Bool
is_joined stretch = nat_lt 1 (length stretch) && is_within stretch

-- the waiting packets that the last event gave up
abbrev pub given_up : List Event → List Fragment
given_up events = if is_joined (last_stretch events) then [] else held (before_last events)

-- why the last packet of a stretch gave up the waiting packets: `Long` if the last packet made the unit too long,
-- otherwise `Broken`
abbrev pub reason_of : List Fragment → Lost
reason_of [] = Broken
reason_of (first ∷ rest) = if is_passed (first ∷ rest) then Long else Broken

-- why the last event gave up the waiting packets
abbrev pub reason : List Event → Lost
reason events = reason_of (last_stretch events)

-- the bytes of the unit of a stretch; empty if the stretch is not complete or not within the limits
abbrev pub whole_of : List Fragment → List ℕ
whole_of stretch = if is_within stretch && is_complete stretch then unit_of stretch else []

-- the bytes of the unit that the last event completed; empty if it completed none
abbrev pub whole_unit : List Event → List ℕ
whole_unit events = whole_of (last_stretch events)

-- the mark of a packet: its frame, its sequence number and its arrival
abbrev pub mark_of : Fragment → Mark
mark_of fragment = fragment.mark

-- the marks of the packets that the last event gave up, in order
abbrev pub lost_marks : List Event → List Mark
lost_marks events = map mark_of (given_up events)
