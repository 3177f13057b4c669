-- Only private functions and proofs use these definitions. How the state of an assembler changes with
-- a packet.
use Rattle.std.specs.Prelude.{◌≡◌, ℕ, ◌+◌, ◌%◌, ◌==◌, nat_le, nat_lt, Bool, true, false, not, ◌&&◌, if◌then◌else◌, ℤ, List, [], ◌∷◌, ◌++◌, length, Option, None, Some}
use Rattle.std.specs.Ordering.{int_eq}
use Rattle.std.specs.Option.{option_or}
use Rattle.cvf_format.specs.declared.cvf.NalPart.{NalPart}
use Rattle.cvf_format.specs.declared.piece.Lost.{Lost}
use Rattle.cvf_format.specs.declared.piece.Lost.TheVariants.{Broken}
use Rattle.cvf_format.specs.declared.piece.Pushed.{Pushed}
use Rattle.cvf_format.specs.declared.piece.Piece.{Piece}
use Rattle.cvf_format.specs.declared.piece.Piece.TheVariants as variant
use Rattle.cvf_format.specs.WholeOrBroken.{Fragment, Event, given_up, reason, piece, goes_on, begins, completes, sequence_numbers, longest_unit, most_fragments}
use Rattle.cvf_format.specs.Assembly.{Assembly, StandsFor}

-- the last of these events is a packet, and the assembler returned `pushed` for this packet
pub record IsPushed (a : Assembly) (events : List Event) (pushed : Pushed) : Type 0 where
  pub stands : StandsFor a events
  pub lost : pushed.lost ≡ length (given_up events)
  pub why : pushed.why ≡ reason events
  pub piece : pushed.piece ≡ piece events

-- a call left the assembler in the state `after`, and returned `answer`
pub record Leaves {X : Type 0} (new after : Assembly) (result answer : X) : Type 0 where
  pub left : new ≡ after
  pub returned : result ≡ answer

-- ---- the state after a packet

-- two instants are equal, or one of them is unknown
abbrev pub agree : Option ℤ → Option ℤ → Bool
agree None b = true
agree (Some a) None = true
agree (Some a) (Some b) = int_eq a b

-- the packet continues the waiting unit
unfoldable pub goes_on_here : Assembly → Fragment → Bool
goes_on_here a f = not (length a.held == 0)
    && (goes_on f.part && (f.nal == a.nal && (f.mark.seq == a.next_seq && agree a.instant f.instant)))

-- the waiting unit has room for a fragment with this body
unfoldable pub has_room : Assembly → List ℕ → Bool
has_room a body = nat_le (length a.bytes + length body) longest_unit && nat_lt (length a.held) most_fragments

-- the assembler after it gave up all waiting packets
abbrev pub gave_up : Assembly → Assembly
gave_up a = record a { held = []; lost = a.held; whole = false }

abbrev pub broken : Lost
broken = Broken

abbrev pub lost_for : Lost → Piece
lost_for why = variant.Lost why

-- what becomes of a packet that joins a unit
abbrev pub settled : NalPart → Piece
settled part = if completes part then variant.Whole else variant.Held

abbrev pub with_first : Assembly → Fragment → Assembly
with_first a f = record {
  bytes = f.nal ∷ f.body;
  held = if completes f.part then [] else f.mark ∷ [];
  lost = a.held;
  nal = f.nal;
  next_seq = (f.mark.seq + 1) % sequence_numbers;
  instant = f.instant;
  whole = completes f.part;
}

abbrev pub with_next : Assembly → Fragment → Assembly
with_next a f = record {
  bytes = a.bytes ++ f.body;
  held = if completes f.part then [] else a.held ++ f.mark ∷ [];
  lost = [];
  nal = f.nal;
  next_seq = (f.mark.seq + 1) % sequence_numbers;
  instant = option_or a.instant f.instant;
  whole = completes f.part;
}

-- the size of the unit that a packet would complete, or 0 if it would complete none
abbrev pub size_with : Assembly → Fragment → ℕ
size_with a f =
    if not (completes f.part) then 0
    else if begins f.part then 1 + length f.body
    else if goes_on_here a f && has_room a f.body then length a.bytes + length f.body
    else 0
