-- What a tracker keeps of the packets that it has noted.
use Rattle.std.specs.Prelude.{◌≡◌, ℕ, nat_lt, min, if◌then◌else◌, List, [], ◌∷◌, length, Option, Some, None}
use Rattle.std.specs.Map.{lookup}
use Rattle.sequence_track.specs.declared.seen.Seen.{Seen}
use Rattle.sequence_track.specs.declared.stream.StreamKey.{StreamKey}
use Rattle.sequence_track.specs.declared.stream.StreamState.{StreamState}
use Rattle.sequence_track.specs.Findings.{same_stream, tracked, is_tracked, recent, stood, least_hold}

-- The number of packets for which the media clock restart bit has kept its value, or 8 if the number is greater. `None`
-- if the bit has never changed.
abbrev pub held_of : ℕ → ℕ → Option ℕ
held_of packets all = if nat_lt packets all then Some (min packets least_hold) else None

-- the state that is kept for a stream, given the notes of its packets, the newest first
abbrev pub state_of : List Seen → Option StreamState
state_of [] = None
state_of (last ∷ older) = Some (record {
  seq = last.seq;
  mr = last.mr;
  held = held_of (stood last.mr (last ∷ older)) (length (last ∷ older));
})

-- the state that is kept for a stream after these notes; `None` if the stream is not tracked
abbrev pub kept_of : List Seen → StreamKey → Option StreamState
kept_of notes stream = if is_tracked stream notes then state_of (recent stream notes) else None

-- `tracker` has the states that are kept for the streams after these notes.
pub record StandsFor (tracker : List (StreamKey × StreamState)) (notes : List Seen) : Type 0 where
  pub states : (stream : StreamKey) → lookup (same_stream stream) tracker ≡ kept_of notes stream
  pub count : length tracker ≡ length (tracked notes)
