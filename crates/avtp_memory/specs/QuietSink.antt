-- What contracts see of a quiet sink.
use Rattle.std.specs.Prelude.{◌≡◌, ◌↔◌, ℕ, Bool, IsTrue, List, [], Option, Result, Ok, length}
use Rattle.avtp_base.specs.declared.failed.Failed.{Failed}
use Rattle.avtp_memory.specs.declared.quiet_sink.QuietSink.{QuietSink}
use Rattle.avtp_memory.specs.Room.{kept_within, told_while, FitsRoom}

-- the kept bytes
abbrev pub kept : QuietSink → List ℕ
kept sink = sink.bytes.items

-- the greatest number of bytes that the sink keeps
abbrev pub room_of : QuietSink → ℕ
room_of sink = sink.room

-- all written bytes were kept
abbrev pub keeps_all : QuietSink → Bool
keeps_all sink = sink.all

-- the kept bytes; `None` once some written bytes were not kept
abbrev pub told : QuietSink → Option (List ℕ)
told sink = told_while (keeps_all sink) (kept sink)

-- The additional effects of a write to a quiet sink, beyond the effects of a write to any sink. The write took the
-- whole piece. The sink keeps as much of the piece as fits its room. If the whole piece does not fit, `keeps_all`
-- becomes false; otherwise `keeps_all` is unchanged.
pub record TakesQuietly (old new : QuietSink) (piece : List ℕ) (result : Result ℕ Failed) : Type 0 where
  pub whole : result ≡ Ok (length piece)
  pub all : IsTrue (keeps_all new) ↔ IsTrue (keeps_all old) × FitsRoom (room_of old) (kept old) piece
  pub room : room_of new ≡ room_of old
  pub kept : kept new ≡ kept_within (room_of old) (kept old) piece

-- A new sink: it holds no bytes, and has kept all written bytes. It keeps at most `size` bytes.
pub record IsNew (sink : QuietSink) (size : ℕ) : Type 0 where
  pub empty : kept sink ≡ []
  pub all : IsTrue (keeps_all sink)
  pub room : room_of sink ≡ size
