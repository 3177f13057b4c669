-- Where a refused field stands in a frame.
use Rattle.std.specs.Prelude.{ℕ, ◌+◌}
use Rattle.avtp_base.specs.declared.refusal.Refusal.{Refusal}

-- A refusal in a frame's payload, with the offset of the refused field counted from the start of the frame. The payload
-- begins at offset `start`.
abbrev pub inside : ℕ → Refusal → Refusal
inside start refusal = record refusal { at = refusal.at + start }
