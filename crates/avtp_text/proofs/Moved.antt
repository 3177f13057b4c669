-- Bytes that move from the buffer to a sink.
use Rattle.std.proofs.Common.{◌≡◌, ℕ, ◌+◌, ◌-◌, List, length, take, drop, Option, sym, arith, subst, length-drop, take-append-drop}
use Rattle.std.proofs.lemmas.List.{take_all}
use Rattle.std.proofs.Math.Seq.{take-add}
use Rattle.avtp_base.proofs.Told.{append_known-moved, Appends-trans, Appends-nil}
use Rattle.avtp_base.specs.Told.{Keeps, Appends}
use Rattle.avtp_text.specs.Written.{written}

pub taken_none : (a : Option (List ℕ)) (bytes : List ℕ) → Appends a a (take 0 bytes)
taken_none a bytes = Appends-nil a

-- if a sink took the first `taken` bytes and then `n` more, it took the first `taken + n` bytes
pub taken_more : (a b c : Option (List ℕ)) (bytes : List ℕ) (taken n : ℕ)
    → Appends a b (take taken bytes) → Appends b c (take n (take (length bytes - taken) (drop taken bytes)))
    → Appends a c (take (taken + n) bytes)
taken_more a b c bytes taken n first second =
    let rest : take (length bytes - taken) (drop taken bytes) ≡ drop taken bytes = take_all (length bytes - taken) (drop taken bytes) (simp length-drop (omega arith)) in
    rw (take-add taken n bytes) (Appends-trans a b c (take taken bytes) (take n (drop taken bytes)) first (subst (λ (l : List ℕ). Appends b c (take n l)) rest second))

-- if bytes move from the buffer to the sink, the text that was written so far stays the same
pub written_moved : (old new : Option (List ℕ)) (bytes : List ℕ) (taken : ℕ)
    → Appends old new (take taken bytes)
    → Keeps (written old bytes) (written new (drop taken bytes))
written_moved old new bytes taken took =
    append_known-moved old new (take taken bytes) (drop taken bytes) bytes took (sym (take-append-drop taken bytes))
