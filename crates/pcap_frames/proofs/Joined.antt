-- Pieces joined one after the other.
use Rattle.std.proofs.Common.{◌≡◌, ℕ, ◌+◌, ◌<◌, ◌≤◌, List, ◌++◌, length, take, drop, get_or, refl, sym, ap, ◌∙◌, arith, length-append}
use Rattle.std.proofs.lemmas.Grind.{flat_map-append}
use Rattle.std.proofs.lemmas.List.{append-nil, take_more, take-append-drop}
use Rattle.pcap_frames.specs.Pieces.{joined}

pub joined_more : (pieces : List (List ℕ)) (i : ℕ) (piece : List ℕ) → i < length pieces → piece ≡ get_or pieces i piece → joined (take (i + 1) pieces) ≡ joined (take i pieces) ++ piece
joined_more pieces i piece h e =
    rw (take_more pieces i piece h, flat_map-append, append-nil, ← e) refl

pub joined_within : (pieces : List (List ℕ)) (i : ℕ) → length (joined (take i pieces)) ≤ length (joined pieces)
joined_within pieces i =
    let whole : joined pieces ≡ joined (take i pieces) ++ joined (drop i pieces) = ap joined (sym (take-append-drop i pieces)) ∙ flat_map-append (λ (p : List ℕ). p) (take i pieces) (drop i pieces) in
    omega (arith, ap length whole, length-append (joined (take i pieces)) (joined (drop i pieces)))
