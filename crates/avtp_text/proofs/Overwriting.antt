-- A piece that is written over bytes of a text.
use Rattle.std.proofs.Common.{◌≡◌, ℕ, ◌+◌, ◌≤◌, List, ◌++◌, length, take, drop, sym, ap, ◌∙◌, arith, append_assoc, length-append, take-append-drop}
use Rattle.std.proofs.lemmas.List.{drop-drop, take_at, drop_at, length-take-le}
use Rattle.std.proofs.lemmas.Slice.{take-put_mid_below}
use Rattle.std.specs.List.{refill}
use borrow.Rule.Slice.PartMut.{put_mid}
use Rattle.avtp_text.specs.state.Overwrites.{Overwrites}

-- if `piece` is written after the first `m` bytes, it replaces the bytes there and no others
from_place : (s t before was after piece : List ℕ) (m : ℕ)
    → s ≡ before ++ was ++ after → length before ≡ m → length was ≡ length piece
    → take m t ≡ take m s → drop m t ≡ piece ++ drop (m + length piece) s
    → t ≡ before ++ piece ++ after
from_place s t before was after piece m split at same kept written =
    let front : take m t ≡ before = kept ∙ ap (take m) (split ∙ append_assoc before was after) ∙ take_at before (was ++ after) m at in
    let len : length (before ++ was) ≡ m + length piece = omega (arith, at, same, length-append before was) in
    let rest : drop (m + length piece) s ≡ after = ap (drop (m + length piece)) split ∙ drop_at (before ++ was) after (m + length piece) len in
    let back : drop m t ≡ piece ++ after = written ∙ ap (λ (x : List ℕ). piece ++ x) rest in
    sym (take-append-drop m t) ∙ rw (front, back) (sym (append_assoc before piece after))

pub overwritten : (s t piece : List ℕ) (place behind : ℕ) → place + length piece + behind ≡ length s
    → take place t ≡ take place s → drop place t ≡ piece ++ drop (place + length piece) s
    → Overwrites s t piece behind
overwritten s t piece place behind ends kept written before was after split same last =
    let len : length s ≡ length before + length was + length after =
    ap length split ∙ length-append (before ++ was) after ∙ ap (λ (n : ℕ). n + length after) (length-append before was) in
    from_place s t before was after piece place split (omega (arith, len, ends, same, last)) same kept written

-- if the `n` bytes of `piece` are put at index `place`, `piece` overwrites the bytes there
pub part_overwritten : (s piece : List ℕ) (place n behind : ℕ) → length piece ≡ n → place + n + behind ≡ length s
    → Overwrites s (put_mid place n s piece) piece behind
part_overwritten s piece place n behind len ends =
    let inside : place ≤ length s = omega (arith, ends) in
    let back : drop place (put_mid place n s piece) ≡ piece ++ drop (place + length piece) s =
    drop_at (take place s) (piece ++ drop n (drop place s)) place (length-take-le place s inside) ∙ ap (λ (x : List ℕ). piece ++ x) (drop-drop n place s ∙ ap (λ (k : ℕ). drop (place + k) s) (sym len)) in
    overwritten s (put_mid place n s piece) piece place behind (omega (arith, len, ends)) (take-put_mid_below place n s piece place (omega arith) inside) back

pub all_left : (lent left : List ℕ) → length left ≡ length lent → refill (length lent) lent left ≡ left
all_left lent left same = take_at left (drop (length left) lent) (length lent) same
