-- `check` finds nothing in a gateway's frames.
use Rattle.std.proofs.Common.{◌≡◌, ℕ, suc, ◌+◌, ◌-◌, ◌%◌, true, List, [], ◌∷◌, ◌++◌, length, map, Option, Some, None, refl, sym, ap, subst, ◌∙◌, eq-eqb, arith}
use Rattle.std.specs.Prelude.{◌==◌, ⊤, filter, reverse}
use Rattle.std.proofs.lemmas.List.{reverse-append, map-append}
use Rattle.sequence_track.specs.declared.seen.Seen.{Seen}
use Rattle.sequence_track.specs.Findings.{findings, is_tracked, same_stream, step_from, stream_of, tracked_findings}
use Rattle.sample_schedule.specs.Batches.{Presented}
use Rattle.am824_gateway.specs.declared.piece.Piece.{Piece}
use Rattle.am824_gateway.specs.declared.scan.Shape.{Shape}
use Rattle.am824_gateway.specs.declared.scan.To.{To}
use Rattle.am824_gateway.specs.declared.skip.Skip.{Skip}
use Rattle.am824_gateway.specs.Laws.{Cut, cuts_after, cuts_from}
use Rattle.am824_gateway.specs.Pieces.{Given, given_with, pieces_of, skip_by, unless}
use Rattle.gateway_laws.specs.Noted.{cut_seen, nothing_found, subtype_to}

-- ---- numbers

-- the pieces are numbered one by one, from n on
abbrev NumberedFrom : ℕ → List Cut → Type 0
NumberedFrom n [] = ⊤
NumberedFrom n (c ∷ cs) = (c.number ≡ n) × NumberedFrom (suc n) cs

from_numbered : (n : ℕ) (batch : Presented) (pieces : List Piece) → NumberedFrom n (cuts_from n batch pieces)
from_numbered n batch [] = tt
from_numbered n batch (p ∷ pieces) = (refl, from_numbered (suc n) batch pieces)

from_length : (n : ℕ) (batch : Presented) (pieces : List Piece) → length (cuts_from n batch pieces) ≡ length pieces
from_length n batch [] = refl
from_length n batch (p ∷ pieces) = ap suc (from_length (suc n) batch pieces)

two_numbered : (n m : ℕ) (xs ys : List Cut) → n + length xs ≡ m → NumberedFrom n xs → NumberedFrom m ys → NumberedFrom n (xs ++ ys)
two_numbered n m [] ys e first second = (let same : m ≡ n = omega (arith, e) in subst (λ (k : ℕ). NumberedFrom k ys) same second)
two_numbered n m (x ∷ xs) ys e first second = (first.0, two_numbered (suc n) m xs ys (omega (arith, e)) first.1 second)

numbered_by : (n : ℕ) (skip : Option Skip) (xs ys zs : List Cut) → NumberedFrom n (xs ++ ys) → NumberedFrom n zs → NumberedFrom n (unless skip (xs ++ ys) zs)
numbered_by n None xs ys zs taken skipped = taken
numbered_by n (Some why) xs ys zs taken skipped = skipped

all_numbered : (to : To) (shape : Shape) (given : Given) (batches : List Presented) → NumberedFrom given.packets (cuts_after to shape given batches)
all_numbered to shape given [] = tt
all_numbered to shape given (b ∷ bs) =
    let xs : List Cut = cuts_from given.packets b (pieces_of to shape b given.block) in
    let long = from_length given.packets b (pieces_of to shape b given.block) in
    numbered_by given.packets (skip_by to shape given b) xs (cuts_after to shape (given_with to shape given b) bs) (cuts_after to shape given bs)
    (two_numbered given.packets (given.packets + length (pieces_of to shape b given.block)) xs (cuts_after to shape (given_with to shape given b) bs) (omega (arith, long)) (from_numbered given.packets b (pieces_of to shape b given.block)) (all_numbered to shape (given_with to shape given b) bs))
    (all_numbered to shape given bs)

-- if the first piece has number n, a piece's number is n plus the number of pieces before it
number_at : (n : ℕ) (front later : List Cut) (c : Cut) → NumberedFrom n (front ++ c ∷ later) → c.number ≡ n + length front
number_at n [] later c all = all.0 ∙ omega arith
number_at n (x ∷ front) later c all = number_at (suc n) front later c all.1 ∙ omega arith

length_last : (front : List Cut) (last : Cut) → length (front ++ last ∷ []) ≡ suc (length front)
length_last [] last = refl
length_last (x ∷ front) last = ap suc (length_last front last)

last_number : (n : ℕ) (front : List Cut) (last : Cut) (rest : List Cut) → NumberedFrom n ((front ++ last ∷ []) ++ rest) → last.number ≡ n + length front
last_number n [] last rest all = all.0 ∙ omega arith
last_number n (x ∷ front) last rest all = last_number (suc n) front last rest all.1 ∙ omega arith

number_last : (n : ℕ) (front : List Cut) (last : Cut) (earlier rest : List Cut) → earlier ≡ front ++ last ∷ [] → NumberedFrom n (earlier ++ rest) → last.number ≡ n + length front
number_last n front last earlier rest e all = last_number n front last rest (subst (λ (l : List Cut). NumberedFrom n (l ++ rest)) e all)

-- ---- one stream

one_key : (id subtype : ℕ) → same_stream (record { subtype = subtype; id = id }) (record { subtype = subtype; id = id }) ≡ true
one_key id subtype = rw (eq-eqb subtype subtype refl, eq-eqb id id refl) refl

all_kept : (to : To) (id : ℕ) (cs : List Cut) → filter (λ note. same_stream (record { subtype = subtype_to to; id = id }) (stream_of note)) (map (cut_seen to id) cs) ≡ map (cut_seen to id) cs
all_kept to id [] = refl
all_kept to id (c ∷ cs) = rw (one_key id (subtype_to to)) (ap (λ (l : List Seen). cut_seen to id c ∷ l) (all_kept to id cs))

tracked_first : (to : To) (id : ℕ) (x : Cut) (rest : List Seen) → is_tracked (record { subtype = subtype_to to; id = id }) (cut_seen to id x ∷ rest) ≡ true
tracked_first to id x rest = rw (one_key id (subtype_to to)) refl

is_known : (to : To) (id : ℕ) (cs : List Cut) (c : Cut) → is_tracked (record { subtype = subtype_to to; id = id }) (map (cut_seen to id) cs ++ cut_seen to id c ∷ []) ≡ true
is_known to id [] c = tracked_first to id c []
is_known to id (x ∷ cs) c = tracked_first to id x (map (cut_seen to id) cs ++ cut_seen to id c ∷ [])

-- ---- the step from one sequence number to the next

one_step : (n : ℕ) → ((suc n % 256 + 256 - n % 256) % 256 == 1) ≡ true
one_step n = eq-eqb ((suc n % 256 + 256 - n % 256) % 256) 1 (omega arith)

-- The list is not empty: it consists of the list `front`, followed by the last piece.
record Ends (cs : List Cut) : Type 0 where
  front : List Cut
  last : Cut
  whole : cs ≡ front ++ last ∷ []

ends : (c : Cut) (cs : List Cut) → Ends (c ∷ cs)
ends c [] = record { front = []; last = c; whole = refl }
ends c (d ∷ cs) = (let rest = ends d cs in record { front = c ∷ rest.front; last = rest.last; whole = ap (λ (l : List Cut). c ∷ l) rest.whole })

after_last : (to : To) (id : ℕ) (front : List Cut) (last c : Cut) → c.number ≡ suc last.number → tracked_findings (reverse (map (cut_seen to id) (front ++ last ∷ []))) (cut_seen to id c) ≡ nothing_found
after_last to id front last c next =
    let mapped = map-append (cut_seen to id) front (last ∷ []) in
    let turned = reverse-append (map (cut_seen to id) front) (cut_seen to id last ∷ []) in
    let step : (step_from (last.number % 256) (c.number % 256) == 1) ≡ true = rw next (one_step last.number) in
    rw (mapped, turned, step) refl

found : (to : To) (id : ℕ) (earlier : List Cut) (c : Cut) → ((front : List Cut) (last : Cut) → earlier ≡ front ++ last ∷ [] → c.number ≡ suc last.number) → tracked_findings (reverse (map (cut_seen to id) earlier)) (cut_seen to id c) ≡ nothing_found
found to id [] c next = refl
found to id (x ∷ xs) c next =
    let end = ends x xs in
    subst (λ (l : List Cut). tracked_findings (reverse (map (cut_seen to id) l)) (cut_seen to id c) ≡ nothing_found) (sym end.whole) (after_last to id end.front end.last c (next end.front end.last end.whole))

pub none_found : (to : To) (shape : Shape) (id : ℕ) (given : Given) (batches : List Presented) (earlier later : List Cut) (c : Cut) → cuts_after to shape given batches ≡ earlier ++ c ∷ later → findings (map (cut_seen to id) earlier) (cut_seen to id c) ≡ nothing_found
none_found to shape id given batches earlier later c split =
    let numbers = rw split at (all_numbered to shape given batches) in
    let here = number_at given.packets earlier later c numbers in
    let one = found to id earlier c (λ front last e. next front last e numbers here) in
    rw (is_known to id earlier c, all_kept to id earlier) one
  where
    next : (front : List Cut) (last : Cut) → earlier ≡ front ++ last ∷ [] → NumberedFrom given.packets (earlier ++ c ∷ later) → c.number ≡ given.packets + length earlier → c.number ≡ suc last.number
    next front last e numbers here =
        let before = number_last given.packets front last earlier (c ∷ later) e numbers in
        let long = ap (λ (l : List Cut). length l) e in
        let size = length_last front last in
        omega (arith, here, before, long, size)
