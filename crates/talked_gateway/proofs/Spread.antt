-- The packets that a gateway makes from the batches of a plan are presented at least 500 ns apart.
use Rattle.std.proofs.Common.{◌≡◌, ℕ, zero, suc, ◌+◌, ◌-◌, ◌<◌, ◌≤◌, Bool, true, false, ℤ, pos, ◌+ℤ◌, ◌≤ℤ◌, List, [], ◌∷◌, ◌++◌, map, Option, Some, None, refl, arith}
use Rattle.std.specs.Prelude.{if◌then◌else◌, min, nat_lt}
use Rattle.std.specs.List.{AllByRecursion}
use Rattle.std.proofs.lemmas.Int.{ints}
use Rattle.std.proofs.lemmas.List.{map-append}
use Rattle.sample_schedule.specs.Batches.{Presented, sample_instant}
use Rattle.am824_gateway.specs.declared.piece.Piece.{Piece}
use Rattle.am824_gateway.specs.declared.scan.Shape.{Shape}
use Rattle.am824_gateway.specs.declared.scan.To.{To}
use Rattle.am824_gateway.specs.declared.skip.Skip.{Skip}
use Rattle.am824_gateway.specs.Laws.{Cut, cut_instant, cuts_after, cuts_from}
use Rattle.am824_gateway.specs.Pieces.{Given, given_with, is_nominal, most_frames, next_block, nothing_given, piece_count, pieces_from, pieces_of, skip_by, unless}
use Rattle.am824_gateway.proofs.CutLemmas.{BeginsFrom, begin_from, cuts_begin}
use Rattle.am824_gateway.proofs.PieceLemmas.{counted}
use Rattle.gateway_laws.specs.Room.{ArePacketsSpread, AreSpread}
use Rattle.talk_plan.specs.Plan.{interval_of}
use Rattle.talked_gateway.proofs.Sent.{IsBefore}
use Rattle.talked_gateway.proofs.Skipped.{AreApart, IsInTime}

-- ---- the pieces of one batch

spread_by : (n : ℕ) (batch : Presented) (first count block : ℕ) (rest : List Piece) (b : Bool) → nat_lt first batch.count ≡ b → 1 ≤ count → IsInTime batch → AllByRecursion (BeginsFrom batch (first + count)) rest
    → AreSpread (map cut_instant (cuts_from (suc n) batch rest)) → AreSpread (map cut_instant (cuts_from n batch (if b then record { first = first; count = count; block = block } ∷ rest else [])))
spread_by n batch first count block rest false e some is all spread = tt
spread_by n batch first count block rest true e some is all spread = (
  cuts_begin (λ y. (sample_instant batch first +ℤ pos 500) ≤ℤ y) (suc n) batch (first + count) rest (λ j low high. is.apart first j (omega (arith, low, some)) high) all,
  spread,
)

pieces_spread : (to : To) (shape : Shape) (n : ℕ) (batch : Presented) (most first block : ℕ) → IsInTime batch → AreSpread (map cut_instant (cuts_from n batch (pieces_from to shape batch most first block)))
pieces_spread to shape n batch zero first block is = tt
pieces_spread to shape n batch (suc most) first block is =
    let count = counted (is_nominal shape.rate batch first) 1 (min (most_frames to shape.channels) (batch.count - first) - 1) in
    let after : ℕ = first + piece_count to shape batch first in
    let next : ℕ = next_block (interval_of shape.rate) block (piece_count to shape batch first) in
    spread_by n batch first (piece_count to shape batch first) block (pieces_from to shape batch most after next) (nat_lt first batch.count) refl count.0 is (begin_from to shape batch most after next)
    (pieces_spread to shape (suc n) batch most after next is)

-- ---- all batches

both_hold : (P : ℤ → Type 0) (xs ys : List ℤ) → AllByRecursion P xs → AllByRecursion P ys → AllByRecursion P (xs ++ ys)
both_hold P [] ys first second = second
both_hold P (x ∷ xs) ys first second = (first.0, both_hold P xs ys first.1 second)

both_spread : (xs ys : List ℤ) → AreSpread xs → AreSpread ys → AllByRecursion (λ x. AllByRecursion (λ y. (x +ℤ pos 500) ≤ℤ y) ys) xs → AreSpread (xs ++ ys)
both_spread [] ys first second between = second
both_spread (x ∷ xs) ys first second between = (both_hold (λ y. (x +ℤ pos 500) ≤ℤ y) xs ys first.0 between.0, both_spread xs ys first.1 second between.1)

-- P holds for the instant of each sample of these batches
abbrev HoldsOf : (ℤ → Type 0) → List Presented → Type 0
HoldsOf P bs = AllByRecursion (λ b. (j : ℕ) → j < b.count → P (sample_instant b j)) bs

hold_unless : (P : ℤ → Type 0) (skip : Option Skip) (xs ys zs : List Cut) → AllByRecursion P (map cut_instant xs) → AllByRecursion P (map cut_instant ys) → AllByRecursion P (map cut_instant zs) → AllByRecursion P (map cut_instant (unless skip (xs ++ ys) zs))
hold_unless P (Some why) xs ys zs first second skipped = skipped
hold_unless P None xs ys zs first second skipped = rw (map-append cut_instant xs ys) (both_hold P (map cut_instant xs) (map cut_instant ys) first second)

cuts_hold : (P : ℤ → Type 0) (to : To) (shape : Shape) (given : Given) (bs : List Presented) → HoldsOf P bs → AllByRecursion P (map cut_instant (cuts_after to shape given bs))
cuts_hold P to shape given [] holds = tt
cuts_hold P to shape given (b ∷ bs) holds =
    hold_unless P (skip_by to shape given b) (cuts_from given.packets b (pieces_of to shape b given.block)) (cuts_after to shape (given_with to shape given b) bs) (cuts_after to shape given bs)
    (cuts_begin P given.packets b 0 (pieces_of to shape b given.block) (λ j low high. holds.0 j high) (begin_from to shape b b.count 0 given.block))
    (cuts_hold P to shape (given_with to shape given b) bs holds.1) (cuts_hold P to shape given bs holds.1)

-- each sample of the batches after batch a is at least 500 ns after sample k of batch a
later_hold : (a : Presented) (k : ℕ) (bs : List Presented) → k < a.count → AllByRecursion (IsBefore a) bs → AreApart bs → HoldsOf (λ y. (sample_instant a k +ℤ pos 500) ≤ℤ y) bs
later_hold a k [] within before apart = tt
later_hold a k (b ∷ bs) within before apart = (of, later_hold a k bs within before.1 apart.2)
  where
    of : (j : ℕ) → j < b.count → (sample_instant a k +ℤ pos 500) ≤ℤ sample_instant b j
    of zero high = before.0.last k within
    of (suc j) high =
        let first = before.0.last k within in
        let next = apart.0.apart 0 (suc j) (omega arith) high in
        omega (arith, ints, first, next)

spread_unless : (skip : Option Skip) (xs ys zs : List Cut) → AreSpread (map cut_instant xs) → AreSpread (map cut_instant ys) → AreSpread (map cut_instant zs) → AllByRecursion (λ x. AllByRecursion (λ y. (x +ℤ pos 500) ≤ℤ y) (map cut_instant ys)) (map cut_instant xs)
    → AreSpread (map cut_instant (unless skip (xs ++ ys) zs))
spread_unless (Some why) xs ys zs first second skipped between = skipped
spread_unless None xs ys zs first second skipped between = rw (map-append cut_instant xs ys) (both_spread (map cut_instant xs) (map cut_instant ys) first second between)

all_spread : (to : To) (shape : Shape) (given : Given) (bs : List Presented) → AreApart bs → AreSpread (map cut_instant (cuts_after to shape given bs))
all_spread to shape given [] apart = tt
all_spread to shape given (b ∷ bs) apart =
    let next : Given = given_with to shape given b in
    spread_unless (skip_by to shape given b) (cuts_from given.packets b (pieces_of to shape b given.block)) (cuts_after to shape next bs) (cuts_after to shape given bs)
    (pieces_spread to shape given.packets b b.count 0 given.block apart.0) (all_spread to shape next bs apart.2) (all_spread to shape given bs apart.2)
    (cuts_begin (λ x. AllByRecursion (λ y. (x +ℤ pos 500) ≤ℤ y) (map cut_instant (cuts_after to shape next bs))) given.packets b 0 (pieces_of to shape b given.block)
    (λ j low high. cuts_hold (λ y. (sample_instant b j +ℤ pos 500) ≤ℤ y) to shape next bs (later_hold b j bs high apart.1 apart.2)) (begin_from to shape b b.count 0 given.block))

pub packets_spread : (to : To) (shape : Option Shape) (batches : List Presented) → AreApart batches → ArePacketsSpread to shape batches
packets_spread to None batches apart = tt
packets_spread to (Some shape) batches apart = all_spread to shape nothing_given batches apart
