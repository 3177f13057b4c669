-- Each piece ends before the next piece begins.
use Rattle.std.proofs.Common.{◌≡◌, ℕ, zero, suc, ◌+◌, ◌-◌, ◌≤◌, Bool, true, false, ℤ, pos, ◌+ℤ◌, ◌≤ℤ◌, ◌<ℤ◌, List, [], ◌∷◌, ◌++◌, map, Option, Some, None, refl, sym, subst, arith}
use Rattle.std.specs.Prelude.{if◌then◌else◌, min, nat_lt, ⊤}
use Rattle.std.specs.List.{AllByRecursion}
use Rattle.std.proofs.lemmas.List.{map-append}
use Rattle.sample_schedule.specs.Batches.{Presented, sample_instant}
use Rattle.talk_plan.specs.Plan.{interval_of}
use Rattle.talk_plan.specs.Timing.{nominal_offset}
use Rattle.am824_gateway.specs.declared.piece.Piece.{Piece}
use Rattle.am824_gateway.specs.declared.scan.Shape.{Shape}
use Rattle.am824_gateway.specs.declared.scan.To.{To}
use Rattle.am824_gateway.specs.declared.skip.Skip.{Skip}
use Rattle.am824_gateway.specs.Laws.{Cut, HasRisingInstants, cut_instant, cuts_after, cuts_from}
use Rattle.am824_gateway.specs.Pieces.{Given, given_with, is_nominal, most_frames, next_block, piece_count, pieces_from, pieces_of, skip_by, unless}
use Rattle.am824_gateway.specs.Scan.{IsShape}
use Rattle.am824_gateway.specs.state.Kept.{IsWithin}
use Rattle.am824_gateway.proofs.CutLemmas.{BeginsFrom, after_all, begin_from, cuts_begin, given_is, later, not_earlier}
use Rattle.am824_gateway.proofs.GatewayLemmas.{all_within}
use Rattle.am824_gateway.proofs.PieceLemmas.{counted}
use Rattle.gateway_laws.proofs.SampleLemmas.{counted_at}

-- the instant of the last sample of a piece, counted at the nominal rate from the piece's first sample
abbrev pub end_of : Shape → Cut → ℤ
end_of shape c = cut_instant c +ℤ pos (nominal_offset shape.rate (c.piece.count - 1))

-- each piece ends before all later pieces begin
abbrev pub AreApart : Shape → List Cut → Type 0
AreApart shape [] = ⊤
AreApart shape (c ∷ cs) = AllByRecursion (λ y. end_of shape c <ℤ y) (map cut_instant cs) × AreApart shape cs

some_count : (to : To) (shape : Shape) (batch : Presented) (first : ℕ) → 1 ≤ piece_count to shape batch first
some_count to shape batch first = (counted (is_nominal shape.rate batch first) 1 (min (most_frames to shape.channels) (batch.count - first) - 1)).0

last_of : (to : To) (shape : Shape) (batch : Presented) (first : ℕ) → sample_instant batch first +ℤ pos (nominal_offset shape.rate (piece_count to shape batch first - 1)) ≡ sample_instant batch (first + (piece_count to shape batch first - 1))
last_of to shape batch first = (let some = some_count to shape batch first in counted_at to shape batch first (piece_count to shape batch first - 1) (omega (arith, some)))

-- ---- the pieces of a batch

apart_by : (to : To) (shape : Shape) (n : ℕ) (batch : Presented) (first block : ℕ) (rest : List Piece) (b : Bool) → nat_lt first batch.count ≡ b → HasRisingInstants batch → AllByRecursion (BeginsFrom batch (first + piece_count to shape batch first)) rest
    → AreApart shape (cuts_from (suc n) batch rest) → AreApart shape (cuts_from n batch (if b then record { first = first; count = piece_count to shape batch first; block = block } ∷ rest else []))
apart_by to shape n batch first block rest false e is all apart = tt
apart_by to shape n batch first block rest true e is all apart = (
  cuts_begin (λ y. (sample_instant batch first +ℤ pos (nominal_offset shape.rate (piece_count to shape batch first - 1))) <ℤ y) (suc n) batch (first + piece_count to shape batch first) rest (λ j low high.
      let some = some_count to shape batch first in
      let last : ℕ = first + (piece_count to shape batch first - 1) in
      let at : last + suc (j - suc last) ≡ j = omega (arith, low, some) in
      let after = later batch last (j - suc last) is (omega (arith, at, high)) in
      let there : sample_instant batch last <ℤ sample_instant batch j = subst (λ (k : ℕ). sample_instant batch last <ℤ sample_instant batch k) at after in
      subst (λ (x : ℤ). x <ℤ sample_instant batch j) (sym (last_of to shape batch first)) there) all,
  apart,
)

pieces_apart : (to : To) (shape : Shape) (n : ℕ) (batch : Presented) (most first block : ℕ) → HasRisingInstants batch → AreApart shape (cuts_from n batch (pieces_from to shape batch most first block))
pieces_apart to shape n batch zero first block is = tt
pieces_apart to shape n batch (suc most) first block is =
    let next : ℕ = next_block (interval_of shape.rate) block (piece_count to shape batch first) in
    let after : ℕ = first + piece_count to shape batch first in
    apart_by to shape n batch first block (pieces_from to shape batch most after next) (nat_lt first batch.count) refl is (begin_from to shape batch most after next) (pieces_apart to shape (suc n) batch most after next is)

-- the piece has as many samples as a gateway puts into a piece that begins with the same sample
abbrev IsCounted : To → Shape → Presented → Piece → Type 0
IsCounted to shape batch p = p.count ≡ piece_count to shape batch p.first

counted_by : (P : Piece → Type 0) (b : Bool) (p : Piece) (rest : List Piece) → P p → AllByRecursion P rest → AllByRecursion P (if b then p ∷ rest else [])
counted_by P false p rest is all = tt
counted_by P true p rest is all = (is, all)

pieces_counted : (to : To) (shape : Shape) (batch : Presented) (most first block : ℕ) → AllByRecursion (IsCounted to shape batch) (pieces_from to shape batch most first block)
pieces_counted to shape batch zero first block = tt
pieces_counted to shape batch (suc most) first block =
    let next : ℕ = next_block (interval_of shape.rate) block (piece_count to shape batch first) in
    let after : ℕ = first + piece_count to shape batch first in
    counted_by (IsCounted to shape batch) (nat_lt first batch.count) (record { first = first; count = piece_count to shape batch first; block = block }) (pieces_from to shape batch most after next) refl (pieces_counted to shape batch most after next)

-- ---- all batches

-- a piece ends at or before the end of its batch
ends_within : (to : To) (shape : Shape) (n : ℕ) (batch : Presented) (p : Piece) → HasRisingInstants batch → IsWithin to shape batch p → IsCounted to shape batch p → end_of shape (record { number = n; batch = batch; piece = p }) ≤ℤ sample_instant batch (batch.count - 1)
ends_within to shape n batch p is within count =
    let inside = within.inside in
    let some = within.some in
    let last = not_earlier batch (p.first + (p.count - 1)) (batch.count - 1) is (omega (arith, inside, some)) (omega (arith, inside, some)) in
    let same = last_of to shape batch p.first in
    let same = rw (← count) at same in
    subst (λ (x : ℤ). x ≤ℤ sample_instant batch (batch.count - 1)) (sym same) last

-- piece c ends before each of the pieces `ys` begins
abbrev EndBefore : Shape → List Cut → Cut → Type 0
EndBefore shape ys c = AllByRecursion (λ y. end_of shape c <ℤ y) (map cut_instant ys)

all_two : (P : ℤ → Type 0) (xs ys : List ℤ) → AllByRecursion P xs → AllByRecursion P ys → AllByRecursion P (xs ++ ys)
all_two P [] ys first second = second
all_two P (x ∷ xs) ys first second = (first.0, all_two P xs ys first.1 second)

apart_two : (shape : Shape) (xs ys : List Cut) → AreApart shape xs → AreApart shape ys → AllByRecursion (EndBefore shape ys) xs → AreApart shape (xs ++ ys)
apart_two shape [] ys first second between = second
apart_two shape (x ∷ xs) ys first second between = (
  rw (map-append cut_instant xs ys) (all_two (λ y. end_of shape x <ℤ y) (map cut_instant xs) (map cut_instant ys) first.0 between.0),
  apart_two shape xs ys first.1 second between.1,
)

all_before : (to : To) (shape : Shape) (n : ℕ) (b : Presented) (pieces : List Piece) (given : Given) (bs : List Presented) → given.last ≡ Some (sample_instant b (b.count - 1)) → HasRisingInstants b → AllByRecursion HasRisingInstants bs → AllByRecursion (IsWithin to shape b) pieces
    → AllByRecursion (IsCounted to shape b) pieces → AllByRecursion (EndBefore shape (cuts_after to shape given bs)) (cuts_from n b pieces)
all_before to shape n b [] given bs e is all within count = tt
all_before to shape n b (p ∷ pieces) given bs e is all within count = (
  after_all to shape given bs (end_of shape (record { number = n; batch = b; piece = p })) (sample_instant b (b.count - 1)) e (ends_within to shape n b p is within.0 count.0) all,
  all_before to shape (suc n) b pieces given bs e is all within.1 count.1,
)

apart_cuts : (to : To) (shape : Shape) (given : Given) (b : Presented) (bs : List Presented) (skip : Option Skip) → skip_by to shape given b ≡ skip → IsShape shape → HasRisingInstants b → AllByRecursion HasRisingInstants bs
    → AreApart shape (cuts_after to shape given bs) → AreApart shape (cuts_after to shape (given_with to shape given b) bs)
    → AreApart shape (unless skip (cuts_from given.packets b (pieces_of to shape b given.block) ++ cuts_after to shape (given_with to shape given b) bs) (cuts_after to shape given bs))
apart_cuts to shape given b bs (Some why) e is rising all skipped taken = skipped
apart_cuts to shape given b bs None e is rising all skipped taken =
    let given_out = given_is to shape given b e in
    apart_two shape (cuts_from given.packets b (pieces_of to shape b given.block)) (cuts_after to shape (given_with to shape given b) bs) (pieces_apart to shape given.packets b b.count 0 given.block rising) taken
    (all_before to shape given.packets b (pieces_of to shape b given.block) (given_with to shape given b) bs refl rising all (all_within to shape b b.count 0 given.block is given_out.in_time) (pieces_counted to shape b b.count 0 given.block))

pub all_apart : (to : To) (shape : Shape) (given : Given) (batches : List Presented) → IsShape shape → AllByRecursion HasRisingInstants batches → AreApart shape (cuts_after to shape given batches)
all_apart to shape given [] is all = tt
all_apart to shape given (b ∷ bs) is all = apart_cuts to shape given b bs (skip_by to shape given b) refl is all.0 all.1 (all_apart to shape given bs is all.1) (all_apart to shape (given_with to shape given b) bs is all.1)
