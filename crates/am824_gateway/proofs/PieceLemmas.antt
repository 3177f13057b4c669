-- How a batch is cut.
use Rattle.std.proofs.Common.{◌≡◌, ℕ, zero, suc, ◌+◌, ◌-◌, ◌*◌, ◌/◌, ◌<◌, ◌≤◌, Bool, true, false, List, [], ◌∷◌, ◌++◌, length, Option, Some, None, inl, refl, sym, ap, ◌∙◌, append_assoc, arith}
use Rattle.std.specs.Prelude.{◌||◌, ◌+ℤ◌, ◌*ℤ◌, ◌≤ℤ◌, ◌<ℤ◌, min, nat_lt, option_and_then, pos, unwrap_or, ℤ}
use Rattle.std.specs.Ordering.{int_eq}
use Rattle.std.specs.List.{list_any}
use Rattle.std.proofs.Math.Nat.{div-mul-le_self, mul-le-mul_right}
use Rattle.std.proofs.lemmas.Bool.Decides.{Decides-int_eq, nat_tests}
use Rattle.std.proofs.lemmas.Int.{ints}
use Rattle.time_unfold.specs.Lines.{floor_of}
use Rattle.time_unfold.proofs.Floors.{floor_above, floor_below, floor_only}
use Rattle.sample_schedule.specs.Batches.{Presented, sample_instant}
use Rattle.iec61883_format.specs.Iec.{IsSytInterval, syt_interval}
use Rattle.talk_plan.specs.Plan.{fdf_of, interval_of}
use Rattle.talk_plan.specs.Timing.{nominal_offset}
use Rattle.am824_gateway.specs.declared.piece.Piece.{Piece}
use Rattle.am824_gateway.specs.declared.scan.Shape.{Shape}
use Rattle.am824_gateway.specs.declared.scan.To.{To}
use Rattle.am824_gateway.specs.declared.scan.To.TheVariants.{Aaf, Am824}
use Rattle.am824_gateway.specs.Labels.{value_out}
use Rattle.am824_gateway.specs.Packets.{frame_size}
use Rattle.am824_gateway.specs.Pieces.{block_after, going_on, is_late, is_nominal, most_bytes, most_frames, next_block, piece_count, pieces_from, pieces_of}
use Rattle.am824_gateway.specs.Scan.{IsShape}
use Rattle.am824_gateway.specs.state.Cutting.{IsOnePiece}

-- ---- how long a piece is

-- if sample k passes the test, the count goes on with sample k + 1
pub goes_on : (test : ℕ → Bool) (k more : ℕ) → 1 ≤ more → test k ≡ true → going_on test k more ≡ going_on test (k + 1) (more - 1)
goes_on test k zero some e = absurd (omega arith)
goes_on test k (suc more) some e = (let next : k + 1 ≡ suc k = omega arith in let less : suc more - 1 ≡ more = omega arith in rw (e, next, less) refl)

-- if sample k fails the test, the count stops at k
pub stops : (test : ℕ → Bool) (k more : ℕ) → test k ≡ false → going_on test k more ≡ k
stops test k zero e = refl
stops test k (suc more) e = rw e refl

-- if no sample is left, the count stops at k
pub is_full : (test : ℕ → Bool) (k more : ℕ) → more ≡ 0 → going_on test k more ≡ k
is_full test k zero e = refl
is_full test k (suc more) e = absurd (omega arith)

pub counted : (test : ℕ → Bool) (k more : ℕ) → (k ≤ going_on test k more) × (going_on test k more ≤ k + more)
counted test k zero = (omega arith, omega arith)
counted test k (suc more) = by (test k) refl (counted test (suc k) more)
  where
    by : (b : Bool) → test k ≡ b → (suc k ≤ going_on test (suc k) more) × (going_on test (suc k) more ≤ suc k + more) → (k ≤ going_on test k (suc more)) × (going_on test k (suc more) ≤ k + suc more)
    by true e next = rw e (omega (arith, next.0), omega (arith, next.1))
    by false e next = rw e (omega arith, omega arith)

-- the code's comparison of instants gives the result of the test `is_nominal` for sample k
pub test_is : (rate first k j : ℕ) (batch : Presented) (now start : ℤ) (b : Bool) → b ≡ int_eq now (start +ℤ pos (nominal_offset rate k)) → now ≡ sample_instant batch j → j ≡ first + k
    → start ≡ sample_instant batch first → is_nominal rate batch first k ≡ b
test_is rate first k j batch now start b e at place begun = sym (e ∙ (rw (at, place, begun) refl))

-- ---- the pieces

pub first_piece : (to : To) (shape : Shape) (batch : Presented) (most first block : ℕ) → 1 ≤ most → first < batch.count
    → pieces_from to shape batch most first block
    ≡ record { first = first; count = piece_count to shape batch first; block = block }
    ∷ pieces_from to shape batch (most - 1) (first + piece_count to shape batch first) (next_block (interval_of shape.rate) block (piece_count to shape batch first))
first_piece to shape batch zero first block some h = absurd (omega arith)
first_piece to shape batch (suc most) first block some h =
    let test : nat_lt first batch.count ≡ true = grind (arith, nat_tests) in
    let less : suc most - 1 ≡ most = omega arith in
    rw (test, less) refl

-- no piece begins after the last sample
pub no_piece : (to : To) (shape : Shape) (batch : Presented) (most first block : ℕ) → batch.count ≤ first → pieces_from to shape batch most first block ≡ []
no_piece to shape batch zero first block h = refl
no_piece to shape batch (suc most) first block h = (let test : nat_lt first batch.count ≡ false = grind (arith, nat_tests) in rw test refl)

-- the block count after `pieces` and one more piece p
pub block_more : (interval block : ℕ) (pieces : List Piece) (p : Piece) → p.block ≡ block_after interval block pieces → block_after interval block (pieces ++ p ∷ []) ≡ next_block interval p.block p.count
block_more interval block [] p e = refl
block_more interval block (q ∷ pieces) p e = block_more interval (next_block interval q.block q.count) pieces p e

pub late_more : (batch : Presented) (pieces : List Piece) (p : Piece) → list_any (is_late batch) (pieces ++ p ∷ []) ≡ (list_any (is_late batch) pieces || is_late batch p)
late_more batch [] p = by (is_late batch p)
  where
    by : (b : Bool) → (b || false) ≡ (false || b)
    by true = refl
    by false = refl
late_more batch (q ∷ pieces) p = ap (λ (b : Bool). is_late batch q || b) (late_more batch pieces p) ∙ by (is_late batch q) (list_any (is_late batch) pieces) (is_late batch p)
  where
    by : (a b c : Bool) → (a || (b || c)) ≡ ((a || b) || c)
    by true b c = refl
    by false b c = refl

-- each step of the loop preserves one equation: `pieces`, followed by the pieces still to be cut, is `all`
pub step : (to : To) (shape : Shape) (batch : Presented) (pieces : List Piece) (first next count : ℕ) (all : List Piece) → first < batch.count → length pieces ≤ first
    → count ≡ piece_count to shape batch first → pieces ++ pieces_from to shape batch (batch.count - length pieces) first next ≡ all
    → (pieces ++ record { first = first; count = count; block = next } ∷ []) ++ pieces_from to shape batch (batch.count - (length pieces + 1)) (first + count) (next_block (interval_of shape.rate) next count) ≡ all
step to shape batch pieces first next count all inside few is e =
    let here = first_piece to shape batch (batch.count - length pieces) first next (omega arith) inside in
    let less : batch.count - length pieces - 1 ≡ batch.count - (length pieces + 1) = omega arith in
    let here = rw less at here in
    rw is (append_assoc pieces (_ ∷ []) _ ∙ (ap (λ (rest : List Piece). pieces ++ rest) (sym here) ∙ e))

-- ---- sizes

most_of : (count most d : ℕ) → count ≤ most / d → count * d ≤ most
most_of count most d h = (let times = mul-le-mul_right d h in let whole = div-mul-le_self most d in omega (arith, times, whole))

-- a piece of at most `most_frames` sample frames fits in a packet
pub fits : (to : To) (channels count : ℕ) → count ≤ most_frames to channels → count * (value_out to * channels) ≤ most_bytes to
fits to channels count h = most_of count (most_bytes to) (value_out to * channels) h

-- the frame of such a piece is not too long for Ethernet
pub frame_fits : (to : To) (shape : Shape) (p : Piece) → p.count ≤ most_frames to shape.channels → frame_size to shape p ≤ 1518
frame_fits Am824 shape p h = (let size = fits Am824 shape.channels p.count h in omega (arith, size))
frame_fits Aaf shape p h = (let size = fits Aaf shape.channels p.count h in omega (arith, size))

-- ---- rates

pub some_rate : (shape : Shape) → IsShape shape → 1 ≤ shape.rate
some_rate shape is = (let known = is.rate in grind (arith, nat_tests))

pub interval_is : (rate : ℕ) → IsSytInterval (interval_of rate)
interval_is rate = by (fdf_of rate)
  where
    by : (fdf : Option ℕ) → IsSytInterval (unwrap_or (option_and_then syt_interval fdf) 8)
    by None = inl refl
    by (Some code) = grind (arith, nat_tests)

-- ---- a batch that is one piece

all_pass : (test : ℕ → Bool) (j more : ℕ) → ((k : ℕ) → test k ≡ true) → going_on test j more ≡ j + more
all_pass test j zero pass = omega arith
all_pass test j (suc more) pass = (let next = all_pass test (suc j) more pass in rw (pass j, next) (omega arith))

floor_natural : (a d : ℕ) → 1 ≤ d → floor_of (pos a) d ≡ pos (a / d)
floor_natural a d some = floor_only (pos a) (floor_of (pos a) d) (pos (a / d)) d (floor_below (pos a) d some) (floor_above (pos a) d some) (below a d) (above a d some)
  where
    below : (x n : ℕ) → (pos (x / n) *ℤ pos n) ≤ℤ pos x
    below x n = (let whole = div-mul-le_self x n in omega (arith, ints, whole))

    above : (x n : ℕ) → 1 ≤ n → pos x <ℤ ((pos (x / n) +ℤ pos 1) *ℤ pos n)
    above x n h = omega (arith, ints)

steps : (from : ℤ) (num k : ℕ) → from ≡ pos 0 → num ≡ 1000000000 → (from +ℤ pos k) *ℤ pos num ≡ pos (k * 1000000000)
steps from num k e n = rw (e, n) (omega (arith, ints))

on_line : (rate k : ℕ) (batch : Presented) → 1 ≤ rate → batch.from ≡ pos 0 → batch.line.num ≡ 1000000000 → batch.line.den ≡ rate → sample_instant batch k ≡ batch.line.base +ℤ pos (nominal_offset rate k)
on_line rate k batch some from num den =
    ap (λ (z : ℤ). batch.line.base +ℤ floor_of z batch.line.den) (steps batch.from batch.line.num k from num)
    ∙ (ap (λ (d : ℕ). batch.line.base +ℤ floor_of (pos (k * 1000000000)) d) den ∙ ap (λ (z : ℤ). batch.line.base +ℤ z) (floor_natural (k * 1000000000) rate some))

pub one_piece : (to : To) (shape : Shape) (batch : Presented) (block : ℕ) → IsOnePiece to shape batch → 1 ≤ batch.count → pieces_of to shape batch block ≡ record { first = 0; count = batch.count; block = block } ∷ []
one_piece to shape batch block is full =
    let some = some_rate shape is.known in
    let passes = λ (k : ℕ).
    let here = on_line shape.rate k batch some is.begun is.num is.den in
    let start = on_line shape.rate 0 batch some is.begun is.num is.den in
    let none : nominal_offset shape.rate 0 ≡ 0 = omega (arith, some) in
    let begin : sample_instant batch 0 ≡ batch.line.base = start ∙ (rw none (omega (arith, ints))) in
    let zero_k : 0 + k ≡ k = omega arith in
    (Decides-int_eq (sample_instant batch (0 + k)) (sample_instant batch 0 +ℤ pos (nominal_offset shape.rate k))).1 (rw (zero_k, here, begin) refl) in
    let all = all_pass (is_nominal shape.rate batch 0) 1 (min (most_frames to shape.channels) (batch.count - 0) - 1) passes in
    let fits = is.fits in
    let count : piece_count to shape batch 0 ≡ batch.count = omega (arith, all, fits, full) in
    let first = first_piece to shape batch batch.count 0 block full full in
    let rest = no_piece to shape batch (batch.count - 1) (0 + piece_count to shape batch 0) (next_block (interval_of shape.rate) block (piece_count to shape batch 0)) (omega (arith, count)) in
    first ∙ (rw (rest, count) refl)

pub late_one : (batch : Presented) (p : Piece) → list_any (is_late batch) (p ∷ []) ≡ is_late batch p
late_one batch p = by (is_late batch p)
  where
    by : (b : Bool) → (b || false) ≡ b
    by true = refl
    by false = refl
