-- The pieces of all batches that are not skipped.
use Rattle.std.proofs.Common.{◌≡◌, ℕ, zero, suc, ◌+◌, ◌-◌, ◌*◌, ◌<◌, ◌≤◌, Bool, true, false, ℤ, ◌≤ℤ◌, ◌<ℤ◌, List, [], ◌∷◌, ◌++◌, length, map, Option, Some, None, refl, ap, subst, arith}
use Rattle.std.specs.Prelude.{if◌then◌else◌, int_le, min, nat_lt, not}
use Rattle.std.specs.List.{AllByRecursion, list_any}
use Rattle.std.proofs.lemmas.Bool.Decides.{nat_tests}
use Rattle.std.proofs.lemmas.Int.{ints, int_max_is}
use Rattle.std.proofs.lemmas.List.{map-append}
use Rattle.talker.proofs.FrameLemmas.{all_of}
use Rattle.sample_schedule.specs.Batches.{Presented, sample_instant}
use Rattle.talker.specs.Frames.{RiseByArrival, SentFrame}
use Rattle.talk_plan.specs.Plan.{interval_of}
use Rattle.am824_gateway.specs.declared.piece.Piece.{Piece}
use Rattle.am824_gateway.specs.declared.scan.Shape.{Shape}
use Rattle.am824_gateway.specs.declared.scan.To.{To}
use Rattle.am824_gateway.specs.declared.scan.To.TheVariants.{Aaf, Am824}
use Rattle.am824_gateway.specs.declared.skip.Skip.{Skip}
use Rattle.am824_gateway.specs.declared.skip.Skip.TheVariants.{ShapeOff, Overlap, Range}
use Rattle.am824_gateway.specs.Labels.{value_in}
use Rattle.am824_gateway.specs.Laws.{Cut, HasRisingInstants, IsFrame, Rise, cut_frame, cut_instant, cuts_after, cuts_from}
use Rattle.am824_gateway.specs.Packets.{frame_size, frames_after, frames_from, frames_with, piece_frame}
use Rattle.am824_gateway.specs.Pieces.{Given, arrival_at, given_with, has_shape, is_late, is_nominal, most_frames, next_block, overlaps, piece_count, pieces_from, pieces_of, skip_by, unless}
use Rattle.am824_gateway.specs.Scan.{IsShape}
use Rattle.am824_gateway.specs.state.Kept.{IsWithin}
use Rattle.am824_gateway.proofs.GatewayLemmas.{all_within, length_frame, shaped}
use Rattle.am824_gateway.proofs.PieceLemmas.{counted, fits}

-- ---- a batch that is not skipped

-- The batch is not skipped: it has the shape, does not overlap, and is in time.
pub record IsGiven (to : To) (shape : Shape) (given : Given) (batch : Presented) : Type 0 where
  pub shaped : has_shape to shape batch ≡ true
  pub apart : overlaps given.last batch ≡ false
  pub in_time : list_any (is_late batch) (pieces_of to shape batch given.block) ≡ false

pub given_is : (to : To) (shape : Shape) (given : Given) (batch : Presented) → skip_by to shape given batch ≡ None → IsGiven to shape given batch
given_is to shape given batch e =
    let all = by (has_shape to shape batch) (overlaps given.last batch) (list_any (is_late batch) (pieces_of to shape batch given.block)) e in
    record { shaped = all.0; apart = all.1; in_time = all.2 }
  where
    by : (a b c : Bool) → (if not a then Some ShapeOff else if b then Some Overlap else if c then Some Range else None) ≡ None → (a ≡ true) × (b ≡ false) × (c ≡ false)
    by false b c e = absurd cc
    by true true c e = absurd cc
    by true false true e = absurd cc
    by true false false e = (refl, refl, refl)

-- ---- frames by their pieces

frames_of : (to : To) (shape : Shape) (id n : ℕ) (batch : Presented) (pieces : List Piece) → frames_from to shape id n batch pieces ≡ map (cut_frame to shape id) (cuts_from n batch pieces)
frames_of to shape id n batch [] = refl
frames_of to shape id n batch (p ∷ pieces) = ap (λ (l : List SentFrame). piece_frame to shape id n batch p ∷ l) (frames_of to shape id (suc n) batch pieces)

unless_both : (f : List Cut → List SentFrame) (skip : Option Skip) (a b : List Cut) → unless skip (f a) (f b) ≡ f (unless skip a b)
unless_both f None a b = refl
unless_both f (Some skip) a b = refl

pub frames_are_cuts : (to : To) (shape : Shape) (id : ℕ) (given : Given) (batches : List Presented) → frames_after to shape id given batches ≡ map (cut_frame to shape id) (cuts_after to shape given batches)
frames_are_cuts to shape id given [] = refl
frames_are_cuts to shape id given (b ∷ bs) =
    let skip : Option Skip = skip_by to shape given b in
    let here = frames_of to shape id given.packets b (pieces_of to shape b given.block) in
    let taken = frames_are_cuts to shape id (given_with to shape given b) bs in
    let skipped = frames_are_cuts to shape id given bs in
    rw (here, taken, skipped, ← map-append (cut_frame to shape id) (cuts_from given.packets b (pieces_of to shape b given.block)) (cuts_after to shape (given_with to shape given b) bs))
    (unless_both (map (cut_frame to shape id)) skip (cuts_from given.packets b (pieces_of to shape b given.block) ++ cuts_after to shape (given_with to shape given b) bs) (cuts_after to shape given bs))

-- ---- instants

-- a later sample is presented later
pub later : (batch : Presented) (i d : ℕ) → HasRisingInstants batch → i + suc d < batch.count → sample_instant batch i <ℤ sample_instant batch (i + suc d)
later batch i zero is h =
    let next : i + 1 ≡ suc i = omega arith in
    rw next (is.rise i (omega (arith, h)))
later batch i (suc d) is h =
    let before = later batch i d is (omega (arith, h)) in
    let next : i + suc (suc d) ≡ suc (i + suc d) = omega arith in
    let one = is.rise (i + suc d) (omega (arith, h)) in
    rw next (omega (arith, ints, before, one))

pub not_earlier : (batch : Presented) (i j : ℕ) → HasRisingInstants batch → i ≤ j → j < batch.count → sample_instant batch i ≤ℤ sample_instant batch j
not_earlier batch i j is low high = by (j - i) refl
  where
    by : (d : ℕ) → j - i ≡ d → sample_instant batch i ≤ℤ sample_instant batch j
    by zero e = (let same : i ≡ j = omega (arith, e, low) in rw same (omega (arith, ints)))
    by (suc d) e =
        let at : i + suc d ≡ j = omega (arith, e, low) in
        let after = later batch i d is (omega (arith, at, high)) in
        let there : sample_instant batch i <ℤ sample_instant batch j = subst (λ (k : ℕ). sample_instant batch i <ℤ sample_instant batch k) at after in
        omega (arith, ints, there)

-- ---- the pieces of one batch

all_by : {X : Type 0} (P Q : X → Type 0) → ((x : X) → P x → Q x) → (xs : List X) → AllByRecursion P xs → AllByRecursion Q xs
all_by P Q go [] all = tt
all_by P Q go (x ∷ xs) all = (go x all.0, all_by P Q go xs all.1)

-- The piece begins at sample `first` or later, within the batch.
pub record BeginsFrom (batch : Presented) (first : ℕ) (p : Piece) : Type 0 where
  pub from : first ≤ p.first
  pub inside : p.first < batch.count

begins_later : (batch : Presented) (first next : ℕ) → first ≤ next → (p : Piece) → BeginsFrom batch next p → BeginsFrom batch first p
begins_later batch first next h p is = record { from = omega (arith, h, is.from); inside = is.inside }

begin_by : (batch : Presented) (first count block : ℕ) (rest : List Piece) (b : Bool) → nat_lt first batch.count ≡ b → AllByRecursion (BeginsFrom batch (first + count)) rest
    → AllByRecursion (BeginsFrom batch first) (if b then record { first = first; count = count; block = block } ∷ rest else [])
begin_by batch first count block rest false e all = tt
begin_by batch first count block rest true e all =
    let inside : first < batch.count = grind (arith, nat_tests) in
    (record { from = omega arith; inside = inside }, all_by (BeginsFrom batch (first + count)) (BeginsFrom batch first) (begins_later batch first (first + count) (omega arith)) rest all)

pub begin_from : (to : To) (shape : Shape) (batch : Presented) (most first block : ℕ) → AllByRecursion (BeginsFrom batch first) (pieces_from to shape batch most first block)
begin_from to shape batch zero first block = tt
begin_from to shape batch (suc most) first block =
    begin_by batch first (piece_count to shape batch first) block (pieces_from to shape batch most (first + piece_count to shape batch first) (next_block (interval_of shape.rate) block (piece_count to shape batch first))) (nat_lt first batch.count) refl
    (begin_from to shape batch most (first + piece_count to shape batch first) (next_block (interval_of shape.rate) block (piece_count to shape batch first)))

cuts_all : (P : ℤ → Type 0) (n : ℕ) (batch : Presented) (pieces : List Piece) → AllByRecursion (λ p. P (sample_instant batch p.first)) pieces → AllByRecursion P (map cut_instant (cuts_from n batch pieces))
cuts_all P n batch [] all = tt
cuts_all P n batch (p ∷ pieces) all = (all.0, cuts_all P (suc n) batch pieces all.1)

pub cuts_begin : (P : ℤ → Type 0) (n : ℕ) (batch : Presented) (first : ℕ) (pieces : List Piece) → ((j : ℕ) → first ≤ j → j < batch.count → P (sample_instant batch j)) → AllByRecursion (BeginsFrom batch first) pieces
    → AllByRecursion P (map cut_instant (cuts_from n batch pieces))
cuts_begin P n batch first pieces holds all = cuts_all P n batch pieces (all_by (BeginsFrom batch first) (λ p. P (sample_instant batch p.first)) (λ p is. holds p.first is.from is.inside) pieces all)

rise_by : (n : ℕ) (batch : Presented) (first count block : ℕ) (rest : List Piece) (b : Bool) → nat_lt first batch.count ≡ b → 1 ≤ count → HasRisingInstants batch → AllByRecursion (BeginsFrom batch (first + count)) rest
    → Rise (map cut_instant (cuts_from (suc n) batch rest)) → Rise (map cut_instant (cuts_from n batch (if b then record { first = first; count = count; block = block } ∷ rest else [])))
rise_by n batch first count block rest false e some is all rest_rise = tt
rise_by n batch first count block rest true e some is all rest_rise = (
  cuts_begin (λ y. sample_instant batch first <ℤ y) (suc n) batch (first + count) rest (λ j low high.
      let at : first + suc (j - suc first) ≡ j = omega (arith, low, some) in
      let after = later batch first (j - suc first) is (omega (arith, at, high)) in
      subst (λ (k : ℕ). sample_instant batch first <ℤ sample_instant batch k) at after) all,
  rest_rise,
)

pieces_rise : (to : To) (shape : Shape) (n : ℕ) (batch : Presented) (most first block : ℕ) → HasRisingInstants batch → Rise (map cut_instant (cuts_from n batch (pieces_from to shape batch most first block)))
pieces_rise to shape n batch zero first block is = tt
pieces_rise to shape n batch (suc most) first block is =
    let count = counted (is_nominal shape.rate batch first) 1 (min (most_frames to shape.channels) (batch.count - first) - 1) in
    rise_by n batch first (piece_count to shape batch first) block (pieces_from to shape batch most (first + piece_count to shape batch first) (next_block (interval_of shape.rate) block (piece_count to shape batch first))) (nat_lt first batch.count) refl
    count.0 is (begin_from to shape batch most (first + piece_count to shape batch first) (next_block (interval_of shape.rate) block (piece_count to shape batch first)))
    (pieces_rise to shape (suc n) batch most (first + piece_count to shape batch first) (next_block (interval_of shape.rate) block (piece_count to shape batch first)) is)

-- ---- all batches

all_two : (P : ℤ → Type 0) (xs ys : List ℤ) → AllByRecursion P xs → AllByRecursion P ys → AllByRecursion P (xs ++ ys)
all_two P [] ys first second = second
all_two P (x ∷ xs) ys first second = (first.0, all_two P xs ys first.1 second)

rise_two : (xs ys : List ℤ) → Rise xs → Rise ys → AllByRecursion (λ x. AllByRecursion (λ y. x <ℤ y) ys) xs → Rise (xs ++ ys)
rise_two [] ys first second between = second
rise_two (x ∷ xs) ys first second between = (all_two (λ y. x <ℤ y) xs ys first.0 between.0, rise_two xs ys first.1 second between.1)

is_after : (last : Option ℤ) (l : ℤ) (b : Presented) → last ≡ Some l → overlaps last b ≡ false → l <ℤ sample_instant b 0
is_after None l b e apart = absurd cc
is_after (Some m) l b e apart =
    let same : m ≡ l = cc in
    let at : int_le (sample_instant b 0) l ≡ false = subst (λ (k : ℤ). int_le (sample_instant b 0) k ≡ false) same apart in
    before (sample_instant b 0) l at
  where
    before : (x y : ℤ) → int_le x y ≡ false → y <ℤ x
    before x y e = grind (arith, ints)

-- The pieces of batch b, followed by the pieces of the batches `bs` after b. If b is skipped, it has no pieces.
abbrev cuts_by : Option Skip → To → Shape → Given → Presented → List Presented → List Cut
cuts_by skip to shape given b bs = unless skip (cuts_from given.packets b (pieces_of to shape b given.block) ++ cuts_after to shape (given_with to shape given b) bs) (cuts_after to shape given bs)

after_by : (to : To) (shape : Shape) (given : Given) (b : Presented) (bs : List Presented) (x l : ℤ) (skip : Option Skip) → skip_by to shape given b ≡ skip → given.last ≡ Some l → x ≤ℤ l → HasRisingInstants b
    → AllByRecursion (λ y. x <ℤ y) (map cut_instant (cuts_after to shape given bs))
    → (x ≤ℤ sample_instant b (b.count - 1) → AllByRecursion (λ y. x <ℤ y) (map cut_instant (cuts_after to shape (given_with to shape given b) bs)))
    → AllByRecursion (λ y. x <ℤ y) (map cut_instant (cuts_by skip to shape given b bs))
after_by to shape given b bs x l (Some why) is e h rising skipped taken = skipped
after_by to shape given b bs x l None is e h rising skipped taken =
    let given_out = given_is to shape given b is in
    let begun = is_after given.last l b e given_out.apart in
    let some = rising.some in
    let ended = not_earlier b 0 (b.count - 1) rising (omega arith) (omega (arith, some)) in
    rw (map-append cut_instant (cuts_from given.packets b (pieces_of to shape b given.block)) (cuts_after to shape (given_with to shape given b) bs))
    (all_two (λ y. x <ℤ y) (map cut_instant (cuts_from given.packets b (pieces_of to shape b given.block))) (map cut_instant (cuts_after to shape (given_with to shape given b) bs))
    (cuts_begin (λ y. x <ℤ y) given.packets b 0 (pieces_of to shape b given.block) (λ j low high. let here = not_earlier b 0 j rising low high in omega (arith, ints, h, begun, here)) (begin_from to shape b b.count 0 given.block))
    (taken (omega (arith, ints, h, begun, ended))))

pub after_all : (to : To) (shape : Shape) (given : Given) (batches : List Presented) (x l : ℤ) → given.last ≡ Some l → x ≤ℤ l → AllByRecursion HasRisingInstants batches
    → AllByRecursion (λ y. x <ℤ y) (map cut_instant (cuts_after to shape given batches))
after_all to shape given [] x l e h all = tt
after_all to shape given (b ∷ bs) x l e h all =
    after_by to shape given b bs x l (skip_by to shape given b) refl e h all.0 (after_all to shape given bs x l e h all.1)
    (λ later_on. after_all to shape (given_with to shape given b) bs x (sample_instant b (b.count - 1)) refl later_on all.1)

rise_cuts : (to : To) (shape : Shape) (given : Given) (b : Presented) (bs : List Presented) (skip : Option Skip) → HasRisingInstants b → AllByRecursion HasRisingInstants bs
    → Rise (map cut_instant (cuts_after to shape given bs)) → Rise (map cut_instant (cuts_after to shape (given_with to shape given b) bs)) → Rise (map cut_instant (cuts_by skip to shape given b bs))
rise_cuts to shape given b bs (Some why) rising all skipped taken = skipped
rise_cuts to shape given b bs None rising all skipped taken =
    rw (map-append cut_instant (cuts_from given.packets b (pieces_of to shape b given.block)) (cuts_after to shape (given_with to shape given b) bs))
    (rise_two (map cut_instant (cuts_from given.packets b (pieces_of to shape b given.block))) (map cut_instant (cuts_after to shape (given_with to shape given b) bs))
    (pieces_rise to shape given.packets b b.count 0 given.block rising) taken
    (cuts_begin (λ x. AllByRecursion (λ y. x <ℤ y) (map cut_instant (cuts_after to shape (given_with to shape given b) bs))) given.packets b 0 (pieces_of to shape b given.block)
    (λ j low high. after_all to shape (given_with to shape given b) bs (sample_instant b j) (sample_instant b (b.count - 1)) refl (not_earlier b j (b.count - 1) rising (omega (arith, high)) (omega (arith, high))) all)
    (begin_from to shape b b.count 0 given.block)))

pub rise_all : (to : To) (shape : Shape) (given : Given) (batches : List Presented) → AllByRecursion HasRisingInstants batches → Rise (map cut_instant (cuts_after to shape given batches))
rise_all to shape given [] all = tt
rise_all to shape given (b ∷ bs) all = rise_cuts to shape given b bs (skip_by to shape given b) all.0 all.1 (rise_all to shape given bs all.1) (rise_all to shape (given_with to shape given b) bs all.1)

-- ---- arrivals

arrivals_rise : (x y : ℤ) → x <ℤ y → arrival_at x ≤ℤ arrival_at y
arrivals_rise x y h = omega (arith, ints, int_max_is)

pub arrive_in_order : (to : To) (shape : Shape) (id : ℕ) (cuts : List Cut) → Rise (map cut_instant cuts) → RiseByArrival (map (cut_frame to shape id) cuts)
arrive_in_order to shape id [] rise = tt
arrive_in_order to shape id (c ∷ []) rise = tt
arrive_in_order to shape id (c ∷ d ∷ cuts) rise = (arrivals_rise (cut_instant c) (cut_instant d) rise.0.0, arrive_in_order to shape id (d ∷ cuts) rise.1)

-- ---- sizes

short_frame : (to : To) (shape : Shape) (p : Piece) → p.count ≤ most_frames to shape.channels → frame_size to shape p ≤ 1518
short_frame Am824 shape p h = omega (arith, fits Am824 shape.channels p.count h)
short_frame Aaf shape p h = omega (arith, fits Aaf shape.channels p.count h)

frames_fit : (to : To) (shape : Shape) (id n : ℕ) (batch : Presented) (pieces : List Piece) → length batch.bytes ≡ batch.count * (value_in to * shape.channels) → AllByRecursion (IsWithin to shape batch) pieces
    → AllByRecursion IsFrame (frames_from to shape id n batch pieces)
frames_fit to shape id n batch [] size all = tt
frames_fit to shape id n batch (p ∷ pieces) size all =
    let long = length_frame to shape id n batch p all.0.inside size in
    let short = short_frame to shape p all.0.fits in
    (omega (arith, long, short), frames_fit to shape id (suc n) batch pieces size all.1)

fit_by : (to : To) (shape : Shape) (id : ℕ) (given : Given) (b : Presented) (bs : List Presented) (skip : Option Skip) → skip_by to shape given b ≡ skip → IsShape shape
    → AllByRecursion IsFrame (frames_after to shape id given bs) → AllByRecursion IsFrame (frames_after to shape id (given_with to shape given b) bs)
    → AllByRecursion IsFrame (unless skip (frames_with to shape id given b ++ frames_after to shape id (given_with to shape given b) bs) (frames_after to shape id given bs))
fit_by to shape id given b bs (Some why) e is skipped taken = skipped
fit_by to shape id given b bs None e is skipped taken =
    let given_out = given_is to shape given b e in
    all_of IsFrame (frames_with to shape id given b) (frames_after to shape id (given_with to shape given b) bs)
    (frames_fit to shape id given.packets b (pieces_of to shape b given.block) (shaped to shape b given_out.shaped) (all_within to shape b b.count 0 given.block is given_out.in_time))
    taken

pub all_fit : (to : To) (shape : Shape) (id : ℕ) (given : Given) (batches : List Presented) → IsShape shape → AllByRecursion IsFrame (frames_after to shape id given batches)
all_fit to shape id given [] is = tt
all_fit to shape id given (b ∷ bs) is = fit_by to shape id given b bs (skip_by to shape given b) refl is (all_fit to shape id given bs is) (all_fit to shape id (given_with to shape given b) bs is)
