-- The samples of all pieces are those of the batches.
use Rattle.std.proofs.Common.{◌≡◌, ℕ, zero, suc, ◌+◌, ◌-◌, ◌*◌, ◌<◌, ◌≤◌, Bool, true, false, pos, List, [], ◌∷◌, ◌++◌, length, take, drop, Option, Some, None, refl, sym, ap, subst, ◌∙◌, arith}
use Rattle.std.specs.Prelude.{◌+ℤ◌, if◌then◌else◌, min, nat_lt, flat_map}
use Rattle.std.proofs.lemmas.Bool.Decides.{Decides-int_eq, nat_tests}
use Rattle.std.proofs.lemmas.Int.{ints}
use Rattle.std.proofs.lemmas.Grind.{flat_map-append}
use Rattle.std.proofs.lemmas.List.{drop-drop, drop-take, take-take}
use Rattle.sample_schedule.specs.Batches.{Presented, sample_instant}
use Rattle.talk_plan.specs.Plan.{interval_of}
use Rattle.talk_plan.specs.Timing.{nominal_offset}
use Rattle.am824_gateway.specs.declared.piece.Piece.{Piece}
use Rattle.am824_gateway.specs.declared.scan.Shape.{Shape}
use Rattle.am824_gateway.specs.declared.scan.To.{To}
use Rattle.am824_gateway.specs.declared.scan.To.TheVariants.{Aaf, Am824}
use Rattle.am824_gateway.specs.declared.skip.Skip.{Skip}
use Rattle.am824_gateway.specs.Labels.{unlabelled, value_in, value_out}
use Rattle.am824_gateway.specs.Laws.{cuts_after, cuts_from, given_batches}
use Rattle.am824_gateway.specs.Packets.{samples_of, values_of}
use Rattle.am824_gateway.specs.Pieces.{Given, given_with, going_on, is_nominal, most_frames, next_block, piece_count, pieces_from, pieces_of, skip_by, unless}
use Rattle.gateway_laws.specs.Samples.{Sample, batch_samples, packet_samples, part, samples_presented, samples_sent, values_in, values_out}
use Rattle.am824_gateway.specs.Scan.{IsShape}
use Rattle.am824_gateway.proofs.CutLemmas.{given_is}
use Rattle.am824_gateway.proofs.GatewayLemmas.{shaped, some_frames}
use Rattle.am824_gateway.proofs.ListLemmas.{length-part}
use Rattle.am824_gateway.proofs.PieceLemmas.{counted}
use Rattle.gateway_laws.proofs.ValueLemmas.{labels_part, values_part}

-- ---- instants

passed_by : (test : ℕ → Bool) (j k more : ℕ) (b : Bool) → test j ≡ b → j ≤ k → k < (if b then going_on test (suc j) more else j) → (suc j ≤ k → k < going_on test (suc j) more → test k ≡ true) → test k ≡ true
passed_by test j k more false e low high later = absurd (omega arith)
passed_by test j k more true e low high later = by (k - j) refl
  where
    by : (d : ℕ) → k - j ≡ d → test k ≡ true
    by zero same = (let at : j ≡ k = omega (arith, same, low) in subst (λ (i : ℕ). test i ≡ true) at e)
    by (suc d) more_is = later (omega (arith, more_is)) high

passed : (test : ℕ → Bool) (j more k : ℕ) → j ≤ k → k < going_on test j more → test k ≡ true
passed test j zero k low high = absurd (omega arith)
passed test j (suc more) k low high = passed_by test j k more (test j) refl low high (λ next below. passed test (suc j) more k next below)

no_offset : (rate : ℕ) → nominal_offset rate 0 ≡ 0
no_offset zero = refl
no_offset (suc rate) = omega arith

-- each sample of a piece is at its nominal instant, counted from the piece's first sample
pub counted_at : (to : To) (shape : Shape) (batch : Presented) (first k : ℕ) → k < piece_count to shape batch first → sample_instant batch first +ℤ pos (nominal_offset shape.rate k) ≡ sample_instant batch (first + k)
counted_at to shape batch first zero h =
    let none = no_offset shape.rate in
    let same : first + 0 ≡ first = omega arith in
    rw (none, same) (omega (arith, ints))
counted_at to shape batch first (suc k) h =
    sym ((Decides-int_eq (sample_instant batch (first + suc k)) (sample_instant batch first +ℤ pos (nominal_offset shape.rate (suc k)))).0
    (passed (is_nominal shape.rate batch first) 1 (min (most_frames to shape.channels) (batch.count - first) - 1) (suc k) (omega arith) h))

-- ---- values

part_of : (s first count k : ℕ) (bytes : List ℕ) → k < count → take s (drop (k * s) (take (count * s) (drop (first * s) bytes))) ≡ part s (first + k) bytes
part_of s first count k bytes h =
    let rest : ℕ = (count - k) * s in
    let whole : k * s + rest ≡ count * s = (let split : k + (count - k) ≡ count = omega (arith, h) in subst (λ (n : ℕ). k * s + (count - k) * s ≡ n * s) split (omega arith)) in
    let less : s ≤ rest = (let one : 1 + (count - k - 1) ≡ count - k = omega (arith, h) in subst (λ (n : ℕ). s ≤ n * s) one (omega arith)) in
    let cut = drop-take (k * s) rest (drop (first * s) bytes) in
    let cut : drop (k * s) (take (count * s) (drop (first * s) bytes)) ≡ take rest (drop (k * s) (drop (first * s) bytes)) = subst (λ (n : ℕ). drop (k * s) (take n (drop (first * s) bytes)) ≡ take rest (drop (k * s) (drop (first * s) bytes))) whole cut in
    let short = take-take s rest (drop (k * s) (drop (first * s) bytes)) less in
    let at = drop-drop (k * s) (first * s) bytes in
    let place : first * s + k * s ≡ (first + k) * s = omega arith in
    ap (take s) cut ∙ (short ∙ (ap (take s) at ∙ ap (λ (n : ℕ). take s (drop n bytes)) place))

groups : (count k ch : ℕ) → k < count → k * ch + ch + (count - k - 1) * ch ≡ count * ch
groups count k ch h = (let split : k + 1 + (count - k - 1) ≡ count = omega (arith, h) in subst (λ (n : ℕ). k * ch + ch + (count - k - 1) * ch ≡ n * ch) split (omega arith))

-- sample k of a piece, as it is sent, has the values of sample `p.first + k` of the batch
same_values : (to : To) (shape : Shape) (batch : Presented) (p : Piece) (k : ℕ) → k < p.count → p.first + p.count ≤ batch.count → length batch.bytes ≡ batch.count * (value_in to * shape.channels)
    → values_out to shape.channels (part (value_out to * shape.channels) k (samples_of to shape batch p)) ≡ values_in to shape.channels (part (value_in to * shape.channels) (p.first + k) batch.bytes)
same_values Am824 shape batch p k h inside size =
    let ch : ℕ = shape.channels in
    let v : List ℕ = values_of Am824 shape batch p in
    let long : length v ≡ p.count * (3 * ch) = length-part (p.first * (3 * ch)) (p.count * (3 * ch)) batch.bytes (within p.first p.count batch.count (3 * ch) (length batch.bytes) inside size) in
    let all = groups p.count k ch h in
    let part_is = labels_part (k * ch) ch ((p.count - k - 1) * ch) v (omega (arith, all, long)) in
    let part_is = rw all at part_is in
    let four : 4 * (k * ch) ≡ k * (4 * ch) = omega arith in
    let three : 3 * (k * ch) ≡ k * (3 * ch) = omega arith in
    let part_is = rw (four, three) at part_is in
    part_is ∙ part_of (3 * ch) p.first p.count k batch.bytes h
  where
    within : (first count total s n : ℕ) → first + count ≤ total → n ≡ total * s → first * s + count * s ≤ n
    within first count total s n h e = (let left : first + count + (total - (first + count)) ≡ total = omega (arith, h) in let whole : first * s + count * s + (total - (first + count)) * s ≡ total * s = subst (λ (m : ℕ). first * s + count * s + (total - (first + count)) * s ≡ m * s) left (omega arith) in omega (arith, whole, e))
same_values Aaf shape batch p k h inside size =
    let ch : ℕ = shape.channels in
    let q : List ℕ = values_of Aaf shape batch p in
    let long : length q ≡ p.count * (4 * ch) = length-part (p.first * (4 * ch)) (p.count * (4 * ch)) batch.bytes (within p.first p.count batch.count (4 * ch) (length batch.bytes) inside size) in
    let all = groups p.count k ch h in
    let part_is = values_part (k * ch) ch ((p.count - k - 1) * ch) q (omega (arith, all, long)) in
    let part_is = rw all at part_is in
    let four : 4 * (k * ch) ≡ k * (4 * ch) = omega arith in
    let three : 3 * (k * ch) ≡ k * (3 * ch) = omega arith in
    let part_is = rw (four, three) at part_is in
    part_is ∙ ap (unlabelled ch) (part_of (4 * ch) p.first p.count k batch.bytes h)
  where
    within : (first count total s n : ℕ) → first + count ≤ total → n ≡ total * s → first * s + count * s ≤ n
    within first count total s n h e = (let left : first + count + (total - (first + count)) ≡ total = omega (arith, h) in let whole : first * s + count * s + (total - (first + count)) * s ≡ total * s = subst (λ (m : ℕ). first * s + count * s + (total - (first + count)) * s ≡ m * s) left (omega arith) in omega (arith, whole, e))

-- ---- a piece

piece_kept : (to : To) (shape : Shape) (batch : Presented) (p : Piece) (k n : ℕ) → p.count ≡ piece_count to shape batch p.first → k + n ≤ p.count → p.first + p.count ≤ batch.count → length batch.bytes ≡ batch.count * (value_in to * shape.channels)
    → packet_samples to shape (sample_instant batch p.first) (samples_of to shape batch p) k n ≡ batch_samples to shape batch (p.first + k) n
piece_kept to shape batch p k zero is fits inside size = refl
piece_kept to shape batch p k (suc n) is fits inside size =
    let at = counted_at to shape batch p.first k (omega (arith, is, fits)) in
    let values = same_values to shape batch p k (omega (arith, fits)) inside size in
    let rest = piece_kept to shape batch p (suc k) n is (omega (arith, fits)) inside size in
    let next : p.first + suc k ≡ suc (p.first + k) = omega arith in
    rw (at, values, rest, next) refl

samples_both : (to : To) (shape : Shape) (batch : Presented) (j a b : ℕ) → batch_samples to shape batch j (a + b) ≡ batch_samples to shape batch j a ++ batch_samples to shape batch (j + a) b
samples_both to shape batch j zero b = (let none : 0 + b ≡ b = omega arith in let same : j + 0 ≡ j = omega arith in rw (none, same) refl)
samples_both to shape batch j (suc a) b =
    let next : suc a + b ≡ suc (a + b) = omega arith in
    let rest = samples_both to shape batch (suc j) a b in
    let same : suc j + a ≡ j + suc a = omega arith in
    rw (next, rest, same) refl

-- ---- the pieces of a batch

kept_by : (to : To) (shape : Shape) (n : ℕ) (batch : Presented) (first block : ℕ) (rest : List Piece) (b : Bool) → nat_lt first batch.count ≡ b → IsShape shape → length batch.bytes ≡ batch.count * (value_in to * shape.channels)
    → flat_map (samples_sent to shape) (cuts_from (suc n) batch rest) ≡ batch_samples to shape batch (first + piece_count to shape batch first) (batch.count - (first + piece_count to shape batch first))
    → flat_map (samples_sent to shape) (cuts_from n batch (if b then record { first = first; count = piece_count to shape batch first; block = block } ∷ rest else [])) ≡ batch_samples to shape batch first (batch.count - first)
kept_by to shape n batch first block rest false e is size others =
    let past : batch.count ≤ first = grind (arith, nat_tests) in
    let none : batch.count - first ≡ 0 = omega (arith, past) in
    rw none refl
kept_by to shape n batch first block rest true e is size others =
    let here : first < batch.count = grind (arith, nat_tests) in
    let few = some_frames to shape.channels is.some is.most in
    let count = counted (is_nominal shape.rate batch first) 1 (min (most_frames to shape.channels) (batch.count - first) - 1) in
    let c : ℕ = piece_count to shape batch first in
    let inside : first + c ≤ batch.count = omega (arith, count.1, few, here) in
    let p : Piece = record { first = first; count = c; block = block } in
    let one = piece_kept to shape batch p 0 c refl (omega arith) inside size in
    let from : first + 0 ≡ first = omega arith in
    let one = rw from at one in
    let split : c + (batch.count - (first + c)) ≡ batch.count - first = omega (arith, inside) in
    let both = samples_both to shape batch first c (batch.count - (first + c)) in
    let both = rw split at both in
    rw (one, others, both) refl

pieces_kept : (to : To) (shape : Shape) (n : ℕ) (batch : Presented) (most first block : ℕ) → IsShape shape → length batch.bytes ≡ batch.count * (value_in to * shape.channels) → batch.count ≤ first + most
    → flat_map (samples_sent to shape) (cuts_from n batch (pieces_from to shape batch most first block)) ≡ batch_samples to shape batch first (batch.count - first)
pieces_kept to shape n batch zero first block is size h = (let none : batch.count - first ≡ 0 = omega (arith, h) in rw none refl)
pieces_kept to shape n batch (suc most) first block is size h =
    let count = counted (is_nominal shape.rate batch first) 1 (min (most_frames to shape.channels) (batch.count - first) - 1) in
    kept_by to shape n batch first block (pieces_from to shape batch most (first + piece_count to shape batch first) (next_block (interval_of shape.rate) block (piece_count to shape batch first))) (nat_lt first batch.count) refl is size
    (pieces_kept to shape (suc n) batch most (first + piece_count to shape batch first) (next_block (interval_of shape.rate) block (piece_count to shape batch first)) is size (omega (arith, count.0, h)))

-- ---- all batches

all_kept_by : (to : To) (shape : Shape) (given : Given) (b : Presented) (bs : List Presented) (skip : Option Skip) → skip_by to shape given b ≡ skip → IsShape shape
    → flat_map (samples_sent to shape) (cuts_after to shape given bs) ≡ flat_map (samples_presented to shape) (given_batches to shape given bs)
    → flat_map (samples_sent to shape) (cuts_after to shape (given_with to shape given b) bs) ≡ flat_map (samples_presented to shape) (given_batches to shape (given_with to shape given b) bs)
    → flat_map (samples_sent to shape) (unless skip (cuts_from given.packets b (pieces_of to shape b given.block) ++ cuts_after to shape (given_with to shape given b) bs) (cuts_after to shape given bs))
    ≡ flat_map (samples_presented to shape) (unless skip (b ∷ given_batches to shape (given_with to shape given b) bs) (given_batches to shape given bs))
all_kept_by to shape given b bs (Some why) e is skipped rest = skipped
all_kept_by to shape given b bs None e is skipped rest =
    let given_out = given_is to shape given b e in
    let here = pieces_kept to shape given.packets b b.count 0 given.block is (shaped to shape b given_out.shaped) (omega arith) in
    let whole : b.count - 0 ≡ b.count = omega arith in
    let here = rw whole at here in
    flat_map-append (samples_sent to shape) (cuts_from given.packets b (pieces_of to shape b given.block)) (cuts_after to shape (given_with to shape given b) bs)
    ∙ (ap (λ (l : List Sample). l ++ flat_map (samples_sent to shape) (cuts_after to shape (given_with to shape given b) bs)) here
    ∙ ap (λ (l : List Sample). samples_presented to shape b ++ l) rest)

pub all_kept : (to : To) (shape : Shape) (given : Given) (batches : List Presented) → IsShape shape
    → flat_map (samples_sent to shape) (cuts_after to shape given batches) ≡ flat_map (samples_presented to shape) (given_batches to shape given batches)
all_kept to shape given [] is = refl
all_kept to shape given (b ∷ bs) is = all_kept_by to shape given b bs (skip_by to shape given b) refl is (all_kept to shape given bs is) (all_kept to shape (given_with to shape given b) bs is)
