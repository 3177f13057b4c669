-- The packets that a listener reads from a gateway's frames carry the pieces.
use Rattle.std.proofs.Common.{◌≡◌, ℕ, zero, suc, ◌+◌, ◌-◌, ◌*◌, ◌%◌, ◌^◌, ◌<◌, ◌≤◌, Bool, true, false, ℤ, pos, ◌≤ℤ◌, List, [], ◌∷◌, ◌++◌, Option, Some, None, inl, inr, refl, sym, arith}
use Rattle.std.specs.Prelude.{if◌then◌else◌, min, nat_lt, unsigned_abs}
use Rattle.std.specs.Int.{div_ceil, int_rem_euclid}
use Rattle.std.specs.List.{AllByRecursion}
use Rattle.std.proofs.lemmas.Bool.Decides.{nat_tests}
use Rattle.std.proofs.lemmas.Int.{ints, int_max_is}
use Rattle.iec61883_format.specs.Iec.{IsSytInterval}
use Rattle.time_unfold.specs.Heads.{stamped_index}
use Rattle.time_unfold.specs.Time.{unfolded}
use Rattle.time_unfold.proofs.Floors.{rest_below, rest_natural}
use Rattle.time_unfold.proofs.Instants.{one_unfolded, unfolded-unfolds}
use Rattle.talk_plan.specs.Plan.{interval_of}
use Rattle.sample_schedule.specs.Batches.{Presented}
use Rattle.am824_gateway.specs.declared.piece.Piece.{Piece}
use Rattle.am824_gateway.specs.declared.scan.Shape.{Shape}
use Rattle.am824_gateway.specs.declared.scan.To.{To}
use Rattle.am824_gateway.specs.declared.scan.To.TheVariants.{Aaf, Am824}
use Rattle.am824_gateway.specs.declared.skip.Skip.{Skip}
use Rattle.am824_gateway.specs.Laws.{Cut, cut_instant, cuts_after, cuts_from}
use Rattle.am824_gateway.specs.Packets.{timestamp_at}
use Rattle.am824_gateway.specs.Pieces.{Given, arrival_at, block_after, given_with, is_nominal, most_frames, next_block, piece_count, pieces_from, pieces_of, skip_by, unless}
use Rattle.am824_gateway.specs.Scan.{IsShape}
use Rattle.am824_gateway.proofs.CutLemmas.{not_earlier}
use Rattle.am824_gateway.proofs.PieceLemmas.{counted, some_rate}
use Rattle.gateway_laws.specs.Carried.{CarriesCut, CarryCuts}
use Rattle.gateway_laws.specs.Heard.{BeginsInTime, packet_heard, packets_heard, rule_of}

-- ---- timestamps

low_of : (z : ℤ) → pos 0 ≤ℤ z → pos (unsigned_abs z) ≡ z
low_of z h = omega (arith, ints)

-- a timestamp has 32 bits
pub timestamp_small : (x : ℤ) → timestamp_at x < 2 ^ 32
timestamp_small x =
    let low = rest_natural x (2 ^ 32) in
    let below = rest_below x (2 ^ 32) (omega arith) in
    let same = low_of (int_rem_euclid x (pos (2 ^ 32))) low in
    omega (arith, ints, same, below)

means : (x : ℤ) → pos 0 ≤ℤ x → unfolded (timestamp_at x) (arrival_at x) ≡ x
means x begun =
    let low = rest_natural x (2 ^ 32) in
    let same = low_of (int_rem_euclid x (pos (2 ^ 32))) low in
    let small = timestamp_small x in
    one_unfolded (timestamp_at x) (arrival_at x) (unfolded (timestamp_at x) (arrival_at x)) x (unfolded-unfolds (timestamp_at x) (arrival_at x) small)
    (record { low_bits = sym same; from = omega (arith, ints, int_max_is, begun); to = omega (arith, ints, int_max_is, begun) })

-- ---- block counts

pub interval_known : (shape : Shape) → IsShape shape → IsSytInterval (interval_of shape.rate)
interval_known shape is = (let known = is.rate in grind (arith, nat_tests))

multiple_by : (interval n : ℕ) → IsSytInterval interval → n * interval % 256 % interval ≡ 0
multiple_by interval n (inl e) = rw e (omega arith)
multiple_by interval n (inr (inl e)) = rw e (omega arith)
multiple_by interval n (inr (inr e)) = rw e (omega arith)

next_multiple : (interval block count : ℕ) → IsSytInterval interval → next_block interval block count % interval ≡ 0
next_multiple interval block count is = multiple_by interval (div_ceil (block + count) interval) is

after_multiple : (interval block : ℕ) (pieces : List Piece) → IsSytInterval interval → block % interval ≡ 0 → block_after interval block pieces % interval ≡ 0
after_multiple interval block [] is e = e
after_multiple interval block (p ∷ pieces) is e = after_multiple interval (next_block interval p.block p.count) pieces is (next_multiple interval p.block p.count is)

pub first_stamped : (to : To) (shape : Shape) (p : Piece) → IsSytInterval (interval_of shape.rate) → p.block % interval_of shape.rate ≡ 0 → stamped_index (rule_of to shape p) ≡ 0
first_stamped Aaf shape p is e = refl
first_stamped Am824 shape p is e = rw e (whole (interval_of shape.rate) is)
  where
    whole : (interval : ℕ) → IsSytInterval interval → (interval - 0) % interval ≡ 0
    whole interval (inl e) = rw e refl
    whole interval (inr (inl e)) = rw e refl
    whole interval (inr (inr e)) = rw e refl

-- ---- pieces

-- A listener can time the piece: the piece has samples, its block count is a multiple of SYT_INTERVAL, and the piece
-- begins at 0 or later.
pub record IsSound (interval : ℕ) (c : Cut) : Type 0 where
  pub some : 1 ≤ c.piece.count
  pub block : c.piece.block % interval ≡ 0
  pub begun : pos 0 ≤ℤ cut_instant c

sound_by : (interval n : ℕ) (batch : Presented) (first count block : ℕ) (rest : List Piece) (b : Bool) → nat_lt first batch.count ≡ b → 1 ≤ count → block % interval ≡ 0 → BeginsInTime batch
    → AllByRecursion (IsSound interval) (cuts_from (suc n) batch rest) → AllByRecursion (IsSound interval) (cuts_from n batch (if b then record { first = first; count = count; block = block } ∷ rest else []))
sound_by interval n batch first count block rest false e some multiple is all = tt
sound_by interval n batch first count block rest true e some multiple is all =
    let inside : first < batch.count = grind (arith, nat_tests) in
    let after = not_earlier batch 0 first is.rising (omega arith) inside in
    let begun = is.begun in
    (record { some = some; block = multiple; begun = omega (arith, ints, after, begun) }, all)

sound_pieces : (to : To) (shape : Shape) (n : ℕ) (batch : Presented) (most first block : ℕ) → IsSytInterval (interval_of shape.rate) → block % interval_of shape.rate ≡ 0 → BeginsInTime batch
    → AllByRecursion (IsSound (interval_of shape.rate)) (cuts_from n batch (pieces_from to shape batch most first block))
sound_pieces to shape n batch zero first block known multiple is = tt
sound_pieces to shape n batch (suc most) first block known multiple is =
    let count = counted (is_nominal shape.rate batch first) 1 (min (most_frames to shape.channels) (batch.count - first) - 1) in
    sound_by (interval_of shape.rate) n batch first (piece_count to shape batch first) block (pieces_from to shape batch most (first + piece_count to shape batch first) (next_block (interval_of shape.rate) block (piece_count to shape batch first))) (nat_lt first batch.count) refl
    count.0 multiple is
    (sound_pieces to shape (suc n) batch most (first + piece_count to shape batch first) (next_block (interval_of shape.rate) block (piece_count to shape batch first)) known (next_multiple (interval_of shape.rate) block (piece_count to shape batch first) known) is)

all_two : (P : Cut → Type 0) (xs ys : List Cut) → AllByRecursion P xs → AllByRecursion P ys → AllByRecursion P (xs ++ ys)
all_two P [] ys first second = second
all_two P (x ∷ xs) ys first second = (first.0, all_two P xs ys first.1 second)

sound_unless : (P : Cut → Type 0) (skip : Option Skip) (xs ys zs : List Cut) → AllByRecursion P xs → AllByRecursion P ys → AllByRecursion P zs → AllByRecursion P (unless skip (xs ++ ys) zs)
sound_unless P None xs ys zs first second third = all_two P xs ys first second
sound_unless P (Some why) xs ys zs first second third = third

pub all_sound : (to : To) (shape : Shape) (given : Given) (batches : List Presented) → IsSytInterval (interval_of shape.rate) → given.block % interval_of shape.rate ≡ 0 → AllByRecursion BeginsInTime batches
    → AllByRecursion (IsSound (interval_of shape.rate)) (cuts_after to shape given batches)
all_sound to shape given [] known multiple all = tt
all_sound to shape given (b ∷ bs) known multiple all =
    sound_unless (IsSound (interval_of shape.rate)) (skip_by to shape given b) (cuts_from given.packets b (pieces_of to shape b given.block)) (cuts_after to shape (given_with to shape given b) bs) (cuts_after to shape given bs)
    (sound_pieces to shape given.packets b b.count 0 given.block known multiple all.0)
    (all_sound to shape (given_with to shape given b) bs known (after_multiple (interval_of shape.rate) given.block (pieces_of to shape b given.block) known multiple) all.1)
    (all_sound to shape given bs known multiple all.1)

-- ---- packets

early : (x : ℤ) → pos 0 ≤ℤ x → arrival_at x ≤ℤ x
early x begun = omega (arith, ints, int_max_is, begun)

one_carries : (to : To) (shape : Shape) (frame : ℕ) (c : Cut) → IsShape shape → IsSound (interval_of shape.rate) c → CarriesCut to shape (packet_heard to shape frame c) c
one_carries to shape frame c is sound = record {
  stamped = record {
    certain = refl;
    some = sound.some;
    known_rate = some_rate shape is;
    index = first_stamped to shape c.piece (interval_known shape is) sound.block;
    timestamp = timestamp_at (cut_instant c);
    stamp = refl;
    means = means (cut_instant c) sound.begun;
    early = early (cut_instant c) sound.begun;
    begun = sound.begun;
  };
  rate = refl;
  count = refl;
  bytes = refl;
}

carry : (to : To) (shape : Shape) (frame : ℕ) (cs : List Cut) → IsShape shape → AllByRecursion (IsSound (interval_of shape.rate)) cs → CarryCuts to shape (packets_heard to shape frame cs) cs
carry to shape frame [] is all = tt
carry to shape frame (c ∷ cs) is all = (one_carries to shape frame c is all.0, carry to shape (suc frame) cs is all.1)

pub heard_carry : (to : To) (shape : Shape) (given : Given) (frame : ℕ) (batches : List Presented) → IsShape shape → given.block % interval_of shape.rate ≡ 0 → AllByRecursion BeginsInTime batches
    → CarryCuts to shape (packets_heard to shape frame (cuts_after to shape given batches)) (cuts_after to shape given batches)
heard_carry to shape given frame batches is multiple all = carry to shape frame (cuts_after to shape given batches) is (all_sound to shape given batches (interval_known shape is) multiple all)
