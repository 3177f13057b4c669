-- Lines that are printed one after the other.
use Rattle.std.proofs.Common.{◌≡◌, ℕ, zero, suc, ◌+◌, ◌-◌, ◌*◌, ◌/◌, ◌<◌, List, [], ◌∷◌, ◌++◌, length, take, drop, flat_map, get_or, arith, refl, sym, ap, ◌∙◌, w64, to_z, of_z}
use Rattle.std.proofs.lemmas.Int.{ints}
use Rattle.std.proofs.lemmas.List.{append-nil}
use Rattle.std.proofs.lemmas.Grind.{flat_map-append}
use Rattle.std.proofs.Math.Seq.{split_at}
use Rattle.std.specs.List.{range_with_len}
use Rattle.std.specs.Prelude.{IsErr, Result, Ok, Err}
use Rattle.avtp_base.specs.declared.failed.Failed.{Failed}
use Rattle.avtp_base.specs.States.{SinkState}
use Rattle.hex.specs.Hex.{encode_lower}
use Rattle.sample_schedule.specs.Batches.{Presented, sample_instant}
use Rattle.sample_schedule.specs.declared.instants.Instant.{Instant}
use Rattle.time_unfold.specs.Time.{IsInstant}
use Rattle.avtp_text.specs.Listen.{due_text, place_text, sample_line}
use Rattle.avtp_text.specs.Pieces.{newline}
use Rattle.avtp_text.specs.SampleLines.{SamplePacket}
use Rattle.avtp_text.specs.state.SampleLines.{packet_of}
use Rattle.avtp_text.specs.Written.{PrintsPart}
use Rattle.avtp_text.proofs.Printing.{part_as, part_failed, part_then}

range_split : (a j more : ℕ) → range_with_len a (j + suc more) ≡ range_with_len a j ++ (a + j) ∷ range_with_len (a + j + 1) more
range_split a zero more =
    let all : zero + suc more ≡ suc more = omega arith in
    let here : a ≡ a + zero = omega arith in
    ap (range_with_len a) all ∙ ap (λ n. n ∷ range_with_len (n + 1) more) here
range_split a (suc j) more =
    let all : suc j + suc more ≡ suc (j + suc more) = omega arith in
    let here : (a + 1) + j ≡ a + suc j = omega arith in
    ap (range_with_len a) all ∙ ap (λ ns. a ∷ ns) (range_split (a + 1) j more ∙ ap (λ n. range_with_len (a + 1) j ++ n ∷ range_with_len (n + 1) more) here)

numbers : (n j : ℕ) → j < n → range_with_len 0 n ≡ range_with_len 0 j ++ j ∷ range_with_len (j + 1) (n - j - 1)
numbers n j lt =
    let all : n ≡ j + suc (n - j - 1) = omega (arith, lt) in
    let here : 0 + j ≡ j = omega arith in
    ap (range_with_len 0) all ∙ range_split 0 j (n - j - 1) ∙ ap (λ k. range_with_len 0 j ++ k ∷ range_with_len (k + 1) (n - j - 1)) here

pub one_more : (line : ℕ → List ℕ) (j : ℕ) → flat_map line (range_with_len 0 (j + 1)) ≡ flat_map line (range_with_len 0 j) ++ line j
one_more line j =
    let none : j + 1 - j - 1 ≡ 0 = omega arith in
    ap (flat_map line) (numbers (j + 1) j (omega arith) ∙ ap (λ k. range_with_len 0 j ++ j ∷ range_with_len (j + 1) k) none)
    ∙ flat_map-append line (range_with_len 0 j) (j ∷ []) ∙ ap (λ t. flat_map line (range_with_len 0 j) ++ t) (append-nil (line j))

-- if the first `j` of `n` lines were printed and printing the next line failed, the `n` lines were printed in part
pub lines_failed : {s t u : SinkState} {w w' w'' : List ℕ} {result : Result Unit Failed} {ok : Unit} {e : Failed} (line : ℕ → List ℕ) (n j : ℕ) → j < n → IsErr result
    → PrintsPart s t w w' (Ok ok) (flat_map line (range_with_len 0 j)) → PrintsPart t u w' w'' (Err e) (line j) → PrintsPart s u w w'' result (flat_map line (range_with_len 0 n))
lines_failed line n j lt err first next =
    let split : flat_map line (range_with_len 0 n) ≡ flat_map line (range_with_len 0 j) ++ (line j ++ flat_map line (range_with_len (j + 1) (n - j - 1))) =
    ap (flat_map line) (numbers n j lt) ∙ flat_map-append line (range_with_len 0 j) (j ∷ range_with_len (j + 1) (n - j - 1)) in
    part_as _ _ (sym split) (part_then _ _ first (part_failed (line j) _ err next))

-- The line of sample `j` of a batch is what its instant, its packet and its part of the batch's bytes print.
pub sample_as : (batch : Presented) (i : Instant) (j size : ℕ) (packet : SamplePacket) (all : List ℕ)
    → i.j ≡ j → i.nanoseconds ≡ sample_instant batch i.j → IsInstant (sample_instant batch j) → packet ≡ packet_of batch size → all ≡ batch.bytes → size ≡ length batch.bytes / batch.count
    → due_text (to_z w64 (of_z w64 i.nanoseconds)) packet.frame ++ place_text packet.seq j ++ encode_lower (take (j * size + size - j * size) (drop (j * size) all)) ++ newline ≡ sample_line batch j
sample_as batch i j size packet all number at timely named whole equal =
    let len : j * size + size - j * size ≡ size = omega arith in
    let due : i.nanoseconds ≡ sample_instant batch j = at ∙ ap (sample_instant batch) number in
    let same : to_z w64 (of_z w64 (sample_instant batch j)) ≡ sample_instant batch j = omega (arith, ints, timely.from, timely.to) in
    rw (len, due, same, named, whole, equal) refl

-- ---- the lines of a list

take_more : {X : Type 0} (xs : List X) (i : ℕ) (d : X) → i < length xs → take (i + 1) xs ≡ take i xs ++ get_or xs i d ∷ []
take_more [] i d lt = absurd (omega (arith, lt))
take_more (x ∷ xs) zero d lt = refl
take_more (x ∷ xs) (suc i) d lt =
    let more : suc i + 1 ≡ suc (i + 1) = omega arith in
    ap (λ n. take n (x ∷ xs)) more ∙ ap (λ ys. x ∷ ys) (take_more xs i d (omega (arith, lt)))

pub one_shown : {X : Type 0} (lines : X → List ℕ) (xs : List X) (i : ℕ) (d : X) → i < length xs → flat_map lines (take (i + 1) xs) ≡ flat_map lines (take i xs) ++ lines (get_or xs i d)
one_shown lines xs i d lt = ap (flat_map lines) (take_more xs i d lt) ∙ flat_map-append lines (take i xs) (get_or xs i d ∷ []) ∙ ap (λ t. flat_map lines (take i xs) ++ t) (append-nil (lines (get_or xs i d)))

pub shown_failed : {X : Type 0} {s t u : SinkState} {w w' w'' : List ℕ} {result : Result Unit Failed} {ok : Unit} {e : Failed} (lines : X → List ℕ) (xs : List X) (i : ℕ) (d : X) → i < length xs → IsErr result
    → PrintsPart s t w w' (Ok ok) (flat_map lines (take i xs)) → PrintsPart t u w' w'' (Err e) (lines (get_or xs i d)) → PrintsPart s u w w'' result (flat_map lines xs)
shown_failed lines xs i d lt err first next =
    let split : flat_map lines xs ≡ flat_map lines (take i xs) ++ (lines (get_or xs i d) ++ flat_map lines (drop (suc i) xs)) =
    ap (flat_map lines) (split_at xs i d lt) ∙ flat_map-append lines (take i xs) (get_or xs i d ∷ drop (suc i) xs) in
    part_as _ _ (sym split) (part_then _ _ first (part_failed (lines (get_or xs i d)) _ err next))
