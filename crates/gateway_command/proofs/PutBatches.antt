-- What one more batch adds: its frames, or the line that says why the batch is skipped.
use Rattle.std.proofs.Common.{◌≡◌, ◌+◌, List, [], ◌∷◌, ◌++◌, sym, ap, ◌∙◌, append_assoc, append-nil, Option, Some, None, refl, ℕ, suc, length, arith, length-append}
use Rattle.std.specs.Prelude.{map, flat_map}
use Rattle.std.proofs.lemmas.List.{map-append}
use Rattle.std.proofs.lemmas.Grind.{flat_map-append}
use mathlib.Core.List.{IsPrefix}
use Rattle.sample_schedule.specs.Batches.{Presented}
use Rattle.am824_gateway.specs.declared.scan.Shape.{Shape}
use Rattle.am824_gateway.specs.declared.scan.To.{To}
use Rattle.am824_gateway.specs.Pieces.{nothing_given, Given, skip_by, unless, given_by, skip_of, given_with, pieces_of}
use Rattle.am824_gateway.proofs.HistoryLemmas.{given_more, frames_more}
use Rattle.talker.specs.Frames.{SentFrame, record_of}
use Rattle.am824_gateway.specs.Packets.{frames_with, gateway_frames, frames_after}
use Rattle.am824_gateway.specs.declared.skip.Skip.TheVariants.{ShapeOff}
use Rattle.avtp_words.specs.Grammar.{Turning}
use Rattle.pcap_frames.specs.Capture.{Record}
use Rattle.am824_gateway.specs.declared.skip.Skip.{Skip}
use Rattle.am824_gateway.proofs.GatewayLemmas.{length_frames}
use Rattle.gateway_command.specs.Gateway.{given_next, Skipped, skipped_at, skips_after, format_of, skipped_line, skips_in}
use Rattle.gateway_command.specs.state.Turning.{given_over, records_for}

-- ---- lists that grow at the end with each batch

grows : {A B : Type 0} (f : List A → List B) (step : List A → A → List B) → ((xs : List A) (x : A) → f (xs ++ x ∷ []) ≡ f xs ++ step xs x) → (xs ys : List A) → (rest : List B) × (f (xs ++ ys) ≡ f xs ++ rest)
grows f step one xs [] = ([], ap f (append-nil xs) ∙ sym (append-nil (f xs)))
grows {B = B} f step one xs (y ∷ ys) =
    let on = grows f step one (xs ++ y ∷ []) ys in
    (step xs y ++ on.0, ap f (sym (append_assoc xs (y ∷ []) ys)) ∙ (on.1 ∙ (ap (λ (l : List B). l ++ on.0) (one xs y) ∙ append_assoc (f xs) (step xs y) on.0)))

-- Suppose that adding an element at the end of a list only appends to the value of `f`. Then `f` of a prefix is a
-- prefix of `f` of the whole list.
grows_first : {A B : Type 0} (f : List A → List B) (step : List A → A → List B) → ((xs : List A) (x : A) → f (xs ++ x ∷ []) ≡ f xs ++ step xs x) → (xs all : List A) → IsPrefix xs all → (rest : List B) × (f all ≡ f xs ++ rest)
grows_first f step one xs all first = let on = grows f step one xs first.0 in (on.0, sym (ap f first.1) ∙ on.1)

-- ---- one more batch

pub given_over_more : (to : To) (shape : Option Shape) (batches : List Presented) (batch : Presented) → given_over to shape (batches ++ batch ∷ []) ≡ given_next to shape (given_over to shape batches) batch
given_over_more to None batches batch = refl
given_over_more to (Some shape) batches batch = given_more to shape nothing_given batches batch

-- The frames that carry a batch, or no frame if the batch is skipped. The frames depend on what the gateway gave out
-- before the batch.
abbrev pub frames_for : To → Option Shape → ℕ → Given → Presented → List SentFrame
frames_for to None id given batch = []
frames_for to (Some shape) id given batch = unless (skip_by to shape given batch) (frames_with to shape id given batch) []

pub frames_over_more : (to : To) (shape : Option Shape) (id : ℕ) (batches : List Presented) (batch : Presented)
    → gateway_frames to shape id (batches ++ batch ∷ []) ≡ gateway_frames to shape id batches ++ frames_for to shape id (given_over to shape batches) batch
frames_over_more to None id batches batch = refl
frames_over_more to (Some shape) id batches batch = frames_more to shape id nothing_given batches batch

pub records_more : (to : To) (shape : Option Shape) (id : ℕ) (batches : List Presented) (batch : Presented)
    → records_for to shape id (batches ++ batch ∷ []) ≡ records_for to shape id batches ++ map record_of (frames_for to shape id (given_over to shape batches) batch)
records_more to shape id batches batch =
    ap (map record_of) (frames_over_more to shape id batches batch) ∙ map-append record_of (gateway_frames to shape id batches) (frames_for to shape id (given_over to shape batches) batch)

skips_shapeless : (to : To) (given : Given) (batches : List Presented) (batch : Presented) → skips_after to None given (batches ++ batch ∷ []) ≡ skips_after to None given batches ++ skipped_at batch.frame (Some ShapeOff)
skips_shapeless to given [] batch = refl
skips_shapeless to given (b ∷ batches) batch = ap (λ (l : List Skipped). skipped_at b.frame (Some ShapeOff) ++ l) (skips_shapeless to given batches batch)

skips_shaped : (to : To) (shape : Shape) (given : Given) (batches : List Presented) (batch : Presented)
    → skips_after to (Some shape) given (batches ++ batch ∷ []) ≡ skips_after to (Some shape) given batches ++ skipped_at batch.frame (skip_by to shape (given_by to shape given batches) batch)
skips_shaped to shape given [] batch = append-nil (skipped_at batch.frame (skip_by to shape given batch))
skips_shaped to shape given (b ∷ batches) batch =
    let next : Given = given_next to (Some shape) given b in
    let here : List Skipped = skipped_at b.frame (skip_by to shape given b) in
    ap (λ (l : List Skipped). here ++ l) (skips_shaped to shape next batches batch)
    ∙ sym (append_assoc here (skips_after to (Some shape) next batches) (skipped_at batch.frame (skip_by to shape (given_by to shape next batches) batch)))

-- If one more batch is skipped, the line of this batch is appended to the lines of the batches that were skipped
-- before.
pub skips_more : (to : To) (shape : Option Shape) (batches : List Presented) (batch : Presented)
    → skips_after to shape nothing_given (batches ++ batch ∷ []) ≡ skips_after to shape nothing_given batches ++ skipped_at batch.frame (skip_of to shape (given_over to shape batches) batch)
skips_more to None batches batch = skips_shapeless to nothing_given batches batch
skips_more to (Some shape) batches batch = skips_shaped to shape nothing_given batches batch

pub lines_more : (asked : Turning) (shape : Option Shape) (batches : List Presented) (batch : Presented)
    → flat_map skipped_line (skips_in asked shape (batches ++ batch ∷ []))
    ≡ flat_map skipped_line (skips_in asked shape batches) ++ flat_map skipped_line (skipped_at batch.frame (skip_of (format_of asked.to) shape (given_over (format_of asked.to) shape batches) batch))
lines_more asked shape batches batch =
    ap (flat_map skipped_line) (skips_more (format_of asked.to) shape batches batch)
    ∙ flat_map-append skipped_line (skips_in asked shape batches) (skipped_at batch.frame (skip_of (format_of asked.to) shape (given_over (format_of asked.to) shape batches) batch))

-- ---- a prefix of the batches

-- the lines of the first batches are a prefix of the lines of all batches
pub lines_first : (asked : Turning) (shape : Option Shape) (batches all : List Presented) → IsPrefix batches all
    → (rest : List ℕ) × (flat_map skipped_line (skips_in asked shape all) ≡ flat_map skipped_line (skips_in asked shape batches) ++ rest)
lines_first asked shape batches all first =
    grows_first (λ (bs : List Presented). flat_map skipped_line (skips_in asked shape bs))
    (λ (bs : List Presented) (b : Presented). flat_map skipped_line (skipped_at b.frame (skip_of (format_of asked.to) shape (given_over (format_of asked.to) shape bs) b)))
    (lines_more asked shape) batches all first

-- the records of the first batches are a prefix of the records of all batches
pub records_first : (to : To) (shape : Option Shape) (id : ℕ) (batches all : List Presented) → IsPrefix batches all → (rest : List Record) × (records_for to shape id all ≡ records_for to shape id batches ++ rest)
records_first to shape id batches all first =
    grows_first (records_for to shape id) (λ (bs : List Presented) (b : Presented). map record_of (frames_for to shape id (given_over to shape bs) b)) (records_more to shape id) batches all first

-- ---- numbers

count_shapeless : (to : To) (given : Given) (batches : List Presented) → length (skips_after to None given batches) ≡ length batches
count_shapeless to given [] = refl
count_shapeless to given (b ∷ batches) = ap suc (count_shapeless to given batches)

-- a batch is either given out or skipped
count_one : (frame : ℕ) (skip : Option Skip) (given taken : Given) → taken.batches ≡ given.batches + 1 → length (skipped_at frame skip) + (unless skip taken given).batches ≡ given.batches + 1
count_one frame None given taken one = omega arith
count_one frame (Some why) given taken one = omega arith

count_shaped : (to : To) (shape : Shape) (given : Given) (batches : List Presented) → length (skips_after to (Some shape) given batches) + (given_by to shape given batches).batches ≡ length batches + given.batches
count_shaped to shape given [] = omega arith
count_shaped to shape given (b ∷ batches) =
    let skip : Option Skip = skip_by to shape given b in
    let next : Given = unless skip (given_with to shape given b) given in
    let here : List Skipped = skipped_at b.frame skip in
    let rest : List Skipped = skips_after to (Some shape) next batches in
    omega (arith, count_shaped to shape next batches, count_one b.frame skip given (given_with to shape given b) refl, length-append here rest)

-- each of these batches is either given out or skipped
pub batches_count : (asked : Turning) (shape : Option Shape) (batches : List Presented) → length (skips_in asked shape batches) + (given_over (format_of asked.to) shape batches).batches ≡ length batches
batches_count asked None batches = omega (arith, count_shapeless (format_of asked.to) nothing_given batches)
batches_count asked (Some shape) batches = omega (arith, count_shaped (format_of asked.to) shape nothing_given batches)

packets_one : (skip : Option Skip) (to : To) (shape : Shape) (id : ℕ) (given taken : Given) (batches : List Presented) (here : List SentFrame) → taken.packets ≡ given.packets + length here
    → ((before : Given) → (given_by to shape before batches).packets ≡ before.packets + length (frames_after to shape id before batches))
    → (given_by to shape (unless skip taken given) batches).packets ≡ given.packets + length (unless skip (here ++ frames_after to shape id taken batches) (frames_after to shape id given batches))
packets_one None to shape id given taken batches here one on = omega (arith, on taken, length-append here (frames_after to shape id taken batches))
packets_one (Some why) to shape id given taken batches here one on = on given

packets_shaped : (to : To) (shape : Shape) (id : ℕ) (batches : List Presented) (given : Given) → (given_by to shape given batches).packets ≡ given.packets + length (frames_after to shape id given batches)
packets_shaped to shape id [] given = omega arith
packets_shaped to shape id (b ∷ batches) given =
    let sized = length_frames to shape id given.packets b (pieces_of to shape b given.block) in
    packets_one (skip_by to shape given b) to shape id given (given_with to shape given b) batches (frames_with to shape id given b) (ap (λ (n : ℕ). given.packets + n) (sym sized)) (packets_shaped to shape id batches)

-- the number of packets is the number of frames
pub packets_count : (to : To) (shape : Option Shape) (id : ℕ) (batches : List Presented) → (given_over to shape batches).packets ≡ length (gateway_frames to shape id batches)
packets_count to None id batches = refl
packets_count to (Some shape) id batches = omega (arith, packets_shaped to shape id batches nothing_given)
