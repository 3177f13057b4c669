-- The frames of a batch that is cut.
use Rattle.std.proofs.Common.{◌≡◌, ℕ, zero, suc, ◌+◌, ◌-◌, ◌*◌, ◌<◌, ◌≤◌, Bool, true, false, ℤ, pos, ◌≤ℤ◌, ◌<ℤ◌, List, [], ◌∷◌, length, take, drop, Option, Some, None, refl, sym, ap, ◌∙◌, subst, arith}
use Rattle.std.specs.Prelude.{◌||◌, ◌&&◌, not, eqb, if◌then◌else◌, int_le, min, nat_lt, slice_get, slice_index_or}
use Rattle.std.specs.List.{AllByRecursion, list_any}
use Rattle.std.specs.Option.{option_map}
use Rattle.std.proofs.Math.Nat.{mul-le-mul_right}
use Rattle.std.proofs.lemmas.Bool.{eqb-true}
use Rattle.std.proofs.lemmas.Bool.Decides.{nat_tests}
use Rattle.std.proofs.lemmas.Int.{ints, int_max_is}
use Rattle.std.proofs.lemmas.List.{length-append}
use Rattle.sample_schedule.specs.Batches.{IsPresentable, Presented, is_unit, sample_instant}
use Rattle.sample_schedule.specs.Instants.{IsInstantOf}
use Rattle.sample_schedule.specs.declared.instants.Instant.{Instant}
use Rattle.time_unfold.specs.Time.{IsInstant}
use Rattle.talker.specs.declared.turn.Turn.{Turn}
use Rattle.talk_plan.specs.Ethernet.{packet_bytes}
use Rattle.talker.specs.Frames.{SentFrame}
use Rattle.talker.specs.Turns.{frame_in, turn_of}
use Rattle.talk_plan.specs.Plan.{interval_of}
use Rattle.talk_audio.proofs.HeaderLemmas.{aaf_size, iec_size}
use Rattle.aaf_format.specs.Aaf.{aaf_subtype}
use Rattle.iec61883_format.specs.Iec.{iec_subtype}
use Rattle.am824_gateway.specs.declared.piece.Piece.{Piece}
use Rattle.am824_gateway.specs.declared.scan.Shape.{Shape}
use Rattle.am824_gateway.specs.declared.scan.To.{To}
use Rattle.am824_gateway.specs.declared.scan.To.TheVariants.{Aaf, Am824}
use Rattle.am824_gateway.specs.Labels.{labelled, turned, unlabelled, value_in, value_out}
use Rattle.am824_gateway.specs.Packets.{aaf_packet, am824_packet, frame_size, frames_from, header_at, packet_of, piece_frame, samples_of, values_of}
use Rattle.am824_gateway.specs.Pieces.{arrival_at, captures_end, has_labels, has_shape, is_late, is_nominal, most_frames, next_block, piece_count, pieces_from}
use Rattle.am824_gateway.specs.Scan.{IsShape}
use Rattle.am824_gateway.specs.declared.gateway.Current.{Current}
use Rattle.am824_gateway.specs.state.Kept.{IsCut, IsCutFrom, IsWithin, frames_in}
use Rattle.am824_gateway.proofs.ListLemmas.{length-part}
use Rattle.am824_gateway.proofs.PieceLemmas.{counted}

-- ---- what holds for all pieces

pub some_frames : (to : To) (channels : ℕ) → 1 ≤ channels → channels ≤ 256 → 1 ≤ most_frames to channels
some_frames Am824 channels some most = grind arith
some_frames Aaf channels some most = grind arith

either : (a b : Bool) → (a || b) ≡ false → (a ≡ false) × (b ≡ false)
either false b e = (refl, e)
either true b e = absurd cc

-- the piece that begins with this sample of a batch
abbrev piece_at : To → Shape → Presented → ℕ → ℕ → Piece
piece_at to shape batch first block = record { first = first; count = piece_count to shape batch first; block = block }

within_by : (to : To) (shape : Shape) (batch : Presented) (first block : ℕ) (rest : List Piece) (b : Bool) → nat_lt first batch.count ≡ b → IsShape shape
    → list_any (is_late batch) (if b then piece_at to shape batch first block ∷ rest else []) ≡ false → (list_any (is_late batch) rest ≡ false → AllByRecursion (IsWithin to shape batch) rest)
    → AllByRecursion (IsWithin to shape batch) (if b then piece_at to shape batch first block ∷ rest else [])
within_by to shape batch first block rest false t is e others = tt
within_by to shape batch first block rest true t is e others =
    let here : first < batch.count = grind (arith, nat_tests) in
    let late = either (is_late batch (piece_at to shape batch first block)) (list_any (is_late batch) rest) e in
    let few = some_frames to shape.channels is.some is.most in
    let count = counted (is_nominal shape.rate batch first) 1 (min (most_frames to shape.channels) (batch.count - first) - 1) in (
      record {
        inside = omega (arith, count.1, few, here);
        some = count.0;
        fits = omega (arith, count.1, few, here);
        in_time = late.0;
      },
      others late.1,
    )

-- if no piece is late, each piece lies within its batch and fits one packet
pub all_within : (to : To) (shape : Shape) (batch : Presented) (most first block : ℕ) → IsShape shape → list_any (is_late batch) (pieces_from to shape batch most first block) ≡ false
    → AllByRecursion (IsWithin to shape batch) (pieces_from to shape batch most first block)
all_within to shape batch zero first block is e = tt
all_within to shape batch (suc most) first block is e =
    within_by to shape batch first block (pieces_from to shape batch most (first + piece_count to shape batch first) (next_block (interval_of shape.rate) block (piece_count to shape batch first))) (nat_lt first batch.count)
    refl is e (λ late. all_within to shape batch most (first + piece_count to shape batch first) (next_block (interval_of shape.rate) block (piece_count to shape batch first)) is late)

pub at : (P : Piece → Type 0) (xs : List Piece) (i : ℕ) (d : Piece) → i < length xs → AllByRecursion P xs → P (slice_index_or xs i d)
at P [] i d h all = absurd (omega arith)
at P (x ∷ xs) zero d h all = all.0
at P (x ∷ xs) (suc i) d h all = at P xs i d (omega arith) all.1

-- ---- frames

pub length_frames : (to : To) (shape : Shape) (id n : ℕ) (batch : Presented) (pieces : List Piece) → length (frames_from to shape id n batch pieces) ≡ length pieces
length_frames to shape id n batch [] = refl
length_frames to shape id n batch (p ∷ pieces) = ap suc (length_frames to shape id (suc n) batch pieces)

pub frame_at : (to : To) (shape : Shape) (id n : ℕ) (batch : Presented) (pieces : List Piece) (i m : ℕ) (p : Piece) → i < length pieces → p ≡ slice_index_or pieces i p → n + i ≡ m
    → slice_get (frames_from to shape id n batch pieces) i ≡ Some (piece_frame to shape id m batch p)
frame_at to shape id n batch [] i m p h is e = absurd (omega arith)
frame_at to shape id n batch (q ∷ pieces) zero m p h is e = (let same : n ≡ m = omega arith in rw (same, is) refl)
frame_at to shape id n batch (q ∷ pieces) (suc i) m p h is e = frame_at to shape id (suc n) batch pieces i m p (omega arith) is (omega arith)

-- ---- sizes

pub length_labelled : (n : ℕ) (values : List ℕ) → 3 * n ≤ length values → length (labelled n values) ≡ 4 * n
length_labelled zero values h = refl
length_labelled (suc n) values h =
    let before = length_labelled n values (omega arith) in
    let value = length-part (3 * n) 3 values (omega arith) in
    let whole = length-append (labelled n values) (0x40 ∷ take 3 (drop (3 * n) values)) in
    omega arith

pub length_unlabelled : (n : ℕ) (quadlets : List ℕ) → 4 * n ≤ length quadlets → length (unlabelled n quadlets) ≡ 3 * n
length_unlabelled zero quadlets h = refl
length_unlabelled (suc n) quadlets h =
    let before = length_unlabelled n quadlets (omega arith) in
    let value = length-part (4 * n + 1) 3 quadlets (omega arith) in
    let whole = length-append (unlabelled n quadlets) (take 3 (drop (4 * n + 1) quadlets)) in
    omega arith

spread : (a b s : ℕ) → (a + b) * s ≡ a * s + b * s
spread a b s = omega arith

-- the bytes of a piece's values lie in the batch
pub values_within : (first count total s size : ℕ) → first + count ≤ total → size ≡ total * s → first * s + count * s ≤ size
values_within first count total s size h e = (let times = mul-le-mul_right s h in let parts = spread first count s in omega (arith, times, parts))

pub length_values : (to : To) (shape : Shape) (batch : Presented) (p : Piece) → p.first + p.count ≤ batch.count → length batch.bytes ≡ batch.count * (value_in to * shape.channels)
    → length (values_of to shape batch p) ≡ p.count * (value_in to * shape.channels)
length_values to shape batch p h size =
    length-part (p.first * (value_in to * shape.channels)) (p.count * (value_in to * shape.channels)) batch.bytes
    (values_within p.first p.count batch.count (value_in to * shape.channels) (length batch.bytes) h size)

pub length_turned : (to : To) (shape : Shape) (p : Piece) (values : List ℕ) → length values ≡ p.count * (value_in to * shape.channels)
    → length (turned to (p.count * shape.channels) values) ≡ p.count * (value_out to * shape.channels)
length_turned Am824 shape p values size = length_labelled (p.count * shape.channels) values (omega arith) ∙ omega arith
length_turned Aaf shape p values size = length_unlabelled (p.count * shape.channels) values (omega arith) ∙ omega arith

pub length_packet : (to : To) (shape : Shape) (id n : ℕ) (instant : ℤ) (p : Piece) (samples : List ℕ) → length samples ≡ p.count * (value_out to * shape.channels)
    → length (packet_bytes (packet_of to shape id n instant p samples)) ≡ frame_size to shape p
length_packet Am824 shape id n instant p samples size =
    let whole = iec_size (am824_packet shape (header_at iec_subtype id n instant (8 + p.count * (4 * shape.channels))) p samples) in
    omega (arith, whole, size)
length_packet Aaf shape id n instant p samples size =
    let whole = aaf_size (aaf_packet shape (header_at aaf_subtype id n instant (p.count * (3 * shape.channels))) p samples) in
    omega (arith, whole, size)

pub length_frame : (to : To) (shape : Shape) (id n : ℕ) (batch : Presented) (p : Piece) → p.first + p.count ≤ batch.count → length batch.bytes ≡ batch.count * (value_in to * shape.channels)
    → length (piece_frame to shape id n batch p).bytes ≡ frame_size to shape p
length_frame to shape id n batch p h size =
    length_packet to shape id n (sample_instant batch p.first) p (samples_of to shape batch p)
    (length_turned to shape p (values_of to shape batch p) (length_values to shape batch p h size))

-- ---- arrivals

pub begun : (instant : ℤ) → pos 0 ≤ℤ arrival_at instant
begun instant = omega (arith, ints, int_max_is)

pub in_time : (batch : Presented) (p : Piece) → is_late batch p ≡ false → arrival_at (sample_instant batch p.first) <ℤ pos captures_end
in_time batch p e = before (pos captures_end) (arrival_at (sample_instant batch p.first)) e
  where
    before : (x y : ℤ) → int_le x y ≡ false → y <ℤ x
    before x y e = grind (arith, ints)

pub in_range : (batch : Presented) (i : Instant) → IsPresentable batch → IsInstantOf i batch → i.j ≤ batch.count → IsInstant i.nanoseconds
in_range batch i p is h = rw (is.at) (p.instants i.j h)

-- ---- turns

pub turn_is : (to : To) (shape : Shape) (id n : ℕ) (batch : Presented) (frames : List SentFrame) (i size : ℕ) (arrival : ℤ) (p : Piece) → slice_get frames i ≡ Some (piece_frame to shape id n batch p)
    → p.first + p.count ≤ batch.count → length batch.bytes ≡ batch.count * (value_in to * shape.channels) → arrival ≡ arrival_at (sample_instant batch p.first) → size ≡ frame_size to shape p
    → option_map turn_of (slice_get frames i) ≡ Some (record { arrival = arrival; number = n; clock = false; size = size })
turn_is to shape id n batch frames i size arrival p frame inside whole at sized =
    let long : length (piece_frame to shape id n batch p).bytes ≡ size = length_frame to shape id n batch p inside whole ∙ sym sized in
    rw (frame, at, ← long) refl

pub frame_is : (to : To) (shape : Shape) (id n : ℕ) (batch : Presented) (frames : List SentFrame) (i : ℕ) (turn : Turn) (bytes : List ℕ) (p : Piece) → slice_get frames i ≡ Some (piece_frame to shape id n batch p)
    → option_map turn_of (slice_get frames i) ≡ Some turn → bytes ≡ (piece_frame to shape id n batch p).bytes → slice_get frames i ≡ Some (frame_in turn bytes)
frame_is to shape id n batch frames i turn bytes p frame is made =
    let same : Some (turn_of (piece_frame to shape id n batch p)) ≡ Some turn = rw frame at is in
    let turned : turn_of (piece_frame to shape id n batch p) ≡ turn = cc in
    frame ∙ (rw (← turned, made) refl)

-- the size that a turn states is the size of its frame
pub size_is : (to : To) (shape : Shape) (id n : ℕ) (batch : Presented) (frames : List SentFrame) (i : ℕ) (turn : Turn) (p : Piece) → slice_get frames i ≡ Some (piece_frame to shape id n batch p)
    → option_map turn_of (slice_get frames i) ≡ Some turn → p.first + p.count ≤ batch.count → length batch.bytes ≡ batch.count * (value_in to * shape.channels) → turn.size ≡ frame_size to shape p
size_is to shape id n batch frames i turn p frame is inside whole =
    let same : Some (turn_of (piece_frame to shape id n batch p)) ≡ Some turn = rw frame at is in
    let turned : turn_of (piece_frame to shape id n batch p) ≡ turn = cc in
    sym (ap (λ (t : Turn). t.size) turned) ∙ length_frame to shape id n batch p inside whole

-- the number that a turn states is the number of its packet
pub number_is : (to : To) (shape : Shape) (id n : ℕ) (batch : Presented) (frames : List SentFrame) (i : ℕ) (turn : Turn) (p : Piece) → slice_get frames i ≡ Some (piece_frame to shape id n batch p)
    → option_map turn_of (slice_get frames i) ≡ Some turn → n ≡ turn.number
number_is to shape id n batch frames i turn p frame is =
    let same : Some (turn_of (piece_frame to shape id n batch p)) ≡ Some turn = rw frame at is in
    let turned : turn_of (piece_frame to shape id n batch p) ≡ turn = cc in
    ap (λ (t : Turn). t.number) turned

-- ---- what a gateway holds

-- if frame i exists, piece i exists
pub known : (current : Option Current) (pieces : List Piece) (c : Current) (i : ℕ) → current ≡ Some c → i < length (frames_in current pieces) → i < length pieces
known None pieces c i e h = absurd cc
known (Some d) pieces c i e h = omega (arith, h, length_frames d.stream.to d.stream.shape d.stream.id d.first d.batch pieces)

-- piece i lies within its batch
pub within_at : (current : Option Current) (pieces : List Piece) (c : Current) (i : ℕ) (p : Piece) → current ≡ Some c → IsCutFrom current pieces → i < length pieces → p ≡ slice_index_or pieces i p → IsWithin c.stream.to c.stream.shape c.batch p
within_at current pieces c i p e cut h is =
    let cut : IsCut c pieces = rw e at cut in
    subst (IsWithin c.stream.to c.stream.shape c.batch) (sym is) (at (IsWithin c.stream.to c.stream.shape c.batch) pieces i p h cut.within)

-- if `IsCutFrom` holds for `pieces`, `IsCut` holds for the list that has only piece i
pub cut_one : (current : Option Current) (pieces : List Piece) (c : Current) (i : ℕ) (p : Piece) → current ≡ Some c → IsCutFrom current pieces → i < length pieces → p ≡ slice_index_or pieces i p → IsCut c (p ∷ [])
cut_one current pieces c i p e cut h is =
    let all : IsCut c pieces = rw e at cut in
    record { stream = all.stream; presentable = all.presentable; size = all.size; within = (within_at current pieces c i p e cut h is, tt) }

short : (xs : List SentFrame) (i : ℕ) (turn : Turn) → option_map turn_of (slice_get xs i) ≡ Some turn → i < length xs
short [] i turn e = absurd cc
short (x ∷ xs) zero turn e = omega arith
short (x ∷ xs) (suc i) turn e = let rest = short xs i turn e in omega arith

-- if frame i has a turn, piece i exists
pub known_by : (current : Option Current) (pieces : List Piece) (c : Current) (i : ℕ) (turn : Turn) → current ≡ Some c → option_map turn_of (slice_get (frames_in current pieces) i) ≡ Some turn → i < length pieces
known_by current pieces c i turn e is = known current pieces c i e (short (frames_in current pieces) i turn is)

-- the bytes that were written are the frame of the piece
pub made_is : (to : To) (shape : Shape) (id n : ℕ) (batch : Presented) (p : Piece) (out values : List ℕ) (s from end : ℕ) → s ≡ value_in to * shape.channels → values ≡ batch.bytes → from ≡ p.first * s → end ≡ from + p.count * s
    → out ≡ packet_bytes (packet_of to shape id n (sample_instant batch p.first) p (turned to (p.count * shape.channels) (take (end - from) (drop from values))))
    → out ≡ (piece_frame to shape id n batch p).bytes
made_is to shape id n batch p out values s from end sized same begins ends made =
    let length : end - from ≡ p.count * s = omega arith in
    let made = rw (length, same, begins, sized) at made in
    made

-- a batch of the shape has a value of 24 bits for each channel of each sample
pub shaped : (to : To) (shape : Shape) (batch : Presented) → has_shape to shape batch ≡ true → length batch.bytes ≡ batch.count * (value_in to * shape.channels)
shaped to shape batch e = eqb-true (length batch.bytes) (batch.count * (value_in to * shape.channels)) (middle (not (is_unit batch)) (eqb (length batch.bytes) (batch.count * (value_in to * shape.channels))) (has_labels to batch.bytes) e)
  where
    middle : (a b c : Bool) → (a && b && c) ≡ true → b ≡ true
    middle true true c e = refl
    middle true false c e = absurd cc
    middle false b c e = absurd cc
