-- A gateway made AM824 frames. If these frames are converted to PCM and back, the resulting frames are the same.
use Rattle.std.proofs.Common.{◌≡◌, ℕ, zero, suc, ◌+◌, ◌-◌, ◌*◌, ◌/◌, ◌^◌, ◌<◌, ◌≤◌, Bool, true, false, inl, inr, ℤ, pos, ◌<ℤ◌, List, [], ◌∷◌, ◌++◌, length, drop, map, take, Option, Some, None, refl, sym, ap, subst, ◌∙◌, eq-eqb, arith}
use Rattle.std.specs.Prelude.{◌==◌, IfSome, if◌then◌else◌, int_le, nat_lt, not, ⊤}
use Rattle.std.specs.List.{AllByRecursion, list_any}
use Rattle.std.proofs.Math.Nat.{lt-div-mul-add, mul-le-mul_right}
use Rattle.std.proofs.lemmas.Bool.{cases_lt}
use Rattle.std.proofs.lemmas.Int.{ints}
use Rattle.std.proofs.lemmas.List.{take_all}
use Rattle.pcap_frames.specs.Capture.{Record}
use Rattle.clock_track.specs.Rows.{clock_spot}
use Rattle.sample_schedule.specs.Batches.{Presented, sample_instant}
use Rattle.talk_plan.specs.Plan.{interval_of}
use Rattle.talk_plan.specs.Ethernet.{packet_bytes}
use Rattle.talker.specs.Frames.{SentFrame, record_of}
use Rattle.listener.specs.declared.plan.ListenPlan.{ListenPlan}
use Rattle.listener.specs.Heard.{schedule_plan, shown_of}
use Rattle.listener.specs.Laws.{presented_of}
use Rattle.am824_gateway.specs.declared.piece.Piece.{Piece}
use Rattle.am824_gateway.specs.declared.scan.Shape.{Shape}
use Rattle.am824_gateway.specs.declared.scan.To.{To}
use Rattle.am824_gateway.specs.declared.scan.To.TheVariants.{Aaf, Am824}
use Rattle.am824_gateway.specs.declared.skip.Skip.{Skip}
use Rattle.am824_gateway.specs.declared.skip.Skip.TheVariants.{ShapeOff, Overlap, Range}
use Rattle.am824_gateway.specs.Labels.{labelled, turned, value_in, value_out}
use Rattle.am824_gateway.specs.Laws.{Cut, cut_frame, cut_instant, cuts_after, cuts_from}
use Rattle.am824_gateway.specs.Packets.{gateway_frames, packet_of, samples_of, values_of}
use Rattle.am824_gateway.specs.Pieces.{Given, arrival_at, block_after, captures_end, given_with, has_shape, is_late, most_frames, next_block, nothing_given, overlaps, piece_count, pieces_from, pieces_of, skip_by, unless}
use Rattle.am824_gateway.specs.Scan.{IsShape, shape_in}
use Rattle.am824_gateway.proofs.CutLemmas.{frames_are_cuts}
use Rattle.am824_gateway.proofs.GatewayLemmas.{length_values}
use Rattle.am824_gateway.proofs.PieceLemmas.{fits, late_one, one_piece, some_rate}
use Rattle.gateway_laws.proofs.ValueLemmas.{back}
use Rattle.gateway_laws.specs.Heard.{BeginsInTime, packet_heard, packets_heard}
use Rattle.gateway_laws.specs.Kept.{Hears}
use Rattle.gateway_laws.specs.Returned.{frames_made, gateway_records, other}
use Rattle.gateway_laws.specs.Room.{ArePacketsSpread, AreSpread, HasDefaultRoom}
use Rattle.gateway_laws.specs.Stamped.{all_counted, counted_from_first}
use Rattle.gateway_laws.proofs.Apart.{AreApart, all_apart}
use Rattle.gateway_laws.proofs.Carried.{counted_sample, stamped_all}
use Rattle.gateway_laws.proofs.Delivered.{empty_schedule, is_schedule}
use Rattle.gateway_laws.proofs.Heard.{heard_carry, interval_known}
use Rattle.gateway_laws.proofs.Kept.{all_rising, no_rest}
use Rattle.gateway_laws.proofs.Read.{IsCarried, all_carried, samples_long}
use Rattle.gateway_laws.proofs.Room.{has_room}
use Rattle.gateway_laws.proofs.Scanned.{heard_labels, shape_found}
use Rattle.gateway_laws.proofs.Stamped.{stamped_presented, starts_at}
use Rattle.gateway_laws.proofs.Timely.{shown_in_time}
use Rattle.am824_gateway.proofs.CutLemmas.{rise_all}

-- ---- what a packet carries

record Body : Type 0 where
  instant : ℤ
  count : ℕ
  bytes : List ℕ

abbrev body_of : To → Shape → Cut → Body
body_of to shape c = record { instant = cut_instant c; count = c.piece.count; bytes = samples_of to shape c.batch c.piece }

-- the frame of packet n, which carries body b; the block count of its first block is `block`
abbrev body_frame : To → Shape → ℕ → ℕ → ℕ → Body → SentFrame
body_frame to shape id n block b = record {
  arrival = arrival_at b.instant;
  number = n;
  clock = false;
  bytes = packet_bytes (packet_of to shape id n b.instant (record { first = 0; count = b.count; block = block }) b.bytes);
}

-- the frames of bodies; the first frame is that of packet n, with the block count `block`
abbrev body_frames : To → Shape → ℕ → ℕ → ℕ → List Body → List SentFrame
body_frames to shape id n block [] = []
body_frames to shape id n block (b ∷ bs) = body_frame to shape id n block b ∷ body_frames to shape id (suc n) (next_block (interval_of shape.rate) block b.count) bs

-- ---- packets are numbered, and blocks counted

abbrev AreChained : ℕ → ℕ → ℕ → List Cut → Type 0
AreChained interval n block [] = ⊤
AreChained interval n block (c ∷ cs) = (c.number ≡ n) × (c.piece.block ≡ block) × AreChained interval (suc n) (next_block interval c.piece.block c.piece.count) cs

abbrev ArePieces : ℕ → ℕ → List Piece → Type 0
ArePieces interval block [] = ⊤
ArePieces interval block (p ∷ pieces) = (p.block ≡ block) × ArePieces interval (next_block interval p.block p.count) pieces

chained_by : (interval block : ℕ) (b : Bool) (p : Piece) (rest : List Piece) → p.block ≡ block → ArePieces interval (next_block interval p.block p.count) rest → ArePieces interval block (if b then p ∷ rest else [])
chained_by interval block false p rest e all = tt
chained_by interval block true p rest e all = (e, all)

chained_pieces : (to : To) (shape : Shape) (batch : Presented) (most first block : ℕ) → ArePieces (interval_of shape.rate) block (pieces_from to shape batch most first block)
chained_pieces to shape batch zero first block = tt
chained_pieces to shape batch (suc most) first block =
    let next : ℕ = next_block (interval_of shape.rate) block (piece_count to shape batch first) in
    let after : ℕ = first + piece_count to shape batch first in
    chained_by (interval_of shape.rate) block (nat_lt first batch.count) (record { first = first; count = piece_count to shape batch first; block = block }) (pieces_from to shape batch most after next) refl
    (chained_pieces to shape batch most after next)

chained_batch : (interval n m block : ℕ) (batch : Presented) (pieces : List Piece) (rest : List Cut) → n + length pieces ≡ m → ArePieces interval block pieces → AreChained interval m (block_after interval block pieces) rest → AreChained interval n block (cuts_from n batch pieces ++ rest)
chained_batch interval n m block batch [] rest e all more = (let same : m ≡ n = omega (arith, e) in subst (λ (k : ℕ). AreChained interval k block rest) same more)
chained_batch interval n m block batch (p ∷ pieces) rest e all more = (refl, all.0, chained_batch interval (suc n) m (next_block interval p.block p.count) batch pieces rest (omega (arith, e)) all.1 more)

chained_unless : (interval n block : ℕ) (skip : Option Skip) (xs ys zs : List Cut) → AreChained interval n block (xs ++ ys) → AreChained interval n block zs → AreChained interval n block (unless skip (xs ++ ys) zs)
chained_unless interval n block None xs ys zs taken skipped = taken
chained_unless interval n block (Some why) xs ys zs taken skipped = skipped

all_chained : (to : To) (shape : Shape) (given : Given) (batches : List Presented) → AreChained (interval_of shape.rate) given.packets given.block (cuts_after to shape given batches)
all_chained to shape given [] = tt
all_chained to shape given (b ∷ bs) =
    let interval : ℕ = interval_of shape.rate in
    let pieces : List Piece = pieces_of to shape b given.block in
    chained_unless interval given.packets given.block (skip_by to shape given b) (cuts_from given.packets b pieces) (cuts_after to shape (given_with to shape given b) bs) (cuts_after to shape given bs)
    (chained_batch interval given.packets (given.packets + length pieces) given.block b pieces (cuts_after to shape (given_with to shape given b) bs) refl (chained_pieces to shape b b.count 0 given.block) (all_chained to shape (given_with to shape given b) bs))
    (all_chained to shape given bs)

one_frame : (to : To) (shape : Shape) (id : ℕ) (c : Cut) → cut_frame to shape id c ≡ body_frame to shape id c.number c.piece.block (body_of to shape c)
one_frame Am824 shape id c = refl
one_frame Aaf shape id c = refl

frames_of_bodies : (to : To) (shape : Shape) (id n block : ℕ) (cs : List Cut) → AreChained (interval_of shape.rate) n block cs → map (cut_frame to shape id) cs ≡ body_frames to shape id n block (map (body_of to shape) cs)
frames_of_bodies to shape id n block [] chain = refl
frames_of_bodies to shape id n block (c ∷ cs) chain =
    let here = one_frame to shape id c ∙ (ap (λ (k : ℕ). body_frame to shape id k c.piece.block (body_of to shape c)) chain.0 ∙ ap (λ (k : ℕ). body_frame to shape id n k (body_of to shape c)) chain.1) in
    let rest = frames_of_bodies to shape id (suc n) (next_block (interval_of shape.rate) c.piece.block c.piece.count) cs chain.2 in
    let rest = rest ∙ ap (λ (k : ℕ). body_frames to shape id (suc n) (next_block (interval_of shape.rate) k c.piece.count) (map (body_of to shape) cs)) chain.1 in
    ap (λ (f : SentFrame). f ∷ map (cut_frame to shape id) cs) here ∙ ap (λ (fs : List SentFrame). body_frame to shape id n block (body_of to shape c) ∷ fs) rest

pub frames_by_bodies : (to : To) (shape : Shape) (id : ℕ) (batches : List Presented) → gateway_frames to (Some shape) id batches ≡ body_frames to shape id 0 0 (map (body_of to shape) (cuts_after to shape nothing_given batches))
frames_by_bodies to shape id batches = frames_are_cuts to shape id nothing_given batches ∙ frames_of_bodies to shape id 0 0 (cuts_after to shape nothing_given batches) (all_chained to shape nothing_given batches)

-- ---- a packet that is heard is one piece again

same_size : (to : To) → value_in (other to) ≡ value_out to
same_size Am824 = refl
same_size Aaf = refl

-- body b after its samples are converted to another format
abbrev turn_body : To → Shape → Body → Body
turn_body on shape b = record { instant = b.instant; count = b.count; bytes = turned on (b.count * shape.channels) b.bytes }

-- the batch that is presented from the packet that carries piece c
abbrev heard_of : To → Shape → ℕ → Cut → Presented
heard_of to shape i c = counted_from_first (packet_heard to shape i c) (cut_instant c)

-- the piece of all samples of the batch `heard_of`; these samples are those of piece c
abbrev piece_of : Cut → ℕ → Piece
piece_of c block = record { first = 0; count = c.piece.count; block = block }

abbrev HasRoom : To → Shape → Cut → Type 0
HasRoom on shape c = c.piece.count ≤ most_frames on shape.channels

heard_long : (to : To) (shape : Shape) (c : Cut) → IsCarried to shape c → length (samples_of to shape c.batch c.piece) ≡ c.piece.count * (value_in (other to) * shape.channels)
heard_long to shape c fine = rw (same_size to) (samples_long to shape c fine)

heard_shape : (to : To) (shape : Shape) (i : ℕ) (c : Cut) → IsCarried to shape c → has_shape (other to) shape (heard_of to shape i c) ≡ true
heard_shape to shape i c fine =
    let size : (length (samples_of to shape c.batch c.piece) == c.piece.count * (value_in (other to) * shape.channels)) ≡ true = eq-eqb (length (samples_of to shape c.batch c.piece)) (c.piece.count * (value_in (other to) * shape.channels)) (heard_long to shape c fine) in
    rw (size, heard_labels to shape c fine) refl

heard_start : (to : To) (shape : Shape) (i : ℕ) (c : Cut) → IsShape shape → sample_instant (heard_of to shape i c) 0 ≡ cut_instant c
heard_start to shape i c is = starts_at (packet_heard to shape i c) (cut_instant c) (some_rate shape is)

heard_pieces : (to : To) (shape : Shape) (i : ℕ) (c : Cut) (block : ℕ) → IsShape shape → IsCarried to shape c → HasRoom (other to) shape c → pieces_of (other to) shape (heard_of to shape i c) block ≡ piece_of c block ∷ []
heard_pieces to shape i c block is fine room = one_piece (other to) shape (heard_of to shape i c) block (record { known = is; begun = refl; num = refl; den = refl; fits = room }) fine.within.some

-- if `last` states an instant, all instants of the list are after `last`
abbrev IsOver : Option ℤ → List ℤ → Type 0
IsOver None xs = ⊤
IsOver (Some last) xs = AllByRecursion (λ y. last <ℤ y) xs

heard_alone : (last : Option ℤ) (h : Presented) (x : ℤ) (xs : List ℤ) → sample_instant h 0 ≡ x → IsOver last (x ∷ xs) → overlaps last h ≡ false
heard_alone None h x xs e over = refl
heard_alone (Some last) h x xs e over = after (sample_instant h 0) last (let less = over.0 in omega (arith, ints, e, less))
  where
    after : (a b : ℤ) → b <ℤ a → int_le a b ≡ false
    after a b less = grind (arith, ints)

no_skip : (a b c : Bool) → a ≡ true → b ≡ false → c ≡ false → (if not a then Some ShapeOff else if b then Some Overlap else if c then Some Range else None) ≡ None
no_skip a b c x y z = rw (x, y, z) refl

heard_given : (to : To) (shape : Shape) (given : Given) (i : ℕ) (c : Cut) (xs : List ℤ) → IsShape shape → IsCarried to shape c → HasRoom (other to) shape c → IsOver given.last (cut_instant c ∷ xs) → skip_by (other to) shape given (heard_of to shape i c) ≡ None
heard_given to shape given i c xs is fine room over =
    let h : Presented = heard_of to shape i c in
    let start = heard_start to shape i c is in
    let late = ap (λ (x : ℤ). int_le (pos captures_end) (arrival_at x)) start ∙ fine.within.in_time in
    let pieces = heard_pieces to shape i c given.block is fine room in
    no_skip (has_shape (other to) shape h) (overlaps given.last h) (list_any (is_late h) (pieces_of (other to) shape h given.block)) (heard_shape to shape i c fine) (heard_alone given.last h (cut_instant c) xs start over)
    (ap (λ (ps : List Piece). list_any (is_late h) ps) pieces ∙ (late_one h (piece_of c given.block) ∙ late))

whole_values : (size n : ℕ) (xs : List ℕ) → length xs ≡ n * size → take (n * size) (drop (0 * size) xs) ≡ xs
whole_values size n xs long = (let none : 0 * size ≡ 0 = omega arith in rw none (take_all (n * size) xs (omega (arith, long))))

heard_body : (to : To) (shape : Shape) (i n block : ℕ) (c : Cut) → IsShape shape → IsCarried to shape c
    → body_of (other to) shape (record { number = n; batch = heard_of to shape i c; piece = piece_of c block }) ≡ turn_body (other to) shape (body_of to shape c)
heard_body to shape i n block c is fine =
    let bytes = ap (turned (other to) (c.piece.count * shape.channels)) (whole_values (value_in (other to) * shape.channels) c.piece.count (samples_of to shape c.batch c.piece) (heard_long to shape c fine)) in
    let start = heard_start to shape i c is in
    ap (λ (x : ℤ). record { instant = x; count = c.piece.count; bytes = samples_of (other to) shape (heard_of to shape i c) (piece_of c block) }) start
    ∙ ap (λ (l : List ℕ). record { instant = cut_instant c; count = c.piece.count; bytes = l }) bytes

come_back : (to : To) (shape : Shape) (given : Given) (i : ℕ) (cs : List Cut) → IsShape shape → AllByRecursion (IsCarried to shape) cs → AllByRecursion (HasRoom (other to) shape) cs → AreApart shape cs → IsOver given.last (map cut_instant cs)
    → map (body_of (other to) shape) (cuts_after (other to) shape given (all_counted (packets_heard to shape i cs) (map cut_instant cs))) ≡ map (turn_body (other to) shape) (map (body_of to shape) cs)
come_back to shape given i [] is fine room apart over = refl
come_back to shape given i (c ∷ cs) is fine room apart over =
    let h : Presented = heard_of to shape i c in
    let hs : List Presented = all_counted (packets_heard to shape (suc i) cs) (map cut_instant cs) in
    let on : To = other to in
    let next : Given = given_with on shape given h in
    let taken = heard_given to shape given i c (map cut_instant cs) is fine.0 room.0 over in
    let pieces = heard_pieces to shape i c given.block is fine.0 room.0 in
    let cuts = ap (λ (s : Option Skip). unless s (cuts_from given.packets h (pieces_of on shape h given.block) ++ cuts_after on shape next hs) (cuts_after on shape given hs)) taken
    ∙ ap (λ (ps : List Piece). cuts_from given.packets h ps ++ cuts_after on shape next hs) pieces in
    let last = counted_sample (packet_heard to shape i c) (cut_instant c) shape.rate (c.piece.count - 1) refl (some_rate shape is) in
    let rest = come_back to shape next (suc i) cs is fine.1 room.1 apart.1 (subst (λ (x : ℤ). AllByRecursion (λ y. x <ℤ y) (map cut_instant cs)) (sym last) apart.0) in
    ap (map (body_of on shape)) cuts
    ∙ (ap (λ (b : Body). b ∷ map (body_of on shape) (cuts_after on shape next hs)) (heard_body to shape i given.packets given.block c is fine.0)
    ∙ ap (λ (bs : List Body). turn_body on shape (body_of to shape c) ∷ bs) rest)

-- ---- all that is heard

-- the batches that a listener presents from a gateway's frames
abbrev presented_again : ListenPlan → To → Shape → ℕ → List Presented → List Presented
presented_again plan to shape id batches = presented_of (shown_of plan (gateway_records to (Some shape) id batches))

heard_again : (to : To) (shape : Shape) (id : ℕ) (batches : List Presented) (plan : ListenPlan) → IsShape shape → id < 2 ^ 64 → AllByRecursion BeginsInTime batches → Hears id plan (gateway_records to (Some shape) id batches)
    → presented_again plan to shape id batches ≡ all_counted (packets_heard to shape 1 (cuts_after to shape nothing_given batches)) (map cut_instant (cuts_after to shape nothing_given batches))
heard_again to shape id batches plan is small begins hears =
    let cuts : List Cut = cuts_after to shape nothing_given batches in
    let e = ap (map record_of) (frames_are_cuts to shape id nothing_given batches) in
    let fine = all_carried to shape nothing_given batches is (omega arith) in
    let schedule = is_schedule to shape id cuts plan is small fine (subst (Hears id plan) e hears) in
    let carry = heard_carry to shape nothing_given 1 batches is (no_rest (interval_of shape.rate) (interval_known shape is)) begins in
    ap (λ (rs : List Record). presented_of (shown_of plan rs)) e
    ∙ (schedule.batches
    ∙ stamped_presented clock_spot (schedule_plan plan) (packets_heard to shape 1 cuts) (map cut_instant cuts) schedule.without (stamped_all to shape (packets_heard to shape 1 cuts) cuts carry)
    (rise_all to shape nothing_given batches (all_rising batches begins)) schedule.room)

-- a gateway that converts another gateway's frames sends the same bodies, converted
turned_again : (to : To) (shape : Shape) (id : ℕ) (batches : List Presented) (plan : ListenPlan) → IsShape shape → id < 2 ^ 64 → AllByRecursion BeginsInTime batches → Hears id plan (gateway_records to (Some shape) id batches)
    → AllByRecursion (HasRoom (other to) shape) (cuts_after to shape nothing_given batches)
    → map (body_of (other to) shape) (cuts_after (other to) shape nothing_given (presented_again plan to shape id batches)) ≡ map (turn_body (other to) shape) (map (body_of to shape) (cuts_after to shape nothing_given batches))
turned_again to shape id batches plan is small begins hears room =
    let cuts : List Cut = cuts_after to shape nothing_given batches in
    ap (λ (hs : List Presented). map (body_of (other to) shape) (cuts_after (other to) shape nothing_given hs)) (heard_again to shape id batches plan is small begins hears)
    ∙ come_back to shape nothing_given 1 cuts is (all_carried to shape nothing_given batches is (omega arith)) room (all_apart to shape nothing_given batches is (all_rising batches begins)) tt

-- ---- there and back

quotient : (n d m : ℕ) → 1 ≤ d → n * d ≤ m → n ≤ m / d
quotient n d m some h = elim (cases_lt (m / d) n) [
  | inr not_less ↦ not_less
  | inl less ↦
      let over : m < m / d * d + d = lt-div-mul-add some in
      let times = mul-le-mul_right d less in
      absurd (omega (arith, h, over, times))
]

more_room : (shape : Shape) (c : Cut) → IsShape shape → HasRoom Am824 shape c → HasRoom Aaf shape c
more_room shape c is room =
    let most = fits Am824 shape.channels c.piece.count room in
    let some = is.some in
    quotient c.piece.count (3 * shape.channels) 1476 (omega (arith, some)) (omega (arith, most))

all_more : (shape : Shape) (cs : List Cut) → IsShape shape → AllByRecursion (IsCarried Am824 shape) cs → AllByRecursion (HasRoom Aaf shape) cs
all_more shape [] is fine = tt
all_more shape (c ∷ cs) is fine = (more_room shape c is fine.0.within.fits, all_more shape cs is fine.1)

abbrev HasFew : ℕ → Body → Type 0
HasFew most b = b.count ≤ most

few_bodies : (shape : Shape) (cs : List Cut) → AllByRecursion (IsCarried Am824 shape) cs → AllByRecursion (HasFew (most_frames Am824 shape.channels)) (map (turn_body Aaf shape) (map (body_of Am824 shape) cs))
few_bodies shape [] fine = tt
few_bodies shape (c ∷ cs) fine = (fine.0.within.fits, few_bodies shape cs fine.1)

few_cuts : (shape : Shape) (cs : List Cut) → AllByRecursion (HasFew (most_frames Am824 shape.channels)) (map (body_of Aaf shape) cs) → AllByRecursion (HasRoom Am824 shape) cs
few_cuts shape [] all = tt
few_cuts shape (c ∷ cs) all = (all.0, few_cuts shape cs all.1)

same_body : (shape : Shape) (c : Cut) → IsCarried Am824 shape c → turn_body Am824 shape (turn_body Aaf shape (body_of Am824 shape c)) ≡ body_of Am824 shape c
same_body shape c fine =
    let n : ℕ = c.piece.count * shape.channels in
    let v : List ℕ = values_of Am824 shape c.batch c.piece in
    let long = length_values Am824 shape c.batch c.piece fine.within.inside fine.size in
    let values = back n v (omega (arith, long)) ∙ take_all (3 * n) v (omega (arith, long)) in
    ap (λ (l : List ℕ). record { instant = cut_instant c; count = c.piece.count; bytes = labelled n l }) values

same_bodies : (shape : Shape) (cs : List Cut) → AllByRecursion (IsCarried Am824 shape) cs → map (turn_body Am824 shape) (map (turn_body Aaf shape) (map (body_of Am824 shape) cs)) ≡ map (body_of Am824 shape) cs
same_bodies shape [] fine = refl
same_bodies shape (c ∷ cs) fine =
    ap (λ (b : Body). b ∷ map (turn_body Am824 shape) (map (turn_body Aaf shape) (map (body_of Am824 shape) cs))) (same_body shape c fine.0)
    ∙ ap (λ (bs : List Body). body_of Am824 shape c ∷ bs) (same_bodies shape cs fine.1)

comes_with_shape : (shape : Shape) (id via : ℕ) (batches : List Presented) (there back_plan : ListenPlan) → IsShape shape → id < 2 ^ 64 → via < 2 ^ 64 → AllByRecursion BeginsInTime batches
    → Hears id there (gateway_records Am824 (Some shape) id batches) → Hears via back_plan (gateway_records Aaf (Some shape) via (presented_again there Am824 shape id batches))
    → gateway_frames Am824 (Some shape) id (presented_again back_plan Aaf shape via (presented_again there Am824 shape id batches)) ≡ gateway_frames Am824 (Some shape) id batches
comes_with_shape shape id via batches there back_plan is small via_small begins hears hears_back =
    let cs : List Cut = cuts_after Am824 shape nothing_given batches in
    let hs : List Presented = presented_again there Am824 shape id batches in
    let again = shown_in_time there (gateway_records Am824 (Some shape) id batches) in
    let fine = all_carried Am824 shape nothing_given batches is (omega arith) in
    let two = turned_again Am824 shape id batches there is small begins hears (all_more shape cs is fine) in
    let room = few_cuts shape (cuts_after Aaf shape nothing_given hs) (subst (AllByRecursion (HasFew (most_frames Am824 shape.channels))) (sym two) (few_bodies shape cs fine)) in
    let three = turned_again Aaf shape via hs back_plan is via_small again hears_back room in
    let bodies = three ∙ (ap (map (turn_body Am824 shape)) two ∙ same_bodies shape cs fine) in
    frames_by_bodies Am824 shape id (presented_again back_plan Aaf shape via hs) ∙ (ap (body_frames Am824 shape id 0 0) bodies ∙ sym (frames_by_bodies Am824 shape id batches))

-- if there are no records, nothing is presented
none_again : (id : ℕ) (plan : ListenPlan) → Hears id plan [] → presented_of (shown_of plan []) ≡ []
none_again id plan hears = (let schedule = empty_schedule id plan hears in schedule.batches ∙ stamped_presented clock_spot (schedule_plan plan) [] [] schedule.without tt tt schedule.room)

-- if a gateway makes any frames, a scan of their records finds the gateway's shape
shape_by : (to : To) (shape : Shape) (id : ℕ) (batches : List Presented) (plan : ListenPlan) (f : SentFrame) (fs : List SentFrame) → gateway_frames to (Some shape) id batches ≡ f ∷ fs → IsShape shape → id < 2 ^ 64 → plan.stream ≡ id
    → shape_in plan.stream (gateway_records to (Some shape) id batches) ≡ Some shape
shape_by to shape id batches plan f fs e is small stream =
    let some : 1 ≤ length (gateway_records to (Some shape) id batches) = rw e (omega arith) in
    ap (λ (n : ℕ). shape_in n (gateway_records to (Some shape) id batches)) stream ∙ shape_found to shape id batches is small some

-- AM824 is the same after both conversions, each with the shape that the scan finds
comes_found : (shape : Shape) (id via : ℕ) (batches : List Presented) (there back_plan : ListenPlan) (one two : List SentFrame) → gateway_frames Am824 (Some shape) id batches ≡ one
    → gateway_frames Aaf (Some shape) via (presented_again there Am824 shape id batches) ≡ two → IsShape shape → id < 2 ^ 64 → via < 2 ^ 64 → AllByRecursion BeginsInTime batches
    → Hears id there (gateway_records Am824 (Some shape) id batches) → Hears via back_plan (map record_of (frames_made Aaf there via (gateway_records Am824 (Some shape) id batches)))
    → frames_made Am824 back_plan id (map record_of (frames_made Aaf there via (gateway_records Am824 (Some shape) id batches))) ≡ gateway_frames Am824 (Some shape) id batches
comes_found shape id via batches there back_plan [] two e f is small via_small begins hears hears_back = rw e refl
comes_found shape id via batches there back_plan (x ∷ one) two e f is small via_small begins hears hears_back =
    let hs : List Presented = presented_again there Am824 shape id batches in
    let made : frames_made Aaf there via (gateway_records Am824 (Some shape) id batches) ≡ gateway_frames Aaf (Some shape) via hs = ap (λ (o : Option Shape). gateway_frames Aaf o via hs) (shape_by Am824 shape id batches there x one e is small hears.stream) in
    let heard : Hears via back_plan (gateway_records Aaf (Some shape) via hs) = subst (λ (fs : List SentFrame). Hears via back_plan (map record_of fs)) made hears_back in
    let all = comes_with_shape shape id via batches there back_plan is small via_small begins hears heard in
    ap (λ (fs : List SentFrame). frames_made Am824 back_plan id (map record_of fs)) made ∙ back two f heard all
  where
    hs : List Presented
    hs = presented_again there Am824 shape id batches

    back : (fs : List SentFrame) → gateway_frames Aaf (Some shape) via hs ≡ fs → Hears via back_plan (gateway_records Aaf (Some shape) via hs)
        → gateway_frames Am824 (Some shape) id (presented_again back_plan Aaf shape via hs) ≡ gateway_frames Am824 (Some shape) id batches
        → frames_made Am824 back_plan id (gateway_records Aaf (Some shape) via hs) ≡ gateway_frames Am824 (Some shape) id batches
    back (y ∷ fs) g heard all = ap (λ (o : Option Shape). gateway_frames Am824 o id (presented_again back_plan Aaf shape via hs)) (shape_by Aaf shape via hs back_plan y fs g is via_small heard.stream) ∙ all
    back [] g heard all =
        let records : gateway_records Aaf (Some shape) via hs ≡ [] = ap (map record_of) g in
        let none : presented_again back_plan Aaf shape via hs ≡ [] = ap (λ (rs : List Record). presented_of (shown_of back_plan rs)) records ∙ none_again via back_plan (subst (Hears via back_plan) records heard) in
        ap (λ (rs : List Record). frames_made Am824 back_plan id rs) records ∙ (sym (ap (λ (bs : List Presented). gateway_frames Am824 (Some shape) id bs) none) ∙ all)

pub comes_back : (shape : Option Shape) (id via : ℕ) (batches : List Presented) (there back_plan : ListenPlan) → IfSome shape IsShape → id < 2 ^ 64 → via < 2 ^ 64 → AllByRecursion BeginsInTime batches
    → Hears id there (gateway_records Am824 shape id batches) → Hears via back_plan (map record_of (frames_made Aaf there via (gateway_records Am824 shape id batches)))
    → frames_made Am824 back_plan id (map record_of (frames_made Aaf there via (gateway_records Am824 shape id batches))) ≡ gateway_frames Am824 shape id batches
comes_back None id via batches there back_plan is small via_small begins hears hears_back = refl
comes_back (Some shape) id via batches there back_plan is small via_small begins hears hears_back =
    comes_found shape id via batches there back_plan (gateway_frames Am824 (Some shape) id batches) (gateway_frames Aaf (Some shape) via (presented_again there Am824 shape id batches)) refl refl is small via_small begins hears hears_back

-- ---- there is room in both conversions

abbrev instants : List Body → List ℤ
instants bs = map (λ (b : Body). b.instant) bs

instants_of : (to : To) (shape : Shape) (cs : List Cut) → instants (map (body_of to shape) cs) ≡ map cut_instant cs
instants_of to shape [] = refl
instants_of to shape (c ∷ cs) = ap (λ (xs : List ℤ). cut_instant c ∷ xs) (instants_of to shape cs)

instants_turned : (on : To) (shape : Shape) (bs : List Body) → instants (map (turn_body on shape) bs) ≡ instants bs
instants_turned on shape [] = refl
instants_turned on shape (b ∷ bs) = ap (λ (xs : List ℤ). b.instant ∷ xs) (instants_turned on shape bs)

-- packets of AM824 are converted to packets of PCM, and both are presented at the same instants
same_instants : (shape : Shape) (id : ℕ) (batches : List Presented) (there : ListenPlan) → IsShape shape → id < 2 ^ 64 → AllByRecursion BeginsInTime batches → Hears id there (gateway_records Am824 (Some shape) id batches)
    → map cut_instant (cuts_after Am824 shape nothing_given batches) ≡ map cut_instant (cuts_after Aaf shape nothing_given (presented_again there Am824 shape id batches))
same_instants shape id batches there is small begins hears =
    let cs : List Cut = cuts_after Am824 shape nothing_given batches in
    let two = turned_again Am824 shape id batches there is small begins hears (all_more shape cs is (all_carried Am824 shape nothing_given batches is (omega arith))) in
    sym (instants_of Am824 shape cs)
    ∙ (sym (instants_turned Aaf shape (map (body_of Am824 shape) cs)) ∙ (sym (ap instants two) ∙ instants_of Aaf shape (cuts_after Aaf shape nothing_given (presented_again there Am824 shape id batches))))

hears_back : (shape : Shape) (id via : ℕ) (batches : List Presented) (there back_plan : ListenPlan) (one : List SentFrame) → gateway_frames Am824 (Some shape) id batches ≡ one → IsShape shape → id < 2 ^ 64 → via < 2 ^ 64 → AllByRecursion BeginsInTime batches
    → Hears id there (gateway_records Am824 (Some shape) id batches) → ArePacketsSpread Am824 (Some shape) batches → HasDefaultRoom via back_plan → Hears via back_plan (map record_of (frames_made Aaf there via (gateway_records Am824 (Some shape) id batches)))
hears_back shape id via batches there back_plan [] e is small via_small begins hears spread default =
    subst (λ (fs : List SentFrame). Hears via back_plan (map record_of (frames_made Aaf there via (map record_of fs)))) (sym e) (has_room Aaf None via [] back_plan tt via_small tt tt default)
hears_back shape id via batches there back_plan (x ∷ one) e is small via_small begins hears spread default =
    let hs : List Presented = presented_again there Am824 shape id batches in
    let made : frames_made Aaf there via (gateway_records Am824 (Some shape) id batches) ≡ gateway_frames Aaf (Some shape) via hs = ap (λ (o : Option Shape). gateway_frames Aaf o via hs) (shape_by Am824 shape id batches there x one e is small hears.stream) in
    let again = subst AreSpread (same_instants shape id batches there is small begins hears) spread in
    subst (λ (fs : List SentFrame). Hears via back_plan (map record_of fs)) (sym made) (has_room Aaf (Some shape) via hs back_plan is via_small (shown_in_time there (gateway_records Am824 (Some shape) id batches)) again default)

pub comes_back_by_default : (shape : Option Shape) (id via : ℕ) (batches : List Presented) (there back_plan : ListenPlan) → IfSome shape IsShape → id < 2 ^ 64 → via < 2 ^ 64 → AllByRecursion BeginsInTime batches
    → ArePacketsSpread Am824 shape batches → HasDefaultRoom id there → HasDefaultRoom via back_plan
    → frames_made Am824 back_plan id (map record_of (frames_made Aaf there via (gateway_records Am824 shape id batches))) ≡ gateway_frames Am824 shape id batches
comes_back_by_default None id via batches there back_plan is small via_small begins spread default default_back = refl
comes_back_by_default (Some shape) id via batches there back_plan is small via_small begins spread default default_back =
    let hears = has_room Am824 (Some shape) id batches there is small begins spread default in
    comes_back (Some shape) id via batches there back_plan is small via_small begins hears
    (hears_back shape id via batches there back_plan (gateway_frames Am824 (Some shape) id batches) refl is small via_small begins hears spread default_back)
