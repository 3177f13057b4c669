-- Each packet of a gateway is read as it was written.
use Rattle.std.proofs.Common.{◌≡◌, inl, ℕ, zero, suc, ◌+◌, ◌*◌, ◌%◌, ◌^◌, ◌<◌, ◌≤◌, Bool, true, false, ℤ, List, [], ◌∷◌, ◌++◌, length, Option, Some, None, refl, sym, ap, ◌∙◌, eq-eqb, arith}
use Rattle.std.specs.Prelude.{◌==◌, if◌then◌else◌, nat_le, nat_lt, is_none, IsSome, unwrap_or}
use Rattle.std.specs.List.{AllByRecursion, list_any}
use Rattle.std.proofs.lemmas.Bool.Decides.{nat_tests}
use Rattle.std.proofs.lemmas.List.{append-nil}
use Rattle.avtp_base.specs.Layout.{Fits}
use Rattle.avtp_base.specs.Octets.{bits, is_set}
use Rattle.pcap_frames.specs.Frame.{Frame, frame_of, frame_refusal}
use Rattle.pcap_frames.proofs.FrameLemmas.{one_frame}
use Rattle.avtp_header.specs.state.Header.{filled_layout}
use Rattle.aaf_format.specs.Aaf.{Aaf as AafPacket, IsWritableAaf, SpellsAaf, aaf_of, aaf_refusal, aaf_spelling, aaf_subtype, rate_of}
use Rattle.aaf_format.proofs.AafLemmas.{aaf_again, fits_whole as aaf_fits, one_packet as one_aaf}
use Rattle.iec61883_format.specs.Iec.{Iec, IsWritableIec, SpellsIec, data_size, iec_of, iec_refusal, iec_spelling, iec_subtype, rate_of_fdf, syt_interval}
use Rattle.iec61883_format.proofs.IecLemmas.{cip_fits, fits_whole as iec_fits, iec_again, one_packet as one_iec}
use Rattle.packet_journal.specs.Deliveries.{avtp_ethertype, belongs, packet_in, stream_kinds}
use Rattle.packet_journal.specs.Packets.{PacketView, spelling_of}
use Rattle.talk_plan.specs.Ethernet.{ethernet, packet_bytes}
use Rattle.talk_plan.specs.Plan.{fdf_of, interval_of, rate_code}
use Rattle.talk_plan.proofs.HeaderLemmas.{bytes_size}
use Rattle.talk_plan.proofs.RateLemmas.{known_fdf, stated_interval}
use Rattle.talker.proofs.StreamLemmas.{frame_spells}
use Rattle.sample_schedule.specs.Batches.{Presented}
use Rattle.am824_gateway.specs.declared.piece.Piece.{Piece}
use Rattle.am824_gateway.specs.declared.scan.Shape.{Shape}
use Rattle.am824_gateway.specs.declared.scan.To.{To}
use Rattle.am824_gateway.specs.declared.scan.To.TheVariants.{Aaf, Am824}
use Rattle.am824_gateway.specs.declared.skip.Skip.{Skip}
use Rattle.am824_gateway.specs.Labels.{value_in, value_out}
use Rattle.am824_gateway.specs.Laws.{Cut, cut_frame, cut_instant, cuts_after, cuts_from}
use Rattle.am824_gateway.specs.Packets.{aaf_packet, am824_packet, frame_size, header_at, packet_of, samples_of, values_of}
use Rattle.am824_gateway.specs.Pieces.{Given, block_after, given_with, next_block, piece_count, pieces_from, pieces_of, skip_by, unless}
use Rattle.am824_gateway.specs.Scan.{IsShape}
use Rattle.am824_gateway.specs.state.Kept.{IsWithin}
use Rattle.am824_gateway.proofs.CutLemmas.{given_is}
use Rattle.am824_gateway.proofs.GatewayLemmas.{all_within, length_frame, length_turned, length_values, shaped}
use Rattle.am824_gateway.proofs.PieceLemmas.{fits}
use Rattle.gateway_laws.specs.Noted.{subtype_to}
use Rattle.gateway_laws.proofs.Heard.{timestamp_small}

-- ---- pieces

-- A packet can carry the piece: the piece lies in its batch, the batch has the stream's shape, and the piece's block
-- count is a byte.
pub record IsCarried (to : To) (shape : Shape) (c : Cut) : Type 0 where
  pub within : IsWithin to shape c.batch c.piece
  pub size : length c.batch.bytes ≡ c.batch.count * (value_in to * shape.channels)
  pub block : c.piece.block < 256

next_small : (interval block count : ℕ) → next_block interval block count < 256
next_small interval block count = omega arith

after_small : (interval block : ℕ) (pieces : List Piece) → block < 256 → block_after interval block pieces < 256
after_small interval block [] small = small
after_small interval block (p ∷ pieces) small = after_small interval (next_block interval p.block p.count) pieces (next_small interval p.block p.count)

small_by : (b : Bool) (p : Piece) (rest : List Piece) → p.block < 256 → AllByRecursion (λ (q : Piece). q.block < 256) rest → AllByRecursion (λ (q : Piece). q.block < 256) (if b then p ∷ rest else [])
small_by false p rest small all = tt
small_by true p rest small all = (small, all)

small_pieces : (to : To) (shape : Shape) (batch : Presented) (most first block : ℕ) → block < 256 → AllByRecursion (λ (q : Piece). q.block < 256) (pieces_from to shape batch most first block)
small_pieces to shape batch zero first block small = tt
small_pieces to shape batch (suc most) first block small =
    let next : ℕ = next_block (interval_of shape.rate) block (piece_count to shape batch first) in
    small_by (nat_lt first batch.count) (record { first = first; count = piece_count to shape batch first; block = block }) (pieces_from to shape batch most (first + piece_count to shape batch first) next) small
    (small_pieces to shape batch most (first + piece_count to shape batch first) next (next_small (interval_of shape.rate) block (piece_count to shape batch first)))

cuts_carried : (to : To) (shape : Shape) (n : ℕ) (batch : Presented) (pieces : List Piece) → length batch.bytes ≡ batch.count * (value_in to * shape.channels) → AllByRecursion (IsWithin to shape batch) pieces
    → AllByRecursion (λ (q : Piece). q.block < 256) pieces → AllByRecursion (IsCarried to shape) (cuts_from n batch pieces)
cuts_carried to shape n batch [] size within small = tt
cuts_carried to shape n batch (p ∷ pieces) size within small =
    (record { within = within.0; size = size; block = small.0 }, cuts_carried to shape (suc n) batch pieces size within.1 small.1)

all_two : (P : Cut → Type 0) (xs ys : List Cut) → AllByRecursion P xs → AllByRecursion P ys → AllByRecursion P (xs ++ ys)
all_two P [] ys first second = second
all_two P (x ∷ xs) ys first second = (first.0, all_two P xs ys first.1 second)

carried_by : (to : To) (shape : Shape) (given : Given) (b : Presented) (bs : List Presented) (skip : Option Skip) → skip_by to shape given b ≡ skip → IsShape shape → given.block < 256
    → AllByRecursion (IsCarried to shape) (cuts_after to shape given bs) → AllByRecursion (IsCarried to shape) (cuts_after to shape (given_with to shape given b) bs)
    → AllByRecursion (IsCarried to shape) (unless skip (cuts_from given.packets b (pieces_of to shape b given.block) ++ cuts_after to shape (given_with to shape given b) bs) (cuts_after to shape given bs))
carried_by to shape given b bs (Some why) e is small skipped taken = skipped
carried_by to shape given b bs None e is small skipped taken =
    let given_out = given_is to shape given b e in
    all_two (IsCarried to shape) (cuts_from given.packets b (pieces_of to shape b given.block)) (cuts_after to shape (given_with to shape given b) bs)
    (cuts_carried to shape given.packets b (pieces_of to shape b given.block) (shaped to shape b given_out.shaped) (all_within to shape b b.count 0 given.block is given_out.in_time) (small_pieces to shape b b.count 0 given.block small))
    taken

pub all_carried : (to : To) (shape : Shape) (given : Given) (batches : List Presented) → IsShape shape → given.block < 256 → AllByRecursion (IsCarried to shape) (cuts_after to shape given batches)
all_carried to shape given [] is small = tt
all_carried to shape given (b ∷ bs) is small =
    carried_by to shape given b bs (skip_by to shape given b) refl is small (all_carried to shape given bs is small)
    (all_carried to shape (given_with to shape given b) bs is (after_small (interval_of shape.rate) given.block (pieces_of to shape b given.block) small))

-- ---- headers

header_fits : (subtype id n : ℕ) (instant : ℤ) (long : ℕ) → subtype < 256 → id < 2 ^ 64 → long < 65536 → Fits (filled_layout 0 0 0) (header_at subtype id n instant long)
header_fits subtype id n instant long kind small size = (
  (kind, tt),
  (
    (omega arith, (omega arith, (omega arith, (omega arith, (omega arith, tt))))),
    (
      (omega arith, tt),
      (
        (omega arith, (omega arith, tt)),
        (
          (small, tt),
          ((timestamp_small instant, tt), ((omega arith, tt), ((size, tt), ((omega arith, tt), tt)))),
        ),
      ),
    ),
  ),
)

-- IEC 61883-6 has a code for this rate, and the code is at most 6. Readers get the rate and its SYT_INTERVAL from the
-- code.
pub record IsNamed (rate : ℕ) : Type 0 where
  pub named : rate_of_fdf (unwrap_or (fdf_of rate) 0) ≡ Some rate
  pub few : unwrap_or (fdf_of rate) 0 ≤ 6
  pub interval : syt_interval (unwrap_or (fdf_of rate) 0) ≡ Some (interval_of rate)

named_by : (rate : ℕ) (o : Option ℕ) → fdf_of rate ≡ o → IsSome o → IsNamed rate
named_by rate None e some = absurd cc
named_by rate (Some fdf) e some =
    let is = known_fdf rate fdf e in
    let code : unwrap_or (fdf_of rate) 0 ≡ fdf = rw e refl in
    record { named = rw code is.named; few = rw code is.few; interval = rw code (stated_interval rate fdf e) }

pub is_named : (shape : Shape) → IsShape shape → IsNamed shape.rate
is_named shape is = named_by shape.rate (fdf_of shape.rate) refl is.rate

-- AAF has a code for this rate, and the code is at most 10. Readers get the rate from the code.
pub record IsPcmRate (rate : ℕ) : Type 0 where
  pub named : rate_of (unwrap_or (rate_code rate) 0) ≡ Some rate
  pub few : unwrap_or (rate_code rate) 0 ≤ 10

pcm_rate : (rate : ℕ) → IsSome (fdf_of rate) → IsPcmRate rate
pcm_rate rate some = grind (arith, nat_tests)

pub is_pcm_rate : (shape : Shape) → IsShape shape → IsPcmRate shape.rate
is_pcm_rate shape is = pcm_rate shape.rate is.rate

-- ---- packets

-- the PCM packet that carries a piece, under this stream ID
abbrev pub cut_aaf : Shape → ℕ → Cut → AafPacket
cut_aaf shape id c = aaf_packet shape (header_at aaf_subtype id c.number (cut_instant c) (c.piece.count * (3 * shape.channels))) c.piece (samples_of Aaf shape c.batch c.piece)

abbrev pub cut_am824 : Shape → ℕ → Cut → Iec
cut_am824 shape id c = am824_packet shape (header_at iec_subtype id c.number (cut_instant c) (8 + c.piece.count * (4 * shape.channels))) c.piece (samples_of Am824 shape c.batch c.piece)

pub samples_long : (to : To) (shape : Shape) (c : Cut) → IsCarried to shape c → length (samples_of to shape c.batch c.piece) ≡ c.piece.count * (value_out to * shape.channels)
samples_long to shape c is = length_turned to shape c.piece (values_of to shape c.batch c.piece) (length_values to shape c.batch c.piece is.within.inside is.size)

aaf_writable : (shape : Shape) (id : ℕ) (c : Cut) → IsShape shape → IsCarried Aaf shape c → IsWritableAaf (cut_aaf shape id c)
aaf_writable shape id c is fine =
    let size = samples_long Aaf shape c fine in
    let rate = is_pcm_rate shape is in
    let most = is.most in
    record {
      subtype = refl;
      nsr = rate.few;
      some_channels = is.some;
      channels = omega (arith, most);
      depth = omega arith;
      evt = omega arith;
      data_length = sym size;
      count = omega (arith, size);
    }

aaf_spells : (shape : Shape) (id : ℕ) (c : Cut) → IsShape shape → id < 2 ^ 64 → IsCarried Aaf shape c → SpellsAaf (aaf_spelling (cut_aaf shape id c)) (cut_aaf shape id c)
aaf_spells shape id c is small fine =
    let v : AafPacket = cut_aaf shape id c in
    let most = fits Aaf shape.channels c.piece.count fine.within.fits in
    let header = header_fits aaf_subtype id c.number (cut_instant c) (c.piece.count * (3 * shape.channels)) (omega arith) small (omega (arith, most)) in
    let writable = aaf_writable shape id c is fine in
    rw append-nil at (aaf_again v [] writable (aaf_fits v 0 0 writable header))

iec_writable : (shape : Shape) (id : ℕ) (c : Cut) → IsShape shape → IsCarried Am824 shape c → IsWritableIec (cut_am824 shape id c)
iec_writable shape id c is fine =
    let size = samples_long Am824 shape c fine in
    let rate = is_named shape is in
    record {
      subtype = refl;
      channel = omega arith;
      tcode = omega arith;
      sy = omega arith;
      sid = omega arith;
      some_quadlets = is.some;
      quadlets = is.most;
      fdf = inl rate.few;
      data_length = omega (arith, size);
      count = sym (all_data (unwrap_or (fdf_of shape.rate) 0) (length (samples_of Am824 shape c.batch c.piece)) rate.few ∙ size);
    }
  where
    all_data : (fdf long : ℕ) → fdf ≤ 6 → data_size fdf long ≡ long
    all_data fdf long few = let other : (fdf == 255) ≡ false = grind (arith, nat_tests) in rw other refl

iec_spells : (shape : Shape) (id : ℕ) (c : Cut) → IsShape shape → id < 2 ^ 64 → IsCarried Am824 shape c → SpellsIec (iec_spelling (cut_am824 shape id c)) (cut_am824 shape id c)
iec_spells shape id c is small fine =
    let v : Iec = cut_am824 shape id c in
    let most = fits Am824 shape.channels c.piece.count fine.within.fits in
    let few = (is_named shape is).few in
    let header = header_fits iec_subtype id c.number (cut_instant c) (8 + c.piece.count * (4 * shape.channels)) (omega arith) small (omega (arith, most)) in
    let writable = iec_writable shape id c is fine in
    rw append-nil at (iec_again v [] writable (iec_fits v 0 0 0 writable refl header (cip_fits v.cip (omega arith) is.most fine.block (omega (arith, few)) (omega arith))))

-- ---- frames

-- The bytes are a frame of AVTP that holds `packet`.
pub record Holds (bytes packet : List ℕ) : Type 0 where
  pub accepted : frame_refusal bytes ≡ None
  pub ethertype : (frame_of bytes).ethertype ≡ avtp_ethertype
  pub packet_is : packet_in bytes ≡ packet

holds : (packet : PacketView) → Holds (packet_bytes packet) (spelling_of packet)
holds packet =
    let spelled = frame_spells packet in
    let same : ethernet (spelling_of packet) ≡ frame_of (packet_bytes packet) = one_frame (packet_bytes packet) (ethernet (spelling_of packet)) spelled in
    record { accepted = spelled.accepted; ethertype = sym (ap (λ (f : Frame). f.ethertype) same); packet_is = sym (ap (λ (f : Frame). f.payload) same) }

-- The frame of a piece is read as the packet that carries the piece.
pub record IsReadAaf (shape : Shape) (id : ℕ) (c : Cut) : Type 0 where
  pub holds : Holds (cut_frame Aaf shape id c).bytes (aaf_spelling (cut_aaf shape id c))
  pub accepted : aaf_refusal (aaf_spelling (cut_aaf shape id c)) ≡ None
  pub is : aaf_of (aaf_spelling (cut_aaf shape id c)) ≡ cut_aaf shape id c
  pub long : 12 ≤ length (aaf_spelling (cut_aaf shape id c))

pub record IsReadIec (shape : Shape) (id : ℕ) (c : Cut) : Type 0 where
  pub holds : Holds (cut_frame Am824 shape id c).bytes (iec_spelling (cut_am824 shape id c))
  pub accepted : iec_refusal (iec_spelling (cut_am824 shape id c)) ≡ None
  pub is : iec_of (iec_spelling (cut_am824 shape id c)) ≡ cut_am824 shape id c
  pub long : 12 ≤ length (iec_spelling (cut_am824 shape id c))

packet_long : (to : To) (shape : Shape) (id : ℕ) (c : Cut) (packet : PacketView) → IsCarried to shape c → (cut_frame to shape id c).bytes ≡ packet_bytes packet → 12 ≤ length (spelling_of packet)
packet_long to shape id c packet fine e =
    let frame = length_frame to shape id c.number c.batch c.piece fine.within.inside fine.size in
    let whole = bytes_size packet in
    let same = ap (λ (l : List ℕ). length l) e in
    let most = headers to in
    omega (arith, frame, whole, same, most)
  where
    headers : (t : To) → 42 ≤ frame_size t shape c.piece
    headers Am824 = omega arith
    headers Aaf = omega arith

pub aaf_read : (shape : Shape) (id : ℕ) (c : Cut) → IsShape shape → id < 2 ^ 64 → IsCarried Aaf shape c → IsReadAaf shape id c
aaf_read shape id c is small fine =
    let packet : PacketView = packet_of Aaf shape id c.number (cut_instant c) c.piece (samples_of Aaf shape c.batch c.piece) in
    let spelled = aaf_spells shape id c is small fine in
    record {
      holds = holds packet;
      accepted = spelled.accepted;
      is = sym (one_aaf (aaf_spelling (cut_aaf shape id c)) (cut_aaf shape id c) spelled);
      long = packet_long Aaf shape id c packet fine refl;
    }

pub iec_read : (shape : Shape) (id : ℕ) (c : Cut) → IsShape shape → id < 2 ^ 64 → IsCarried Am824 shape c → IsReadIec shape id c
iec_read shape id c is small fine =
    let packet : PacketView = packet_of Am824 shape id c.number (cut_instant c) c.piece (samples_of Am824 shape c.batch c.piece) in
    let spelled = iec_spells shape id c is small fine in
    record {
      holds = holds packet;
      accepted = spelled.accepted;
      is = sym (one_iec (iec_spelling (cut_am824 shape id c)) (cut_am824 shape id c) spelled);
      long = packet_long Am824 shape id c packet fine refl;
    }

-- ---- the stream of a record's packet

-- The record is a frame whose packet has this subtype, stream ID and sequence number.
pub record IsOfStream (subtype id seq : ℕ) (bytes : List ℕ) : Type 0 where
  pub accepted : frame_refusal bytes ≡ None
  pub ethertype : (frame_of bytes).ethertype ≡ avtp_ethertype
  pub long : 12 ≤ length (packet_in bytes)
  pub kind : bits 0 0 8 (packet_in bytes) ≡ subtype
  pub valid : is_set 1 0 (packet_in bytes) ≡ true
  pub id_is : bits 4 0 64 (packet_in bytes) ≡ id
  pub seq_is : bits 2 0 8 (packet_in bytes) ≡ seq

pub of_stream : (to : To) (shape : Shape) (id : ℕ) (c : Cut) → IsShape shape → id < 2 ^ 64 → IsCarried to shape c → IsOfStream (subtype_to to) id (c.number % 256) (cut_frame to shape id c).bytes
of_stream Aaf shape id c is small fine =
    let read = aaf_read shape id c is small fine in
    let there = read.holds.packet_is in
    record {
      accepted = read.holds.accepted;
      ethertype = read.holds.ethertype;
      long = rw there read.long;
      kind = rw there (ap (λ (v : AafPacket). v.header.subtype) read.is);
      valid = rw there (ap (λ (v : AafPacket). v.header.sv) read.is);
      id_is = rw there (ap (λ (v : AafPacket). v.header.stream_id) read.is);
      seq_is = rw there (ap (λ (v : AafPacket). v.header.seq) read.is);
    }
of_stream Am824 shape id c is small fine =
    let read = iec_read shape id c is small fine in
    let there = read.holds.packet_is in
    record {
      accepted = read.holds.accepted;
      ethertype = read.holds.ethertype;
      long = rw there read.long;
      kind = rw there (ap (λ (v : Iec). v.header.subtype) read.is);
      valid = rw there (ap (λ (v : Iec). v.header.sv) read.is);
      id_is = rw there (ap (λ (v : Iec). v.header.stream_id) read.is);
      seq_is = rw there (ap (λ (v : Iec). v.header.seq) read.is);
    }

known_kind : (to : To) → list_any (λ (k : ℕ). subtype_to to == k) stream_kinds ≡ true
known_kind Am824 = refl
known_kind Aaf = refl

pub belongs_so : (to : To) (id seq : ℕ) (bytes : List ℕ) → IsOfStream (subtype_to to) id seq bytes → belongs stream_kinds id bytes ≡ true
belongs_so to id seq bytes is =
    let long = is.long in
    let a : is_none (frame_refusal bytes) ≡ true = rw is.accepted refl in
    let b : ((frame_of bytes).ethertype == avtp_ethertype) ≡ true = rw is.ethertype refl in
    let c : nat_le 12 (length (packet_in bytes)) ≡ true = grind (arith, nat_tests) in
    let d : list_any (λ kind. bits 0 0 8 (packet_in bytes) == kind) stream_kinds ≡ true = rw is.kind (known_kind to) in
    let e : (bits 4 0 64 (packet_in bytes) == id) ≡ true = rw is.id_is (eq-eqb id id refl) in
    rw (a, b, c, d, is.valid, e) refl
