-- A unit of an H.264 plan, if the unit's packets are captured in order.
use Rattle.std.proofs.Common.{◌≡◌, ◌⊎◌, ℕ, zero, suc, ◌+◌, ◌-◌, ◌*◌, ◌<◌, ◌≤◌, Bool, true, List, [], ◌∷◌, ◌++◌, length, map, Option, Some, refl, sym, ap, ◌∙◌, subst, inl, inr, arith, length-append}
use Rattle.std.specs.Prelude.{⊤, nat_lt, slice_get, filter}
use Rattle.std.specs.List.{enumerate_from, flat_map, range_with_len}
use Rattle.std.proofs.lemmas.Bool.{cases_lt}
use Rattle.std.proofs.lemmas.Bool.Decides.{nat_tests}
use Rattle.pcap_frames.specs.Capture.{Record}
use Rattle.stream_journal.specs.Conforming.{Ends, IsVideo}
use Rattle.stream_journal.specs.Journal.{H264 as OfParts, Part, First, Middle}
use Rattle.packet_journal.specs.Carried.{AllCarry, Carries}
use Rattle.packet_journal.specs.Deliveries.{Delivery, belongs, deliveries, delivery, is_delivered, stream_kinds}
use Rattle.packet_journal.specs.Delivered.{IsCopyOf}
use Rattle.packet_journal.specs.Packets.{PacketJournal, PacketView, H264Data, carried, part_of}
use Rattle.packet_journal.specs.Units.{AreUnit, first_byte, unit_bytes}
use Rattle.listener.specs.Laws.{AreCopiesFrom}
use Rattle.talk_plan.specs.declared.plan.TalkKind.TheVariants.{H264}
use Rattle.talk_plan.specs.declared.plan.TalkPlan.{TalkPlan}
use Rattle.talk_video.specs.AccessUnits.{access_unit, nal_in, unit_at}
use Rattle.talk_video.specs.Fragments.{Place, next_place, packets_at, part_at, place_of}
use Rattle.talker.specs.Frames.{SentFrame, frames, frames_at, record_of}
use Rattle.talker.specs.Journal.{journal}
use Rattle.talk_video.specs.Units.{sent_units}
use Rattle.talk_video.specs.Video.{access_instant, cvf_packet, video_due}
use Rattle.talk_video.proofs.VideoParts.{cvf_length, packet_short}
use Rattle.talk_video.proofs.UnitLaws.{place_is}
use Rattle.talk_video.proofs.VideoRules.{part_tells}
use Rattle.talked_headline.specs.Premises.{part_sent}

-- ---- one unit of a byte stream

inside : (part : ℕ → Part) (from n k : ℕ) → AreUnit part from n → from ≤ k → k < n → Ends (part k) → ⊥
inside part from n k (inl a) low high ends = absurd (let same = a.0 in omega arith)
inside part from n k (inr a) low high ends = elim (cases_lt from k) [
  | inl later ↦ apart (part k) (inr (a.middle k later high)) ends
  | inr past ↦ let same : from ≡ k = omega arith in apart (part k) (inl (subst (λ (i : ℕ). part i ≡ First) same a.first)) ends
]
  where
    apart : (q : Part) → (q ≡ First) ⊎ (q ≡ Middle) → Ends q → ⊥
    apart q (inl e) (inl f) = absurd (let g = sym e ∙ f in cc)
    apart q (inl e) (inr f) = absurd (let g = sym e ∙ f in cc)
    apart q (inr e) (inl f) = absurd (let g = sym e ∙ f in cc)
    apart q (inr e) (inr f) = absurd (let g = sym e ∙ f in cc)

next_unit : (units : List (ℕ × ℕ)) (p : Place) → suc p.fragment < packets_at units p.unit → (next_place units p).unit ≡ p.unit
next_unit units p more = let test : nat_lt (suc p.fragment) (packets_at units p.unit) ≡ true = grind (arith, nat_tests) in rw test refl

-- if packet k does not end its unit, packet k + 1 carries a part of the same unit
goes_on : (units : List (ℕ × ℕ)) (k : ℕ) → (Ends (part_of (part_at units (place_of units k))) → ⊥) → (place_of units (suc k)).unit ≡ (place_of units k).unit
goes_on units k open_one =
    let place = place_of units k in
    let tells = part_tells units k in
    let within = (place_is units k place.unit place.fragment refl).1 in
    elim (cases_lt (suc place.fragment) (packets_at units place.unit)) [
      | inl more ↦ next_unit units place more
      | inr past ↦ absurd (open_one (tells.ended (omega (arith, within))))
    ]

one_unit : (input : List ℕ) (from n j : ℕ) → AreUnit (part_sent input) from n → from + j ≤ n → (place_of (sent_units input) (from + j)).unit ≡ (place_of (sent_units input) from).unit
one_unit input from n zero unit high = let same : from + 0 ≡ from = omega arith in ap (λ (k : ℕ). (place_of (sent_units input) k).unit) same
one_unit input from n (suc j) unit high =
    let next : from + suc j ≡ suc (from + j) = omega arith in
    ap (λ (k : ℕ). (place_of (sent_units input) k).unit) next
    ∙ (goes_on (sent_units input) (from + j) (inside (part_sent input) from n (from + j) unit (omega arith) (omega (arith, high)))
    ∙ one_unit input from n j unit (omega (arith, high)))

same_unit : (input : List ℕ) (from n k : ℕ) → AreUnit (part_sent input) from n → from ≤ k → k ≤ n → (place_of (sent_units input) k).unit ≡ (place_of (sent_units input) from).unit
same_unit input from n k unit low high =
    let to : from + (k - from) ≡ k = omega (arith, low) in
    subst (λ (i : ℕ). (place_of (sent_units input) i).unit ≡ (place_of (sent_units input) from).unit) to (one_unit input from n (k - from) unit (omega (arith, low, high)))

-- ---- in the plan's journal

pub parts_are : (plan : TalkPlan) (input : List ℕ) (last_stamp : Bool) → plan.kind ≡ H264 last_stamp → (journal plan input).times.kind ≡ OfParts (part_sent input)
parts_are plan input last_stamp e = rw e refl

pub packet_is : (plan : TalkPlan) (input : List ℕ) (last_stamp : Bool) (k : ℕ) → plan.kind ≡ H264 last_stamp → (journal plan input).packet k ≡ H264Data (cvf_packet last_stamp plan input (sent_units input) k)
packet_is plan input last_stamp k e = rw e refl

pub due_is : (plan : TalkPlan) (input : List ℕ) (last_stamp : Bool) (k : ℕ) → plan.kind ≡ H264 last_stamp → (journal plan input).times.due k ≡ video_due plan input (sent_units input) k
due_is plan input last_stamp k e = rw e refl

pub same_byte : (plan : TalkPlan) (input : List ℕ) (last_stamp : Bool) (from n k : ℕ) → plan.kind ≡ H264 last_stamp → AreUnit (part_sent input) from n → from ≤ k → k ≤ n → first_byte ((journal plan input).packet k) ≡ first_byte ((journal plan input).packet from)
same_byte plan input last_stamp from n k e unit low high =
    ap first_byte (packet_is plan input last_stamp k e)
    ∙ (ap (λ (u : ℕ). nal_in input (unit_at (sent_units input) u) ∷ []) (same_unit input from n k unit low high)
    ∙ sym (ap first_byte (packet_is plan input last_stamp from e)))

pub first_before : (part : ℕ → Part) (from n : ℕ) → AreUnit part from n → from ≤ n
first_before part from n (inl a) = let same = a.0 in omega arith
first_before part from n (inr a) = let some = a.some in omega arith

-- the packets of a unit are due at the same instant
pub one_due : (plan : TalkPlan) (input : List ℕ) (last_stamp : Bool) (from n k : ℕ) → plan.kind ≡ H264 last_stamp → AreUnit (part_sent input) from n → from ≤ k → k ≤ n → (journal plan input).times.due k ≡ (journal plan input).times.due from
one_due plan input last_stamp from n k e unit low high =
    due_is plan input last_stamp k e ∙ (ap (λ (u : ℕ). access_instant plan (access_unit input (sent_units input) u)) (same_unit input from n k unit low high) ∙ sym (due_is plan input last_stamp from e))

pub few_packets : (plan : TalkPlan) (input : List ℕ) (last_stamp : Bool) (from n : ℕ) → plan.kind ≡ H264 last_stamp → IsVideo (journal plan input).times (part_sent input) → n < (journal plan input).times.packets → AreUnit (part_sent input) from n → n < from + 255
few_packets plan input last_stamp from n e is known unit = is.few from n known (sym (one_due plan input last_stamp from n n e unit (first_before (part_sent input) from n unit) (omega arith)))

short : (plan : TalkPlan) (input : List ℕ) (last_stamp : Bool) (k : ℕ) → plan.kind ≡ H264 last_stamp → length (carried ((journal plan input).packet k)) ≤ 1428
short plan input last_stamp k e =
    let v = cvf_packet last_stamp plan input (sent_units input) k in
    let size = packet_short last_stamp plan input (sent_units input) k in
    let all = cvf_length v in
    subst (λ (view : PacketView). length (carried view) ≤ 1428) (sym (packet_is plan input last_stamp k e)) (omega (arith, size, all))

pub all_short : (plan : TalkPlan) (input : List ℕ) (last_stamp : Bool) (a c : ℕ) → plan.kind ≡ H264 last_stamp → length (flat_map (λ (k : ℕ). carried ((journal plan input).packet k)) (range_with_len a c)) ≤ c * 1428
all_short plan input last_stamp a zero e = omega arith
all_short plan input last_stamp a (suc c) e =
    omega (arith, length-append (carried ((journal plan input).packet a)) (flat_map (λ (k : ℕ). carried ((journal plan input).packet k)) (range_with_len (a + 1) c)), short plan input last_stamp a e, all_short plan input last_stamp (a + 1) c e)

pub unit_size : (plan : TalkPlan) (input : List ℕ) (last_stamp : Bool) (from n : ℕ) → plan.kind ≡ H264 last_stamp → n < from + 255 → length (unit_bytes (journal plan input) from n) ≤ 4194304
unit_size plan input last_stamp from n e few =
    let byte : length (first_byte ((journal plan input).packet from)) ≡ 1 = ap (λ (view : PacketView). length (first_byte view)) (packet_is plan input last_stamp from e) in
    let bodies = all_short plan input last_stamp from (suc n - from) e in
    omega (arith, length-append (first_byte ((journal plan input).packet from)) (flat_map (λ (k : ℕ). carried ((journal plan input).packet k)) (range_with_len from (suc n - from))), byte, bodies, few)

-- A unit has at most 1,500 bytes for each of its packets, because it consists of its first byte and of at most 1,428
-- bytes from each packet.
pub unit_small : (plan : TalkPlan) (input : List ℕ) (last_stamp : Bool) (from n : ℕ) → plan.kind ≡ H264 last_stamp → from ≤ n → length (unit_bytes (journal plan input) from n) ≤ (suc n - from) * 1500
unit_small plan input last_stamp from n e low =
    let byte : length (first_byte ((journal plan input).packet from)) ≡ 1 = ap (λ (view : PacketView). length (first_byte view)) (packet_is plan input last_stamp from e) in
    let bodies = all_short plan input last_stamp from (suc n - from) e in
    omega (arith, length-append (first_byte ((journal plan input).packet from)) (flat_map (λ (k : ℕ). carried ((journal plan input).packet k)) (range_with_len from (suc n - from))), byte, bodies, low)

-- ---- the frames of adjacent packets

pub record HasFrames (plan : TalkPlan) (input : List ℕ) (lead a k : ℕ) : Type 0 where
  pub sent : List SentFrame
  pub same : (places : List ℕ) → frames_at plan input (range_with_len a k ++ places) ≡ sent ++ frames_at plan input places
  pub carry : AllCarry (journal plan input) lead (range_with_len a k) (map record_of sent)
  pub long : length sent ≡ k

pub frames_of : (plan : TalkPlan) (input : List ℕ) (lead a k : ℕ) → ((i : ℕ) → i < a + k → (f : SentFrame) × ((slice_get (frames plan input) i ≡ Some f) × Carries (journal plan input) lead i (record_of f))) → HasFrames plan input lead a k
frames_of plan input lead a zero each = record { sent = []; same = λ places. refl; carry = tt; long = refl }
frames_of plan input lead a (suc k) each =
    let here = each a (omega arith) in
    let rest = frames_of plan input lead (a + 1) k (λ i lt. each i (omega (arith, lt))) in
    record {
      sent = here.0 ∷ rest.sent;
      same = λ places. rw here.1.0 (ap (λ (fs : List SentFrame). here.0 ∷ fs) (rest.same places));
      carry = (here.1.1, rest.carry);
      long = ap suc rest.long;
    }

-- ---- the deliveries of these frames

-- the deliveries of a list of records, numbered from `i` on
unfoldable pub numbered : ℕ → List Record → List Delivery
numbered i [] = []
numbered i (r ∷ rs) = delivery i r ∷ numbered (i + 1) rs

unfoldable pub AllBelong : ℕ → List Record → Type 0
AllBelong id [] = ⊤
AllBelong id (r ∷ rs) = (belongs stream_kinds id r.bytes ≡ true) × AllBelong id rs

abbrev pub delivered_from : ℕ → Option ℕ → ℕ → List Record → List Delivery
delivered_from id clock i rs = map (λ numbered. delivery numbered.0 numbered.1) (filter (λ numbered. is_delivered id clock numbered.1.bytes) (enumerate_from i rs))

pub delivered_first : (id : ℕ) (clock : Option ℕ) (i : ℕ) (rs others : List Record) → AllBelong id rs → delivered_from id clock i (rs ++ others) ≡ numbered i rs ++ delivered_from id clock (i + length rs) others
unfolding AllBelong numbered
delivered_first id clock i [] others all = let same : i ≡ i + 0 = omega arith in ap (λ (k : ℕ). delivered_from id clock k others) same
delivered_first id clock i (r ∷ rs) others all =
    let next : i + 1 + length rs ≡ i + suc (length rs) = omega arith in
    rw all.0 (ap (λ (l : List Delivery). delivery i r ∷ l) (delivered_first id clock (i + 1) rs others all.1 ∙ ap (λ (k : ℕ). numbered (i + 1) rs ++ delivered_from id clock k others) next))

pub first_deliveries : (stream id : ℕ) (clock : Option ℕ) (all rs : List Record) (r : Record) (others : List Record) → stream ≡ id → all ≡ rs ++ r ∷ others → AllBelong id rs → belongs stream_kinds id r.bytes ≡ true
    → (rest : List Delivery) × (deliveries stream clock all ≡ numbered 1 rs ++ delivery (1 + length rs) r ∷ rest)
first_deliveries stream id clock all rs r others same read belong last =
    (delivered_from id clock (1 + length rs + 1) others, rw (same, read) (delivered_first id clock 1 rs (r ∷ others) belong ∙ ap (λ (l : List Delivery). numbered 1 rs ++ l) (rw last refl)))

pub all_belong : (p : PacketJournal) (lead a k : ℕ) (rs : List Record) → ((n : ℕ) (r : Record) → Carries p lead n r → belongs stream_kinds p.stream r.bytes ≡ true) → AllCarry p lead (range_with_len a k) rs → AllBelong p.stream rs
unfolding AllBelong
all_belong p lead a zero [] each all = tt
all_belong p lead a zero (r ∷ rs) each all = absurd all
all_belong p lead a (suc k) [] each all = tt
all_belong p lead a (suc k) (r ∷ rs) each all = (each a r all.0, all_belong p lead (a + 1) k rs each all.1)

pub all_copies : (p : PacketJournal) (lead a k i : ℕ) (rs : List Record) → ((n frame : ℕ) (r : Record) → Carries p lead n r → IsCopyOf p lead n (delivery frame r)) → AllCarry p lead (range_with_len a k) rs → AreCopiesFrom p lead a (numbered i rs)
unfolding numbered
all_copies p lead a zero i [] each all = tt
all_copies p lead a zero i (r ∷ rs) each all = absurd all
all_copies p lead a (suc k) i [] each all = tt
all_copies p lead a (suc k) i (r ∷ rs) each all =
    let next : a + 1 ≡ suc a = omega arith in
    (each a i r all.0, subst (λ (b : ℕ). AreCopiesFrom p lead b (numbered (i + 1) rs)) next (all_copies p lead (a + 1) k (i + 1) rs each all.1))

pub numbered_long : (i : ℕ) (rs : List Record) → length (numbered i rs) ≡ length rs
unfolding numbered
numbered_long i [] = refl
numbered_long i (r ∷ rs) = ap suc (numbered_long (i + 1) rs)
