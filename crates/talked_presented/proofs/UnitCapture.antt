-- The items of a whole capture of H.264: each unit, made of all its packets.
use Rattle.std.proofs.Common.{◌≡◌, ◌⊎◌, ℕ, zero, suc, ◌+◌, ◌-◌, ◌*◌, ◌<◌, ◌≤◌, true, pos, List, [], ◌∷◌, ◌++◌, length, map, filter, refl, sym, ap, ◌∙◌, subst, inl, inr, arith, length-append}
use Rattle.std.specs.Prelude.{Contains}
use Rattle.std.specs.List.{AllByRecursion, range_with_len}
use Rattle.std.proofs.lemmas.List.FromFn.{length-range_with_len}
use Rattle.std.proofs.lemmas.Bool.{cases_lt}
use Rattle.std.proofs.lemmas.List.{length-map, map-append}
use Rattle.std.proofs.lemmas.List.Elements.{filter-append}
use Rattle.pcap_frames.specs.Capture.{Record}
use Rattle.cvf_format.specs.Cvf.{cvf_of}
use Rattle.time_unfold.specs.Time.{unfolded}
use Rattle.cvf_format.specs.WholeOrBroken.{is_complete, is_within, last_stretch, whole_unit}
use Rattle.stream_journal.specs.Conforming.{Begins, Ends, IsVideo}
use Rattle.stream_journal.specs.Journal.{H264, Part}
use Rattle.sample_schedule.specs.Schedule.{arrival_of}
use Rattle.packet_journal.specs.Delivered.{IsCopyOf}
use Rattle.packet_journal.specs.Deliveries.{Delivery}
use Rattle.packet_journal.specs.Packets.{PacketJournal}
use Rattle.packet_journal.specs.Units.{AreUnit, first_byte, unit_bytes}
use Rattle.listener.specs.declared.plan.ListenPlan.{ListenPlan}
use Rattle.listener.specs.Heard.{deliveries_of}
use Rattle.listener.specs.Items.{MadeItem, events_to, items_of, items_so_far, left_at_end, sources, unit_by}
use Rattle.listener.specs.Units.{in_stream}
use Rattle.listener.specs.Known.{IsKnownUnit}
use Rattle.listener.specs.Laws.{AreCopiesFrom, HearsTalker, IsMadeOf}
use Rattle.listener.proofs.Made.{is_streamed}
use Rattle.listener.proofs.UnitWelcome.{unit_made_whole}
use Rattle.talked_presented.specs.Whole.{ends_unit}
use Rattle.talked_presented.proofs.Counted.{more_range}
use Rattle.talked_presented.proofs.UnitItems.{one_more_unit}
use Rattle.talked_presented.proofs.UnitRuns.{find_end, one_end, unit_low, unit_ends}

-- the deliveries of the first m packets
abbrev pub first_ones : (ℕ → Delivery) → ℕ → List Delivery
first_ones d m = map d (range_with_len 0 m)

-- The listener hears the first m packets.
pub record IsHeardFront (p : PacketJournal) (plan : ListenPlan) (d : ℕ → Delivery) (m : ℕ) : Type 0 where
  pub records : List Record
  pub heard : HearsTalker (pos 0) p plan records
  pub are : deliveries_of plan records ≡ first_ones d m

-- Delivery n is a copy of packet n, and the units are within the limits.
pub record IsVideoCapture (p : PacketJournal) (part : ℕ → Part) (plan : ListenPlan) (d : ℕ → Delivery) : Type 0 where
  pub kind : p.times.kind ≡ H264 part
  pub is : IsVideo p.times part
  pub front : (m : ℕ) → m ≤ p.times.packets → IsHeardFront p plan d m
  pub copy : (n : ℕ) → n < p.times.packets → IsCopyOf p plan.lead n (d n)
  pub frame : (n : ℕ) → (d n).frame ≡ suc n
  pub streamed : (n : ℕ) → n < p.times.packets → is_streamed (d n) ≡ true
  pub byte : (m n k : ℕ) → AreUnit part m n → m ≤ k → k ≤ n → first_byte (p.packet k) ≡ first_byte (p.packet m)
  pub size : (m n : ℕ) → AreUnit part m n → n < p.times.packets → length (unit_bytes p m n) ≤ (suc n - m) * 1500
  pub few : (m n : ℕ) → AreUnit part m n → n < p.times.packets → n < m + 255

-- ---- the deliveries of a unit

copies_at : (p : PacketJournal) (lead : ℕ) (d : ℕ → Delivery) (a k : ℕ) → ((n : ℕ) → a ≤ n → n < a + k → IsCopyOf p lead n (d n)) → AreCopiesFrom p lead a (map d (range_with_len a k))
copies_at p lead d a zero each = tt
copies_at p lead d a (suc k) each =
    let next : a + 1 ≡ suc a = omega arith in
    (each a (omega arith) (omega arith), subst (λ (b : ℕ). AreCopiesFrom p lead b (map d (range_with_len (a + 1) k))) next (copies_at p lead d (a + 1) k (λ n from to. each n (omega arith) (omega arith))))

all_streamed : (d : ℕ → Delivery) (a k : ℕ) → ((n : ℕ) → n < a + k → is_streamed (d n) ≡ true) → in_stream (map d (range_with_len a k)) ≡ map d (range_with_len a k)
all_streamed d a zero each = refl
all_streamed d a (suc k) each = rw (each a (omega arith)) (ap (λ (l : List Delivery). d a ∷ l) (all_streamed d (a + 1) k (λ n lt. each n (omega arith))))

pub parted : (d : ℕ → Delivery) (m k : ℕ) → first_ones d (m + k) ≡ first_ones d m ++ map d (range_with_len m k)
parted d m k =
    let place : 0 + m ≡ m = omega arith in
    ap (map d) (more_range 0 m k) ∙ (map-append d (range_with_len 0 m) (range_with_len (0 + m) k) ∙ ap (λ (b : ℕ). first_ones d m ++ map d (range_with_len b k)) place)

-- ---- one unit

-- The item `made` is the unit of packets `s` to `n`.
pub record IsUnitMade (p : PacketJournal) (part : ℕ → Part) (lead : ℕ) (d : ℕ → Delivery) (s n : ℕ) (made : MadeItem) : Type 0 where
  pub known : n < p.times.packets
  pub packets : AreUnit part s n
  pub unit : IsKnownUnit made
  pub copy : IsMadeOf p lead n made
  pub last : made.last ≡ d n
  pub arrival : arrival_of made.entry ≡ (d n).arrival

-- the items are the units of packets `s` to m - 1, and the list of numbers names the last packet of each unit
abbrev pub AreUnitsFrom : PacketJournal → (ℕ → Part) → ℕ → (ℕ → Delivery) → ℕ → ℕ → List ℕ → List MadeItem → Type 0
AreUnitsFrom p part lead d s m [] [] = s ≡ m
AreUnitsFrom p part lead d s m [] (x ∷ xs) = ⊥
AreUnitsFrom p part lead d s m (n ∷ ends) [] = ⊥
AreUnitsFrom p part lead d s m (n ∷ ends) (x ∷ xs) = IsUnitMade p part lead d s n x × AreUnitsFrom p part lead d (suc n) m ends xs

unit_more : (p : PacketJournal) (part : ℕ → Part) (lead : ℕ) (d : ℕ → Delivery) (s m n : ℕ) (ends : List ℕ) (xs : List MadeItem) (u : MadeItem) → AreUnitsFrom p part lead d s m ends xs → IsUnitMade p part lead d m n u
    → AreUnitsFrom p part lead d s (suc n) (ends ++ n ∷ []) (xs ++ u ∷ [])
unit_more p part lead d s m n [] [] u are is = (subst (λ (k : ℕ). IsUnitMade p part lead d k n u) (sym are) is, refl)
unit_more p part lead d s m n [] (x ∷ xs) u are is = absurd are
unit_more p part lead d s m n (e ∷ ends) [] u are is = absurd are
unit_more p part lead d s m n (e ∷ ends) (x ∷ xs) u are is = (are.0, unit_more p part lead d (suc e) m n ends xs u are.1 is)

unit_by_known : (before : List Delivery) (x : Delivery) → IsKnownUnit (unit_by before x)
unit_by_known before x = record {
  unit = record {
    frame = x.frame;
    arrival = x.arrival;
    seq = x.seq;
    instant = unfolded (cvf_of x.packet).header.timestamp x.arrival;
    bytes = whole_unit (events_to before x);
  };
  is = refl;
}

-- ---- all units up to a packet

pub record AreMade (p : PacketJournal) (part : ℕ → Part) (plan : ListenPlan) (d : ℕ → Delivery) (m : ℕ) : Type 0 where
  pub ends : List ℕ
  pub items : List MadeItem
  pub so_far : items_so_far (first_ones d m) ≡ items
  pub none : left_at_end (first_ones d m) ≡ []
  pub frames : AllByRecursion (λ (x : MadeItem). x.last.frame ≤ m) items
  pub units : AreUnitsFrom p part plan.lead d 0 m ends items
  pub last_ones : filter (λ (i : ℕ). ends_unit (part i)) (range_with_len 0 m) ≡ ends

frames_on : (m n : ℕ) (xs : List MadeItem) (u : MadeItem) → m ≤ n → AllByRecursion (λ (x : MadeItem). x.last.frame ≤ m) xs → u.last.frame ≤ n → AllByRecursion (λ (x : MadeItem). x.last.frame ≤ n) (xs ++ u ∷ [])
frames_on m n [] u le all here = (here, tt)
frames_on m n (x ∷ xs) u le all here = (let first = all.0 in omega arith, frames_on m n xs u le all.1 here)

next_unit : (p : PacketJournal) (part : ℕ → Part) (plan : ListenPlan) (d : ℕ → Delivery) (m n : ℕ) → IsVideoCapture p part plan d → AreMade p part plan d m → n < p.times.packets → AreUnit part m n → AreMade p part plan d (suc n)
next_unit p part plan d m n w made known unit =
    let low = unit_low part m n unit in
    let before = first_ones d n in
    let earlier = map d (range_with_len m (n - m)) in
    let es = map d (range_with_len m (suc n - m)) in
    let u = unit_by before (d n) in
    let front = w.front (suc n) (omega arith) in
    let to : m + (n - m) ≡ n = omega (arith, low) in
    let to_next : m + (suc n - m) ≡ suc n = omega (arith, low) in
    let one : n + 1 ≡ suc n = omega arith in
    let split : before ≡ first_ones d m ++ earlier = ap (first_ones d) (sym to) ∙ parted d m (n - m) in
    let whole : first_ones d (suc n) ≡ first_ones d m ++ es = ap (first_ones d) (sym to_next) ∙ parted d m (suc n - m) in
    let last : first_ones d (suc n) ≡ before ++ d n ∷ [] = ap (first_ones d) (sym one) ∙ parted d n 1 in
    let stream : in_stream before ≡ first_ones d m ++ earlier = all_streamed d 0 n (λ k lt. w.streamed k (omega (arith, lt, known))) ∙ split in
    let long : length earlier ≡ n - m = length-map (range_with_len m (n - m)) d ∙ length-range_with_len m (n - m) in
    let all_long : length es ≡ suc n - m = length-map (range_with_len m (suc n - m)) d ∙ length-range_with_len m (suc n - m) in
    let copies = copies_at p plan.lead d m (n - m) (λ k from below. w.copy k (omega (arith, below, low, known))) in
    let few = w.few m n unit known in
    let size = w.size m n unit known in
    let is = unit_made_whole (pos 0) p plan front.records part m n before (first_ones d m) earlier (d n) [] front.heard w.kind (front.are ∙ last) stream (record {
      to = omega (arith, long, low);
      packets = unit;
      earlier_copies = copies;
      last_copy = w.copy n known;
      same_byte = λ k above below. w.byte m n k unit above below;
      size = omega (arith, size, few);
      few = omega (arith, long, few);
    }) in
    let listed : Contains (items_of (first_ones d m ++ es)) u = subst (λ (ds : List Delivery). Contains (items_of ds) u) (front.are ∙ whole) is.listed in
    let sum : length (sources u) ≡ length es = omega (arith, length-append u.earlier (d n ∷ []), ap (λ (l : List Delivery). length l) is.of, long, all_long, low) in
    let frame = w.frame n in
    let more = one_more_unit (first_ones d m) es made.items u m made.so_far made.none made.frames (omega arith) (unit_by_known before (d n)) sum listed in
    let copy : IsMadeOf p plan.lead n u = record {
      from = m;
      to = ap (λ (l : List Delivery). m + length l) is.of ∙ omega (arith, long, low);
      earlier = subst (λ (l : List Delivery). AreCopiesFrom p plan.lead m l) (sym is.of) copies;
      last = w.copy n known;
    } in
    let here : IsUnitMade p part plan.lead d m n u = record { known = known; packets = unit; unit = unit_by_known before (d n); copy = copy; last = refl; arrival = refl } in
    record {
      ends = made.ends ++ n ∷ [];
      items = made.items ++ u ∷ [];
      so_far = ap items_so_far whole ∙ more.so_far;
      none = ap left_at_end whole ∙ more.none;
      frames = frames_on m (suc n) made.items u (omega (arith, low)) made.frames (omega arith);
      units = unit_more p part plan.lead d 0 m n made.ends made.items u made.units here;
      last_ones = ends_on m n (suc n - m) made.ends to_next made.last_ones (one_end part m n unit);
    }
  where
    ends_on : (m n k : ℕ) (ends : List ℕ) → m + k ≡ suc n → filter (λ (i : ℕ). ends_unit (part i)) (range_with_len 0 m) ≡ ends → filter (λ (i : ℕ). ends_unit (part i)) (range_with_len m k) ≡ n ∷ []
        → filter (λ (i : ℕ). ends_unit (part i)) (range_with_len 0 (suc n)) ≡ ends ++ n ∷ []
    ends_on m n k ends e before here =
        let place : 0 + m ≡ m = omega arith in
        ap (λ (x : ℕ). filter (λ (i : ℕ). ends_unit (part i)) (range_with_len 0 x)) (sym e)
        ∙ (ap (filter (λ (i : ℕ). ends_unit (part i))) (more_range 0 m k)
        ∙ (filter-append (λ (i : ℕ). ends_unit (part i)) (range_with_len 0 m) (range_with_len (0 + m) k)
        ∙ rw (place, before, here) refl))

begins_at : (p : PacketJournal) (part : ℕ → Part) (m : ℕ) → IsVideo p.times part → m < p.times.packets → (m ≡ 0) ⊎ (k : ℕ) × ((suc k ≡ m) × Ends (part k)) → Begins (part m)
begins_at p part m is known (inl first) = subst (λ (i : ℕ). Begins (part i)) (sym first) (is.first (omega arith))
begins_at p part m is known (inr (k, (same, ends))) = subst (λ (i : ℕ). Begins (part i)) same ((is.beside k (omega arith)).0 ends)

all_from : (fuel : ℕ) (p : PacketJournal) (part : ℕ → Part) (plan : ListenPlan) (d : ℕ → Delivery) (m : ℕ) → IsVideoCapture p part plan d → AreMade p part plan d m → m ≤ p.times.packets → p.times.packets ≤ m + fuel → (m ≡ 0) ⊎ (k : ℕ) × ((suc k ≡ m) × Ends (part k))
    → AreMade p part plan d p.times.packets
all_from zero p part plan d m w made le past at = let same : m ≡ p.times.packets = omega arith in subst (λ (k : ℕ). AreMade p part plan d k) same made
all_from (suc fuel) p part plan d m w made le past at = elim (cases_lt m p.times.packets) [
  | inl known ↦
      let e = find_end p.times part m w.is known (begins_at p part m w.is known at) in
      let low = unit_low part m e.n e.packets in
      let within = e.known in
      all_from fuel p part plan d (suc e.n) w (next_unit p part plan d m e.n w made e.known e.packets) (omega arith) (omega arith) (inr (e.n, (refl, unit_ends part m e.n e.packets)))
  | inr not ↦ let same : m ≡ p.times.packets = omega arith in subst (λ (k : ℕ). AreMade p part plan d k) same made
]

first_made : (p : PacketJournal) (part : ℕ → Part) (plan : ListenPlan) (d : ℕ → Delivery) → AreMade p part plan d 0
unfolding is_within last_stretch is_complete
first_made p part plan d = record { ends = []; items = []; so_far = refl; none = refl; frames = tt; units = refl; last_ones = refl }

-- the packets of a whole capture make up all units of the stream
pub all_units : (p : PacketJournal) (part : ℕ → Part) (plan : ListenPlan) (d : ℕ → Delivery) → IsVideoCapture p part plan d → AreMade p part plan d p.times.packets
all_units p part plan d w = all_from p.times.packets p part plan d 0 w (first_made p part plan d) (omega arith) (omega arith) (inl refl)
