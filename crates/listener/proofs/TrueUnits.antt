-- A whole unit that was made of copies is one unit of the journal.
use Rattle.std.proofs.Common.{◌≡◌, ◌⊎◌, ℕ, zero, suc, ◌+◌, ◌-◌, ◌%◌, ◌^◌, ◌<◌, ◌≤◌, Bool, true, false, ℤ, pos, List, [], ◌∷◌, ◌++◌, All, length, map, drop, Option, Some, None, is_some, refl, sym, ap, ◌∙◌, subst, inl, inr, arith, append_assoc, length-append}
use Rattle.std.specs.Prelude.{◌==◌, if◌then◌else◌, ⊤, ◌+ℤ◌, option_map, IfSome}
use Rattle.std.specs.List.{flat_map, range_with_len}
use Rattle.std.proofs.lemmas.Bool.{cases_lt, not_from_false}
use Rattle.std.proofs.lemmas.Int.{ints}
use Rattle.std.proofs.lemmas.List.{length-map, map-append}
use Rattle.std.proofs.lemmas.List.Elements.{All-append, All-cons, All-drop, All-filter, All-head, All-nil, All-tail, filter-append}
use Rattle.crf_format.specs.Crf.{crf_subtype}
use Rattle.cvf_format.specs.declared.cvf.NalPart.{NalPart}
use Rattle.cvf_format.specs.declared.cvf.NalPart.TheVariants.{Single as SingleNal, First as FirstNal, Middle as MiddleNal, Last as LastNal}
use Rattle.cvf_format.specs.Cvf.{Cvf, SpellsCvf, cvf_of, cvf_refusal, cvf_subtype, plain_cvf}
use Rattle.cvf_format.specs.declared.piece.Piece.TheVariants.{Whole, Held, Lost}
use Rattle.cvf_format.specs.declared.piece.Lost.TheVariants.{Broken, Long}
use Rattle.cvf_format.specs.StretchRules.{EndsWith, GoesOn, IsStretch}
use Rattle.cvf_format.specs.WholeOrBroken.{Event, Fragment, begins, completes, cut, goes_on, is_complete, is_passed, is_within, last_stretch, packet, piece, piece_of, unit_of, whole_of, whole_unit}
use Rattle.cvf_format.proofs.CvfLemmas.{cvf_again, one_packet}
use Rattle.cvf_format.proofs.RuleLemmas.{some_stretch}
use Rattle.sample_schedule.specs.declared.entry.Entry.TheVariants.{Item as OfItem}
use Rattle.sample_schedule.specs.declared.item.Item.TheVariants.{Unit as OfUnit}
use Rattle.sample_schedule.specs.declared.item.Unit.{Unit as WholeUnit}
use Rattle.sample_schedule.specs.Batches.{sample_instant}
use Rattle.sample_schedule.specs.Verdicts.{unit_at_once}
use Rattle.time_unfold.specs.Lines.{instant_at}
use Rattle.time_unfold.proofs.OnLine.{instant_at-at}
use Rattle.sample_schedule.specs.declared.shown.Reason.{Reason}
use Rattle.time_unfold.specs.Time.{unfolded}
use Rattle.stream_journal.specs.Conforming.{Conforms, Ends, IsOfKind, IsVideo}
use Rattle.stream_journal.specs.Delivered.{AreNear, IsDelivered, IsFragment, IsNear}
use Rattle.stream_journal.specs.Journal.{IsAtBy, Journal, Kind, H264, Part, Single, First, Middle, Last}
use Rattle.stream_journal.proofs.TrueTime.{true_time}
use Rattle.packet_journal.specs.Deliveries.{Delivery}
use Rattle.packet_journal.specs.Delivered.{AreFrom, IsClockCopyOf, IsCopyOf, OfClock, OfStream, Origin, Spells, stream_numbers}
use Rattle.packet_journal.specs.Packets.{IsConforming, IsCvfPacket, IsPacket, PacketJournal, PacketView, Pcm, Am824Data, H264Data, carried, part_of, spelling_of}
use Rattle.packet_journal.specs.Units.{AreUnit, IsContentBy, first_byte, unit_bytes}
use Rattle.packet_journal.proofs.Copies.{clock_copy_read}
use Rattle.listener.specs.Items.{MadeItem, events_to, unit_by}
use Rattle.listener.specs.Laws.{AreCopiesFrom, IsMadeOf, IsOfPacket, IsUnitFrom}
use Rattle.listener.specs.Units.{event_by, event_of, flaw_of, fragment_in, in_stream, last_ones}
use Rattle.listener.proofs.Gathered.{last_events}
use Rattle.listener.proofs.ItemKinds.{IsWholeOf, all_before, all_here}
use Rattle.listener.proofs.Made.{is_streamed, last_more}
use Rattle.listener.proofs.TrueItems.{Shows}

-- ---- a copy of a packet of H.264

pub record IsVideoCopy (p : PacketJournal) (part : ℕ → Part) (n : ℕ) (d : Delivery) : Type 0 where
  pub view : Cvf
  pub is : p.packet n ≡ H264Data view
  pub packet : IsCvfPacket p.times (part n) p.stream n view
  pub accepted : cvf_refusal d.packet ≡ None
  pub same : plain_cvf view ≡ cvf_of d.packet
  pub subtype : d.subtype ≡ cvf_subtype
  pub seq : d.seq ≡ n % 256

view_video : (p : PacketJournal) (part : ℕ → Part) (n : ℕ) (d : Delivery) (view : PacketView) → p.packet n ≡ view → IsPacket (H264 part) p.times p.stream n view → Spells (spelling_of view) d.packet → Shows d → IsVideoCopy p part n d
view_video p part n d (Pcm v) e is s shows = absurd is
view_video p part n d (Am824Data v) e is s shows = absurd is
view_video p part n d (H264Data v) e is s shows =
    let read : SpellsCvf d.packet (plain_cvf v) = rw s.whole (cvf_again v s.trail is.writable is.fits) in
    let f = read.fields in
    record {
      view = v;
      is = e;
      packet = is;
      accepted = read.accepted;
      same = one_packet d.packet (plain_cvf v) read;
      subtype = shows.subtype ∙ (f.0.0 ∙ is.writable.subtype);
      seq = shows.seq ∙ (f.1.1.0.0 ∙ is.header.seq);
    }

pub video_copy : (shift : ℤ) (p : PacketJournal) (part : ℕ → Part) (lead n : ℕ) (d : Delivery) → IsConforming shift p → p.times.kind ≡ H264 part → IsCopyOf p lead n d → Shows d → IsVideoCopy p part n d
video_copy shift p part lead n d is kind copy shows =
    view_video p part n d (p.packet n) refl (subst (λ (k : Kind). IsPacket k p.times p.stream n (p.packet n)) kind (is.packets n copy.delivered.known)) copy.spelled shows

pub video : (p : PacketJournal) (part : ℕ → Part) → p.times.kind ≡ H264 part → Conforms p.times → IsVideo p.times part
video p part kind is = subst (λ (k : Kind). IsOfKind k p.times) kind is.kind

-- ---- the fragment of a copy

pub record IsFragmentOf (p : PacketJournal) (part : ℕ → Part) (n : ℕ) (f : Fragment) : Type 0 where
  pub known : n < p.times.packets
  pub part_is : part_of f.part ≡ part n
  pub first : first_byte (p.packet n) ≡ f.nal ∷ []
  pub body : f.body ≡ carried (p.packet n)
  pub seq : f.mark.seq ≡ n % 256
  pub instant : f.instant ≡ option_map (λ (x : ℕ). pos x) (p.times.stamp n)

same_fragment : (f g : Fragment) → packet f ≡ packet g → g ≡ f
same_fragment f g e = cc

event_is : (d : Delivery) (f : Fragment) → event_of d ≡ packet f → f ≡ fragment_in d (cvf_of d.packet)
event_is d f e = by (d.subtype == cvf_subtype) (flaw_of d) e
  where
    by : (b : Bool) (o : Option Reason) → (if b then event_by d o else cut) ≡ packet f → f ≡ fragment_in d (cvf_of d.packet)
    by true None g = same_fragment (fragment_in d (cvf_of d.packet)) f g
    by true (Some reason) g = absurd cc
    by false o g = absurd cc

stamp_by : (j : Journal) (lead n arrival : ℕ) (at : ℤ) (tv : Bool) (timestamp : ℕ) (r : Option ℕ) → IsDelivered j lead (record { number = n; arrival = arrival }) → at ≡ pos arrival → j.stamp n ≡ r → tv ≡ is_some r → IfSome r (λ (x : ℕ). timestamp ≡ x % 2 ^ 32)
    → (if tv then Some (unfolded timestamp at) else None) ≡ option_map (λ (x : ℕ). pos x) r
stamp_by j lead n arrival at tv timestamp None came arrived e stamped t = rw stamped refl
stamp_by j lead n arrival at tv timestamp (Some x) came arrived e stamped t =
    let so = true_time j lead (record { number = n; arrival = arrival }) x came e in
    rw (stamped, t, arrived) (ap Some so)

fragment_is : (p : PacketJournal) (part : ℕ → Part) (lead n : ℕ) (d : Delivery) (f : Fragment) → IsCopyOf p lead n d → IsVideoCopy p part n d → event_of d ≡ packet f → IsFragmentOf p part n f
fragment_is p part lead n d f copy c e =
    let own : f ≡ fragment_in d (plain_cvf c.view) = event_is d f e ∙ ap (λ (w : Cvf). fragment_in d w) (sym c.same) in
    let header = c.packet.header in
    record {
      known = copy.delivered.known;
      part_is = ap (λ (g : Fragment). part_of g.part) own ∙ c.packet.part_is;
      first = ap first_byte c.is ∙ ap (λ (g : Fragment). g.nal ∷ []) (sym own);
      body = ap (λ (g : Fragment). g.body) own ∙ ap carried (sym c.is);
      seq = ap (λ (g : Fragment). g.mark.seq) own ∙ c.seq;
      instant = ap (λ (g : Fragment). g.instant) own ∙ stamp_by p.times lead n copy.arrival d.arrival c.view.header.tv c.view.header.timestamp (p.times.stamp n) copy.delivered copy.arrived refl header.stamped header.timestamp;
    }

-- ---- the next packet

next_of : (n m : ℕ) → m % 256 ≡ (n % 256 + 1) % 256 → n ≤ m + 254 → m ≤ n + 254 → m ≡ suc n
next_of n m e low high = omega arith

close : (j : Journal) (part : ℕ → Part) (n m : ℕ) → IsVideo j part → n < j.packets → m < j.packets → j.due n ≡ j.due m → (n ≤ m + 254) × (m ≤ n + 254)
close j part n m is here there e =
    let low = is.few m n here (sym e) in
    let high = is.few n m there e in
    (omega arith, omega arith)

-- if two packets both have a timestamp, the timestamps are equal
abbrev Agrees : Option ℕ → Option ℕ → Type 0
Agrees r s = IfSome r (λ (x : ℕ). IfSome s (λ (y : ℕ). x ≡ y))

next_by : (j : Journal) (part : ℕ → Part) (n m : ℕ) (r s : Option ℕ) → j.kind ≡ H264 part → IsVideo j part → n < j.packets → m < j.packets → j.stamp n ≡ r → j.stamp m ≡ s → IsNear j n m
    → IsFragment (H264 part) n → IsFragment (H264 part) m → Agrees r s → (n ≤ m + 254) × (m ≤ n + 254)
next_by j part n m None s kind is here there e f near first second agrees = near (rw kind first) (rw kind second) (inl e)
next_by j part n m (Some x) None kind is here there e f near first second agrees = near (rw kind first) (rw kind second) (inr f)
next_by j part n m (Some x) (Some y) kind is here there e f near first second agrees =
    close j part n m is here there (sym (is.one_instant n x here e) ∙ (agrees ∙ is.one_instant m y there f))

before_part : (part : NalPart) (q : Part) → part_of part ≡ q → completes part ≡ false → (q ≡ First) ⊎ ((q ≡ Middle) ⊎ (q ≡ Last))
before_part SingleNal q e h = absurd cc
before_part FirstNal q e h = inl (sym e)
before_part MiddleNal q e h = inr (inl (sym e))
before_part LastNal q e h = absurd cc

after_part : (part : NalPart) (q : Part) → part_of part ≡ q → goes_on part ≡ true → (q ≡ First) ⊎ ((q ≡ Middle) ⊎ (q ≡ Last))
after_part SingleNal q e h = absurd cc
after_part FirstNal q e h = absurd cc
after_part MiddleNal q e h = inr (inl (sym e))
after_part LastNal q e h = inr (inr (sym e))

abbrev HasInstant : ℤ → Fragment → Type 0
HasInstant t f = IfSome f.instant (λ stamp. stamp ≡ t)

one_of : (x y : ℕ) (t : ℤ) → pos x ≡ t → pos y ≡ t → x ≡ y
one_of x y t e f = omega (arith, ints, e, f)

agree_by : (t : ℤ) (r s : Option ℕ) → IfSome (option_map (λ (x : ℕ). pos x) r) (λ stamp. stamp ≡ t) → IfSome (option_map (λ (x : ℕ). pos x) s) (λ stamp. stamp ≡ t) → Agrees r s
agree_by t None s e f = tt
agree_by t (Some x) None e f = tt
agree_by t (Some x) (Some y) e f = one_of x y t e f

next_is : (p : PacketJournal) (part : ℕ → Part) (n m : ℕ) (t : ℤ) (f g : Fragment) → p.times.kind ≡ H264 part → IsVideo p.times part → IsNear p.times n m → IsFragmentOf p part n f → IsFragmentOf p part m g
    → GoesOn f g → HasInstant t f → HasInstant t g → m ≡ suc n
next_is p part n m t f g kind is near a b goes here there =
    let stamps = agree_by t (p.times.stamp n) (p.times.stamp m) (subst (λ (o : Option ℤ). IfSome o (λ stamp. stamp ≡ t)) a.instant here) (subst (λ (o : Option ℤ). IfSome o (λ stamp. stamp ≡ t)) b.instant there) in
    let bounds = next_by p.times part n m (p.times.stamp n) (p.times.stamp m) kind is a.known b.known refl refl near (before_part f.part (part n) a.part_is goes.incomplete) (after_part g.part (part m) b.part_is goes.part) stamps in
    let seq : m % 256 ≡ (n % 256 + 1) % 256 = sym b.seq ∙ (goes.seq ∙ ap (λ (k : ℕ). (k + 1) % 256) a.seq) in
    next_of n m seq bounds.0 bounds.1

-- ---- adjacent deliveries of the stream

-- Each delivery is a copy of a packet. The first packet is near packet `n`, and each later packet is near the packet
-- before it.
abbrev pub Chain : PacketJournal → ℕ → ℕ → List Delivery → Type 0
Chain p lead n [] = ⊤
Chain p lead n (x ∷ xs) = (m : ℕ) × (IsCopyOf p lead m x × (IsNear p.times n m × Chain p lead m xs))

abbrev pub AreChained : PacketJournal → ℕ → List Delivery → Type 0
AreChained p lead [] = ⊤
AreChained p lead (x ∷ xs) = (n : ℕ) × (IsCopyOf p lead n x × Chain p lead n xs)

chain_front : (p : PacketJournal) (lead n : ℕ) (xs ys : List Delivery) → Chain p lead n (xs ++ ys) → Chain p lead n xs
chain_front p lead n [] ys chain = tt
chain_front p lead n (x ∷ xs) ys (m, (copy, (near, chain))) = (m, (copy, (near, chain_front p lead m xs ys chain)))

chained_front : (p : PacketJournal) (lead : ℕ) (xs ys : List Delivery) → AreChained p lead (xs ++ ys) → AreChained p lead xs
chained_front p lead [] ys chain = tt
chained_front p lead (x ∷ xs) ys (n, (copy, chain)) = (n, (copy, chain_front p lead n xs ys chain))

chained_rest : (p : PacketJournal) (lead n : ℕ) (xs : List Delivery) → Chain p lead n xs → AreChained p lead xs
chained_rest p lead n [] chain = tt
chained_rest p lead n (x ∷ xs) (m, (copy, (near, chain))) = (m, (copy, chain))

chained_drop : (p : PacketJournal) (lead k : ℕ) (xs : List Delivery) → AreChained p lead xs → AreChained p lead (drop k xs)
chained_drop p lead zero xs chain = chain
chained_drop p lead (suc k) [] chain = tt
chained_drop p lead (suc k) (x ∷ xs) (n, (copy, chain)) = chained_drop p lead k xs (chained_rest p lead n xs chain)

-- ---- the deliveries of a stretch

abbrev EachGoesOn : List Fragment → Type 0
EachGoesOn fs = (front : List Fragment) (before after : Fragment) (rest : List Fragment) → fs ≡ front ++ before ∷ (after ∷ rest) → GoesOn before after

follow_on : (shift : ℤ) (p : PacketJournal) (part : ℕ → Part) (lead n : ℕ) (t : ℤ) (f : Fragment) (xs : List Delivery) (fs : List Fragment) → IsConforming shift p → p.times.kind ≡ H264 part → IsFragmentOf p part n f
    → Chain p lead n xs → All Shows xs → map event_of xs ≡ map packet fs → EachGoesOn (f ∷ fs) → All (HasInstant t) (f ∷ fs) → AreCopiesFrom p lead (suc n) xs
follow_on shift p part lead n t f [] fs is kind a chain shows e goes instants = tt
follow_on shift p part lead n t f (x ∷ xs) [] is kind a chain shows e goes instants = absurd cc
follow_on shift p part lead n t f (x ∷ xs) (g ∷ fs) is kind a (m, (copy, (near, chain))) shows e goes instants =
    let event : event_of x ≡ packet g = cc in
    let events : map event_of xs ≡ map packet fs = cc in
    let c = video_copy shift p part lead m x is kind copy (All-head Shows x xs shows) in
    let b = fragment_is p part lead m x g copy c event in
    let later = All-tail (HasInstant t) f (g ∷ fs) instants in
    let same : m ≡ suc n = next_is p part n m t f g kind (video p part kind is.times) near a b (goes [] f g fs refl) (All-head (HasInstant t) f (g ∷ fs) instants) (All-head (HasInstant t) g fs later) in
    let more = follow_on shift p part lead m t g xs fs is kind b chain (All-tail Shows x xs shows) events (λ front y z rest q. goes (f ∷ front) y z rest (ap (λ (l : List Fragment). f ∷ l) q)) later in
    subst (λ (k : ℕ). IsCopyOf p lead k x × AreCopiesFrom p lead (suc k) xs) same (copy, more)

pub record HasRun (p : PacketJournal) (lead : ℕ) (xs : List Delivery) : Type 0 where
  pub from : ℕ
  pub copies : AreCopiesFrom p lead from xs

run_by : (shift : ℤ) (p : PacketJournal) (part : ℕ → Part) (lead : ℕ) (xs : List Delivery) (run : List Fragment) → IsConforming shift p → p.times.kind ≡ H264 part → AreChained p lead xs → All Shows xs → map event_of xs ≡ map packet run → IsStretch run
    → HasRun p lead xs
run_by shift p part lead [] run is kind chain shows e s = record { from = 0; copies = tt }
run_by shift p part lead (x ∷ xs) [] is kind chain shows e s = absurd cc
run_by shift p part lead (x ∷ xs) (f ∷ fs) is kind (n, (copy, chain)) shows e s =
    let event : event_of x ≡ packet f = cc in
    let events : map event_of xs ≡ map packet fs = cc in
    let a = fragment_is p part lead n x f copy (video_copy shift p part lead n x is kind copy (All-head Shows x xs shows)) event in
    record { from = n; copies = (copy, follow_on shift p part lead n s.one_instant.0 f xs fs is kind a chain (All-tail Shows x xs shows) events s.others s.one_instant.1) }

-- ---- copies of consecutive packets

pub copies_front : (p : PacketJournal) (lead n : ℕ) (xs ys : List Delivery) → AreCopiesFrom p lead n (xs ++ ys) → AreCopiesFrom p lead n xs
copies_front p lead n [] ys all = tt
copies_front p lead n (x ∷ xs) ys all = (all.0, copies_front p lead (suc n) xs ys all.1)

copies_last : (p : PacketJournal) (lead n : ℕ) (xs : List Delivery) (d : Delivery) → AreCopiesFrom p lead n (xs ++ d ∷ []) → IsCopyOf p lead (n + length xs) d
copies_last p lead n [] d all = let same : n ≡ n + 0 = omega arith in subst (λ (k : ℕ). IsCopyOf p lead k d) same all.0
copies_last p lead n (x ∷ xs) d all =
    let same : suc n + length xs ≡ n + suc (length xs) = omega arith in
    subst (λ (k : ℕ). IsCopyOf p lead k d) same (copies_last p lead (suc n) xs d all.1)

pub copies_all : (p : PacketJournal) (lead n m : ℕ) (xs : List Delivery) (d : Delivery) → n + length xs ≡ m → AreCopiesFrom p lead n xs → IsCopyOf p lead m d → AreCopiesFrom p lead n (xs ++ d ∷ [])
copies_all p lead n m [] d e all last = let same : m ≡ n = omega (arith, e) in (subst (λ (k : ℕ). IsCopyOf p lead k d) same last, tt)
copies_all p lead n m (x ∷ xs) d e all last = (all.0, copies_all p lead (suc n) m xs d (omega (arith, e)) all.1 last)

-- The fragments are those of consecutive packets of the journal, from packet `n` on.
abbrev pub AreFragmentsFrom : PacketJournal → (ℕ → Part) → ℕ → List Fragment → Type 0
AreFragmentsFrom p part n [] = ⊤
AreFragmentsFrom p part n (f ∷ fs) = IsFragmentOf p part n f × AreFragmentsFrom p part (suc n) fs

pub fragments_from : (shift : ℤ) (p : PacketJournal) (part : ℕ → Part) (lead n : ℕ) (xs : List Delivery) (fs : List Fragment) → IsConforming shift p → p.times.kind ≡ H264 part → AreCopiesFrom p lead n xs → All Shows xs → map event_of xs ≡ map packet fs
    → AreFragmentsFrom p part n fs
fragments_from shift p part lead n [] [] is kind all shows e = tt
fragments_from shift p part lead n [] (f ∷ fs) is kind all shows e = absurd cc
fragments_from shift p part lead n (x ∷ xs) [] is kind all shows e = absurd cc
fragments_from shift p part lead n (x ∷ xs) (f ∷ fs) is kind all shows e =
    let event : event_of x ≡ packet f = cc in
    let events : map event_of xs ≡ map packet fs = cc in (
      fragment_is p part lead n x f all.0 (video_copy shift p part lead n x is kind all.0 (All-head Shows x xs shows)) event,
      fragments_from shift p part lead (suc n) xs fs is kind all.1 (All-tail Shows x xs shows) events,
    )

bodies : (p : PacketJournal) (part : ℕ → Part) (n : ℕ) (fs : List Fragment) → AreFragmentsFrom p part n fs → flat_map (λ (f : Fragment). f.body) fs ≡ flat_map (λ (k : ℕ). carried (p.packet k)) (range_with_len n (length fs))
bodies p part n [] all = refl
bodies p part n (f ∷ fs) all =
    let next : suc n ≡ n + 1 = omega arith in
    let rest = bodies p part (suc n) fs all.1 ∙ ap (λ (k : ℕ). flat_map (λ (k : ℕ). carried (p.packet k)) (range_with_len k (length fs))) next in
    ap (λ (b : List ℕ). b ++ flat_map (λ (g : Fragment). g.body) fs) all.0.body ∙ ap (λ (b : List ℕ). carried (p.packet n) ++ b) rest

pub unit_is : (p : PacketJournal) (part : ℕ → Part) (n m : ℕ) (f : Fragment) (fs : List Fragment) → n + length fs ≡ m → AreFragmentsFrom p part n (f ∷ fs) → unit_of (f ∷ fs) ≡ unit_bytes p n m
unit_is p part n m f fs to all =
    let long : suc m - n ≡ suc (length fs) = omega (arith, to) in
    let body = bodies p part n (f ∷ fs) all in
    rw (all.0.first, long) (ap (λ (b : List ℕ). f.nal ∷ b) body)

-- ---- the parts of a unit's packets

-- The packets after packet `n` continue its unit, and packet `m` is the unit's last packet.
record Goes (part : ℕ → Part) (n m : ℕ) : Type 0 where
  middle : (k : ℕ) → n < k → k < m → part k ≡ Middle
  last : n < m → part m ≡ Last

middle_of : (part : NalPart) → goes_on part ≡ true → completes part ≡ false → part_of part ≡ Middle
middle_of SingleNal e h = absurd cc
middle_of FirstNal e h = absurd cc
middle_of MiddleNal e h = refl
middle_of LastNal e h = absurd cc

last_of : (part : NalPart) → goes_on part ≡ true → completes part ≡ true → part_of part ≡ Last
last_of SingleNal e h = absurd cc
last_of FirstNal e h = absurd cc
last_of MiddleNal e h = absurd cc
last_of LastNal e h = refl

first_of : (part : NalPart) → begins part ≡ true → completes part ≡ false → part_of part ≡ First
first_of SingleNal e h = absurd cc
first_of FirstNal e h = refl
first_of MiddleNal e h = absurd cc
first_of LastNal e h = absurd cc

single_of : (part : NalPart) → begins part ≡ true → completes part ≡ true → part_of part ≡ Single
single_of SingleNal e h = refl
single_of FirstNal e h = absurd cc
single_of MiddleNal e h = absurd cc
single_of LastNal e h = absurd cc

next_goes : (part : ℕ → Part) (n m : ℕ) → suc n < m → part (suc n) ≡ Middle → Goes part (suc n) m → Goes part n m
next_goes part n m before here more = record {
  middle = λ k low high. elim (cases_lt (suc n) k) [
    | inl later ↦ more.middle k later high
    | inr past ↦ let same : suc n ≡ k = omega arith in subst (λ (i : ℕ). part i ≡ Middle) same here
  ];
  last = λ low. more.last before;
}

end_goes : (part : ℕ → Part) (n m : ℕ) → suc n ≡ m → part (suc n) ≡ Last → Goes part n m
end_goes part n m same here = record {
  middle = λ k low high. absurd (omega arith);
  last = λ low. subst (λ (i : ℕ). part i ≡ Last) same here;
}

no_more : (part : ℕ → Part) (n m : ℕ) → n ≡ m → Goes part n m
no_more part n m same = record {
  middle = λ k low high. absurd (omega arith);
  last = λ low. absurd (omega arith);
}

parts_go : (p : PacketJournal) (part : ℕ → Part) (n m : ℕ) (f : Fragment) (fs : List Fragment) → n + length fs ≡ m → AreFragmentsFrom p part n (f ∷ fs) → EachGoesOn (f ∷ fs) → is_complete (f ∷ fs) ≡ true → Goes part n m
unfolding is_complete
parts_go p part n m f [] to all goes whole = no_more part n m (omega (arith, to))
parts_go p part n m f (g ∷ []) to all goes whole =
    let on = goes [] f g [] refl in
    end_goes part n m (omega (arith, to)) (sym all.1.0.part_is ∙ last_of g.part on.part whole)
parts_go p part n m f (g ∷ h ∷ fs) to all goes whole =
    let on = goes [] f g (h ∷ fs) refl in
    let later = goes (f ∷ []) g h fs refl in
    let more = parts_go p part (suc n) m g (h ∷ fs) (omega (arith, to)) all.1 (λ front y z rest q. goes (f ∷ front) y z rest (ap (λ (l : List Fragment). f ∷ l) q)) whole in
    next_goes part n m (omega (arith, to)) (sym all.1.0.part_is ∙ middle_of g.part on.part later.incomplete) more

are_unit : (p : PacketJournal) (part : ℕ → Part) (n m : ℕ) (f : Fragment) (fs : List Fragment) → n + length fs ≡ m → AreFragmentsFrom p part n (f ∷ fs) → IsStretch (f ∷ fs) → is_complete (f ∷ fs) ≡ true → AreUnit part n m
unfolding is_complete
are_unit p part n m f [] to all s whole =
    let same : n ≡ m = omega (arith, to) in
    inl (same, subst (λ (k : ℕ). part k ≡ Single) same (sym all.0.part_is ∙ single_of f.part (s.first f [] refl) whole))
are_unit p part n m f (g ∷ fs) to all s whole =
    let on = s.others [] f g fs refl in
    let goes = parts_go p part n m f (g ∷ fs) to all s.others whole in
    let some : n < m = omega (arith, to) in
    inr (record { some = some; first = sym all.0.part_is ∙ first_of f.part (s.first f (g ∷ fs) refl) on.incomplete; middle = goes.middle; last = goes.last some })

pub unit_ends : (part : ℕ → Part) (n m : ℕ) → AreUnit part n m → Ends (part m)
unit_ends part n m (inl e) = inl e.1
unit_ends part n m (inr are) = inr are.last

-- ---- the instant

pub end_stamped : (j : Journal) (part : ℕ → Part) (n : ℕ) → IsVideo j part → n < j.packets → Ends (part n) → is_some (j.stamp n) ≡ true
end_stamped j part n is known ends = elim is.stamps [
  | inl all ↦ all n known
  | inr last ↦ (last n known).1 ends
]

instant_by : (j : Journal) (part : ℕ → Part) (lead n arrival : ℕ) (at : ℤ) (timestamp : ℕ) (r : Option ℕ) → IsVideo j part → IsDelivered j lead (record { number = n; arrival = arrival }) → at ≡ pos arrival → j.stamp n ≡ r → is_some r ≡ true
    → IfSome r (λ (x : ℕ). timestamp ≡ x % 2 ^ 32) → unfolded timestamp at ≡ pos (j.due n)
instant_by j part lead n arrival at timestamp None is came arrived e some t = absurd cc
instant_by j part lead n arrival at timestamp (Some x) is came arrived e some t =
    let so = true_time j lead (record { number = n; arrival = arrival }) x came e in
    rw (t, arrived) (so ∙ ap (λ (k : ℕ). pos k) (is.one_instant n x came.known e))

unit_instant : (p : PacketJournal) (part : ℕ → Part) (lead n : ℕ) (d : Delivery) → IsVideo p.times part → (copy : IsCopyOf p lead n d) → IsVideoCopy p part n d → Ends (part n) → unfolded (cvf_of d.packet).header.timestamp d.arrival ≡ pos (p.times.due n)
unit_instant p part lead n d is copy c ends =
    ap (λ (w : Cvf). unfolded w.header.timestamp d.arrival) (sym c.same)
    ∙ instant_by p.times part lead n copy.arrival d.arrival c.view.header.timestamp (p.times.stamp n) is copy.delivered copy.arrived refl (end_stamped p.times part n is copy.delivered.known ends) c.packet.header.timestamp

-- ---- a whole unit

-- The last events are the fragments `run`, which make a whole unit.
record IsWholeRun (es : List Event) (run : List Fragment) : Type 0 where
  ends : EndsWith es run
  some : 1 ≤ length run
  complete : is_complete run ≡ true
  unit : whole_of run ≡ unit_of run

whole_run : (es : List Event) (run : List Fragment) → (run ≡ []) ⊎ EndsWith es run → piece_of run ≡ Whole → IsWholeRun es run
whole_run es [] ends whole = absurd cc
whole_run es (f ∷ fs) (inl none) whole = absurd cc
whole_run es (f ∷ fs) (inr ends) whole = by (is_within (f ∷ fs)) (is_complete (f ∷ fs)) (is_passed (f ∷ fs)) refl refl whole
  where
    by : (w c p : Bool) → is_within (f ∷ fs) ≡ w → is_complete (f ∷ fs) ≡ c → (if w then (if c then Whole else Held) else if p then Lost Long else Lost Broken) ≡ Whole → IsWholeRun es (f ∷ fs)
    by true true p e g h = record { ends = ends; some = omega arith; complete = g; unit = rw (e, g) refl }
    by true false p e g h = absurd cc
    by false c true e g h = absurd cc
    by false c false e g h = absurd cc

last_run : (before : List Delivery) (d : Delivery) → piece (events_to before d) ≡ Whole → IsWholeRun (events_to before d) (last_stretch (events_to before d))
last_run before d whole = whole_run (events_to before d) (last_stretch (events_to before d)) (some_stretch (events_to before d)) whole

events_are : (before : List Delivery) (d : Delivery) → map event_of (in_stream before ++ d ∷ []) ≡ events_to before d
events_are before d = map-append event_of (in_stream before) (d ∷ [])

last_parts : (before : List Delivery) (d : Delivery) (run : List Fragment) → 1 ≤ length run → last_ones (length run) (in_stream before ++ d ∷ []) ≡ last_ones (length run - 1) (in_stream before) ++ d ∷ []
last_parts before d run some =
    let n : length run ≡ length run - 1 + 1 = omega (arith, some) in
    ap (λ (k : ℕ). last_ones k (in_stream before ++ d ∷ [])) n ∙ last_more (length run - 1) (in_stream before) d

run_events : (before : List Delivery) (d : Delivery) (run : List Fragment) → IsWholeRun (events_to before d) run → map event_of (last_ones (length run - 1) (in_stream before) ++ d ∷ []) ≡ map packet run
run_events before d run r =
    ap (map event_of) (sym (last_parts before d run r.some)) ∙ last_events (in_stream before ++ d ∷ []) r.ends.front run (events_are before d ∙ r.ends.is)

run_shows : (before : List Delivery) (d : Delivery) (n : ℕ) → All Shows before → Shows d → All Shows (last_ones n (in_stream before) ++ d ∷ [])
run_shows before d n all here =
    All-append Shows (last_ones n (in_stream before)) (d ∷ []) (All-drop Shows (length (in_stream before) - n) (in_stream before) (All-filter is_streamed Shows before all))
    (All-cons Shows d [] here (All-nil Shows))

-- if a unit was made of copies of consecutive packets, these packets are one unit of the journal, with the same bytes
unit_by_run : (shift : ℤ) (p : PacketJournal) (part : ℕ → Part) (lead n : ℕ) (before : List Delivery) (d : Delivery) (run : List Fragment) → IsConforming shift p → p.times.kind ≡ H264 part → All Shows before → Shows d → (copy : IsMadeOf p lead n (unit_by before d))
    → last_stretch (events_to before d) ≡ run → IsWholeRun (events_to before d) run → AreUnit part copy.from n × (whole_unit (events_to before d) ≡ unit_bytes p copy.from n)
unit_by_run shift p part lead n before d [] is kind all here copy same r = absurd (let some = r.some in omega arith)
unit_by_run shift p part lead n before d (f ∷ fs) is kind all here copy same r =
    let long : length (last_ones (length fs) (in_stream before)) ≡ length fs = ap (λ (k : ℕ). length (last_ones k (in_stream before))) (sym (less (length fs))) ∙ (run_long before d (f ∷ fs) r ∙ less (length fs)) in
    let earlier : (unit_by before d).earlier ≡ last_ones (length fs) (in_stream before) = ap (λ (l : List Fragment). last_ones (length l - 1) (in_stream before)) same ∙ ap (λ (k : ℕ). last_ones k (in_stream before)) (less (length fs)) in
    let to : copy.from + length fs ≡ n = ap (λ (k : ℕ). copy.from + k) (sym (ap length earlier ∙ long)) ∙ copy.to in
    let copies = copies_all p lead copy.from n (unit_by before d).earlier d copy.to copy.earlier copy.last in
    let events : map event_of ((unit_by before d).earlier ++ d ∷ []) ≡ map packet (f ∷ fs) = ap (λ (l : List Fragment). map event_of (last_ones (length l - 1) (in_stream before) ++ d ∷ [])) same ∙ run_events before d (f ∷ fs) r in
    let fragments = fragments_from shift p part lead copy.from ((unit_by before d).earlier ++ d ∷ []) (f ∷ fs) is kind copies (run_shows before d (length (last_stretch (events_to before d)) - 1) all here) events in (
      are_unit p part copy.from n f fs to fragments r.ends.stretches r.complete,
      ap whole_of same ∙ (r.unit ∙ unit_is p part copy.from n f fs to fragments),
    )
  where
    less : (k : ℕ) → suc k - 1 ≡ k
    less k = omega arith

    run_long : (before : List Delivery) (d : Delivery) (run : List Fragment) → IsWholeRun (events_to before d) run → length (last_ones (length run - 1) (in_stream before)) ≡ length run - 1
    run_long before d run r =
        let events = ap length (run_events before d run r) in
        omega (arith, events, length-map (last_ones (length run - 1) (in_stream before) ++ d ∷ []) event_of, length-map run packet, length-append (last_ones (length run - 1) (in_stream before)) (d ∷ []), r.some)

-- ---- the deliveries of a capture

keep : (d : Delivery) (ds : List Delivery) → is_streamed d ≡ true → in_stream (d ∷ ds) ≡ d ∷ in_stream ds
keep d ds e = rw e refl

skip : (d : Delivery) (ds : List Delivery) → is_streamed d ≡ false → in_stream (d ∷ ds) ≡ in_stream ds
skip d ds e = rw e refl

pub video_streamed : (d : Delivery) → d.subtype ≡ cvf_subtype → is_streamed d ≡ true
video_streamed d e = rw e refl

clock_skipped : (d : Delivery) → d.subtype ≡ crf_subtype → is_streamed d ≡ false
clock_skipped d e = rw e refl

clock_kind : (shift : ℤ) (p : PacketJournal) (m : ℕ) (d : Delivery) → IsConforming shift p → IsClockCopyOf p m d → Shows d → d.subtype ≡ crf_subtype
clock_kind shift p m d is copy shows = let read = clock_copy_read shift p m d is copy in shows.subtype ∙ read.fields.0.0

chain_of : (shift : ℤ) (p : PacketJournal) (part : ℕ → Part) (lead n : ℕ) (os : List Origin) (ds : List Delivery) → IsConforming shift p → p.times.kind ≡ H264 part → All Shows ds → AreFrom p lead os ds → AreNear p.times (n ∷ stream_numbers os)
    → Chain p lead n (in_stream ds)
chain_of shift p part lead n [] [] is kind shows from near = tt
chain_of shift p part lead n [] (d ∷ ds) is kind shows from near = absurd from
chain_of shift p part lead n (o ∷ os) [] is kind shows from near = absurd from
chain_of shift p part lead n (OfStream m ∷ os) (d ∷ ds) is kind shows from near =
    let here = video_copy shift p part lead m d is kind from.0 (All-head Shows d ds shows) in
    subst (λ (l : List Delivery). Chain p lead n l) (sym (keep d ds (video_streamed d here.subtype))) (m, (from.0, (near.0, chain_of shift p part lead m os ds is kind (All-tail Shows d ds shows) from.1 near.1)))
chain_of shift p part lead n (OfClock m ∷ os) (d ∷ ds) is kind shows from near =
    let here = clock_kind shift p m d is from.0 (All-head Shows d ds shows) in
    subst (λ (l : List Delivery). Chain p lead n l) (sym (skip d ds (clock_skipped d here))) (chain_of shift p part lead n os ds is kind (All-tail Shows d ds shows) from.1 near)

pub chained_of : (shift : ℤ) (p : PacketJournal) (part : ℕ → Part) (lead : ℕ) (os : List Origin) (ds : List Delivery) → IsConforming shift p → p.times.kind ≡ H264 part → All Shows ds → AreFrom p lead os ds → AreNear p.times (stream_numbers os)
    → AreChained p lead (in_stream ds)
chained_of shift p part lead [] [] is kind shows from near = tt
chained_of shift p part lead [] (d ∷ ds) is kind shows from near = absurd from
chained_of shift p part lead (o ∷ os) [] is kind shows from near = absurd from
chained_of shift p part lead (OfStream m ∷ os) (d ∷ ds) is kind shows from near =
    let here = video_copy shift p part lead m d is kind from.0 (All-head Shows d ds shows) in
    subst (λ (l : List Delivery). AreChained p lead l) (sym (keep d ds (video_streamed d here.subtype))) (m, (from.0, chain_of shift p part lead m os ds is kind (All-tail Shows d ds shows) from.1 near))
chained_of shift p part lead (OfClock m ∷ os) (d ∷ ds) is kind shows from near =
    let here = clock_kind shift p m d is from.0 (All-head Shows d ds shows) in
    subst (λ (l : List Delivery). AreChained p lead l) (sym (skip d ds (clock_skipped d here))) (chained_of shift p part lead os ds is kind (All-tail Shows d ds shows) from.1 near)

-- The item was made of copies of consecutive packets.
pub record IsMade (p : PacketJournal) (lead : ℕ) (made : MadeItem) : Type 0 where
  pub number : ℕ
  pub copies : IsMadeOf p lead number made

stream_split : (before : List Delivery) (d : Delivery) (rest : List Delivery) → is_streamed d ≡ true → in_stream (before ++ d ∷ rest) ≡ (in_stream before ++ d ∷ []) ++ in_stream rest
stream_split before d rest e =
    filter-append is_streamed before (d ∷ rest) ∙ (ap (λ (l : List Delivery). in_stream before ++ l) (keep d rest e) ∙ sym (append_assoc (in_stream before) (d ∷ []) (in_stream rest)))

made_by_run : (p : PacketJournal) (lead : ℕ) (before : List Delivery) (d : Delivery) → HasRun p lead ((unit_by before d).earlier ++ d ∷ []) → IsMade p lead (unit_by before d)
made_by_run p lead before d run =
    let earlier = (unit_by before d).earlier in
    record {
      number = run.from + length earlier;
      copies = record {
        from = run.from;
        to = refl;
        earlier = copies_front p lead run.from earlier (d ∷ []) run.copies;
        last = copies_last p lead run.from earlier d run.copies;
      };
    }

whole_made : (shift : ℤ) (p : PacketJournal) (part : ℕ → Part) (lead : ℕ) (before : List Delivery) (d : Delivery) (rest : List Delivery) → IsConforming shift p → p.times.kind ≡ H264 part → AreChained p lead (in_stream (before ++ d ∷ rest)) → All Shows (before ++ d ∷ rest)
    → is_streamed d ≡ true → piece (events_to before d) ≡ Whole → IsMade p lead (unit_by before d)
whole_made shift p part lead before d rest is kind chain shows streamed whole =
    let run = last_stretch (events_to before d) in
    let r = last_run before d whole in
    let stream = in_stream before ++ d ∷ [] in
    let front = chained_front p lead stream (in_stream rest) (subst (λ (l : List Delivery). AreChained p lead l) (stream_split before d rest streamed) chain) in
    let last = chained_drop p lead (length stream - length run) stream front in
    let here = subst (λ (l : List Delivery). AreChained p lead l) (last_parts before d run r.some) last in
    let seen = run_shows before d (length run - 1) (all_before Shows before (d ∷ rest) shows) (all_here Shows before rest d shows) in
    made_by_run p lead before d (run_by shift p part lead ((unit_by before d).earlier ++ d ∷ []) run is kind here seen (run_events before d run r) r.ends.stretches)

pub unit_made : (shift : ℤ) (p : PacketJournal) (part : ℕ → Part) (lead : ℕ) (ds : List Delivery) (made : MadeItem) → IsConforming shift p → p.times.kind ≡ H264 part → AreChained p lead (in_stream ds) → All Shows ds → IsWholeOf ds made → IsMade p lead made
unit_made shift p part lead ds made is kind chain shows w =
    subst (IsMade p lead) w.same
    (whole_made shift p part lead w.before w.delivery w.rest is kind (subst (λ (l : List Delivery). AreChained p lead (in_stream l)) w.is chain) (subst (λ (l : List Delivery). All Shows l) w.is shows) (not_from_false _ w.streamed) w.whole)

-- ---- a whole unit is one unit of the journal

abbrev unit_in : List Delivery → Delivery → WholeUnit
unit_in before d = record { frame = d.frame; arrival = d.arrival; seq = d.seq; instant = unfolded (cvf_of d.packet).header.timestamp d.arrival; bytes = whole_unit (events_to before d) }

-- The item is the journal's unit that ends with packet `n`.
pub record IsUnitItem (p : PacketJournal) (part : ℕ → Part) (lead n : ℕ) (made : MadeItem) : Type 0 where
  pub unit : WholeUnit
  pub entry : made.entry ≡ OfItem (OfUnit unit)
  pub is : IsUnitFrom p part lead n made unit
  pub known : n < p.times.packets
  pub frame : unit.frame ≡ made.last.frame
  pub seq : unit.seq ≡ n % 256

whole_item : (shift : ℤ) (p : PacketJournal) (part : ℕ → Part) (lead n : ℕ) (before : List Delivery) (d : Delivery) → IsConforming shift p → p.times.kind ≡ H264 part → All Shows before → Shows d → piece (events_to before d) ≡ Whole
    → IsMadeOf p lead n (unit_by before d) → IsUnitItem p part lead n (unit_by before d)
whole_item shift p part lead n before d is kind all here whole copies =
    let sound = video p part kind is.times in
    let c = video_copy shift p part lead n d is kind copies.last here in
    let u = unit_by_run shift p part lead n before d (last_stretch (events_to before d)) is kind all here copies refl (last_run before d whole) in
    record {
      unit = unit_in before d;
      entry = refl;
      is = record { copies = copies; packets = u.0; bytes = u.1; instant = unit_instant p part lead n d sound copies.last c (unit_ends part copies.from n u.0) };
      known = copies.last.delivered.known;
      frame = refl;
      seq = c.seq;
    }

pub unit_item : (shift : ℤ) (p : PacketJournal) (part : ℕ → Part) (lead n : ℕ) (ds : List Delivery) (made : MadeItem) → IsConforming shift p → p.times.kind ≡ H264 part → All Shows ds → IsWholeOf ds made → IsMadeOf p lead n made → IsUnitItem p part lead n made
unit_item shift p part lead n ds made is kind shows w copies =
    let all = subst (λ (l : List Delivery). All Shows l) w.is shows in
    subst (λ (m : MadeItem). IsMadeOf p lead n m → IsUnitItem p part lead n m) w.same
    (whole_item shift p part lead n w.before w.delivery is kind (all_before Shows w.before (w.delivery ∷ w.rest) all) (all_here Shows w.before w.rest w.delivery all) w.whole) copies

-- ---- what is presented of a unit

at_once : (x instant : ℤ) → instant_at (record { base = instant; num = 1; den = 1 }) x ≡ instant +ℤ x
at_once x instant =
    let at = instant_at-at (record { base = instant; num = 1; den = 1 }) x (omega arith) in
    omega (arith, ints, at.not_after, at.last)

unit_at : (kind : Kind) (j : Journal) (part : ℕ → Part) (by : Bool) (n k : ℕ) (unit : WholeUnit) → kind ≡ H264 part → unit.instant ≡ pos (j.due n) → k < 1 → IsAtBy kind by j n k (sample_instant (unit_at_once unit) k)
unit_at kind j part by n zero unit e at within =
    let here : sample_instant (unit_at_once unit) 0 ≡ pos (j.due n) = at_once (pos 0 +ℤ pos 0) unit.instant ∙ (plus (unit.instant) ∙ at) in
    rw e (refl, here)
  where
    plus : (x : ℤ) → x +ℤ (pos 0 +ℤ pos 0) ≡ x
    plus x = omega (arith, ints)
unit_at kind j part by n (suc k) unit e at within = absurd (omega arith)

pub unit_packet : (by : Bool) (p : PacketJournal) (part : ℕ → Part) (lead n : ℕ) (made : MadeItem) → p.times.kind ≡ H264 part → (u : IsUnitItem p part lead n made) → IsOfPacket by p n (unit_at_once u.unit)
unit_packet by p part lead n made kind u = record {
  known = u.known;
  seq = u.seq;
  count = rw kind refl;
  bytes = subst (λ (k : Kind). IsContentBy k p n u.unit.bytes) (sym kind) (record { from = u.is.copies.from; packets = u.is.packets; bytes = u.is.bytes });
  instants = λ k lt. unit_at p.times.kind p.times part by n k u.unit kind u.is.instant lt;
}
