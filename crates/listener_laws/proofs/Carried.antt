-- The deliveries of records that carry packets of a talker and of its clock.
use Rattle.std.proofs.Common.{◌≡◌, ℕ, zero, suc, ◌+◌, Bool, true, false, List, [], ◌∷◌, map, filter, Option, Some, refl, ap, ◌∙◌, arith}
use Rattle.std.specs.Prelude.{◌||◌, slice_get}
use Rattle.std.specs.List.{AllByRecursion, enumerate_from}
use Rattle.pcap_frames.specs.Capture.{Record}
use Rattle.packet_journal.specs.Carried.{AllCarryFrom, Carries, CarriesClock, CarriesFrom}
use Rattle.packet_journal.specs.Deliveries.{Delivery, belongs, clock_kinds, deliveries, delivery, is_delivered, stream_kinds}
use Rattle.packet_journal.specs.Delivered.{AreFrom, IsClockCopyOf, IsCopyOf, Origin, OfClock, OfStream}
use Rattle.packet_journal.specs.Packets.{PacketJournal}

-- If a record carries a packet of the stream or of its clock, the record belongs to that stream or clock, and the
-- record's delivery is a copy of the packet.
pub record AreRead (p : PacketJournal) (lead : ℕ) : Type 0 where
  pub stream : (n : ℕ) (r : Record) → Carries p lead n r → belongs stream_kinds p.stream r.bytes ≡ true
  pub copy : (n frame : ℕ) (r : Record) → Carries p lead n r → IsCopyOf p lead n (delivery frame r)
  pub clock : (m : ℕ) (r : Record) → CarriesClock p m r → belongs clock_kinds p.clock r.bytes ≡ true
  pub clock_copy : (m frame : ℕ) (r : Record) → CarriesClock p m r → IsClockCopyOf p m (delivery frame r)

-- if the origin is a packet of the clock, the listener has the talker's clock
abbrev pub HearsOrigin : PacketJournal → Option ℕ → Origin → Type 0
HearsOrigin p clock (OfStream n) = Unit {0}
HearsOrigin p clock (OfClock m) = clock ≡ Some p.clock

or_true : (a : Bool) → (a || true) ≡ true
or_true true = refl
or_true false = refl

delivered : (p : PacketJournal) (clock : Option ℕ) (lead : ℕ) (o : Origin) (r : Record) → AreRead p lead → HearsOrigin p clock o → CarriesFrom p lead o r → is_delivered p.stream clock r.bytes ≡ true
delivered p clock lead (OfStream n) r are hears carries = rw (are.stream n r carries) refl
delivered p clock lead (OfClock m) r are hears carries = rw (hears, are.clock m r carries) (or_true (belongs stream_kinds p.stream r.bytes))

kept_all : (p : PacketJournal) (clock : Option ℕ) (lead i : ℕ) (os : List Origin) (rs : List Record) → AreRead p lead → AllByRecursion (HearsOrigin p clock) os → AllCarryFrom p lead os rs
    → filter (λ (x : ℕ × Record). is_delivered p.stream clock x.1.bytes) (enumerate_from i rs) ≡ enumerate_from i rs
kept_all p clock lead i [] [] are hears all = refl
kept_all p clock lead i [] (r ∷ rs) are hears all = absurd all
kept_all p clock lead i (o ∷ os) [] are hears all = absurd all
kept_all p clock lead i (o ∷ os) (r ∷ rs) are hears all = rw (delivered p clock lead o r are hears.0 all.0) (ap {B = List (ℕ × Record)} (λ l. (i, r) ∷ l) (kept_all p clock lead (i + 1) os rs are hears.1 all.1))

-- the deliveries of these records, numbered from `i`
abbrev pub numbered : ℕ → List Record → List Delivery
numbered i rs = map (λ (x : ℕ × Record). delivery x.0 x.1) (enumerate_from i rs)

pub all_delivered : (p : PacketJournal) (clock : Option ℕ) (lead : ℕ) (os : List Origin) (rs : List Record) → AreRead p lead → AllByRecursion (HearsOrigin p clock) os → AllCarryFrom p lead os rs → deliveries p.stream clock rs ≡ numbered 1 rs
all_delivered p clock lead os rs are hears all = ap (map (λ (x : ℕ × Record). delivery x.0 x.1)) (kept_all p clock lead 1 os rs are hears all)

pub numbered_at : (i n : ℕ) (rs : List Record) (r : Record) → slice_get rs n ≡ Some r → slice_get (numbered i rs) n ≡ Some (delivery (i + n) r)
numbered_at i n [] r e = absurd cc
numbered_at i zero (x ∷ rs) r e =
    let same : x ≡ r = cc in
    let number : i ≡ i + 0 = omega arith in
    ap (λ (y : Record). Some (delivery i y)) same ∙ ap (λ (m : ℕ). Some (delivery m r)) number
numbered_at i (suc n) (x ∷ rs) r e =
    let number : i + 1 + n ≡ i + suc n = omega arith in
    numbered_at (i + 1) n rs r e ∙ ap (λ (m : ℕ). Some (delivery m r)) number

pub all_from : (p : PacketJournal) (lead i : ℕ) (os : List Origin) (rs : List Record) → AreRead p lead → AllCarryFrom p lead os rs → AreFrom p lead os (numbered i rs)
all_from p lead i [] [] are all = tt
all_from p lead i [] (r ∷ rs) are all = absurd all
all_from p lead i (o ∷ os) [] are all = absurd all
all_from p lead i (OfStream n ∷ os) (r ∷ rs) are all = (are.copy n i r all.0, all_from p lead (i + 1) os rs are all.1)
all_from p lead i (OfClock m ∷ os) (r ∷ rs) are all = (are.clock_copy m i r all.0, all_from p lead (i + 1) os rs are all.1)
