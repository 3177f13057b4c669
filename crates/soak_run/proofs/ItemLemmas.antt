-- The deliveries are items of a stream that keeps the rules.
use Rattle.std.proofs.Common.{◌≡◌, ℕ, ℤ, zero, suc, ◌+◌, Bool, true, false, List, [], ◌∷◌, length, map, All, Some, None, refl, sym, ap, subst, ◌∙◌, arith, if◌then◌else◌}
use Rattle.std.specs.Prelude.{◌==◌, ◌||◌, slice_get, filter}
use Rattle.std.specs.List.{enumerate_from}
use Rattle.std.proofs.lemmas.List.{length-map}
use Rattle.std.proofs.lemmas.List.Sums.{sum_by-cons}
use Rattle.std.proofs.lemmas.List.Elements.{All-head, All-tail}
use Rattle.pcap_frames.specs.Capture.{Record}
use Rattle.sample_schedule.specs.declared.entry.Entry.{Entry}
use Rattle.stream_journal.specs.Delivered.{IsAudioKind}
use Rattle.packet_journal.specs.Carried.{AllCarry, Carries}
use Rattle.packet_journal.specs.Deliveries.{Delivery, belongs, deliveries, delivery, is_delivered, stream_kinds}
use Rattle.packet_journal.specs.Delivered.{IsCopyOf, IsFrom, OfClock as FromClock, OfStream as FromStream, Origin}
use Rattle.packet_journal.specs.Packets.{IsConforming, PacketJournal}
use Rattle.listener.specs.Items.{MadeItem, entries, entry_of, items_of, made_entry, made_of_one}
use Rattle.listener.specs.Laws.{fragments_in}
use Rattle.listener.proofs.Made.{IsOther, items_other}
use Rattle.listener.proofs.TrueItems.{IsCopied, copy_entry}
use Rattle.soak_run.proofs.OutcomeLemmas.{IsSoundEntry}

-- a record that belongs to the stream adds one delivery
kept_by : (b : Bool) (i : ℕ) (r : Record) (rest : List (ℕ × Record)) (n : ℕ) → b ≡ true → length rest ≡ n → length (if b || false then (i, r) ∷ rest else rest) ≡ suc n
kept_by true i r rest n e long = ap suc long
kept_by false i r rest n e long = absurd cc

kept_long : (stream i : ℕ) (records : List Record) → ((r : Record) (n : ℕ) → slice_get records n ≡ Some r → belongs stream_kinds stream r.bytes ≡ true)
    → length (filter (λ (x : ℕ × Record). is_delivered stream None x.1.bytes) (enumerate_from i records)) ≡ length records
kept_long stream i [] each = refl
kept_long stream i (r ∷ records) each =
    kept_by (belongs stream_kinds stream r.bytes) i r (filter (λ (x : ℕ × Record). is_delivered stream None x.1.bytes) (enumerate_from (i + 1) records)) (length records) (each r 0 refl)
    (kept_long stream (i + 1) records (λ s n at. each s (suc n) at))

all_long : (stream : ℕ) (records : List Record) → ((r : Record) (n : ℕ) → slice_get records n ≡ Some r → belongs stream_kinds stream r.bytes ≡ true)
    → length (deliveries stream None records) ≡ length records
all_long stream records each =
    length-map (filter (λ (x : ℕ × Record). is_delivered stream None x.1.bytes) (enumerate_from 1 records)) (λ (x : ℕ × Record). delivery x.0 x.1) ∙ kept_long stream 1 records each

-- each of these records carries a packet
pub carried_at : (p : PacketJournal) (lead : ℕ) (numbers : List ℕ) (records : List Record) (r : Record) (k : ℕ) → AllCarry p lead numbers records → slice_get records k ≡ Some r → (n : ℕ) × Carries p lead n r
carried_at p lead [] [] r k all at = absurd cc
carried_at p lead [] (s ∷ records) r k all at = absurd all
carried_at p lead (n ∷ numbers) [] r k all at = absurd all
carried_at p lead (n ∷ numbers) (s ∷ records) r zero all at = let same : s ≡ r = cc in (n, subst (Carries p lead n) same all.0)
carried_at p lead (n ∷ numbers) (s ∷ records) r (suc k) all at = carried_at p lead numbers records r k all.1 at

pub each_delivered : (p : PacketJournal) (lead : ℕ) (numbers : List ℕ) (records : List Record) → AllCarry p lead numbers records
    → ((n : ℕ) (r : Record) → Carries p lead n r → belongs stream_kinds p.stream r.bytes ≡ true) → length (deliveries p.stream None records) ≡ length records
each_delivered p lead numbers records all belong =
    all_long p.stream records (λ r k at. let carried = carried_at p lead numbers records r k all at in belong carried.0 r carried.1)

-- ---- entries

entry_of_one : (ds : List Delivery) (i : ℕ) (e : Entry) → slice_get (map made_entry (map made_of_one ds)) i ≡ Some e → (d : Delivery) × (slice_get ds i ≡ Some d) × (entry_of d ≡ e)
entry_of_one [] i e there = absurd cc
entry_of_one (d ∷ ds) zero e there = (d, refl, cc)
entry_of_one (d ∷ ds) (suc i) e there = entry_of_one ds i e there

entry_at : (ds : List Delivery) (i : ℕ) (e : Entry) → All IsOther ds → slice_get (entries ds) i ≡ Some e → (d : Delivery) × (slice_get ds i ≡ Some d) × (entry_of d ≡ e)
entry_at ds i e others there = entry_of_one ds i e (subst (λ (ms : List MadeItem). slice_get (map made_entry ms) i ≡ Some e) (items_other ds others) there)

-- if each item is made of a single delivery, no item has an earlier fragment
none_before : (ds : List Delivery) → fragments_in (map made_of_one ds) ≡ 0
none_before [] = refl
none_before (d ∷ ds) = omega (arith, sum_by-cons (λ (made : MadeItem). length made.earlier) (made_of_one d) (map made_of_one ds), none_before ds)

pub no_fragments : (ds : List Delivery) → All IsOther ds → fragments_in (items_of ds) ≡ 0
no_fragments ds others = rw (items_other ds others) (none_before ds)

copied_at : (p : PacketJournal) (lead : ℕ) (ds : List Delivery) (i : ℕ) (d : Delivery) → All (IsCopied p lead) ds → slice_get ds i ≡ Some d → IsCopied p lead d
copied_at p lead [] i d all at = absurd cc
copied_at p lead (x ∷ ds) zero d all at = let same : x ≡ d = cc in subst (IsCopied p lead) same (All-head (IsCopied p lead) x ds all)
copied_at p lead (x ∷ ds) (suc i) d all at = copied_at p lead ds i d (All-tail (IsCopied p lead) x ds all) at

from_stream : (p : PacketJournal) (lead : ℕ) (d : Delivery) (o : Origin) → p.times.clock.packets ≡ 0 → IsFrom p lead o d → (n : ℕ) × IsCopyOf p lead n d
from_stream p lead d (FromStream n) none copy = (n, copy)
from_stream p lead d (FromClock m) none copy = absurd (let known = copy.known in omega arith)

-- if an audio stream has no clock, has samples in each packet and has a known rate, then the entries of all deliveries
-- of its packets are sound
pub entries_sound : (shift : ℤ) (p : PacketJournal) (lead : ℕ) (ds : List Delivery) → IsConforming shift p → IsAudioKind p.times.kind → p.times.clock.packets ≡ 0 → (p.times.count == 0) ≡ false → (p.times.rate == 0) ≡ false
    → All IsOther ds → All (IsCopied p lead) ds → (i : ℕ) (e : Entry) → slice_get (entries ds) i ≡ Some e → IsSoundEntry e
entries_sound shift p lead ds conforming audio none some rate others all i e there =
    let found = entry_at ds i e others there in
    let copied = copied_at p lead ds i found.0 all found.1 in
    let from = from_stream p lead found.0 copied.origin none copied.copy in
    record {
      packet = _;
      is = sym found.2 ∙ copy_entry shift p lead from.0 found.0 conforming audio from.1 copied.shows;
      sound = record { certain = refl; some = some; rate = rate };
    }
