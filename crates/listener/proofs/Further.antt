-- What one more record adds to the deliveries and to the entries.
use Rattle.std.proofs.Common.{◌≡◌, ℕ, ◌+◌, suc, Bool, true, false, List, [], ◌∷◌, ◌++◌, length, map, Option, Some, None, refl, ap, ◌∙◌, arith, length-append, append-nil, if◌then◌else◌, ℤ, w64, to_z, of_z, to_z-of_z, FitsSigned}
use Rattle.std.proofs.lemmas.Int.{ints}
use Rattle.time_unfold.specs.Time.{IsArrival}
use Rattle.std.specs.Prelude.{◌==◌, ◌&&◌, ◌||◌, cond, not, filter}
use Rattle.std.specs.List.{enumerate_from, list_any}
use Rattle.std.proofs.lemmas.Bool.Decides.{nat_tests}
use Rattle.std.proofs.lemmas.List.{map-append}
use Rattle.std.proofs.lemmas.List.Elements.{filter-append}
use Rattle.avtp_header.specs.Header.{peeked_of}
use Rattle.avtp_header.specs.Numbers.{crf_subtype}
use Rattle.pcap_frames.specs.Capture.{Record}
use Rattle.packet_journal.specs.Deliveries.{Delivery, belongs, belongs_to_clock, clock_kinds, deliveries, delivery, is_avtp, is_delivered, packet_in, stream_kinds}

numbered : {X : Type 0} (n : ℕ) (xs ys : List X) → enumerate_from n (xs ++ ys) ≡ enumerate_from n xs ++ enumerate_from (n + length xs) ys
numbered {X} n [] ys = let e : n ≡ n + 0 = omega arith in ap {B = List (ℕ × X)} (λ k. enumerate_from k ys) e
numbered {X} n (y ∷ xs) ys =
    let e : n + 1 + length xs ≡ n + suc (length xs) = omega arith in
    ap {B = List (ℕ × X)} (λ t. (n, y) ∷ t) (numbered (n + 1) xs ys ∙ ap {B = List (ℕ × X)} (λ k. enumerate_from (n + 1) xs ++ enumerate_from k ys) e)

abbrev picks : ℕ → Option ℕ → ℕ × Record → Bool
picks stream clock p = is_delivered stream clock p.1.bytes

abbrev made_of : ℕ × Record → Delivery
made_of p = delivery p.0 p.1

-- the deliveries of records that are numbered from `n` on
abbrev deliveries_from : ℕ → Option ℕ → ℕ → List Record → List Delivery
deliveries_from stream clock n records = map made_of (filter (picks stream clock) (enumerate_from n records))

deliveries_further : (stream : ℕ) (clock : Option ℕ) (records others : List Record)
    → deliveries stream clock (records ++ others) ≡ deliveries stream clock records ++ deliveries_from stream clock (1 + length records) others
deliveries_further stream clock records others =
    ap (λ l. map made_of (filter (picks stream clock) l)) (numbered 1 records others)
    ∙ (ap (map made_of) (filter-append (picks stream clock) (enumerate_from 1 records) (enumerate_from (1 + length records) others))
    ∙ map-append made_of (filter (picks stream clock) (enumerate_from 1 records)) (filter (picks stream clock) (enumerate_from (1 + length records) others)))

pub one_more : (stream : ℕ) (clock : Option ℕ) (records : List Record) (r : Record) → is_delivered stream clock r.bytes ≡ true
    → deliveries stream clock (records ++ r ∷ []) ≡ deliveries stream clock records ++ delivery (1 + length records) r ∷ []
one_more stream clock records r in_it = deliveries_further stream clock records (r ∷ []) ∙ rw in_it refl

pub none_more : (stream : ℕ) (clock : Option ℕ) (records : List Record) (r : Record) → is_delivered stream clock r.bytes ≡ false
    → deliveries stream clock (records ++ r ∷ []) ≡ deliveries stream clock records
none_more stream clock records r out = deliveries_further stream clock records (r ∷ []) ∙ rw out (append-nil (deliveries stream clock records))

pub more_by : (b : Bool) (stream : ℕ) (clock : Option ℕ) (records : List Record) (r : Record) → is_delivered stream clock r.bytes ≡ b
    → length (deliveries stream clock (records ++ r ∷ [])) ≡ length (deliveries stream clock records) + cond b 1 0
more_by true stream clock records r in_it =
    ap length (one_more stream clock records r in_it) ∙ length-append (deliveries stream clock records) (delivery (1 + length records) r ∷ [])
more_by false stream clock records r out =
    let none : length (deliveries stream clock records) ≡ length (deliveries stream clock records) + 0 = omega arith in
    ap length (none_more stream clock records r out) ∙ none

-- ---- which deliveries belong to the stream

no_clock_subtype : (s : ℕ) → list_any (λ kind. s == kind) stream_kinds ≡ true → (s == crf_subtype) ≡ false
no_clock_subtype s e = grind (arith, nat_tests)

clock_subtype : (s : ℕ) → list_any (λ kind. s == kind) clock_kinds ≡ true → (s == crf_subtype) ≡ true
clock_subtype s e = grind (arith, nat_tests)

first_of_four : (a k v i : Bool) → (a && ((k && v) && i)) ≡ true → k ≡ true
first_of_four true true v i e = refl
first_of_four true false v i e = absurd cc
first_of_four false k v i e = absurd cc

by_both : (b c is : Bool) → (b || c) ≡ true → (b ≡ true → is ≡ false) → (c ≡ true → is ≡ true) → (b || false) ≡ not is
by_both true c is e first second = rw (first refl) refl
by_both false true is e first second = rw (second refl) refl
by_both false false is e first second = absurd cc

none_by_clock : (clock : Option ℕ) (bytes : List ℕ) → belongs_to_clock clock bytes ≡ true → ((peeked_of (packet_in bytes)).subtype == crf_subtype) ≡ true
none_by_clock None bytes e = absurd cc
none_by_clock (Some id) bytes e = clock_subtype (peeked_of (packet_in bytes)).subtype (first_of_four (is_avtp bytes) _ (peeked_of (packet_in bytes)).sv ((peeked_of (packet_in bytes)).stream_id == id) e)

pub of_stream : (stream : ℕ) (clock : Option ℕ) (bytes : List ℕ) → is_delivered stream clock bytes ≡ true → is_delivered stream None bytes ≡ not ((peeked_of (packet_in bytes)).subtype == crf_subtype)
of_stream stream clock bytes e =
    by_both (belongs stream_kinds stream bytes) (belongs_to_clock clock bytes) ((peeked_of (packet_in bytes)).subtype == crf_subtype) e
    (λ here. no_clock_subtype (peeked_of (packet_in bytes)).subtype (first_of_four (is_avtp bytes) _ (peeked_of (packet_in bytes)).sv ((peeked_of (packet_in bytes)).stream_id == stream) here))
    (none_by_clock clock bytes)

pub of_none : (stream : ℕ) (clock : Option ℕ) (bytes : List ℕ) → is_delivered stream clock bytes ≡ false → is_delivered stream None bytes ≡ false
of_none stream clock bytes e = by (belongs stream_kinds stream bytes) (belongs_to_clock clock bytes) e
  where
    by : (b c : Bool) → (b || c) ≡ false → (b || false) ≡ false
    by true c e = absurd cc
    by false c e = refl

-- ---- an entry by its subtype

pub arrival_kept : (t : ℤ) → IsArrival t → to_z w64 (of_z w64 t) ≡ t
arrival_kept t a = to_z-of_z (fits_signed_from_nat t a)
  where
    fits_signed_from_nat : (t : ℤ) → IsArrival t → FitsSigned w64 t
    fits_signed_from_nat t a = omega (arith, ints, a.from, a.to)

-- ---- what is returned

pub chosen : {X : Type 0} (b : Bool) (x y : X) → Some x ≡ (if b then Some y else None) → (b ≡ true) × (x ≡ y)
chosen true x y e = (refl, cc)
chosen false x y e = absurd (cc)

pub not_chosen : {X : Type 0} (b : Bool) (y : X) → None ≡ (if b then Some y else None) → b ≡ false
not_chosen true y e = absurd (cc)
not_chosen false y e = refl
