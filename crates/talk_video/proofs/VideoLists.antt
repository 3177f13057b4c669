-- The units that an H.264 stream lists.
use Rattle.std.proofs.Common.{◌≡◌, ℕ, suc, ◌-◌, ◌<◌, ◌≤◌, Bool, true, false, List, [], ◌∷◌, length, get_or, inl, inr, Option, Some, None, ap, ◌∙◌, arith}
use Rattle.std.specs.Prelude.{nat_le, filter, if◌then◌else◌}
use Rattle.std.specs.List.{cons_option, filter_map, range_with_len}
use Rattle.std.specs.List.Sorted.{IsPartitionPoint, IsPartitionedBy}
use Rattle.std.proofs.lemmas.Bool.{cases_lt}
use Rattle.std.proofs.lemmas.Bool.Decides.{nat_tests}
use Rattle.std.proofs.lemmas.List.FromFn.{get_or-map-range_with_len, length-map-range_with_len, length-range_with_len}
use Rattle.cvf_format.specs.AnnexB.{is_start_code, nal_units, places, unit_behind, units_from}
use Rattle.talk_video.specs.declared.units.NalUnit.{NalUnit}
use Rattle.talk_video.specs.declared.video.VideoStream.{VideoStream}
use Rattle.talk_video.specs.Fragments.{place_of}
use Rattle.talk_plan.specs.Plan.{most_input}
use Rattle.talk_video.specs.state.Listing.{IsCarried, place_in}
use Rattle.talk_video.specs.Streams.{IsVideo, unit_in}
use Rattle.talk_video.proofs.AccessLemmas.{access_few, before_rises, placed, unit_known}

-- entry i of the list is unit i of the byte stream
pub listed_at : (v : VideoStream) (i : ℕ) (d : NalUnit) → IsVideo v → i < length (nal_units v.input.now) → get_or v.units.items i d ≡ unit_in v.input.now i
listed_at v i d is h =
    ap (λ (us : List NalUnit). get_or us i d) is.units
    ∙ get_or-map-range_with_len (unit_in v.input.now) 0 (length (nal_units v.input.now)) i i d h (omega arith)

pub listed_all : (v : VideoStream) → IsVideo v → length v.units.items ≡ length (nal_units v.input.now)
listed_all v is = ap length is.units ∙ length-map-range_with_len (unit_in v.input.now) 0 (length (nal_units v.input.now))

-- in the list, the units whose first packet is at most n precede all others
pub parted : (v : VideoStream) (n : ℕ) → IsVideo v → IsPartitionedBy (λ (u : NalUnit). nat_le u.first n) v.units.items
parted v n is i j d le below e =
    let all = listed_all v is in
    let here = ap (λ (u : NalUnit). u.first) (listed_at v i d is (omega arith)) in
    let there = ap (λ (u : NalUnit). u.first) (listed_at v j d is (omega arith)) in
    let rise = before_rises (nal_units v.input.now) i j le in
    let reached : (get_or v.units.items j d).first ≤ n = grind (arith, nat_tests) in
    let so : (get_or v.units.items i d).first ≤ n = omega arith in
    grind (arith, nat_tests)

-- the binary search returns 1 more than the index of packet n's unit
pub searched : (v : VideoStream) (n r : ℕ) → IsVideo v → n < v.packets → r ≤ length v.units.items
    → IsPartitionPoint (λ (u : NalUnit). nat_le u.first n ≡ true) (λ (u : NalUnit). nat_le u.first n ≡ false) v.units.items r → r ≡ suc (place_in v n).unit
searched v n r is known within point =
    let units : List (ℕ × ℕ) = nal_units v.input.now in
    let all = listed_all v is in
    let i : ℕ = (place_of units n).unit in
    let at = placed units n in
    let count : i < length units = unit_known units n (omega (arith, is.packets)) in
    let d : NalUnit = unit_in v.input.now 0 in
    let here = ap (λ (u : NalUnit). u.first) (listed_at v i d is count) in
    elim (cases_lt i r) [
      | inl below ↦ elim (cases_lt (suc i) r) [
        | inl next ↦
            let past = ap (λ (u : NalUnit). u.first) (listed_at v (suc i) d is (omega arith)) in
            let test = point.0 (suc i) d (omega arith) next in
            let reached : (get_or v.units.items (suc i) d).first ≤ n = grind (arith, nat_tests) in
            absurd (omega (arith, at.number, at.within))
        | inr not ↦ omega arith
      ]
      | inr not ↦
          let test = point.1 i d not (omega arith) in
          let unreached : n < (get_or v.units.items i d).first = grind (arith, nat_tests) in
          absurd (omega (arith, at.number))
    ]

-- packet n is one of the packets that carry its unit
pub carried : (v : VideoStream) (n : ℕ) → IsVideo v → n < v.packets → IsCarried v.input.now (unit_in v.input.now (place_in v n).unit) n
carried v n is known =
    let units : List (ℕ × ℕ) = nal_units v.input.now in
    let at = placed units n in
    let inside = is.inside (place_of units n).unit (unit_known units n (omega (arith, is.packets))) in
    record {
      some = inside.some;
      inside = inside.inside;
      limit = is.limit;
      begun = omega (arith, at.number);
      within = omega (arith, at.number, at.within);
    }

-- ---- the number of units is at most the number of bytes

kept_few : {X Y : Type 0} (h : X → Option Y) (xs : List X) → length (filter_map h xs) ≤ length xs
kept_few h [] = omega arith
kept_few h (x ∷ xs) = more (h x) (filter_map h xs) (length xs) (kept_few h xs)
  where
    more : {Y : Type 0} (r : Option Y) (ys : List Y) (n : ℕ) → length ys ≤ n → length (cons_option r ys) ≤ suc n
    more None ys n few = omega arith
    more (Some y) ys n few = omega arith

filter_few : {X : Type 0} (p : X → Bool) (xs : List X) → length (filter p xs) ≤ length xs
filter_few p [] = omega arith
filter_few p (x ∷ xs) = more (p x) x (filter p xs) (length xs) (filter_few p xs)
  where
    more : {X : Type 0} (b : Bool) (x : X) (ys : List X) (n : ℕ) → length ys ≤ n → length (if b then x ∷ ys else ys) ≤ suc n
    more false x ys n few = omega arith
    more true x ys n few = omega arith

pub units_few : (bytes : List ℕ) → length (nal_units bytes) ≤ length bytes
unfolding units_from
units_few bytes =
    let all = length-range_with_len 0 (length bytes - 0) in
    let codes = filter_few (is_start_code bytes) (range_with_len 0 (length bytes - 0)) in
    let units = kept_few (unit_behind bytes) (places (is_start_code bytes) 0 (length bytes)) in
    omega arith

-- `unit` is the unit of packet n, and the number of its access unit is at most `most_input`
pub record IsUnitWith (v : VideoStream) (n : ℕ) (unit : NalUnit) : Type 0 where
  pub same : unit ≡ unit_in v.input.now (place_in v n).unit
  pub few : unit.access_unit ≤ most_input

pub unit_is : (v : VideoStream) (n i : ℕ) (unit : NalUnit) → IsVideo v → n < v.packets → i ≡ (place_in v n).unit → unit ≡ get_or v.units.items i unit
    → IsUnitWith v n unit
unit_is v n i unit is known place read =
    let units : List (ℕ × ℕ) = nal_units v.input.now in
    let count : i < length units = rw place (unit_known units n (omega (arith, is.packets))) in
    let same : unit ≡ unit_in v.input.now (place_in v n).unit = read ∙ listed_at v i unit is count ∙ ap (unit_in v.input.now) place in
    let number = ap (λ (u : NalUnit). u.access_unit) same in
    let few = access_few v.input.now units (place_in v n).unit in
    let all = units_few v.input.now in
    record { same = same; few = omega (arith, is.limit) }
