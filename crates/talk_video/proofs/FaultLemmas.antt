-- Why the units of a byte stream are not sent.
use Rattle.std.proofs.Common.{◌≡◌, ◌≢◌, ℕ, ◌+◌, ◌-◌, ◌<◌, Bool, true, false, not, List, [], ◌∷◌, length, Option, Some, None, is_some, refl, ◌∙◌, sym, arith}
use Rattle.std.specs.Prelude.{if◌then◌else◌, is_none}
use Rattle.std.proofs.lemmas.Bool.Decides.{nat_tests}
use Rattle.std.proofs.lemmas.Bool.{false_from_ne_true, not-false}
use Rattle.memchr.specs.Find.{FindsNeedle}
use Rattle.memchr.proofs.lemmas.MatchLemmas.{OccursAt-true, occurs_at-true}
use Rattle.cvf_format.specs.AnnexB.{is_start_code, nal_units, start_code}
use Rattle.cvf_format.specs.Cvf.{is_single_type}
use Rattle.talk_plan.specs.declared.fault.TalkFault.TheVariants.{NalType, Packets, StartCode}
use Rattle.talk_video.specs.AccessUnits.{type_in, unit_at}
use Rattle.talk_video.specs.Fragments.{access_unit_of, all_packets}
use Rattle.talk_video.specs.state.Listing.{is_long_in}
use Rattle.talk_video.specs.Units.{has_long_access_unit, has_other_type, has_start_code, most_packets, units_fault}
use Rattle.talk_plan.specs.Rows.{first_of, row}
use Rattle.talk_video.proofs.LongUnits.{any_at, any_nowhere, any_there, apart, long_is, none_at, not_at}

pub no_code : (bytes : List ℕ) (r : Option ℕ) → FindsNeedle bytes start_code 0 r → is_none r ≡ true → units_fault bytes ≡ Some StartCode
unfolding units_fault
no_code bytes (Some k) none is = absurd cc
no_code bytes None none is =
    let e : has_start_code bytes ≡ false =
    any_nowhere (is_start_code bytes) 0 (length bytes)
    (λ k from below. false_from_ne_true (is_start_code bytes k) (λ t. none k from (omega arith) (OccursAt-true bytes start_code k t))) in
    rw e refl

some_code : (bytes : List ℕ) (r : Option ℕ) → FindsNeedle bytes start_code 0 r → is_some r ≡ true → has_start_code bytes ≡ true
some_code bytes None found e = absurd cc
some_code bytes (Some k) found e =
    let there = found.1 in
    any_there (is_start_code bytes) 0 (length bytes) k (omega arith) (omega (arith, there.fits)) (occurs_at-true bytes start_code k there)

pub other_type : (bytes : List ℕ) (r : Option ℕ) (i : ℕ) → FindsNeedle bytes start_code 0 r → is_some r ≡ true → i < length (nal_units bytes)
    → is_single_type (type_in bytes (unit_at (nal_units bytes) i)) ≡ false
    → units_fault bytes ≡ Some NalType
unfolding units_fault
other_type bytes r i found some h e =
    let code = some_code bytes r found some in
    let other : has_other_type bytes ≡ true = any_at (λ (unit : ℕ × ℕ). not (is_single_type (type_in bytes unit))) (nal_units bytes) i (0, 0) h (rw e refl) in
    rw (code, other) refl

pub no_other : (bytes : List ℕ) (r : Option ℕ) (long : Bool) → FindsNeedle bytes start_code 0 r → is_some r ≡ true
    → ((i : ℕ) → i < length (nal_units bytes) → is_single_type (type_in bytes (unit_at (nal_units bytes) i)) ≡ true)
    → long ≡ is_long_in bytes (nal_units bytes) (length (nal_units bytes)) → units_fault bytes ≡ (if long then Some Packets else None)
unfolding units_fault
no_other bytes r long found some types e =
    let code = some_code bytes r found some in
    let none : has_other_type bytes ≡ false = none_at (λ (unit : ℕ × ℕ). not (is_single_type (type_in bytes unit))) (nal_units bytes) (0, 0)
    (λ i h. rw (types i h) refl) in
    let is : has_long_access_unit bytes ≡ long = sym (e ∙ long_is bytes) in
    rw (code, none, is) refl

-- ---- a byte stream without a fault

pub record IsAccepted (bytes : List ℕ) : Type 0 where
  pub code : has_start_code bytes ≡ true
  pub types : has_other_type bytes ≡ false
  pub short : has_long_access_unit bytes ≡ false

accepted_by : (a b c : Bool) → first_of (row StartCode (not a) ∷ row NalType b ∷ row Packets c ∷ []) ≡ None → (a ≡ true) × (b ≡ false) × (c ≡ false)
accepted_by false b c e = absurd cc
accepted_by true true c e = absurd cc
accepted_by true false true e = absurd cc
accepted_by true false false e = (refl, refl, refl)

pub accepted_is : (bytes : List ℕ) → units_fault bytes ≡ None → IsAccepted bytes
unfolding units_fault
accepted_is bytes e =
    let is = accepted_by (has_start_code bytes) (has_other_type bytes) (has_long_access_unit bytes) e in
    record { code = is.0; types = is.1; short = is.2 }

pub types_are : (bytes : List ℕ) (i : ℕ) → units_fault bytes ≡ None → i < length (nal_units bytes)
    → is_single_type (type_in bytes (unit_at (nal_units bytes) i)) ≡ true
types_are bytes i e h =
    not-false (is_single_type (type_in bytes (unit_at (nal_units bytes) i)))
    (not_at (λ (unit : ℕ × ℕ). not (is_single_type (type_in bytes unit))) (nal_units bytes) i (0, 0) (accepted_is bytes e).types h)

-- in a byte stream without a fault, packets that are 255 apart are of different access units
pub far_apart : (bytes : List ℕ) (n : ℕ) → units_fault bytes ≡ None → n + 255 < all_packets (nal_units bytes)
    → access_unit_of bytes (nal_units bytes) n ≢ access_unit_of bytes (nal_units bytes) (n + 255)
far_apart bytes n e h same =
    let short = (accepted_is bytes e).short in
    let tells : apart bytes (nal_units bytes) n ≡ true = grind (arith, nat_tests) in
    let long = any_there (apart bytes (nal_units bytes)) 0 (all_packets (nal_units bytes) - most_packets) n (omega arith) (omega arith) tells in
    absurd cc
