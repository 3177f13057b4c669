-- A walk over the units of a byte stream.
use Rattle.std.proofs.Common.{◌≡◌, ℕ, zero, suc, ◌+◌, ◌-◌, ◌<◌, ◌≤◌, Bool, true, false, not, List, [], ◌∷◌, length, drop, ◌++◌, get_or, inl, inr, refl, ap}
use Rattle.std.proofs.Common.{subst, ◌∙◌, arith}
use Rattle.std.proofs.lemmas.Bool.{cases_lt}
use Rattle.std.specs.Prelude.{◌&&◌, ◌||◌, if◌then◌else◌}
use Rattle.avtp_base.specs.Octets.{flag}
use Rattle.avtp_base.proofs.BitLemmas.{flag-below}
use Rattle.cvf_format.specs.AnnexB.{nal_units, units_from}
use Rattle.talk_video.specs.declared.units.NalUnit.{NalUnit}
use Rattle.talk_video.specs.declared.units.Units.{Units}
use Rattle.talk_video.specs.AccessUnits.{begins, has_slice, may_begin, unit_at}
use Rattle.talk_video.specs.Fragments.{packets_for}
use Rattle.talk_video.specs.state.Listing.{IsWalk, is_begun_by, walked}
use Rattle.talk_video.specs.Streams.{AreInside, IsInside, first_units, unit_in}
use Rattle.talk_plan.specs.Plan.{most_input}
use Rattle.talk_plan.proofs.CountLemmas.{map_more}
use Rattle.talk_video.proofs.AccessLemmas.{size_of}

-- `x` is at index `k` of `xs`, and `rest` is what follows `x` in `xs`
pub record IsHead {X : Type 0} (xs : List X) (k : ℕ) (d x : X) (rest : List X) : Type 0 where
  pub at : get_or xs k d ≡ x
  pub next : drop (suc k) xs ≡ rest
  pub below : k < length xs

pub head_is : {X : Type 0} (xs : List X) (k : ℕ) (d x : X) (rest : List X) → drop k xs ≡ x ∷ rest → IsHead xs k d x rest
head_is [] zero d x rest e = absurd cc
head_is [] (suc k) d x rest e = absurd cc
head_is (y ∷ ys) zero d x rest e = record { at = cc; next = cc; below = omega arith }
head_is (y ∷ ys) (suc k) d x rest e =
    let is = head_is ys k d x rest e in
    record { at = is.at; next = is.next; below = (let below = is.below in omega arith) }

pub none_is : {X : Type 0} (xs : List X) (k : ℕ) → drop k xs ≡ [] → length xs ≤ k
none_is [] k e = omega arith
none_is (y ∷ ys) zero e = absurd cc
none_is (y ∷ ys) (suc k) e = let rest = none_is ys k e in omega arith

-- ---- one unit more

sliced_by : (has s may : Bool) → (has || (s && not (s && may))) ≡ (has || (s && not may))
sliced_by true s may = refl
sliced_by false true may = refl
sliced_by false false may = refl

-- `unit` is unit i of the byte stream, and units i + 1 and later are those found after the end of `unit`
pub record IsNextUnit (bytes : List ℕ) (i : ℕ) (unit : ℕ × ℕ) : Type 0 where
  pub known : i < length (nal_units bytes)
  pub at : unit_at (nal_units bytes) i ≡ unit
  pub rest : drop (suc i) (nal_units bytes) ≡ units_from bytes unit.1

pub next_is : (bytes : List ℕ) (u : Units) (unit : ℕ × ℕ) → IsWalk bytes u → units_from bytes u.at ≡ unit ∷ units_from bytes unit.1
    → IsNextUnit bytes u.number unit
next_is bytes u unit w e =
    let is = head_is (nal_units bytes) u.number (0, 0) unit (units_from bytes unit.1) (w.rest ∙ e) in
    record { known = is.below; at = is.at; rest = is.next }

pub walk_on : (bytes : List ℕ) (u : Units) (unit : ℕ × ℕ) → IsWalk bytes u → units_from bytes u.at ≡ unit ∷ units_from bytes unit.1
    → u.at + 3 ≤ unit.0 → unit.0 < unit.1 → unit.1 ≤ length bytes → IsWalk bytes (walked bytes u unit)
walk_on bytes u unit w e behind some inside =
    let units = nal_units bytes in
    let i : ℕ = u.number in
    let next = next_is bytes u unit w e in
    let more : i + 1 ≡ suc i = omega arith in
    let same : is_begun_by bytes u unit ≡ begins bytes units i = rw (w.sliced, next.at) refl in
    let size = size_of (unit.1 - unit.0) in
    let packets : packets_for unit ≤ unit.1 - unit.0 = size.few (omega arith) in
    let bit = flag-below (is_begun_by bytes u unit) in
    record {
      limit = w.limit;
      known = (let known = next.known in omega arith);
      rest = rw more next.rest;
      within = inside;
      sliced = rw (more, next.at) (sliced_by (has_slice bytes unit) u.sliced (may_begin bytes unit) ∙ rw w.sliced refl);
      begun = rw (more, ← same) (ap (λ (k : ℕ). k + flag (is_begun_by bytes u unit)) w.begun);
      packets = rw (more, next.at) (ap (λ (k : ℕ). k + packets_for unit) w.packets);
      before = rw (more, ← same, ← w.before, ← w.packets) refl;
      few = omega (arith, w.few);
      few_begun = omega (arith, w.few_begun);
      few_packets = omega (arith, w.few_packets);
      order = before_by (is_begun_by bytes u unit) u.packets u.before (packets_for unit) w.order;
    }
  where
    before_by : (b : Bool) (packets before size : ℕ) → before ≤ packets → (if b then packets else before) ≤ packets + size
    before_by true packets before size h = omega arith
    before_by false packets before size h = omega arith

pub begin_walk : (bytes : List ℕ) → length bytes ≤ most_input
    → IsWalk bytes (record { number = 0; at = 0; sliced = false; begun = 0; packets = 0; before = 0 })
begin_walk bytes limit = record {
  limit = limit;
  known = omega arith;
  rest = refl;
  within = omega arith;
  sliced = refl;
  begun = refl;
  packets = refl;
  before = refl;
  few = omega arith;
  few_begun = omega arith;
  few_packets = omega arith;
  order = omega arith;
}

-- ---- the units that are listed

pub listed_more : (bytes : List ℕ) (i : ℕ) → first_units bytes (suc i) ≡ first_units bytes i ++ unit_in bytes i ∷ []
listed_more bytes i = let e : 0 + i ≡ i = omega arith in map_more (unit_in bytes) 0 i ∙ ap (λ (k : ℕ). first_units bytes i ++ unit_in bytes k ∷ []) e

pub inside_more : (bytes : List ℕ) (number : ℕ) (unit : NalUnit) → unit ≡ unit_in bytes number → unit.from < unit.to → unit.to ≤ length bytes
    → AreInside bytes number
    → (i : ℕ) → i < suc number → IsInside bytes (unit_at (nal_units bytes) i)
inside_more bytes number unit is some inside before i h = elim (cases_lt i number) [
  | inl less ↦ before i less
  | inr not ↦
      let same : number ≡ i = omega arith in
      let from = ap (λ (u : NalUnit). u.from) is in
      let to = ap (λ (u : NalUnit). u.to) is in
      let here : IsInside bytes (unit_at (nal_units bytes) number) = record { some = omega arith; inside = omega arith } in
      subst (λ (k : ℕ). IsInside bytes (unit_at (nal_units bytes) k)) same here
]
