-- A stamp with the wanted sequence number is either the wanted stamp or far from it in time.
use Rattle.std.proofs.Common.{◌≡◌, ◌≢◌, inl, inr, ℕ, zero, suc, ◌+◌, ◌-◌, ◌*◌, ◌/◌, ◌%◌, ◌<◌, ◌≤◌, Bool, true, false, pos, neg_ℤ, Some, None, is_some, refl, sym, ◌∙◌, arith}
use Rattle.std.specs.Prelude.{nat_lt, ◌==◌, if◌then◌else◌}
use Rattle.std.specs.Int.{div_ceil}
use Rattle.std.proofs.Math.Nat.{mul-le-mul_left}
use Rattle.std.proofs.lemmas.Bool.{cases_lt}
use Rattle.std.proofs.lemmas.Bool.Decides.{nat_tests}
use Rattle.std.proofs.lemmas.Grind.{div_ceil_times}
use Rattle.std.proofs.lemmas.Nat.{div-add-mod', mod_below}
use Rattle.time_unfold.specs.declared.head_rule.Distance.{Distance}
use Rattle.time_unfold.specs.declared.head_rule.HeadRule.{HeadRule}
use Rattle.time_unfold.specs.declared.head_rule.HeadRule.TheVariants.{Own, Eight, Blocks}
use Rattle.time_unfold.specs.Heads.{distance, stamped_index}
use Rattle.stream_journal.specs.Journal.{Journal, head_of, rule_of}
use Rattle.stream_journal.specs.Conforming.{IsAudio, is_stamped}
use Rattle.stream_journal.specs.Heads.{AreApart, behind}
use Rattle.stream_journal.proofs.Spacing.{IsBefore, before_stamp, spaced}

-- ---- how far back the wanted stamp is

pub record IsBack (count packets samples : ℕ) : Type 0 where
  pub some : 1 ≤ packets
  pub few : packets ≤ 7
  pub from : packets * count + 1 ≤ samples + count
  pub to : samples ≤ packets * count

eight_back : (n count : ℕ) (far : Distance) (b : Bool) → (n % 8 == 0) ≡ b → 1 ≤ count
    → (if b then None else Some (record { packets = n % 8; samples = n % 8 * count })) ≡ Some far → IsBack count far.packets far.samples
eight_back n count far true e some f = absurd cc
eight_back n count far false e some f =
    let same : record { packets = n % 8; samples = n % 8 * count } ≡ far = cc in
    let least : 1 ≤ n % 8 = grind (arith, nat_tests) in
    rw (← same) (record { some = least; few = omega arith; from = omega arith; to = omega arith })

some_of : (c count r : ℕ) → 1 ≤ r → r ≤ c * count → 1 ≤ c
some_of zero count r some h = absurd (omega arith)
some_of (suc c) count r some h = omega arith

blocks_back : (r count : ℕ) (far : Distance) (a b : Bool) → (r == 0) ≡ a → nat_lt 7 (div_ceil r count) ≡ b → 1 ≤ count
    → (if a then None else if b then None else Some (record { packets = div_ceil r count; samples = r })) ≡ Some far → IsBack count far.packets far.samples
blocks_back r count far true b e g some f = absurd cc
blocks_back r count far false true e g some f = absurd cc
blocks_back r count far false false e g some f =
    let same : record { packets = div_ceil r count; samples = r } ≡ far = cc in
    let least : 1 ≤ r = grind (arith, nat_tests) in
    let most : div_ceil r count ≤ 7 = grind (arith, nat_tests) in
    let times = div_ceil_times r count some in
    let from : r ≤ div_ceil r count * count = times.0 in
    let to : div_ceil r count * count < r + count = times.1 in
    rw (← same) (record { some = some_of (div_ceil r count) count r least from; few = most; from = omega arith; to = from })

pub back_of : (rule : HeadRule) (n count : ℕ) (far : Distance) → 1 ≤ count → distance rule n count ≡ Some far → IsBack count far.packets far.samples
back_of Own n count far some e = absurd cc
back_of Eight n count far some e = eight_back n count far (n % 8 == 0) refl some e
back_of (Blocks dbc interval) n count far some e =
    blocks_back (dbc % interval) count far (dbc % interval == 0) (nat_lt 7 (div_ceil (dbc % interval) count)) refl refl some e

-- ---- the arithmetic of the distance on both sides

ahead : (dn dk p q r count index back d m : ℕ) → r ≤ 1000000000 → 4 * (dn * r) + 3 * m * (count * 1000000000) ≤ 4 * (dk * r)
    → IsBefore r dk p index → back * 1000000000 < q * r + r → IsBack count d back → 1 ≤ count → 256 ≤ m + d
    → dn * r + 189 * (count * 1000000000) < (p + q) * r
ahead dn dk p q r count index back d m slow apart before div is some far =
    let times : count * 256 ≤ count * (m + d) = mul-le-mul_left count far in
    let from = before.from in
    let least = is.from in
    omega arith

behind_it : (dn dk p q r count index back d m : ℕ) → r ≤ 1000000000 → 4 * (dk * r) + 3 * m * (count * 1000000000) ≤ 4 * (dn * r)
    → IsBefore r dk p index → index < count → q * r ≤ back * 1000000000 → IsBack count d back → 1 ≤ count → d + 256 ≤ m
    → (p + q) * r + 189 * (count * 1000000000) < dn * r
behind_it dn dk p q r count index back d m slow apart before within div is some far =
    let times : count * (d + 256) ≤ count * m = mul-le-mul_left count far in
    let few : count * d ≤ count * 7 = mul-le-mul_left count is.few in
    let to = before.to in
    let most = is.to in
    omega arith

-- ---- a packet's own stamp

index_within : (rule : HeadRule) (k count : ℕ) → 1 ≤ count → is_stamped rule k count ≡ true → stamped_index rule < count
index_within Own k count some e = omega arith
index_within Eight k count some e = omega arith
index_within (Blocks dbc interval) k count some e = grind (arith, nat_tests)

pub stamped_within : (j : Journal) → IsAudio j → (k instant : ℕ) → k < j.packets → j.stamp k ≡ Some instant → stamped_index (rule_of j.kind k) < j.count
stamped_within j is k instant known e =
    let stamped : is_some (j.stamp k) ≡ true = rw e refl in
    index_within (rule_of j.kind k) k j.count is.some (sym (is.stamps k known) ∙ stamped)

head_by : (j : Journal) (k instant : ℕ) → j.stamp k ≡ Some instant → head_of j k ≡ Some (record { instant = pos instant; first = neg_ℤ (pos (stamped_index (rule_of j.kind k))) })
head_by j k instant e = rw e refl

-- a packet with a timestamp is due `stamped_index` samples before the timestamp's instant
pub due_before : (j : Journal) → IsAudio j → (k instant : ℕ) → k < j.packets → j.stamp k ≡ Some instant → IsBefore j.rate (j.due k) instant (stamped_index (rule_of j.kind k))
due_before j is k instant known e =
    before_stamp (j.due k) instant (stamped_index (rule_of j.kind k)) j.rate (let some = is.rate_from in omega arith)
    (is.first_instants k (record { instant = pos instant; first = neg_ℤ (pos (stamped_index (rule_of j.kind k))) }) known (head_by j k instant e))

-- ---- the stamp of another packet is far away

pub apart : (j : Journal) → IsAudio j → (n k instant : ℕ) (far : Distance) → n < j.packets → k < j.packets → j.stamp k ≡ Some instant
    → distance (rule_of j.kind n) n j.count ≡ Some far → (k + far.packets) % 256 ≡ n % 256 → k + far.packets ≢ n
    → AreApart j 189 (j.due n) (behind j instant far.samples)
apart j is n k instant far known stamped e back same other =
    let some = is.some in
    let rate_from = is.rate_from in
    let rate_to = is.rate_to in
    let has = back_of (rule_of j.kind n) n j.count far some back in
    let q : ℕ = far.samples * 1000000000 / j.rate in
    let div = div-add-mod' (far.samples * 1000000000) j.rate in
    let rest = mod_below (far.samples * 1000000000) j.rate (omega arith) in
    let before = due_before j is k instant stamped e in
    let within = stamped_within j is k instant stamped e in
    let few = has.few in
    elim (cases_lt (k + far.packets) n) [
      | inl h ↦
          let m : ℕ = n - k in
          let there : k + m ≡ n = omega arith in
          let spacing = rw there at (spaced j is k m (omega arith)) in
          inr (behind_it (j.due n) (j.due k) instant q j.rate j.count (stamped_index (rule_of j.kind k)) far.samples far.packets m (omega arith) spacing before within (omega arith) has some (omega arith))
      | inr h ↦
          let m : ℕ = k - n in
          let there : n + m ≡ k = omega arith in
          let spacing = rw there at (spaced j is n m (omega arith)) in
          inl (ahead (j.due n) (j.due k) instant q j.rate j.count (stamped_index (rule_of j.kind k)) far.samples far.packets m (omega arith) spacing before (omega arith) has some (omega arith))
    ]
