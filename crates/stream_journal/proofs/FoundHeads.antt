-- A stamp that is at hand is found.
use Rattle.std.proofs.Common.{◌≡◌, inl, inr, ◌⊎◌, ℕ, zero, suc, ◌+◌, ◌-◌, ◌*◌, ◌%◌, ◌<◌, ◌≤◌, Bool, true, false, pos, ◌-ℤ◌, List, ◌∷◌, ◌++◌, All, Option, Some, None, is_some, refl, sym, ap, ◌∙◌, subst, arith}
use Rattle.std.specs.Prelude.{◌==◌, nat_le, nat_lt, if◌then◌else◌, unsigned_abs, IfSome, Contains}
use Rattle.std.specs.Int.{div_ceil}
use Rattle.std.proofs.Math.Nat.{mul-le-mul_left}
use Rattle.std.proofs.lemmas.Bool.{cases_lt, le-leb}
use Rattle.std.proofs.lemmas.Bool.Decides.{nat_tests}
use Rattle.std.proofs.lemmas.Int.{ints}
use Rattle.std.proofs.lemmas.List.Elements.{All-contains, Contains-append_right}
use Rattle.time_unfold.specs.declared.head_rule.Distance.{Distance}
use Rattle.time_unfold.specs.declared.head_rule.Head.{Head}
use Rattle.time_unfold.specs.declared.stamp.Stamp.{Stamp}
use Rattle.time_unfold.specs.declared.stamp.Want.{Want}
use Rattle.time_unfold.specs.Heads.{counted_block, distance, stamped_block, stamped_index}
use Rattle.time_unfold.specs.Stamps.{IsFound, fits, found, is_near, last_of, same_block, same_flag}
use Rattle.time_unfold.specs.declared.head_rule.HeadRule.TheVariants.{Blocks}
use Rattle.time_unfold.proofs.Found.{find_last-found}
use Rattle.stream_journal.specs.Journal.{Journal, Kind, DenseAaf, SparseAaf, Am824, H264, nominal_instant, rule_of}
use Rattle.stream_journal.specs.Conforming.{BlocksGoOn, HasBlocks, HoldsEight, IsAudio, is_stamped}
use Rattle.stream_journal.specs.Delivered.{Copy}
use Rattle.stream_journal.specs.Found.{IsAtHand, IsExpected}
use Rattle.stream_journal.specs.Heads.{IsHeadOf, IsTrue, IsUnstamped, behind, stamp_at, wanted}
use Rattle.stream_journal.proofs.Apart.{back_of, stamped_within}
use Rattle.stream_journal.proofs.OneInstant.{no_restart}
use Rattle.stream_journal.proofs.TrueHeads.{flag_of, head_back, true_heads}

-- ---- the packet is due at the counted instant

counted_due : (j : Journal) → IsAudio j → (n : ℕ) (far : Distance) (stamp : Stamp) → n < j.packets → j.stamp n ≡ None → distance (rule_of j.kind n) n j.count ≡ Some far
    → (is : IsHeadOf j n far stamp) → j.due n ≡ behind j is.is.instant far.samples
counted_due j is n far stamp known none back h =
    let head : Head = record { instant = stamp.instant; first = pos far.samples } in
    let at : pos (j.due n) ≡ nominal_instant j head 0 = is.first_instants n head known (head_back j n far stamp none back h) in
    let instant : stamp.instant ≡ pos h.is.instant = ap (λ (s : Stamp). s.instant) h.is.same in
    let first : far.samples + 0 ≡ far.samples = omega arith in
    let there : pos (j.due n) ≡ pos (behind j h.is.instant far.samples) = rw (instant, first) at at in
    omega (arith, ints)

-- ---- the counted instant is near the expected one

difference : (x y : ℕ) → unsigned_abs (pos x -ℤ pos y) ≡ (x - y) + (y - x)
difference x y = omega (arith, ints)

apart_most : (x d r w : ℕ) → (x + d) * r ≤ x * r + w → d * r ≤ w
apart_most x d r w h = omega arith

apart_least : (x d r w : ℕ) → d * r ≤ w → (x + d) * r ≤ x * r + w
apart_least x d r w h = omega arith

below_so : (x y r w : ℕ) → x ≤ y → y * r ≤ x * r + w → ((x - y) + (y - x)) * r ≤ w
below_so x y r w below h =
    let place : x + (y - x) ≡ y = omega arith in
    let all : (x - y) + (y - x) ≡ y - x = omega arith in
    rw all (apart_most x (y - x) r w (rw place h))

above_so : (x y r w : ℕ) → y ≤ x → x * r ≤ y * r + w → ((x - y) + (y - x)) * r ≤ w
above_so x y r w above h =
    let place : y + (x - y) ≡ x = omega arith in
    let all : (x - y) + (y - x) ≡ x - y = omega arith in
    rw all (apart_most y (x - y) r w (rw place h))

near_so : (x y r w : ℕ) → y * r ≤ x * r + w → x * r ≤ y * r + w → ((x - y) + (y - x)) * r ≤ w
near_so x y r w from to = elim (cases_lt x y) [
  | inl below ↦ below_so x y r w (omega arith) from
  | inr above ↦ above_so x y r w above to
]

within_so : (x y r w : ℕ) → ((x - y) + (y - x)) * r ≤ w → y * r ≤ x * r + w
within_so x y r w h = elim (cases_lt x y) [
  | inl below ↦
      let place : x + (y - x) ≡ y = omega arith in
      let all : (x - y) + (y - x) ≡ y - x = omega arith in
      subst (λ (z : ℕ). z * r ≤ x * r + w) place (apart_least x (y - x) r w (rw all at h))
  | inr above ↦ let times : r * y ≤ r * x = mul-le-mul_left r above in omega arith
]

other_way : (x y r w : ℕ) → ((x - y) + (y - x)) * r ≤ w → ((y - x) + (x - y)) * r ≤ w
other_way x y r w h = let same : (y - x) + (x - y) ≡ (x - y) + (y - x) = omega arith in rw same h

le_so : (a b : ℕ) → nat_le a b ≡ true → a ≤ b
le_so a b e = grind (arith, nat_tests)

one_reach : (count : ℕ) → 60 * count * 1000000000 ≡ 60 * (count * 1000000000)
one_reach count = omega arith

near_true : (x p r count : ℕ) → ((x - p) + (p - x)) * r ≤ 60 * (count * 1000000000) → nat_le (unsigned_abs (pos x -ℤ pos p) * r) (60 * count * 1000000000) ≡ true
near_true x p r count h = rw (difference x p) (le-leb (((x - p) + (p - x)) * r) (60 * count * 1000000000) (rw (one_reach count) h))

near_only : (x p r count : ℕ) → nat_le (unsigned_abs (pos x -ℤ pos p) * r) (60 * count * 1000000000) ≡ true → ((x - p) + (p - x)) * r ≤ 60 * (count * 1000000000)
near_only x p r count e = rw (one_reach count) at (le_so (((x - p) + (p - x)) * r) (60 * count * 1000000000) (rw (difference x p) at e))

-- ---- the data block counters

blocks_on : (interval : ℕ) (dbc : ℕ → ℕ) (count packets : ℕ) → BlocksGoOn interval dbc count packets → (k m : ℕ) → k + m < packets → dbc (k + m) % 256 ≡ (dbc k + m * count) % 256
blocks_on interval dbc count packets is k zero known = let e : k + 0 ≡ k = omega arith in rw e (omega arith)
blocks_on interval dbc count packets is k (suc m) known =
    let before = blocks_on interval dbc count packets is k m (omega arith) in
    let e : k + suc m ≡ suc (k + m) = omega arith in
    let next = is.next (k + m) (omega arith) in
    rw (e, next) (omega arith)

below_256 : (interval : ℕ) (dbc : ℕ → ℕ) (count packets : ℕ) → BlocksGoOn interval dbc count packets → (n : ℕ) → n < packets → dbc n < 256
below_256 interval dbc count packets is zero known = is.first
below_256 interval dbc count packets is (suc n) known = let next = is.next n known in omega arith

-- Packet b is counted from the stamped block of packet a. The first block of b is t blocks after the first block of a,
-- and b has no stamped block.
abbrev IsOneBlock : ℕ → ℕ → ℕ → ℕ → ℕ → Type 0
IsOneBlock interval a b t count =
    a < 256 → b < 256 → b ≡ (a + t) % 256 → 1 ≤ b % interval → b % interval ≤ t → t + 1 ≤ b % interval + count → count ≤ (interval - b % interval) % interval
    → (interval - a % interval) % interval < count → (a + (interval - a % interval) % interval) % 256 ≡ (b + 256 - b % interval) % 256

eight : (a b t count : ℕ) → IsOneBlock 8 a b t count
eight a b t count small small_too e some from to few index = omega arith

sixteen : (a b t count : ℕ) → IsOneBlock 16 a b t count
sixteen a b t count small small_too e some from to few index = omega arith

thirty_two : (a b t count : ℕ) → IsOneBlock 32 a b t count
thirty_two a b t count small small_too e some from to few index = omega arith

one_block : (interval a b t count : ℕ) → (interval ≡ 8) ⊎ ((interval ≡ 16) ⊎ (interval ≡ 32)) → IsOneBlock interval a b t count
one_block interval a b t count (inl e) = subst (λ (i : ℕ). IsOneBlock i a b t count) (sym e) (eight a b t count)
one_block interval a b t count (inr (inl e)) = subst (λ (i : ℕ). IsOneBlock i a b t count) (sym e) (sixteen a b t count)
one_block interval a b t count (inr (inr e)) = subst (λ (i : ℕ). IsOneBlock i a b t count) (sym e) (thirty_two a b t count)

record IsBlocksBack (r : ℕ) (far : Distance) : Type 0 where
  some : 1 ≤ r
  samples : far.samples ≡ r

blocks_far : (r count : ℕ) (far : Distance) (a b : Bool) → (r == 0) ≡ a → (if a then None else if b then None else Some (record { packets = div_ceil r count; samples = r })) ≡ Some far → IsBlocksBack r far
blocks_far r count far true b e f = absurd cc
blocks_far r count far false true e f = absurd cc
blocks_far r count far false false e f =
    let same : record { packets = div_ceil r count; samples = r } ≡ far = cc in
    rw (← same) (record { some = grind (arith, nat_tests); samples = refl })

equal_so : (a b : ℕ) → a ≡ b → (a == b) ≡ true
equal_so a b e = grind (arith, nat_tests)

not_below : (a b : ℕ) → nat_lt a b ≡ false → b ≤ a
not_below a b e = grind (arith, nat_tests)

same_blocks : (kind : Kind) (count packets n : ℕ) (far : Distance) → 1 ≤ count → HasBlocks kind count packets → n < packets → far.packets ≤ n → distance (rule_of kind n) n count ≡ Some far
    → stamped_index (rule_of kind (n - far.packets)) < count → is_stamped (rule_of kind n) n count ≡ false
    → same_block (stamped_block (rule_of kind (n - far.packets))) (counted_block (rule_of kind n)) ≡ true
same_blocks DenseAaf count packets n far some is known back e index none = refl
same_blocks SparseAaf count packets n far some is known back e index none = refl
same_blocks (H264 part) count packets n far some is known back e index none = refl
same_blocks (Am824 interval dbc) count packets n far some is known back e index none =
    let k : ℕ = n - far.packets in
    let place : k + far.packets ≡ n = omega arith in
    let small = below_256 interval dbc count packets is k (omega arith) in
    let small_too = below_256 interval dbc count packets is n known in
    let on = rw place at (blocks_on interval dbc count packets is k far.packets (omega arith)) in
    let far_is = blocks_far (dbc n % interval) count far (dbc n % interval == 0) (nat_lt 7 (div_ceil (dbc n % interval) count)) refl e in
    let has = back_of (Blocks (dbc n) interval) n count far some e in
    let from = has.from in
    let to = has.to in
    let samples = far_is.samples in
    let few = not_below (stamped_index (Blocks (dbc n) interval)) count none in
    let next : dbc n ≡ (dbc k + far.packets * count) % 256 = omega arith in
    equal_so ((dbc k + stamped_index (Blocks (dbc k) interval)) % 256) ((dbc n + 256 - dbc n % interval) % 256)
    (one_block interval (dbc k) (dbc n) (far.packets * count) count is.standard small small_too next far_is.some (omega arith) (omega arith) few index)

-- ---- the stamp fits

all_so : (a b c d e : Bool) → a ≡ true → b ≡ true → c ≡ true → d ≡ true → e ≡ true → (if a then if b then if c then if d then e else false else false else false else false) ≡ true
all_so a b c d e p q r s t = rw (p, q, r, s, t) refl

back_number : (n d : ℕ) → d ≤ 7 → d ≤ n → (n - d) % 256 ≡ (n % 256 + 256 - d) % 256
back_number n d few back = omega arith

is_expected : (j : Journal) (lead : ℕ) (c : Copy) → IsExpected j lead c → (((c.arrival + lead) - j.due c.number) + (j.due c.number - (c.arrival + lead))) * j.rate ≤ 60 * (j.count * 1000000000)
is_expected j lead c near = near_so (c.arrival + lead) (j.due c.number) j.rate (60 * (j.count * 1000000000)) near.from near.to

not_stamped : (j : Journal) → IsAudio j → (n : ℕ) → n < j.packets → j.stamp n ≡ None → is_stamped (rule_of j.kind n) n j.count ≡ false
not_stamped j is n known none =
    let stamps = is.stamps n known in
    sym stamps ∙ ap is_some none

at_hand_fits : (j : Journal) → IsAudio j → (lead : ℕ) (c : Copy) (far : Distance) (stamp : Stamp) → IsUnstamped j lead c far → IsExpected j lead c → IsHeadOf j c.number far stamp → fits (wanted j lead c far) stamp ≡ true
at_hand_fits j is lead c far stamp un near h =
    let n : ℕ = c.number in
    let k : ℕ = n - far.packets in
    let has = back_of (rule_of j.kind n) n j.count far is.some un.back in
    let index = stamped_within j is k h.is.instant h.is.known h.is.stamped in
    let due = counted_due j is n far stamp un.came.known un.none un.back h in
    let reach : (((c.arrival + lead) - behind j h.is.instant far.samples) + (behind j h.is.instant far.samples - (c.arrival + lead))) * j.rate ≤ 60 * (j.count * 1000000000) =
    rw due at (is_expected j lead c near) in
    rw h.is.same
    (all_so (k % 256 == (n % 256 + 256 - far.packets) % 256) (same_flag (j.mr k) (j.mr n)) (j.rate == j.rate)
    (same_block (stamped_block (rule_of j.kind k)) (counted_block (rule_of j.kind n))) (is_near (wanted j lead c far) (stamp_at j k h.is.instant))
    (equal_so (k % 256) ((n % 256 + 256 - far.packets) % 256) (back_number n far.packets has.few h.back))
    (flag_of (j.mr k) (j.mr n) h.one_run)
    (equal_so j.rate j.rate refl)
    (same_blocks j.kind j.count j.packets n far is.some is.blocks un.came.known h.back un.back index (not_stamped j is n un.came.known un.none))
    (near_true (c.arrival + lead) (behind j h.is.instant far.samples) j.rate j.count reach))

-- ---- the stamp is found

-- a packet is counted from at most one stamp
one_stamp : (j : Journal) (n : ℕ) (far : Distance) (x y : Stamp) → IsHeadOf j n far x → IsHeadOf j n far y → x ≡ y
one_stamp j n far x y a b =
    let e = a.is.stamped in
    let f = b.is.stamped in
    let same : a.is.instant ≡ b.is.instant = cc in
    a.is.same ∙ ap (λ (i : ℕ). stamp_at j (n - far.packets) i) same ∙ sym b.is.same

head_of_hand : (j : Journal) (room n : ℕ) (far : Distance) (stamps : List Stamp) (stamp : Stamp) → IsAtHand j room n far stamps stamp → IsHeadOf j n far stamp
head_of_hand j room n far stamps stamp h = record { back = h.back; is = h.is; one_run = h.no_restart (n - far.packets) (omega arith) (omega arith) }

found_by : (j : Journal) (want : Want) (room n : ℕ) (far : Distance) (stamps : List Stamp) (stamp : Stamp) (r : Option Stamp) → IsHeadOf j n far stamp → fits want stamp ≡ true → Contains (last_of room stamps) stamp
    → IsFound want (last_of room stamps) r → IfSome r (IsHeadOf j n far) → r ≡ Some stamp
found_by j want room n far stamps stamp None h fit kept f t =
    let none = All-contains (λ s. fits want s ≡ false) (last_of room stamps) stamp f kept in
    absurd cc
found_by j want room n far stamps stamp (Some s) h fit kept f t = ap (λ (x : Stamp). Some x) (one_stamp j n far s stamp t h)

pub found_so : (j : Journal) → IsAudio j → (lead room : ℕ) (c : Copy) (far : Distance) (stamps : List Stamp) (stamp : Stamp) → IsUnstamped j lead c far → All (IsTrue j) stamps
    → IsExpected j lead c → IsAtHand j room c.number far stamps stamp → found room (wanted j lead c far) stamps ≡ Some stamp
found_so j is lead room c far stamps stamp un all near hand =
    let h = head_of_hand j room c.number far stamps stamp hand in
    found_by j (wanted j lead c far) room c.number far stamps stamp (found room (wanted j lead c far) stamps) h (at_hand_fits j is lead c far stamp un near h) hand.kept
    (find_last-found (wanted j lead c far) (last_of room stamps)) (true_heads j is lead room c far stamps un all)

-- ---- no other stamp is found

last_is_near : (a b c d e : Bool) → (if a then if b then if c then if d then e else false else false else false else false) ≡ true → e ≡ true
last_is_near true true true true e h = h
last_is_near true true true false e h = absurd cc
last_is_near true true false d e h = absurd cc
last_is_near true false c d e h = absurd cc
last_is_near false b c d e h = absurd cc

near_of : (want : Want) (stamp : Stamp) → fits want stamp ≡ true → is_near want stamp ≡ true
near_of want stamp h = last_is_near (stamp.seq == want.seq) (same_flag stamp.mr want.mr) (stamp.rate == want.rate) (same_block stamp.block want.block) (is_near want stamp) h

expected_so : (j : Journal) → IsAudio j → (lead : ℕ) (c : Copy) (far : Distance) (stamp : Stamp) → IsUnstamped j lead c far → IsHeadOf j c.number far stamp → is_near (wanted j lead c far) stamp ≡ true → IsExpected j lead c
expected_so j is lead c far stamp un h near =
    let due = counted_due j is c.number far stamp un.came.known un.none un.back h in
    let within = near_only (c.arrival + lead) (behind j h.is.instant far.samples) j.rate j.count (rw h.is.same at near) in
    let within = rw (← due) at within in
    record {
      from = within_so (c.arrival + lead) (j.due c.number) j.rate (60 * (j.count * 1000000000)) within;
      to = within_so (j.due c.number) (c.arrival + lead) j.rate (60 * (j.count * 1000000000)) (other_way (c.arrival + lead) (j.due c.number) j.rate (60 * (j.count * 1000000000)) within);
    }

is_in : (before behind : List Stamp) (stamp : Stamp) → Contains (before ++ stamp ∷ behind) stamp
is_in before behind stamp = Contains-append_right before (stamp ∷ behind) stamp (0, omega arith, refl)

at_hand_so : (j : Journal) → HoldsEight j.packets j.mr → (room n : ℕ) (far : Distance) (stamps : List Stamp) (stamp : Stamp) → n < j.packets → far.packets ≤ 7 → IsHeadOf j n far stamp → Contains (last_of room stamps) stamp → IsAtHand j room n far stamps stamp
at_hand_so j holds room n far stamps stamp known few h kept = record {
  back = h.back;
  is = h.is;
  no_restart = λ i from to. no_restart j holds n far.packets i known h.back (omega arith) h.one_run from to;
  kept = kept;
}

only_by : (j : Journal) → IsAudio j → HoldsEight j.packets j.mr → (lead room : ℕ) (c : Copy) (far : Distance) (stamps : List Stamp) (stamp : Stamp) (r : Option Stamp) → IsUnstamped j lead c far
    → IfSome r (IsHeadOf j c.number far) → IsFound (wanted j lead c far) (last_of room stamps) r → r ≡ Some stamp → IsExpected j lead c × IsAtHand j room c.number far stamps stamp
only_by j is holds lead room c far stamps stamp None un t f e = absurd cc
only_by j is holds lead room c far stamps stamp (Some s) un t f e =
    let has = back_of (rule_of j.kind c.number) c.number j.count far is.some un.back in
    let same : s ≡ stamp = cc in
    let kept = subst (λ (xs : List Stamp). Contains xs s) (sym f.place) (is_in f.before f.behind s) in
    rw (← same)
    (expected_so j is lead c far s un t (near_of (wanted j lead c far) s f.this_fits), at_hand_so j holds room c.number far stamps s un.came.known has.few t kept)

pub found_only : (j : Journal) → IsAudio j → HoldsEight j.packets j.mr → (lead room : ℕ) (c : Copy) (far : Distance) (stamps : List Stamp) (stamp : Stamp) → IsUnstamped j lead c far → All (IsTrue j) stamps
    → found room (wanted j lead c far) stamps ≡ Some stamp → IsExpected j lead c × IsAtHand j room c.number far stamps stamp
found_only j is holds lead room c far stamps stamp un all e =
    only_by j is holds lead room c far stamps stamp (found room (wanted j lead c far) stamps) un (true_heads j is lead room c far stamps un all) (find_last-found (wanted j lead c far) (last_of room stamps)) e
