-- In a whole capture, each packet without a timestamp is known, because the stamp that it is counted from is kept.
use Rattle.std.proofs.Common.{◌≡◌, ℕ, zero, suc, ◌+◌, ◌-◌, ◌<◌, ◌≤◌, Bool, true, false, pos, List, [], ◌∷◌, ◌++◌, length, map, drop, Option, Some, None, is_some, refl, sym, ap, ◌∙◌, subst, inr, arith, length-append}
use Rattle.std.specs.Prelude.{Contains, IsSome, nat_le, if◌then◌else◌, option_and_then, option_map, take}
use Rattle.std.specs.List.{cons_option, filter_map, range_with_len}
use Rattle.std.proofs.lemmas.Bool.Decides.{nat_tests}
use Rattle.std.proofs.lemmas.List.Elements.{Contains-append_right}
use Rattle.pcap_frames.specs.Capture.{Record}
use Rattle.time_unfold.specs.declared.head_rule.Distance.{Distance}
use Rattle.time_unfold.specs.declared.head_rule.Head.{Head}
use Rattle.time_unfold.specs.declared.stamp.Stamp.{Stamp}
use Rattle.time_unfold.specs.Heads.{distance}
use Rattle.time_unfold.specs.Stamps.{last_of, same_flag}
use Rattle.stream_journal.specs.Conforming.{HoldsEight, IsAudio}
use Rattle.stream_journal.specs.Delivered.{Copy}
use Rattle.stream_journal.specs.Found.{IsExpected}
use Rattle.stream_journal.specs.Heads.{stamp_at}
use Rattle.stream_journal.specs.Journal.{Journal, head_from, head_of, rule_of}
use Rattle.stream_journal.specs.Known.{IsCounted, stamps_in}
use Rattle.stream_journal.proofs.Apart.{back_of}
use Rattle.stream_journal.proofs.OneInstant.{no_restart}
use Rattle.packet_journal.specs.Delivered.{AreFrom, OfStream, stream_numbers}
use Rattle.packet_journal.specs.Packets.{PacketJournal}
use Rattle.listener.specs.declared.plan.ListenPlan.{ListenPlan}
use Rattle.listener.specs.Heard.{deliveries_of}
use Rattle.listener.specs.Known.{IsKnownCopy}
use Rattle.listener.specs.Laws.{by_clock}

-- ---- the packet that another packet is counted from

-- Packet n is counted from a stamped packet, which was sent `far.packets` packets earlier. No restart lies between
-- these two packets.
pub record IsBack (j : Journal) (n : ℕ) : Type 0 where
  pub far : Distance
  pub back : distance (rule_of j.kind n) n j.count ≡ Some far
  pub within : far.packets ≤ n
  pub one_run : j.mr (n - far.packets) ≡ j.mr n
  pub instant : ℕ
  pub stamped : j.stamp (n - far.packets) ≡ Some instant

flags_so : (a b : Bool) → same_flag a b ≡ true → a ≡ b
flags_so true true e = refl
flags_so true false e = absurd cc
flags_so false true e = absurd cc
flags_so false false e = refl

le_so : (a b : ℕ) → nat_le a b ≡ true → a ≤ b
le_so a b e = grind (arith, nat_tests)

stamp_back : (j : Journal) (n : ℕ) (far : Distance) (a b : Bool) (r : Option ℕ) → distance (rule_of j.kind n) n j.count ≡ Some far → nat_le far.packets n ≡ a → same_flag (j.mr (n - far.packets)) (j.mr n) ≡ b → j.stamp (n - far.packets) ≡ r
    → IsSome {T = Head} (if a then if b then option_map (λ (instant : ℕ). record { instant = pos instant; first = pos far.samples }) r else None else None) → IsBack j n
stamp_back j n far true true (Some instant) e f g h some = record { far = far; back = e; within = le_so far.packets n f; one_run = flags_so (j.mr (n - far.packets)) (j.mr n) g; instant = instant; stamped = h }
stamp_back j n far true true None e f g h some = absurd cc
stamp_back j n far true false r e f g h some = absurd cc
stamp_back j n far false b r e f g h some = absurd cc

back_by : (j : Journal) (n : ℕ) (o : Option Distance) → distance (rule_of j.kind n) n j.count ≡ o → IsSome (option_and_then (head_from j n) o) → IsBack j n
back_by j n None e some = absurd cc
back_by j n (Some far) e some = stamp_back j n far (nat_le far.packets n) (same_flag (j.mr (n - far.packets)) (j.mr n)) (j.stamp (n - far.packets)) e refl refl refl some

pub is_back : (j : Journal) (n : ℕ) → j.stamp n ≡ None → IsSome (head_of j n) → IsBack j n
is_back j n none some = back_by j n (distance (rule_of j.kind n) n j.count) refl (rw none at some)

-- ---- the stamp of that packet is kept

pub more_range : (a x y : ℕ) → range_with_len a (x + y) ≡ range_with_len a x ++ range_with_len (a + x) y
more_range a zero y =
    let same : a ≡ a + 0 = omega arith in
    let none : 0 + y ≡ y = omega arith in
    ap (λ (m : ℕ). range_with_len a m) none ∙ ap (λ (b : ℕ). range_with_len b y) same
more_range a (suc x) y =
    let next : a + 1 + x ≡ a + suc x = omega arith in
    let sum : suc x + y ≡ suc (x + y) = omega arith in
    ap (λ (m : ℕ). range_with_len a m) sum ∙ ap (λ (l : List ℕ). a ∷ l) (more_range (a + 1) x y ∙ ap (λ (b : ℕ). range_with_len (a + 1) x ++ range_with_len b y) next)

cons_front : (o : Option Stamp) (xs ys : List Stamp) → cons_option o (xs ++ ys) ≡ cons_option o xs ++ ys
cons_front None xs ys = refl
cons_front (Some x) xs ys = refl

more_stamps : (f : ℕ → Option Stamp) (xs ys : List ℕ) → filter_map f (xs ++ ys) ≡ filter_map f xs ++ filter_map f ys
more_stamps f [] ys = refl
more_stamps f (x ∷ xs) ys = ap (cons_option (f x)) (more_stamps f xs ys) ∙ cons_front (f x) (filter_map f xs) (filter_map f ys)

cons_most : (o : Option Stamp) (xs : List Stamp) → length (cons_option o xs) ≤ suc (length xs)
cons_most None xs = omega arith
cons_most (Some x) xs = omega arith

few_stamps : (f : ℕ → Option Stamp) (a k : ℕ) → length (filter_map f (range_with_len a k)) ≤ k
few_stamps f a zero = omega arith
few_stamps f a (suc k) = omega (arith, cons_most (f a) (filter_map f (range_with_len (a + 1) k)), few_stamps f (a + 1) k)

drop_has : (k : ℕ) (xs ys : List Stamp) (x : Stamp) → k ≤ length xs → Contains ys x → Contains (drop k (xs ++ ys)) x
drop_has zero xs ys x le has = Contains-append_right xs ys x has
drop_has (suc k) [] ys x le has = absurd (omega arith)
drop_has (suc k) (y ∷ xs) ys x le has = drop_has k xs ys x (omega arith) has

last_has : (room : ℕ) (xs ys : List Stamp) (x : Stamp) → length ys ≤ room → Contains ys x → Contains (last_of room (xs ++ ys)) x
last_has room xs ys x few has = drop_has (length (xs ++ ys) - room) xs ys x (omega (arith, length-append xs ys, few)) has

first_stamp : (f : ℕ → Option Stamp) (a k c : ℕ) (x : Stamp) → a ≡ k → f k ≡ Some x → Contains (filter_map f (range_with_len a (suc c))) x
first_stamp f a k c x same e = rw (same, e) (0, omega arith, refl)

pub stamp_kept : (j : Journal) (room k m instant : ℕ) → j.stamp k ≡ Some instant → k < m → m ≤ k + room → Contains (last_of room (stamps_in j (range_with_len 0 m))) (stamp_at j k instant)
stamp_kept j room k m instant e below few =
    let f : ℕ → Option Stamp = λ (n : ℕ). option_map (stamp_at j n) (j.stamp n) in
    let c : ℕ = m - (k + 1) in
    let parts : m ≡ k + suc c = omega (arith, below) in
    let split : filter_map f (range_with_len 0 m) ≡ filter_map f (range_with_len 0 k) ++ filter_map f (range_with_len (0 + k) (suc c)) =
    ap (λ (n : ℕ). filter_map f (range_with_len 0 n)) parts ∙ (ap (filter_map f) (more_range 0 k (suc c)) ∙ more_stamps f (range_with_len 0 k) (range_with_len (0 + k) (suc c))) in
    let here : f k ≡ Some (stamp_at j k instant) = rw e refl in
    let has : Contains (filter_map f (range_with_len (0 + k) (suc c))) (stamp_at j k instant) = first_stamp f (0 + k) k c (stamp_at j k instant) (omega arith) here in
    subst (λ (l : List Stamp). Contains (last_of room l) (stamp_at j k instant)) (sym split)
    (last_has room (filter_map f (range_with_len 0 k)) (filter_map f (range_with_len (0 + k) (suc c))) (stamp_at j k instant) (omega (arith, few_stamps f (0 + k) (suc c), parts, few)) has)

-- ---- what arrived

-- A capture has `count` packets, from packet a on. The first `size` packets of the capture, or all of them if there are
-- fewer, are the `m` packets from packet a on.
record IsFront (size a count : ℕ) : Type 0 where
  m : ℕ
  numbers : stream_numbers (take size (map OfStream (range_with_len a count))) ≡ range_with_len a m
  most : m ≤ size
  holds : (k : ℕ) → k < size → k < count → k < m

front : (size a count : ℕ) → IsFront size a count
front zero a count = record { m = 0; numbers = refl; most = omega arith; holds = λ k lt known. lt }
front (suc size) a zero = record { m = 0; numbers = refl; most = omega arith; holds = λ k lt known. known }
front (suc size) a (suc count) =
    let rest = front size (a + 1) count in
    record {
      m = suc rest.m;
      numbers = ap (λ (l : List ℕ). a ∷ l) rest.numbers;
      most = omega (arith, rest.most);
      holds = λ k lt known. holds_by k lt known rest;
    }
  where
    holds_by : (k : ℕ) → k < suc size → k < suc count → (rest : IsFront size (a + 1) count) → k < suc rest.m
    holds_by zero lt known rest = omega arith
    holds_by (suc k) lt known rest = let less = rest.holds k (omega arith) (omega arith) in omega arith

-- ---- if the stamp of a packet is kept, the packet is known

not_both : (b : Bool) → b ≡ false → b ≡ true → ⊥
not_both b e f = cc

counted : (j : Journal) (lead look : ℕ) (c : Copy) (m : ℕ) → IsAudio j → HoldsEight j.packets j.mr → c.number < j.packets → j.stamp c.number ≡ None → IsSome (head_of j c.number) → IsExpected j lead c → c.number < m → m ≤ c.number + look + 1
    → IsCounted j lead (look + 16) c (range_with_len 0 m)
counted j lead look c m is holds known none some near below most =
    let n : ℕ = c.number in
    let b = is_back j n none some in
    let has = back_of (rule_of j.kind n) n j.count b.far is.some b.back in
    let k : ℕ = n - b.far.packets in
    let within = b.within in
    let few = has.few in
    record {
      none = none;
      far = b.far;
      back = b.back;
      stamp = stamp_at j k b.instant;
      at_hand = record {
        back = b.within;
        is = record { known = omega arith; instant = b.instant; stamped = b.stamped; same = refl };
        no_restart = λ i from to. no_restart j holds n b.far.packets i known b.within (omega arith) b.one_run from to;
        kept = stamp_kept j (look + 16) k m b.instant b.stamped (omega arith) (omega arith);
      };
      expected = near;
    }

pub known_counted : (p : PacketJournal) (plan : ListenPlan) (records : List Record) (c : Copy) → plan.clock ≡ None → IsAudio p.times → HoldsEight p.times.packets p.times.mr → c.number < p.times.packets → p.times.stamp c.number ≡ None → IsSome (head_of p.times c.number) → IsExpected p.times plan.lead c
    → AreFrom p plan.lead (map OfStream (range_with_len 0 p.times.packets)) (deliveries_of plan records) → IsKnownCopy p plan records c.number c
known_counted p plan records c off is holds known none some near from =
    let by_is : by_clock plan ≡ false = rw off refl in
    let size : ℕ = c.number + plan.look + 1 in
    let f = front size 0 p.times.packets in
    let below = f.holds c.number (omega arith) known in
    let most = f.most in
    record {
      origins = map OfStream (range_with_len 0 p.times.packets);
      from = from;
      is = record {
        timed = inr (subst (λ (l : List ℕ). IsCounted p.times plan.lead (plan.look + 16) c l) (sym f.numbers) (counted p.times plan.lead plan.look c f.m is holds known none some near below (omega arith)));
        covered = λ on head e. absurd (not_both (is_some plan.clock) by_is on);
      };
    }
