-- If the units of a whole capture of H.264 arrive in time and there is room, each unit is presented.
use Rattle.std.proofs.Common.{◌≡◌, ℕ, zero, suc, ◌+◌, ◌-◌, ◌*◌, ◌<◌, ◌≤◌, Bool, ℤ, pos, ◌≤ℤ◌, List, [], ◌∷◌, ◌++◌, All, length, map, filter, Some, refl, sym, ap, ◌∙◌, subst, inl, inr, arith, append-nil, append_assoc, length-append}
use Rattle.std.specs.Prelude.{⊤, slice_get}
use Rattle.std.specs.Int.{int_max}
use Rattle.std.specs.List.{range_with_len}
use Rattle.std.proofs.lemmas.Bool.{cases_lt}
use Rattle.std.proofs.lemmas.Int.{ints, by_lt_z}
use Rattle.std.proofs.lemmas.List.{length-map}
use Rattle.std.proofs.lemmas.List.Elements.{All-cons, All-nil}
use Rattle.std.proofs.lemmas.List.Sums.{sum_by-cons}
use Rattle.clock_track.specs.Rows.{clock_spot}
use Rattle.pcap_frames.specs.Capture.{Record}
use Rattle.stream_journal.specs.Conforming.{Conforms}
use Rattle.stream_journal.specs.Journal.{H264, IsAtBy, Kind, Part}
use Rattle.sample_schedule.specs.declared.accepted.Accepted.{Accepted}
use Rattle.sample_schedule.specs.declared.shown.Shown.{Shown}
use Rattle.sample_schedule.specs.Order.{standing}
use Rattle.sample_schedule.specs.Schedule.{accepted, present}
use Rattle.sample_schedule.specs.Verdicts.{first_instant, total_bytes}
use Rattle.sample_schedule.proofs.OrderLemmas.{le_false, le_true}
use Rattle.sample_schedule.proofs.StageLemmas.{now-next}
use Rattle.packet_journal.specs.Packets.{PacketJournal}
use Rattle.packet_journal.specs.Units.{AreUnit, IsContentBy, IsUnitOf, unit_bytes}
use Rattle.listener.specs.declared.plan.ListenPlan.{ListenPlan}
use Rattle.listener.specs.Heard.{entries_in, items_in, schedule_plan, shown_of}
use Rattle.listener.specs.Items.{MadeItem, items_of, items_so_far, left_at_end, made_entry}
use Rattle.listener.specs.Laws.{HearsTalker, IsOfPacket, IsWelcome, accepted_before, by_clock, time_of}
use Rattle.packet_journal.specs.Deliveries.{Delivery}
use Rattle.listener.proofs.KnownItems.{unit_item_known}
use Rattle.listener.proofs.Shown.{entry_at}
use Rattle.listener.proofs.TrueOnce.{first_at, one_number}
use Rattle.listener.proofs.TrueTimely.{taken, welcome_judged}
use Rattle.listener.proofs.Welcome.{first_time}
use Rattle.talk_plan.proofs.CountLemmas.{rises}
use Rattle.talked_presented.specs.Whole.{ArePresented, ends_unit}
use Rattle.talked_presented.proofs.Accepting.{AcceptsEach, AreOf, IsAcceptedAt, all_accepted, shown_all}
use Rattle.talked_presented.proofs.Sent.{later_one}
use Rattle.talked_presented.proofs.UnitCapture.{AreMade, AreUnitsFrom, IsUnitMade, IsVideoCapture, all_units, first_ones}
use Rattle.talked_presented.proofs.UnitRuns.{ends_so, inside_unit, unit_ends, unit_low}
use Rattle.listener_laws.proofs.Anywhere.{not_full}

-- Each unit arrives in time. When packet n is judged, only packets later than packet n - `buffer` can still be waiting.
pub record AreTimelyUnits (p : PacketJournal) (part : ℕ → Part) (plan : ListenPlan) (d : ℕ → Delivery) (arr : ℕ → ℕ) : Type 0 where
  pub capture : IsVideoCapture p part plan d
  pub arrived : (n : ℕ) → (d n).arrival ≡ pos (arr n)
  pub rise : (n : ℕ) → arr n ≤ arr (n + 1)
  pub early : (n : ℕ) → n < p.times.packets → arr n ≤ p.times.due n
  pub few : (k n : ℕ) → k ≤ n → n < p.times.packets → arr n ≤ p.times.due k → n < k + plan.buffer
  pub due_rise : (k n : ℕ) → k ≤ n → p.times.due k ≤ p.times.due n
  pub bytes : (plan.buffer + 255) * 1500 ≤ plan.room

-- ---- the units in order

pub record IsUnitAt (p : PacketJournal) (part : ℕ → Part) (lead : ℕ) (d : ℕ → Delivery) (ends : List ℕ) (xs : List MadeItem) (i : ℕ) : Type 0 where
  pub start : ℕ
  pub n : ℕ
  pub made : MadeItem
  pub end_is : slice_get ends i ≡ Some n
  pub there : slice_get xs i ≡ Some made
  pub is : IsUnitMade p part lead d start n made

unit_at : (p : PacketJournal) (part : ℕ → Part) (lead : ℕ) (d : ℕ → Delivery) (s m : ℕ) (ends : List ℕ) (xs : List MadeItem) (i : ℕ) → AreUnitsFrom p part lead d s m ends xs → i < length xs → IsUnitAt p part lead d ends xs i
unit_at p part lead d s m [] [] i are lt = absurd (omega arith)
unit_at p part lead d s m [] (x ∷ xs) i are lt = absurd are
unit_at p part lead d s m (n ∷ ends) [] i are lt = absurd are
unit_at p part lead d s m (n ∷ ends) (x ∷ xs) zero are lt = record { start = s; n = n; made = x; end_is = refl; there = refl; is = are.0 }
unit_at p part lead d s m (n ∷ ends) (x ∷ xs) (suc i) are lt =
    let rest = unit_at p part lead d (suc n) m ends xs i are.1 (omega arith) in
    record { start = rest.start; n = rest.n; made = rest.made; end_is = rest.end_is; there = rest.there; is = rest.is }

from_start : (p : PacketJournal) (part : ℕ → Part) (lead : ℕ) (d : ℕ → Delivery) (s m : ℕ) (ends : List ℕ) (xs : List MadeItem) (j b : ℕ) → AreUnitsFrom p part lead d s m ends xs → slice_get ends j ≡ Some b → s + j ≤ b
from_start p part lead d s m [] xs j b are e = absurd cc
from_start p part lead d s m (n ∷ ends) [] j b are e = absurd are
from_start p part lead d s m (n ∷ ends) (x ∷ xs) zero b are e = let same : n ≡ b = cc in omega (arith, unit_low part s n are.0.packets)
from_start p part lead d s m (n ∷ ends) (x ∷ xs) (suc j) b are e = omega (arith, unit_low part s n are.0.packets, from_start p part lead d (suc n) m ends xs j b are.1 e)

in_turn : (p : PacketJournal) (part : ℕ → Part) (lead : ℕ) (d : ℕ → Delivery) (s m : ℕ) (ends : List ℕ) (xs : List MadeItem) (i j a b : ℕ) → AreUnitsFrom p part lead d s m ends xs → i ≤ j → slice_get ends i ≡ Some a → slice_get ends j ≡ Some b → a + j ≤ b + i
in_turn p part lead d s m [] xs i j a b are le e f = absurd cc
in_turn p part lead d s m (n ∷ ends) [] i j a b are le e f = absurd are
in_turn p part lead d s m (n ∷ ends) (x ∷ xs) zero zero a b are le e f = let first : n ≡ a = cc in let second : n ≡ b = cc in omega arith
in_turn p part lead d s m (n ∷ ends) (x ∷ xs) zero (suc j) a b are le e f = let first : n ≡ a = cc in omega (arith, from_start p part lead d (suc n) m ends xs j b are.1 f)
in_turn p part lead d s m (n ∷ ends) (x ∷ xs) (suc i) zero a b are le e f = absurd (omega arith)
in_turn p part lead d s m (n ∷ ends) (x ∷ xs) (suc i) (suc j) a b are le e f = omega (arith, in_turn p part lead d (suc n) m ends xs i j a b are.1 (omega arith) e f)

same_long : (p : PacketJournal) (part : ℕ → Part) (lead : ℕ) (d : ℕ → Delivery) (s m : ℕ) (ends : List ℕ) (xs : List MadeItem) → AreUnitsFrom p part lead d s m ends xs → length ends ≡ length xs
same_long p part lead d s m [] [] are = refl
same_long p part lead d s m [] (x ∷ xs) are = absurd are
same_long p part lead d s m (n ∷ ends) [] are = absurd are
same_long p part lead d s m (n ∷ ends) (x ∷ xs) are = ap suc (same_long p part lead d (suc n) m ends xs are.1)

after_end : (part : ℕ → Part) (s a t b : ℕ) → AreUnit part s a → AreUnit part t b → a < b → a < t
after_end part s a t b first second lt = elim (cases_lt a t) [
  | inl before ↦ before
  | inr past ↦ absurd (let none = inside_unit part t b a second past lt in let some = ends_so (part a) (unit_ends part s a first) in cc)
]

-- ---- accepted units

-- The accepted item is unit i, which ends with packet n.
pub record IsUnitTaken (by : Bool) (p : PacketJournal) (part : ℕ → Part) (ends : List ℕ) (i : ℕ) (a : Accepted) : Type 0 where
  pub n : ℕ
  pub at : slice_get ends i ≡ Some n
  pub due : a.instant ≡ pos (p.times.due n)
  pub is : IsOfPacket by p n a.batch
  pub start : ℕ
  pub packets : AreUnit part start n
  pub bytes : a.batch.bytes ≡ unit_bytes p start n

content_is : (kind : Kind) (part : ℕ → Part) (p : PacketJournal) (n : ℕ) (bytes : List ℕ) → kind ≡ H264 part → IsContentBy kind p n bytes → IsUnitOf p part n bytes
content_is kind part p n bytes e is = subst (λ (k : Kind). IsContentBy k p n bytes) e is

instant_is : (kind : Kind) (part : ℕ → Part) (by : Bool) (p : PacketJournal) (n : ℕ) (x : ℤ) → kind ≡ H264 part → IsAtBy kind by p.times n 0 x → x ≡ pos (p.times.due n)
instant_is kind part by p n x e is = (subst (λ (k : Kind). IsAtBy k by p.times n 0 x) e is).1

time_is : (kind : Kind) (part : ℕ → Part) (by : Bool) (p : PacketJournal) (n : ℕ) → kind ≡ H264 part → IsAtBy kind by p.times n 0 (pos (p.times.due n))
time_is kind part by p n e = rw e (refl, refl)

-- What holds when unit i is judged. The packets of unit i are `start` to `n`.
record IsNow (p : PacketJournal) (part : ℕ → Part) (plan : ListenPlan) (ends : List ℕ) (i start n : ℕ) (now : ℤ) : Type 0 where
  known : n < p.times.packets
  packets : AreUnit part start n
  -- the last packets of units have increasing numbers
  before : (k m : ℕ) → k < i → slice_get ends k ≡ Some m → m + i ≤ n + k
  turn : (k l m r : ℕ) → k < l → slice_get ends k ≡ Some m → slice_get ends l ≡ Some r → m < r
  few : (m : ℕ) → m ≤ n → now ≤ℤ pos (p.times.due m) → n < m + plan.buffer
  size : (s m : ℕ) → AreUnit part s m → m < p.times.packets → length (unit_bytes p s m) ≤ (suc m - s) * 1500
  short : (s m : ℕ) → AreUnit part s m → m < p.times.packets → m < s + 255

none_before : (by : Bool) (p : PacketJournal) (part : ℕ → Part) (plan : ListenPlan) (ends : List ℕ) (i start n k : ℕ) (now : ℤ) (xs : List Accepted) → Conforms p.times → IsNow p part plan ends i start n now → k + length xs ≡ i → AreOf (IsUnitTaken by p part ends) k xs
    → All (λ (a : Accepted). ¬ IsOfPacket by p n a.batch) xs
none_before by p part plan ends i start n k now [] is w e are = All-nil (λ (a : Accepted). ¬ IsOfPacket by p n a.batch)
none_before by p part plan ends i start n k now (x ∷ xs) is w e are =
    All-cons (λ (a : Accepted). ¬ IsOfPacket by p n a.batch) x xs
    (λ other. let same = one_number by p are.0.n n x.batch is are.0.is other in let less = w.before k are.0.n (omega arith) are.0.at in absurd (omega arith))
    (none_before by p part plan ends i start n (k + 1) now xs is w (omega arith) are.1)

standing_short : (now : ℤ) (xs : List Accepted) → length (standing now xs) ≤ length xs
standing_short now [] = omega arith
standing_short now (x ∷ xs) =
    by_lt_z x.instant now
    (λ h. rw (le_false now x.instant h) (let most = standing_short now xs in omega arith))
    (λ h. rw (le_true now x.instant h) (let most = standing_short now xs in omega arith))

stands_few : (by : Bool) (p : PacketJournal) (part : ℕ → Part) (plan : ListenPlan) (ends : List ℕ) (i start n k : ℕ) (now : ℤ) (xs : List Accepted) → 1 ≤ plan.buffer → IsNow p part plan ends i start n now → k + length xs ≡ i → AreOf (IsUnitTaken by p part ends) k xs
    → length (standing now xs) < plan.buffer
stands_few by p part plan ends i start n k now [] some w e are = some
stands_few by p part plan ends i start n k now (x ∷ xs) some w e are =
    let less = w.before k are.0.n (omega arith) are.0.at in
    by_lt_z x.instant now
    (λ h. rw (le_false now x.instant h) (stands_few by p part plan ends i start n (k + 1) now xs some w (omega arith) are.1))
    (λ h. rw (le_true now x.instant h)
    (let within = w.few are.0.n (omega arith) (subst (λ (z : ℤ). now ≤ℤ z) are.0.due h) in
    let most = standing_short now xs in omega arith))

taken_size : (by : Bool) (p : PacketJournal) (part : ℕ → Part) (plan : ListenPlan) (ends : List ℕ) (i start n k : ℕ) (now : ℤ) (a : Accepted) → IsNow p part plan ends i start n now → (t : IsUnitTaken by p part ends k a) → length a.batch.bytes ≤ (suc t.n - t.start) * 1500
taken_size by p part plan ends i start n k now a w t = let same = t.bytes in rw same (w.size t.start t.n t.packets t.is.known)

-- the first of the units `xs`, if there is one, begins with packet `low` or a later packet
abbrev BeginsFrom : (by : Bool) (p : PacketJournal) (part : ℕ → Part) (ends : List ℕ) (k low : ℕ) (xs : List Accepted) → AreOf (IsUnitTaken by p part ends) k xs → Type 0
BeginsFrom by p part ends k low [] are = ⊤
BeginsFrom by p part ends k low (x ∷ xs) are = low ≤ are.0.start

next_begins : (by : Bool) (p : PacketJournal) (part : ℕ → Part) (plan : ListenPlan) (ends : List ℕ) (i start n k : ℕ) (now : ℤ) (x : Accepted) (xs : List Accepted) → IsNow p part plan ends i start n now → (t : IsUnitTaken by p part ends k x) → (are : AreOf (IsUnitTaken by p part ends) (k + 1) xs) → BeginsFrom by p part ends (k + 1) (suc t.n) xs are
next_begins by p part plan ends i start n k now x [] w t are = tt
next_begins by p part plan ends i start n k now x (y ∷ xs) w t are = after_end part t.start t.n are.0.start are.0.n t.packets are.0.packets (w.turn k (k + 1) t.n are.0.n (omega arith) t.at are.0.at)

-- the waiting units from packet `low` up to the judged unit have at most 1,500 bytes for each packet
light : (by : Bool) (p : PacketJournal) (part : ℕ → Part) (plan : ListenPlan) (ends : List ℕ) (i start n k low : ℕ) (now : ℤ) (xs : List Accepted) → IsNow p part plan ends i start n now → k + length xs ≡ i → low ≤ start
    → (are : AreOf (IsUnitTaken by p part ends) k xs) → BeginsFrom by p part ends k low xs are → total_bytes (standing now xs) ≤ (start - low) * 1500
light by p part plan ends i start n k low now [] w e le are from = omega arith
light by p part plan ends i start n k low now (x ∷ xs) w e le are from =
    let less = w.before k are.0.n (omega arith) are.0.at in
    let here = after_end part are.0.start are.0.n start n are.0.packets w.packets (omega arith) in
    let low_here = unit_low part are.0.start are.0.n are.0.packets in
    let size = taken_size by p part plan ends i start n k now x w are.0 in
    let rest = light by p part plan ends i start n (k + 1) (suc are.0.n) now xs w (omega arith) (omega arith) are.1 (next_begins by p part plan ends i start n k now x xs w are.0 are.1) in
    by_lt_z x.instant now
    (λ h. rw (le_false now x.instant h) (omega (arith, from)))
    (λ h. rw (le_true now x.instant h) (let sum = sum_by-cons (λ (a : Accepted). length a.batch.bytes) x (standing now xs) in omega (arith, from)))

stands_light : (by : Bool) (p : PacketJournal) (part : ℕ → Part) (plan : ListenPlan) (ends : List ℕ) (i start n k : ℕ) (now : ℤ) (xs : List Accepted) → IsNow p part plan ends i start n now → k + length xs ≡ i → AreOf (IsUnitTaken by p part ends) k xs
    → total_bytes (standing now xs) + length (unit_bytes p start n) ≤ (plan.buffer + 255) * 1500
stands_light by p part plan ends i start n k now [] w e are =
    let size = w.size start n w.packets w.known in
    let short = w.short start n w.packets w.known in
    omega arith
stands_light by p part plan ends i start n k now (x ∷ xs) w e are =
    let less = w.before k are.0.n (omega arith) are.0.at in
    let here = after_end part are.0.start are.0.n start n are.0.packets w.packets (omega arith) in
    let low_here = unit_low part are.0.start are.0.n are.0.packets in
    let low_now = unit_low part start n w.packets in
    let all = light by p part plan ends i start n k are.0.start now (x ∷ xs) w e (omega arith) are (omega arith) in
    by_lt_z x.instant now
    (λ h. rw (le_false now x.instant h) (stands_light by p part plan ends i start n (k + 1) now xs w (omega arith) are.1))
    (λ h.
    let within = w.few are.0.n (omega arith) (subst (λ (z : ℤ). now ≤ℤ z) are.0.due h) in
    let short = w.short are.0.start are.0.n are.0.packets are.0.is.known in
    let size = w.size start n w.packets w.known in
    omega arith)

-- ---- a whole capture

record IsCaptured (p : PacketJournal) (part : ℕ → Part) (plan : ListenPlan) (d : ℕ → Delivery) (arr : ℕ → ℕ) (rs : List Record) : Type 0 where
  timely : AreTimelyUnits p part plan d arr
  heard : HearsTalker (pos 0) p plan rs
  made : AreMade p part plan d p.times.packets
  items : items_in plan rs ≡ made.items

items_are : (ds : List Delivery) (xs : List MadeItem) → items_so_far ds ≡ xs → left_at_end ds ≡ [] → items_of ds ≡ xs
items_are ds xs so_far none = ap (λ (l : List MadeItem). items_so_far ds ++ l) none ∙ (append-nil (items_so_far ds) ∙ so_far)

at_here : (p : PacketJournal) (part : ℕ → Part) (plan : ListenPlan) (d : ℕ → Delivery) (arr : ℕ → ℕ) (rs : List Record) (w : IsCaptured p part plan d arr rs) (i : ℕ) → i < length (items_in plan rs) → IsUnitAt p part plan.lead d w.made.ends w.made.items i
at_here p part plan d arr rs w i lt =
    let same = ap (λ (l : List MadeItem). length l) w.items in
    unit_at p part plan.lead d 0 p.times.packets w.made.ends w.made.items i w.made.units (omega arith)

entry_here : (p : PacketJournal) (part : ℕ → Part) (plan : ListenPlan) (d : ℕ → Delivery) (arr : ℕ → ℕ) (rs : List Record) (w : IsCaptured p part plan d arr rs) (i : ℕ) (lt : i < length (items_in plan rs)) → slice_get (items_in plan rs) i ≡ Some (at_here p part plan d arr rs w i lt).made
entry_here p part plan d arr rs w i lt = ap (λ (l : List MadeItem). slice_get l i) w.items ∙ (at_here p part plan d arr rs w i lt).there

judged_when : (p : PacketJournal) (part : ℕ → Part) (plan : ListenPlan) (d : ℕ → Delivery) (arr : ℕ → ℕ) (rs : List Record) (w : IsCaptured p part plan d arr rs) (i : ℕ) (lt : i < length (items_in plan rs)) → time_of plan rs i ≡ pos (arr (at_here p part plan d arr rs w i lt).n)
judged_when p part plan d arr rs w zero lt =
    let u = at_here p part plan d arr rs w zero lt in
    first_time (entries_in plan rs) u.made.entry (entry_at (items_in plan rs) 0 u.made (entry_here p part plan d arr rs w zero lt))
    ∙ (ap (int_max (pos 0)) (u.is.arrival ∙ w.timely.arrived u.n) ∙ later_one 0 (arr u.n) (omega arith))
judged_when p part plan d arr rs w (suc i) lt =
    let u = at_here p part plan d arr rs w (suc i) lt in
    let within : i < length (items_in plan rs) = omega (arith, lt) in
    let v = at_here p part plan d arr rs w i within in
    let before : time_of plan rs i ≡ pos (arr v.n) = judged_when p part plan d arr rs w i within in
    let order = in_turn p part plan.lead d 0 p.times.packets w.made.ends w.made.items i (suc i) v.n u.n w.made.units (omega arith) v.end_is u.end_is in
    now-next (entries_in plan rs) (suc i) u.made.entry (entry_at (items_in plan rs) (suc i) u.made (entry_here p part plan d arr rs w (suc i) lt))
    ∙ (ap (int_max (time_of plan rs i)) (u.is.arrival ∙ w.timely.arrived u.n)
    ∙ (ap (λ (z : ℤ). int_max z (pos (arr u.n))) before ∙ later_one (arr v.n) (arr u.n) (rises arr w.timely.rise v.n u.n (omega arith))))

now_is : (p : PacketJournal) (part : ℕ → Part) (plan : ListenPlan) (d : ℕ → Delivery) (arr : ℕ → ℕ) (rs : List Record) (w : IsCaptured p part plan d arr rs) (i : ℕ) (lt : i < length (items_in plan rs))
    → IsNow p part plan w.made.ends i (at_here p part plan d arr rs w i lt).start (at_here p part plan d arr rs w i lt).n (time_of plan rs i)
now_is p part plan d arr rs w i lt =
    let u = at_here p part plan d arr rs w i lt in
    let time = judged_when p part plan d arr rs w i lt in
    record {
      known = u.is.known;
      packets = u.is.packets;
      before = λ k m less at. in_turn p part plan.lead d 0 p.times.packets w.made.ends w.made.items k i m u.n w.made.units (omega arith) at u.end_is;
      turn = λ k l m r less at there. (let order = in_turn p part plan.lead d 0 p.times.packets w.made.ends w.made.items k l m r w.made.units (omega arith) at there in omega arith);
      few = λ m le stands. w.timely.few m u.n le u.is.known (omega (arith, ints, time, stands));
      size = w.timely.capture.size;
      short = w.timely.capture.few;
    }

welcome_unit : (p : PacketJournal) (part : ℕ → Part) (plan : ListenPlan) (d : ℕ → Delivery) (arr : ℕ → ℕ) (rs : List Record) (w : IsCaptured p part plan d arr rs) (i : ℕ) (lt : i < length (items_in plan rs)) → length (accepted_before plan rs i) ≡ i
    → AreOf (IsUnitTaken (by_clock plan) p part w.made.ends) 0 (accepted_before plan rs i) → IsWelcome p plan rs i (at_here p part plan d arr rs w i lt).n (at_here p part plan d arr rs w i lt).made
welcome_unit p part plan d arr rs w i lt long are =
    let by = by_clock plan in
    let u = at_here p part plan d arr rs w i lt in
    let xs = accepted_before plan rs i in
    let now = time_of plan rs i in
    let is_now = now_is p part plan d arr rs w i lt in
    let sum : 0 + length xs ≡ i = omega (arith, long) in
    let kind = w.timely.capture.kind in
    let early = w.timely.early u.n u.is.known in
    let in_time : now ≤ℤ pos (p.times.due u.n) = omega (arith, ints, judged_when p part plan d arr rs w i lt, early) in
    let some : 1 ≤ plan.buffer = let least = is_now.few u.n (omega arith) in_time in omega arith in
    let few = stands_few by p part plan w.made.ends i u.start u.n 0 now xs some is_now sum are in
    let fits = stands_light by p part plan w.made.ends i u.start u.n 0 now xs is_now sum are in
    let room = w.timely.bytes in
    record {
      timely = record {
        there = entry_here p part plan d arr rs w i lt;
        copy = u.is.copy;
        known = unit_item_known p.times.kind part p plan rs i (record { number = u.n; arrival = u.is.copy.last.arrival }) u.made kind u.is.unit;
        instant = pos (p.times.due u.n);
        at = time_is p.times.kind part by p u.n kind;
        in_time = in_time;
      };
      first = none_before by p part plan w.made.ends i u.start u.n 0 now xs w.heard.conforming.times is_now sum are;
      bytes = unit_bytes p u.start u.n;
      content = subst (λ (k : Kind). IsContentBy k p u.n (unit_bytes p u.start u.n)) (sym kind) (record { from = u.start; packets = u.is.packets; bytes = refl });
      room = not_full (schedule_plan plan) (standing now xs) (length (unit_bytes p u.start u.n)) few (omega (arith, fits, room));
    }

accept_unit : (p : PacketJournal) (part : ℕ → Part) (plan : ListenPlan) (d : ℕ → Delivery) (arr : ℕ → ℕ) (rs : List Record) (w : IsCaptured p part plan d arr rs) (i : ℕ) → i < length (items_in plan rs) → length (accepted_before plan rs i) ≡ i
    → AreOf (IsUnitTaken (by_clock plan) p part w.made.ends) 0 (accepted_before plan rs i) → IsAcceptedAt clock_spot (schedule_plan plan) (entries_in plan rs) (IsUnitTaken (by_clock plan) p part w.made.ends) i
accept_unit p part plan d arr rs w i lt long are =
    let u = at_here p part plan d arr rs w i lt in
    let judged = welcome_judged (pos 0) p plan rs i u.n u.made w.heard (welcome_unit p part plan d arr rs w i lt long are) in
    let is = judged.is.is in
    let content = content_is p.times.kind part p u.n judged.batch.bytes w.timely.capture.kind is.bytes in
    record {
      item = judged.item;
      there = entry_at (items_in plan rs) i u.made (entry_here p part plan d arr rs w i lt) ∙ ap Some judged.entry;
      a = taken i judged.batch;
      ok = judged.verdict_is_ok;
      is = record {
        n = u.n;
        at = u.end_is;
        due = instant_is p.times.kind part (by_clock plan) p u.n (first_instant judged.batch) w.timely.capture.kind (first_at (by_clock plan) p u.n judged.batch w.heard.conforming.times is);
        is = is;
        start = content.from;
        packets = content.packets;
        bytes = content.bytes;
      };
    }

-- ---- what is shown

shown_by : (by : Bool) (p : PacketJournal) (part : ℕ → Part) (front ends : List ℕ) (k : ℕ) (xs : List Accepted) → length front ≡ k → length ends ≡ length xs → AreOf (IsUnitTaken by p part (front ++ ends)) k xs → ArePresented by p ends (map present xs)
shown_by by p part front [] k [] e long are = tt
shown_by by p part front [] k (x ∷ xs) e long are = absurd (omega arith)
shown_by by p part front (n ∷ ends) k [] e long are = absurd (omega arith)
shown_by by p part front (n ∷ ends) k (x ∷ xs) e long are =
    let here : slice_get (front ++ n ∷ ends) k ≡ Some n = in_place front n ends k e in
    let at = are.0.at in
    let same : are.0.n ≡ n = cc in
    let moved : front ++ n ∷ ends ≡ (front ++ n ∷ []) ++ ends = sym (append_assoc front (n ∷ []) ends) in (
      subst (λ (m : ℕ). IsOfPacket by p m x.batch) same are.0.is,
      shown_by by p part (front ++ n ∷ []) ends (k + 1) xs (omega (arith, length-append front (n ∷ []), e)) (omega arith) (subst (λ (l : List ℕ). AreOf (IsUnitTaken by p part l) (k + 1) xs) moved are.1),
    )
  where
    in_place : (front : List ℕ) (n : ℕ) (ends : List ℕ) (k : ℕ) → length front ≡ k → slice_get (front ++ n ∷ ends) k ≡ Some n
    in_place [] n ends k e = rw (← e) refl
    in_place (x ∷ front) n ends zero e = absurd (omega arith)
    in_place (x ∷ front) n ends (suc k) e = in_place front n ends k (omega arith)

rise_by : (p : PacketJournal) (part : ℕ → Part) (plan : ListenPlan) (d : ℕ → Delivery) (arr : ℕ → ℕ) → AreTimelyUnits p part plan d arr → (made : AreMade p part plan d p.times.packets) (k i : ℕ) (a b : Accepted) → k < i → IsUnitTaken (by_clock plan) p part made.ends k a → IsUnitTaken (by_clock plan) p part made.ends i b → a.instant ≤ℤ b.instant
rise_by p part plan d arr t made k i a b lt x y =
    let order = in_turn p part plan.lead d 0 p.times.packets made.ends made.items k i x.n y.n made.units (omega arith) x.at y.at in
    let due = t.due_rise x.n y.n (omega arith) in
    rw (x.due, y.due) (omega (arith, ints, due))

pub units_presented : (p : PacketJournal) (part : ℕ → Part) (plan : ListenPlan) (d : ℕ → Delivery) (arr : ℕ → ℕ) → (t : AreTimelyUnits p part plan d arr) → ArePresented (by_clock plan) p (filter (λ (n : ℕ). ends_unit (part n)) (range_with_len 0 p.times.packets)) (shown_of plan (t.capture.front p.times.packets (omega arith)).records)
units_presented p part plan d arr t =
    let front = t.capture.front p.times.packets (omega arith) in
    let rs = front.records in
    let made = all_units p part plan d t.capture in
    let items : items_in plan rs ≡ made.items = ap items_of front.are ∙ items_are (first_ones d p.times.packets) made.items made.so_far made.none in
    let w : IsCaptured p part plan d arr rs = record { timely = t; heard = front.heard; made = made; items = items } in
    let sp = schedule_plan plan in
    let es = entries_in plan rs in
    let by = by_clock plan in
    let P : ℕ → Accepted → Type 0 = IsUnitTaken by p part made.ends in
    let count : length es ≡ length (items_in plan rs) = length-map (items_in plan rs) made_entry in
    let h : AcceptsEach clock_spot sp es P = record {
      next = λ i lt long are. accept_unit p part plan d arr rs w i (omega (arith, count, lt)) long are;
      rise = λ k i a b lt x y. rise_by p part plan d arr t made k i a b lt x y;
    } in
    let all = all_accepted clock_spot sp es P (length es) h (omega arith) in
    let xs = accepted clock_spot sp es (length es) in
    let shows : shown_of plan rs ≡ map present xs = shown_all clock_spot sp es P all in
    let long : length made.ends ≡ length xs = omega (arith, same_long p part plan.lead d 0 p.times.packets made.ends made.items made.units, ap (λ (l : List MadeItem). length l) items, count, all.long) in
    let here : ArePresented by p made.ends (map present xs) = shown_by by p part [] made.ends 0 xs refl long all.are in
    subst (λ (l : List Shown). ArePresented by p (filter (λ (n : ℕ). ends_unit (part n)) (range_with_len 0 p.times.packets)) l) (sym shows) (subst (λ (l : List ℕ). ArePresented by p l (map present xs)) (sym made.last_ones) here)
