-- Two batches of the same packet or unit are paired.
use Rattle.std.proofs.Common.{◌≡◌, ◌≢◌, ℕ, zero, suc, ◌+◌, ◌*◌, ◌%◌, ◌<◌, ◌≤◌, Bool, true, false, cond, ◌&&◌, ◌||◌, not, ◌⊎◌, inl, inr, ℤ, ◌-ℤ◌, List, [], ◌∷◌, ◌++◌, length, Option, Some, None, refl, sym, ap, ◌∙◌, subst, arith, append_assoc, length-append}
use Rattle.std.specs.Prelude.{◌==◌, Any, nat_le, slice_get, slice_index_or, unsigned_abs}
use Rattle.std.specs.List.{AllByRecursion, find}
use Rattle.pcap_frames.specs.Capture.{Record}
use Rattle.stream_journal.specs.Conforming.{Conforms}
use Rattle.stream_journal.specs.Delivered.{IsAudioKind}
use Rattle.stream_journal.specs.Journal.{Am824, DenseAaf, H264, Kind, SparseAaf}
use Rattle.packet_journal.specs.Packets.{PacketJournal}
use Rattle.sample_schedule.specs.Batches.{Presented, is_unit, sample_instant}
use Rattle.sample_schedule.specs.Verdicts.{first_instant, same_instant}
use Rattle.listener.specs.declared.plan.ListenPlan.{ListenPlan}
use Rattle.listener.specs.Heard.{shown_of}
use Rattle.listener.specs.Laws.{HearsTalker, IsOfPacket, by_clock, presented_of}
use Rattle.listener.proofs.TrueList.{audio}
use Rattle.listener.proofs.TrueOnce.{first_at}
use Rattle.stream_journal.proofs.OneInstant.{one_instant}
use Rattle.listener_pair.specs.declared.difference.Which.{Which}
use Rattle.listener_pair.specs.declared.difference.Which.TheVariants.{A, B}
use Rattle.listener_pair.specs.declared.placed.Placed.{Placed}
use Rattle.listener_pair.specs.Merged.{Sided, is_side, merged}
use Rattle.listener_pair.specs.Pairs.{Paired, are_near, at_place, fits, left_by, may_pair, pair_by, pairs, pairs_from, partner_of, unpaired, unpaired_from, within_reach, without_first}
use Rattle.listener_pair.specs.Matching.{IsSorted, MayPrecede, batches_of, of_side}
use Rattle.listener_pair.proofs.Sorting.{all-join, all-left, all-right, all-weaker, batches-append}
use Rattle.listener_pair.proofs.Windows.{le-yes}
use Rattle.listener_pair.proofs.Samples.{both-right}
use Rattle.listener_pair.proofs.PairLaws.{eq-yes}
use Rattle.listener_pair.proofs.Standing.{sides-length}
use Rattle.pair_laws.specs.Agreeing.{HasPace, IsOfAnother, IsPairOf, IsPresentedOfTalker, KeepsPace}
use Rattle.pair_laws.specs.Beside.{AreAllTold, AreTold, IsPresentation}
use Rattle.pair_laws.proofs.Agreeing.{left-all, one-that-fits, without-all}
use Rattle.pair_laws.proofs.Beside.{batches-at, between-at, part-few, parts, pairs-cons, pairs-nil, same-same, sorted-after, sorted-back, sorted-before, unpaired-cons, unpaired-nil, zero-far}
use Rattle.capture_pair.proofs.Joined.{merges}
use Rattle.pair_laws.proofs.Paces.{presented-of-talker}
use Rattle.pair_laws.proofs.Told.{shown-told}

-- ---- batches of the same packet fit

many : (n : ℕ) → (n == 1) ≡ true → n ≡ 1
many n e = grind arith

-- a batch that keeps the pace of audio is no unit: its samples are more than a nanosecond apart
not-unit : (rate : ℕ) (b : Presented) → rate ≤ 192000 → HasPace rate b → is_unit b ≡ false
not-unit rate b most pace = at (b.line.num == 1) (b.line.den == 1) refl refl
  where
    far : (n d : ℕ) → n ≡ 1 → d ≡ 1 → 7000000000 * d ≤ 8 * (rate * n) → ⊥
    far n d en ed le = let k : 7000000000 * 1 ≤ 8 * (rate * 1) = subst (λ (i : ℕ). 7000000000 * i ≤ 8 * (rate * 1)) ed (subst (λ (i : ℕ). 7000000000 * d ≤ 8 * (rate * i)) en le) in omega arith

    at : (u v : Bool) → (b.line.num == 1) ≡ u → (b.line.den == 1) ≡ v → (u && v) ≡ false
    at false v e f = refl
    at true false e f = refl
    at true true e f = absurd (far b.line.num b.line.den (many b.line.num e) (many b.line.den f) pace.least)

unit-by : (kind : Kind) (p : PacketJournal) (a b : Presented) → KeepsPace kind p.times.rate a → KeepsPace kind p.times.rate b → (p.times.rate ≤ 192000) → is_unit a ≡ is_unit b
unit-by DenseAaf p a b pa pb most = not-unit p.times.rate a most pa ∙ sym (not-unit p.times.rate b most pb)
unit-by SparseAaf p a b pa pb most = not-unit p.times.rate a most pa ∙ sym (not-unit p.times.rate b most pb)
unit-by (Am824 interval dbc) p a b pa pb most = not-unit p.times.rate a most pa ∙ sym (not-unit p.times.rate b most pb)
unit-by (H264 part) p a b pa pb most = pa ∙ sym pb

units-same : (kind : Kind) (p : PacketJournal) (a b : Presented) → p.times.kind ≡ kind → Conforms p.times → KeepsPace kind p.times.rate a → KeepsPace kind p.times.rate b → is_unit a ≡ is_unit b
units-same DenseAaf p a b e is pa pb = unit-by DenseAaf p a b pa pb (audio p (subst IsAudioKind (sym e) tt) is).rate_to
units-same SparseAaf p a b e is pa pb = unit-by SparseAaf p a b pa pb (audio p (subst IsAudioKind (sym e) tt) is).rate_to
units-same (Am824 interval dbc) p a b e is pa pb = unit-by (Am824 interval dbc) p a b pa pb (audio p (subst IsAudioKind (sym e) tt) is).rate_to
units-same (H264 part) p a b e is pa pb = pa ∙ sym pb

reach-at : (a b : Presented) → first_instant a ≡ first_instant b → is_unit a ≡ is_unit b → within_reach a b ≡ true
unfolding within_reach
reach-at a b e u = at (is_unit a) (is_unit b) u
  where
    at : (v w : Bool) → v ≡ w → cond (v || w) (v && w && same_instant (first_instant a) (first_instant b)) (are_near a b) ≡ true
    at true true f = subst (λ (z : ℤ). same_instant (first_instant a) z ≡ true) e (same-same (first_instant a))
    at false false f = subst (λ (z : ℤ). nat_le (unsigned_abs (first_instant a -ℤ z) * a.line.den) (64 * a.count * a.line.num) ≡ true) e (zero-far (first_instant a) a.line.den (64 * a.count * a.line.num))
    at true false f = absurd (cc)
    at false true f = absurd (cc)

fits-at : (s : Which) (x y : Presented) → y.seq ≡ x.seq → first_instant x ≡ first_instant y → is_unit x ≡ is_unit y → fits s x y ≡ true
unfolding fits
fits-at A x y q e u = ap (λ v. v && within_reach x y) (eq-yes y.seq x.seq q) ∙ reach-at x y e u
fits-at B x y q e u = ap (λ v. v && within_reach y x) (eq-yes y.seq x.seq q) ∙ reach-at y x (sym e) (sym u)

one-first : (by : Bool) (p : PacketJournal) (n : ℕ) (x y : Presented) → Conforms p.times → IsOfPacket by p n x → IsOfPacket by p n y → first_instant x ≡ first_instant y
one-first by p n x y is ox oy = one_instant p.times is by n 0 (sample_instant x 0) (sample_instant y 0) ox.known (first_at by p n x is ox) (first_at by p n y is oy)

fits-one : (s : Which) (by : Bool) (p : PacketJournal) (n : ℕ) (x y : Presented) → Conforms p.times → KeepsPace p.times.kind p.times.rate x → KeepsPace p.times.kind p.times.rate y → IsOfPacket by p n x → IsOfPacket by p n y → fits s x y ≡ true
fits-one s by p n x y is px py ox oy = fits-at s x y (oy.seq ∙ sym ox.seq) (one-first by p n x y is ox oy) (units-same p.times.kind p x y refl is px py)

-- ---- what other batches do

-- The batch is of the talker, but is not packet n.
pub record IsElse (by : Bool) (p : PacketJournal) (n : ℕ) (b : Presented) : Type 0 where
  pub talker : IsPresentedOfTalker by p b
  pub other : IsOfPacket by p n b → ⊥

abbrev AllElse : Bool → PacketJournal → ℕ → List Placed → Type 0
AllElse by p n us = AllByRecursion (λ u. IsElse by p n u.batch) us

may-fits : (x u : Placed) → may_pair x u ≡ true → fits x.side x.batch u.batch ≡ true
may-fits x u h = both-right (nat_le x.place (u.place + 512) && not (is_side x.side u.side)) (fits x.side x.batch u.batch) h

-- a batch of packet n cannot be paired with a batch that is not packet n
no-pair : (by : Bool) (p : PacketJournal) (n : ℕ) (x u : Placed) → Conforms p.times → IsPresentedOfTalker by p x.batch → IsOfPacket by p n x.batch → IsElse by p n u.batch → may_pair x u ≡ true → ⊥
no-pair by p n x u is tx ox e h =
    let same = one-that-fits x.side by p n e.talker.is.number x.batch u.batch tx.pace e.talker.pace is ox e.talker.is.is (may-fits x u h) in
    e.other (subst (λ (k : ℕ). IsOfPacket by p k u.batch) (sym same) e.talker.is.is)

no-pair-back : (by : Bool) (p : PacketJournal) (n : ℕ) (x u : Placed) → Conforms p.times → IsPresentedOfTalker by p u.batch → IsOfPacket by p n u.batch → IsElse by p n x.batch → may_pair x u ≡ true → ⊥
no-pair-back by p n x u is tu ou e h =
    let same = one-that-fits x.side by p e.talker.is.number n x.batch u.batch e.talker.pace tu.pace is e.talker.is.is ou (may-fits x u h) in
    e.other (subst (λ (k : ℕ). IsOfPacket by p k x.batch) same e.talker.is.is)

false-of : (b : Bool) → (b ≡ true → ⊥) → b ≡ false
false-of true h = absurd (h refl)
false-of false h = refl

none-of : (by : Bool) (p : PacketJournal) (n : ℕ) (x : Placed) (us : List Placed) → Conforms p.times → IsPresentedOfTalker by p x.batch → IsOfPacket by p n x.batch → AllElse by p n us → find (may_pair x) us ≡ None
none-of by p n x [] is tx ox h = refl
none-of by p n x (u ∷ us) is tx ox h = ap (λ v. cond v (Some u) (find (may_pair x) us)) (false-of (may_pair x u) (no-pair by p n x u is tx ox h.0)) ∙ none-of by p n x us is tx ox h.1

first-of : (by : Bool) (p : PacketJournal) (n : ℕ) (x w : Placed) (l r : List Placed) → Conforms p.times → IsPresentedOfTalker by p x.batch → IsOfPacket by p n x.batch → AllElse by p n l → may_pair x w ≡ true → find (may_pair x) (l ++ w ∷ r) ≡ Some w
first-of by p n x w [] r is tx ox h may = ap (λ v. cond v (Some w) (find (may_pair x) r)) may
first-of by p n x w (u ∷ l) r is tx ox h may = ap (λ v. cond v (Some u) (find (may_pair x) (l ++ w ∷ r))) (false-of (may_pair x u) (no-pair by p n x u is tx ox h.0)) ∙ first-of by p n x w l r is tx ox h.1 may

-- after a batch of packet n is paired, no batch of packet n still waits
without-found : (by : Bool) (p : PacketJournal) (n : ℕ) (x w : Placed) (l r : List Placed) → Conforms p.times → IsPresentedOfTalker by p x.batch → IsOfPacket by p n x.batch → AllElse by p n l → AllElse by p n r → may_pair x w ≡ true → AllElse by p n (without_first (may_pair x) (l ++ w ∷ r))
without-found by p n x w [] r is tx ox hl hr may = subst (AllElse by p n) (sym (ap (λ v. cond v r (w ∷ without_first (may_pair x) r)) may)) hr
without-found by p n x w (u ∷ l) r is tx ox hl hr may =
    subst (AllElse by p n) (sym (ap (λ v. cond v (l ++ w ∷ r) (u ∷ without_first (may_pair x) (l ++ w ∷ r))) (false-of (may_pair x u) (no-pair by p n x u is tx ox hl.0))))
    (hl.0, without-found by p n x w l r is tx ox hl.1 hr may)

-- The batch of packet n waits among batches of other packets.
record Waits (by : Bool) (p : PacketJournal) (n : ℕ) (w : Placed) (us : List Placed) : Type 0 where
  before : List Placed
  after : List Placed
  split : us ≡ before ++ w ∷ after
  all_before : AllElse by p n before
  all_after : AllElse by p n after

without-waits : (by : Bool) (p : PacketJournal) (n : ℕ) (test : Placed → Bool) (w : Placed) (l r : List Placed) → test w ≡ false → AllElse by p n l → AllElse by p n r → Waits by p n w (without_first test (l ++ w ∷ r))
without-waits by p n test w [] r e hl hr = record {
  before = [];
  after = without_first test r;
  split = ap (λ v. cond v r (w ∷ without_first test r)) e;
  all_before = tt;
  all_after = without-all (λ u. IsElse by p n u.batch) test r hr;
}
without-waits by p n test w (u ∷ l) r e hl hr = at (test u) refl (without-waits by p n test w l r e hl.1 hr)
  where
    at : (v : Bool) → test u ≡ v → Waits by p n w (without_first test (l ++ w ∷ r)) → Waits by p n w (cond v (l ++ w ∷ r) (u ∷ without_first test (l ++ w ∷ r)))
    at true f h = record { before = l; after = r; split = refl; all_before = hl.1; all_after = hr }
    at false f h = record { before = u ∷ h.before; after = h.after; split = ap (λ (k : List Placed). u ∷ k) h.split; all_before = (hl.0, h.all_before); all_after = h.all_after }

left-waits : (by : Bool) (p : PacketJournal) (n : ℕ) (x w : Placed) (us : List Placed) (o : Option Placed) → may_pair x w ≡ false → IsElse by p n x.batch → Waits by p n w us → Waits by p n w (left_by x us o)
left-waits by p n x w us None no-w e h = record {
  before = h.before;
  after = h.after ++ x ∷ [];
  split = ap (λ (k : List Placed). k ++ x ∷ []) h.split ∙ append_assoc h.before (w ∷ h.after) (x ∷ []);
  all_before = h.all_before;
  all_after = all-join (λ u. IsElse by p n u.batch) h.after (x ∷ []) h.all_after (e, tt);
}
left-waits by p n x w us (Some u) no-w e h = subst (λ (k : List Placed). Waits by p n w (without_first (may_pair x) k)) (sym h.split) (without-waits by p n (may_pair x) w h.before h.after no-w h.all_before h.all_after)

-- a batch of packet n still waits after batches of other packets are added
goes-by : (by : Bool) (p : PacketJournal) (n : ℕ) (w : Placed) (place : ℕ) (us : List Placed) (mid : List Sided) → Conforms p.times → IsPresentedOfTalker by p w.batch → IsOfPacket by p n w.batch → AllByRecursion (λ x. IsElse by p n x.batch) mid → Waits by p n w us → Waits by p n w (unpaired_from place us mid)
goes-by by p n w place us [] is tw ow all h = subst (Waits by p n w) (sym (unpaired-nil place us)) h
goes-by by p n w place us (x ∷ mid) is tw ow all h =
    let q = at_place place x in
    subst (Waits by p n w) (sym (unpaired-cons place us x mid))
    (goes-by by p n w (suc place) (left_by q us (partner_of q us)) mid is tw ow all.1 (left-waits by p n q w us (partner_of q us) (false-of (may_pair q w) (no-pair-back by p n q w is tw ow all.0)) all.0 h))

unpaired-all : (Q : Presented → Type 0) (place : ℕ) (us : List Placed) (rest : List Sided) → AllByRecursion (λ u. Q u.batch) us → AllByRecursion (λ x. Q x.batch) rest → AllByRecursion (λ u. Q u.batch) (unpaired_from place us rest)
unpaired-all Q place us [] all more = subst (AllByRecursion (λ u. Q u.batch)) (sym (unpaired-nil place us)) all
unpaired-all Q place us (x ∷ rest) all more =
    let q = at_place place x in
    subst (AllByRecursion (λ u. Q u.batch)) (sym (unpaired-cons place us x rest)) (unpaired-all Q (suc place) (left_by q us (partner_of q us)) rest (left-all (λ u. Q u.batch) q us (partner_of q us) all more.0) more.1)

-- ---- the pairs of a list, part by part

pairs-split : (place : ℕ) (us : List Placed) (xs ys : List Sided) → pairs_from place us (xs ++ ys) ≡ pairs_from place us xs ++ pairs_from (place + length xs) (unpaired_from place us xs) ys
pairs-split place us [] ys =
    let e : place ≡ place + 0 = omega arith in
    ap (λ k. pairs_from k us ys) e ∙ ap (λ (l : List Placed). pairs_from (place + 0) l ys) (sym (unpaired-nil place us)) ∙ ap (λ (l : List Paired). l ++ pairs_from (place + 0) (unpaired_from place us []) ys) (sym (pairs-nil place us))
pairs-split place us (x ∷ xs) ys =
    let q = at_place place x in
    let vs = left_by q us (partner_of q us) in
    let e : suc place + length xs ≡ place + suc (length xs) = omega arith in
    pairs-cons place us x (xs ++ ys)
    ∙ ap (λ (l : List Paired). pair_by q (partner_of q us) ++ l) (pairs-split (suc place) vs xs ys)
    ∙ sym (append_assoc (pair_by q (partner_of q us)) (pairs_from (suc place) vs xs) (pairs_from (suc place + length xs) (unpaired_from (suc place) vs xs) ys))
    ∙ ap (λ (l : List Paired). l ++ pairs_from (suc place + length xs) (unpaired_from (suc place) vs xs) ys) (sym (pairs-cons place us x xs))
    ∙ ap (λ k. pairs_from place us (x ∷ xs) ++ pairs_from k (unpaired_from (suc place) vs xs) ys) e
    ∙ ap (λ (l : List Placed). pairs_from place us (x ∷ xs) ++ pairs_from (place + suc (length xs)) l ys) (sym (unpaired-cons place us x xs))

unpaired-split : (place : ℕ) (us : List Placed) (xs ys : List Sided) → unpaired_from place us (xs ++ ys) ≡ unpaired_from (place + length xs) (unpaired_from place us xs) ys
unpaired-split place us [] ys =
    let e : place ≡ place + 0 = omega arith in
    ap (λ k. unpaired_from k us ys) e ∙ ap (λ (l : List Placed). unpaired_from (place + 0) l ys) (sym (unpaired-nil place us))
unpaired-split place us (x ∷ xs) ys =
    let q = at_place place x in
    let vs = left_by q us (partner_of q us) in
    let e : suc place + length xs ≡ place + suc (length xs) = omega arith in
    unpaired-cons place us x (xs ++ ys)
    ∙ unpaired-split (suc place) vs xs ys
    ∙ ap (λ k. unpaired_from k (unpaired_from (suc place) vs xs) ys) e
    ∙ ap (λ (l : List Placed). unpaired_from (place + suc (length xs)) l ys) (sym (unpaired-cons place us x xs))

any-here : {X : Type 0} (P : X → Type 0) (before : List X) (x : X) (after : List X) → P x → Any P (before ++ x ∷ after)
any-here P before x after h = (length before, x, within before, there before, h)
  where
    within : (l : List _) → length l < length (l ++ x ∷ after)
    within l = let e = length-append l (x ∷ after) in omega arith

    there : (l : List _) → slice_index_or (l ++ x ∷ after) (length l) x ≡ x
    there [] = refl
    there (y ∷ l) = there l

any-later : {X : Type 0} (P : X → Type 0) (before : List X) (x : X) (list after : List X) → list ≡ x ∷ after → P x → Any P (before ++ list)
any-later P before x list after e h = subst (λ (l : List _). Any P (before ++ l)) (sym e) (any-here P before x after h)

-- Batches a and b are a pair, and no batch of packet n is left unpaired.
record AreFound (by : Bool) (p : PacketJournal) (n : ℕ) (a b : Presented) (list : List Sided) : Type 0 where
  pair : Any (IsPairOf a b) (pairs list)
  left : AllElse by p n (unpaired list)

-- two batches of packet n on different sides are a pair, if at most 511 batches of other packets are between them
meets : (by : Bool) (p : PacketJournal) (n : ℕ) (front mid rest : List Sided) (w z : Sided) → Conforms p.times → IsPresentedOfTalker by p w.batch → IsPresentedOfTalker by p z.batch → IsOfPacket by p n w.batch → IsOfPacket by p n z.batch → is_side z.side w.side ≡ false
    → AllByRecursion (λ x. IsElse by p n x.batch) front → AllByRecursion (λ x. IsElse by p n x.batch) mid → AllByRecursion (λ x. IsElse by p n x.batch) rest → length (w ∷ mid) ≤ 512 → AreFound by p n w.batch z.batch (front ++ w ∷ (mid ++ z ∷ rest))
meets by p n front mid rest w z is tw tz ow oz sides hf hm hr near =
    let place = 0 + length front in
    let u0 = unpaired_from 0 [] front in
    let wp = at_place place w in
    let alone : partner_of wp u0 ≡ None = none-of by p n wp u0 is tw ow (unpaired-all (IsElse by p n) 0 [] front tt hf) in
    let u1 = left_by wp u0 (partner_of wp u0) in
    let waits1 : Waits by p n wp u1 = subst (λ (o : Option Placed). Waits by p n wp (left_by wp u0 o)) (sym alone)
    (record { before = u0; after = []; split = refl; all_before = unpaired-all (IsElse by p n) 0 [] front tt hf; all_after = tt }) in
    let u2 = unpaired_from (suc place) u1 mid in
    let waits2 = goes-by by p n wp (suc place) u1 mid is tw ow hm waits1 in
    let zp = at_place (suc place + length mid) z in
    let close : nat_le (suc place + length mid) (place + 512) ≡ true = le-yes (suc place + length mid) (place + 512) (omega arith) in
    let may : may_pair zp wp ≡ true =
    ap (λ v. v && not (is_side z.side w.side) && fits z.side z.batch w.batch) close ∙ ap (λ v. not v && fits z.side z.batch w.batch) sides ∙ fits-one z.side by p n z.batch w.batch is tz.pace tw.pace oz ow in
    let found : partner_of zp u2 ≡ Some wp = ap (find (may_pair zp)) waits2.split ∙ first-of by p n zp wp waits2.before waits2.after is tz oz waits2.all_before may in
    let last = pairs-cons (suc place + length mid) u2 z rest ∙ ap (λ (o : Option Placed). pair_by zp o ++ pairs_from (suc (suc place + length mid)) (left_by zp u2 o) rest) found in
    let pair : Paired = record { earlier = wp; later = zp } in
    let tail = pairs_from (suc place + length mid) u2 (z ∷ rest) in
    let after_w = pairs_from (suc place) u1 mid in
    let all = pairs-split 0 [] front (w ∷ (mid ++ z ∷ rest)) ∙ ap (λ (l : List Paired). pairs_from 0 [] front ++ l) (pairs-cons place u0 w (mid ++ z ∷ rest) ∙ ap (λ (l : List Paired). pair_by wp (partner_of wp u0) ++ l) (pairs-split (suc place) u1 mid (z ∷ rest))) in
    let assoc : pairs_from 0 [] front ++ (pair_by wp (partner_of wp u0) ++ (after_w ++ tail)) ≡ (pairs_from 0 [] front ++ (pair_by wp (partner_of wp u0) ++ after_w)) ++ tail =
    ap (λ (l : List Paired). pairs_from 0 [] front ++ l) (sym (append_assoc (pair_by wp (partner_of wp u0)) after_w tail)) ∙ sym (append_assoc (pairs_from 0 [] front) (pair_by wp (partner_of wp u0) ++ after_w) tail) in
    let end = suc (suc place + length mid) in
    let u3 = left_by zp u2 (partner_of zp u2) in
    let others : AllElse by p n u3 =
    subst (λ (o : Option Placed). AllElse by p n (left_by zp u2 o)) (sym found)
    (subst (λ (k : List Placed). AllElse by p n (without_first (may_pair zp) k)) (sym waits2.split) (without-found by p n zp wp waits2.before waits2.after is tz oz waits2.all_before waits2.all_after may)) in
    let rest_of =
    unpaired-split 0 [] front (w ∷ (mid ++ z ∷ rest)) ∙ unpaired-cons place u0 w (mid ++ z ∷ rest) ∙ unpaired-split (suc place) u1 mid (z ∷ rest) ∙ unpaired-cons (suc place + length mid) u2 z rest in
    record {
      pair = subst (λ (l : List Paired). Any (IsPairOf w.batch z.batch) l) (sym (all ∙ assoc))
          (any-later (IsPairOf w.batch z.batch) (pairs_from 0 [] front ++ (pair_by wp (partner_of wp u0) ++ after_w)) pair tail (pairs_from end (left_by zp u2 (Some wp)) rest) last (inl (refl, refl)));
      left = subst (AllElse by p n) (sym rest_of) (unpaired-all (IsElse by p n) end u3 rest others hr);
    }

-- ---- the positions of the two batches

-- A list of both sides is split at batch x of side `s`.
record Split (s : Which) (list : List Sided) (before : List Presented) (x : Presented) (after : List Presented) : Type 0 where
  front : List Sided
  rest : List Sided
  whole : list ≡ front ++ of_side s x ∷ rest
  ahead : batches_of s front ≡ before
  behind : batches_of s rest ≡ after

one-more : (s : Which) (list : List Sided) (before : List Presented) (x : Presented) (after : List Presented) (y : Sided) (own : List Presented) → batches_of s (y ∷ []) ≡ own → Split s list before x after → Split s (y ∷ list) (own ++ before) x after
one-more s list before x after y own e h = record {
  front = y ∷ h.front;
  rest = h.rest;
  whole = ap (λ (l : List Sided). y ∷ l) h.whole;
  ahead = batches-append s (y ∷ []) h.front ∙ ap (λ (l : List Presented). l ++ batches_of s h.front) e ∙ ap (λ (l : List Presented). own ++ l) h.ahead;
  behind = h.behind;
}

split-at : (s : Which) (list : List Sided) (before : List Presented) (x : Presented) (after : List Presented) → batches_of s list ≡ before ++ x ∷ after → Split s list before x after
split-at s [] [] x after e = absurd (cc)
split-at s [] (b ∷ before) x after e = absurd (cc)
split-at s (y ∷ list) before x after e = by s y.side y.batch before e (λ f. split-at s list before x after f) (λ c rest f g. split-at s list rest x after g)
  where
    own : (r : Which) (c : Presented) (bs : List Presented) → c ∷ batches_of r list ≡ bs ++ x ∷ after → ((d : Presented) (rest : List Presented) → bs ≡ d ∷ rest → batches_of r list ≡ rest ++ x ∷ after → Split r list rest x after) → Split r (of_side r c ∷ list) bs x after
    own A c [] e go = let same : c ≡ x = cc in let more : batches_of A list ≡ after = cc in record { front = []; rest = list; whole = ap (λ (d : Presented). of_side A d ∷ list) same; ahead = refl; behind = more }
    own B c [] e go = let same : c ≡ x = cc in let more : batches_of B list ≡ after = cc in record { front = []; rest = list; whole = ap (λ (d : Presented). of_side B d ∷ list) same; ahead = refl; behind = more }
    own A c (d ∷ bs) e go = let same : c ≡ d = cc in let more : batches_of A list ≡ bs ++ x ∷ after = cc in one-more A list bs x after (of_side A c) (d ∷ []) (ap (λ (b : Presented). b ∷ []) same) (go d bs refl more)
    own B c (d ∷ bs) e go = let same : c ≡ d = cc in let more : batches_of B list ≡ bs ++ x ∷ after = cc in one-more B list bs x after (of_side B c) (d ∷ []) (ap (λ (b : Presented). b ∷ []) same) (go d bs refl more)

    by : (r t : Which) (c : Presented) (bs : List Presented) → batches_of r (of_side t c ∷ list) ≡ bs ++ x ∷ after → (batches_of r list ≡ bs ++ x ∷ after → Split r list bs x after)
        → ((d : Presented) (rest : List Presented) → bs ≡ d ∷ rest → batches_of r list ≡ rest ++ x ∷ after → Split r list rest x after) → Split r (of_side t c ∷ list) bs x after
    by A A c bs e skip go = own A c bs e go
    by B B c bs e skip go = own B c bs e go
    by A B c bs e skip go = one-more A list bs x after (of_side B c) [] refl (skip e)
    by B A c bs e skip go = one-more B list bs x after (of_side A c) [] refl (skip e)

-- The list consists of the items before x, then x, and then the items after x.
record Cut (list : List Presented) (x : Presented) : Type 0 where
  before : List Presented
  after : List Presented
  is : list ≡ before ++ x ∷ after

cut-at : (list : List Presented) (i : ℕ) (x : Presented) → slice_get list i ≡ Some x → Cut list x
cut-at [] i x e = absurd (cc)
cut-at (y ∷ list) zero x e = let same : y ≡ x = cc in record { before = []; after = list; is = ap (λ (z : Presented). z ∷ list) same }
cut-at (y ∷ list) (suc i) x e = let h = cut-at list i x e in record { before = y ∷ h.before; after = h.after; is = ap (λ (l : List Presented). y ∷ l) h.is }

-- Item x of `front ++ back` is in `front`.
record InFirst (front back before : List Presented) (x : Presented) (after : List Presented) : Type 0 where
  mid : List Presented
  is : front ≡ before ++ x ∷ mid
  then : after ≡ mid ++ back

record InSecond (front back before : List Presented) (x : Presented) (after : List Presented) : Type 0 where
  mid : List Presented
  is : back ≡ mid ++ x ∷ after
  first : before ≡ front ++ mid

locate : (front back before : List Presented) (x : Presented) (after : List Presented) → front ++ back ≡ before ++ x ∷ after → InFirst front back before x after ⊎ InSecond front back before x after
locate [] back before x after e = inr (record { mid = before; is = e; first = refl })
locate (y ∷ front) back [] x after e =
    let same : y ≡ x = cc in
    let more : front ++ back ≡ after = cc in
    inl (record { mid = front; is = ap (λ (z : Presented). z ∷ front) same; then = sym more })
locate (y ∷ front) back (z ∷ before) x after e =
    let same : y ≡ z = cc in
    let more : front ++ back ≡ before ++ x ∷ after = cc in
    next same (locate front back before x after more)
  where
    next : y ≡ z → InFirst front back before x after ⊎ InSecond front back before x after → InFirst (y ∷ front) back (z ∷ before) x after ⊎ InSecond (y ∷ front) back (z ∷ before) x after
    next same (inl h) = inl (record { mid = h.mid; is = ap (λ (l : List Presented). y ∷ l) h.is ∙ ap (λ (w : Presented). w ∷ (before ++ x ∷ h.mid)) same; then = h.then })
    next same (inr h) = inr (record { mid = h.mid; is = h.is; first = ap (λ (w : Presented). w ∷ before) (sym same) ∙ ap (λ (l : List Presented). y ∷ l) h.first })

-- ---- the other batches of a side

abbrev AreTalkers : Bool → PacketJournal → List Presented → Type 0
AreTalkers by p l = AllByRecursion (IsPresentedOfTalker by p) l

told-else : (by : Bool) (p : PacketJournal) (n : ℕ) (v a : Presented) → Conforms p.times → IsPresentedOfTalker by p v → IsOfPacket by p n a → (first_instant v ≡ first_instant a → v.seq ≢ a.seq) → IsElse by p n v
told-else by p n v a is tv oa t = record { talker = tv; other = λ ov. t (one-first by p n v a is ov oa) (ov.seq ∙ sym oa.seq) }

else-after : (by : Bool) (p : PacketJournal) (n : ℕ) (a : Presented) (l : List Presented) → Conforms p.times → IsOfPacket by p n a → AreTalkers by p l → AllByRecursion (AreTold a) l → AllByRecursion (IsElse by p n) l
else-after by p n a [] is oa all told = tt
else-after by p n a (v ∷ l) is oa all told = (told-else by p n v a is all.0 oa (λ e q. told.0 (sym e) (sym q)), else-after by p n a l is oa all.1 told.1)

else-before : (by : Bool) (p : PacketJournal) (n : ℕ) (a : Presented) (l after : List Presented) → Conforms p.times → IsOfPacket by p n a → AreTalkers by p l → AreAllTold (l ++ a ∷ after) → AllByRecursion (IsElse by p n) l
else-before by p n a [] after is oa all told = tt
else-before by p n a (v ∷ l) after is oa all told = (told-else by p n v a is all.0 oa (all-right (AreTold v) l (a ∷ after) told.0).0, else-before by p n a l after is oa all.1 told.1)

told-from : (l : List Presented) (a : Presented) (after : List Presented) → AreAllTold (l ++ a ∷ after) → AllByRecursion (AreTold a) after
told-from [] a after h = h.0
told-from (v ∷ l) a after h = told-from l a after h.1

-- No batch of `before` or `after` is packet n.
record Others (by : Bool) (p : PacketJournal) (n : ℕ) (before after : List Presented) : Type 0 where
  before_all : AllByRecursion (IsElse by p n) before
  after_all : AllByRecursion (IsElse by p n) after

others-of : (by : Bool) (p : PacketJournal) (n : ℕ) (list before : List Presented) (a : Presented) (after : List Presented) → list ≡ before ++ a ∷ after → Conforms p.times → IsOfPacket by p n a → AreTalkers by p list → AreAllTold list → Others by p n before after
others-of by p n list before a after e is oa all told =
    let t = subst AreAllTold e told in
    let k = subst (AreTalkers by p) e all in
    record {
      before_all = else-before by p n a before after is oa (all-left (IsPresentedOfTalker by p) before (a ∷ after) k) t;
      after_all = else-after by p n a after is oa (all-right (IsPresentedOfTalker by p) before (a ∷ after) k).1 (told-from before a after t);
    }

both-else : (by : Bool) (p : PacketJournal) (n : ℕ) (l : List Sided) → AllByRecursion (IsElse by p n) (batches_of A l) → AllByRecursion (IsElse by p n) (batches_of B l) → AllByRecursion (λ x. IsElse by p n x.batch) l
both-else by p n [] a b = tt
both-else by p n (x ∷ l) a b = at x.side x.batch a b (λ c d. both-else by p n l c d)
  where
    at : (s : Which) (c : Presented) → AllByRecursion (IsElse by p n) (batches_of A (of_side s c ∷ l)) → AllByRecursion (IsElse by p n) (batches_of B (of_side s c ∷ l)) → (AllByRecursion (IsElse by p n) (batches_of A l) → AllByRecursion (IsElse by p n) (batches_of B l) → AllByRecursion (λ x. IsElse by p n x.batch) l)
        → IsElse by p n c × AllByRecursion (λ x. IsElse by p n x.batch) l
    at A c a b ih = (a.0, ih a.1 b)
    at B c a b ih = (b.0, ih a b.1)

-- at most 511 batches are between two batches with the same first instant
few-between : (front back rest : List Sided) (head y : Sided) (xs ys : List Presented) → IsSorted (front ++ head ∷ (back ++ y ∷ rest)) → first_instant head.batch ≡ first_instant y.batch → batches_of A (front ++ head ∷ (back ++ y ∷ rest)) ≡ xs → batches_of B (front ++ head ∷ (back ++ y ∷ rest)) ≡ ys
    → IsPresentation xs → IsPresentation ys → length (head ∷ back) ≤ 512
few-between front back rest head y xs ys s same ea eb px py =
    let t = first_instant y.batch in
    let after = all-left (MayPrecede head) back (y ∷ rest) (sorted-after front head (back ++ y ∷ rest) s) in
    let before = sorted-before back y rest (sorted-back (head ∷ []) (back ++ y ∷ rest) (sorted-back front ((head ∷ back) ++ y ∷ rest) s)) in
    let at = between-at head back y rest t same refl after before in
    let mid : AllByRecursion (λ b. first_instant b.batch ≡ t) (head ∷ back) = (same, at) in
    let a = part-few t (batches_of A front) (batches_of A (head ∷ back)) (batches_of A (y ∷ rest)) (batches-at A t (head ∷ back) mid) (subst IsPresentation (sym ea ∙ parts A front (head ∷ back) (y ∷ rest)) px) in
    let b = part-few t (batches_of B front) (batches_of B (head ∷ back)) (batches_of B (y ∷ rest)) (batches-at B t (head ∷ back) mid) (subst IsPresentation (sym eb ∙ parts B front (head ∷ back) (y ∷ rest)) py) in
    let n = sides-length (head ∷ back) in
    omega arith

any-swap : (a b : Presented) (l : List Paired) → Any (IsPairOf b a) l → Any (IsPairOf a b) l
any-swap a b l (k, x, within, there, h) = (k, x, within, there, swap h)
  where
    swap : IsPairOf b a x → IsPairOf a b x
    swap (inl g) = inr g
    swap (inr g) = inl g

seqs-small : (by : Bool) (p : PacketJournal) (l : List Presented) → AreTalkers by p l → AllByRecursion (λ (x : Presented). x.seq < 256) l
seqs-small by p [] all = tt
seqs-small by p (x ∷ l) all = (small x.seq all.0.is.number all.0.is.is.seq, seqs-small by p l all.1)
  where
    small : (q n : ℕ) → q ≡ n % 256 → q < 256
    small q n e = omega arith

-- Both sides present batches of the talker. Batch a of A and batch b of B are packet n.
record Given (by : Bool) (p : PacketJournal) (n : ℕ) (xs ys : List Presented) (a b : Presented) : Type 0 where
  talkers_a : AreTalkers by p xs
  talkers_b : AreTalkers by p ys
  is_a : IsPresentation xs
  is_b : IsPresentation ys
  of_a : IsOfPacket by p n a
  of_b : IsOfPacket by p n b
  talker_a : IsPresentedOfTalker by p a
  talker_b : IsPresentedOfTalker by p b

talker-in : (by : Bool) (p : PacketJournal) (before : List Presented) (x : Presented) (after list : List Presented) → list ≡ before ++ x ∷ after → AreTalkers by p list → IsPresentedOfTalker by p x
talker-in by p before x after list e all = (all-right (IsPresentedOfTalker by p) before (x ∷ after) (subst (AreTalkers by p) e all)).0

a-first : (by : Bool) (p : PacketJournal) (n : ℕ) (xs ys : List Presented) (a b : Presented) (front r1 r2 list : List Sided) (x1 x2 y1 y2 m : List Presented) → Conforms p.times → Given by p n xs ys a b → IsSorted list → batches_of A list ≡ xs → batches_of B list ≡ ys
    → list ≡ front ++ of_side A a ∷ (r1 ++ of_side B b ∷ r2) → xs ≡ x1 ++ a ∷ x2 → ys ≡ y1 ++ b ∷ y2 → batches_of A front ≡ x1 → batches_of A (r1 ++ of_side B b ∷ r2) ≡ x2 → batches_of B r1 ≡ m → y1 ≡ batches_of B front ++ m → batches_of B r2 ≡ y2
    → AreFound by p n a b list
a-first by p n xs ys a b front r1 r2 list x1 x2 y1 y2 m is g sorted ea eb whole ex ey fa ra rb first last =
    let ox = others-of by p n xs x1 a x2 ex is g.of_a g.talkers_a g.is_a.told in
    let oy = others-of by p n ys y1 b y2 ey is g.of_b g.talkers_b g.is_b.told in
    let y_all = subst (AllByRecursion (IsElse by p n)) first oy.before_all in
    let hf = both-else by p n front (subst (AllByRecursion (IsElse by p n)) (sym fa) ox.before_all) (all-left (IsElse by p n) (batches_of B front) m y_all) in
    let x_all = subst (AllByRecursion (IsElse by p n)) (sym ra ∙ batches-append A r1 (of_side B b ∷ r2)) ox.after_all in
    let hm = both-else by p n r1 (all-left (IsElse by p n) (batches_of A r1) (batches_of A (of_side B b ∷ r2)) x_all) (subst (AllByRecursion (IsElse by p n)) (sym rb) (all-right (IsElse by p n) (batches_of B front) m y_all)) in
    let hr = both-else by p n r2 (all-right (IsElse by p n) (batches_of A r1) (batches_of A (of_side B b ∷ r2)) x_all) (subst (AllByRecursion (IsElse by p n)) (sym last) oy.after_all) in
    let near = few-between front r1 r2 (of_side A a) (of_side B b) xs ys (subst IsSorted whole sorted) (one-first by p n a b is g.of_a g.of_b) (ap (batches_of A) (sym whole) ∙ ea) (ap (batches_of B) (sym whole) ∙ eb) g.is_a g.is_b in
    subst (AreFound by p n a b) (sym whole) (meets by p n front r1 r2 (of_side A a) (of_side B b) is g.talker_a g.talker_b g.of_a g.of_b refl hf hm hr near)

b-first : (by : Bool) (p : PacketJournal) (n : ℕ) (xs ys : List Presented) (a b : Presented) (front r1 r2 list : List Sided) (x1 x2 y1 y2 m : List Presented) → Conforms p.times → Given by p n xs ys a b → IsSorted list → batches_of A list ≡ xs → batches_of B list ≡ ys
    → list ≡ front ++ of_side B b ∷ (r1 ++ of_side A a ∷ r2) → xs ≡ x1 ++ a ∷ x2 → ys ≡ y1 ++ b ∷ y2 → batches_of B front ≡ y1 → batches_of A front ++ batches_of A r1 ≡ x1 → batches_of B r1 ++ m ≡ y2 → batches_of A r2 ≡ x2 → batches_of B r2 ≡ m
    → AreFound by p n a b list
b-first by p n xs ys a b front r1 r2 list x1 x2 y1 y2 m is g sorted ea eb whole ex ey fb fa rb last_a last_b =
    let ox = others-of by p n xs x1 a x2 ex is g.of_a g.talkers_a g.is_a.told in
    let oy = others-of by p n ys y1 b y2 ey is g.of_b g.talkers_b g.is_b.told in
    let x_all = subst (AllByRecursion (IsElse by p n)) (sym fa) ox.before_all in
    let y_all = subst (AllByRecursion (IsElse by p n)) (sym rb) oy.after_all in
    let hf = both-else by p n front (all-left (IsElse by p n) (batches_of A front) (batches_of A r1) x_all) (subst (AllByRecursion (IsElse by p n)) (sym fb) oy.before_all) in
    let hm = both-else by p n r1 (all-right (IsElse by p n) (batches_of A front) (batches_of A r1) x_all) (all-left (IsElse by p n) (batches_of B r1) m y_all) in
    let hr = both-else by p n r2 (subst (AllByRecursion (IsElse by p n)) (sym last_a) ox.after_all) (subst (AllByRecursion (IsElse by p n)) (sym last_b) (all-right (IsElse by p n) (batches_of B r1) m y_all)) in
    let near = few-between front r1 r2 (of_side B b) (of_side A a) xs ys (subst IsSorted whole sorted) (one-first by p n b a is g.of_b g.of_a) (ap (batches_of A) (sym whole) ∙ ea) (ap (batches_of B) (sym whole) ∙ eb) g.is_a g.is_b in
    let found = subst (AreFound by p n b a) (sym whole) (meets by p n front r1 r2 (of_side B b) (of_side A a) is g.talker_b g.talker_a g.of_b g.of_a refl hf hm hr near) in
    record { pair = any-swap a b (pairs list) found.pair; left = found.left }

found-at : (by : Bool) (p : PacketJournal) (n : ℕ) (xs ys : List Presented) (a b : Presented) (list : List Sided) (x1 x2 y1 y2 : List Presented) → Conforms p.times → Given by p n xs ys a b → IsSorted list → batches_of A list ≡ xs → batches_of B list ≡ ys → xs ≡ x1 ++ a ∷ x2 → ys ≡ y1 ++ b ∷ y2 → AreFound by p n a b list
found-at by p n xs ys a b list x1 x2 y1 y2 is g sorted ea eb ex ey = at (locate (batches_of B sa.front) (batches_of B sa.rest) y1 b y2 (sym (batches-append B sa.front (of_side A a ∷ sa.rest)) ∙ ap (batches_of B) (sym sa.whole) ∙ eb ∙ ey))
  where
    sa : Split A list x1 a x2
    sa = split-at A list x1 a x2 (ea ∙ ex)

    at : InFirst (batches_of B sa.front) (batches_of B sa.rest) y1 b y2 ⊎ InSecond (batches_of B sa.front) (batches_of B sa.rest) y1 b y2 → AreFound by p n a b list
    at (inr h) =
        let sb = split-at B sa.rest h.mid b y2 h.is in
        a-first by p n xs ys a b sa.front sb.front sb.rest list x1 x2 y1 y2 h.mid is g sorted ea eb (sa.whole ∙ ap (λ (l : List Sided). sa.front ++ of_side A a ∷ l) sb.whole) ex ey sa.ahead (ap (batches_of A) (sym sb.whole) ∙ sa.behind) sb.ahead h.first sb.behind
    at (inl h) =
        let sb = split-at B sa.front y1 b h.mid h.is in
        b-first by p n xs ys a b sb.front sb.rest sa.rest list x1 x2 y1 y2 (batches_of B sa.rest) is g sorted ea eb
        (sa.whole ∙ ap (λ (l : List Sided). l ++ of_side A a ∷ sa.rest) sb.whole ∙ append_assoc sb.front (of_side B b ∷ sb.rest) (of_side A a ∷ sa.rest)) ex ey sb.ahead
        (sym (batches-append A sb.front (of_side B b ∷ sb.rest)) ∙ ap (batches_of A) (sym sb.whole) ∙ sa.ahead) (ap (λ (l : List Presented). l ++ batches_of B sa.rest) sb.behind ∙ sym h.then) sa.behind refl

-- if two listeners present batches of the same packet, the two batches are a pair, and no batch of the packet is left
-- unpaired
captures-found : (shift : ℤ) (p : PacketJournal) (plan other : ListenPlan) (records others : List Record) → HearsTalker shift p plan records → HearsTalker shift p other others → by_clock other ≡ by_clock plan → (n i k : ℕ) (a b : Presented)
    → slice_get (presented_of (shown_of plan records)) i ≡ Some a → slice_get (presented_of (shown_of other others)) k ≡ Some b → IsOfPacket (by_clock plan) p n a → IsOfPacket (by_clock plan) p n b → AreFound (by_clock plan) p n a b (merged (presented_of (shown_of plan records)) (presented_of (shown_of other others)))
captures-found shift p plan other records others h g e n i k a b there_a there_b oa ob =
    let xs = presented_of (shown_of plan records) in
    let ys = presented_of (shown_of other others) in
    let tx = presented-of-talker shift p plan records h in
    let ty = subst (λ (b : Bool). AreTalkers b p ys) e (presented-of-talker shift p other others g) in
    let px = shown-told plan records (seqs-small (by_clock plan) p xs tx) in
    let py = shown-told other others (seqs-small (by_clock plan) p ys ty) in
    let ca = cut-at xs i a there_a in
    let cb = cut-at ys k b there_b in
    let m = merges xs ys px.order py.order in
    found-at (by_clock plan) p n xs ys a b (merged xs ys) ca.before ca.after cb.before cb.after h.conforming.times
    (record { talkers_a = tx; talkers_b = ty; is_a = px; is_b = py; of_a = oa; of_b = ob; talker_a = talker-in (by_clock plan) p ca.before a ca.after xs ca.is tx; talker_b = talker-in (by_clock plan) p cb.before b cb.after ys cb.is ty })
    m.sorted m.a m.b ca.is cb.is

-- if two listeners present batches of the same packet, the two batches are a pair
pub captures-paired : (shift : ℤ) (p : PacketJournal) (plan other : ListenPlan) (records others : List Record) → HearsTalker shift p plan records → HearsTalker shift p other others → by_clock other ≡ by_clock plan → (n i k : ℕ) (a b : Presented)
    → slice_get (presented_of (shown_of plan records)) i ≡ Some a → slice_get (presented_of (shown_of other others)) k ≡ Some b → IsOfPacket (by_clock plan) p n a → IsOfPacket (by_clock plan) p n b → Any (IsPairOf a b) (pairs (merged (presented_of (shown_of plan records)) (presented_of (shown_of other others))))
captures-paired shift p plan other records others h g e n i k a b there_a there_b oa ob = (captures-found shift p plan other records others h g e n i k a b there_a there_b oa ob).pair

-- if both listeners present packet n, no batch of packet n is left unpaired
pub captures-leave-none : (shift : ℤ) (p : PacketJournal) (plan other : ListenPlan) (records others : List Record) → HearsTalker shift p plan records → HearsTalker shift p other others → by_clock other ≡ by_clock plan → (n i k : ℕ) (a b : Presented)
    → slice_get (presented_of (shown_of plan records)) i ≡ Some a → slice_get (presented_of (shown_of other others)) k ≡ Some b → IsOfPacket (by_clock plan) p n a → IsOfPacket (by_clock plan) p n b → AllByRecursion (IsOfAnother (by_clock plan) p n) (unpaired (merged (presented_of (shown_of plan records)) (presented_of (shown_of other others))))
captures-leave-none shift p plan other records others h g e n i k a b there_a there_b oa ob =
    all-weaker (λ u. IsElse (by_clock plan) p n u.batch) (IsOfAnother (by_clock plan) p n) (λ u d. d.other) (unpaired (merged (presented_of (shown_of plan records)) (presented_of (shown_of other others))))
    (captures-found shift p plan other records others h g e n i k a b there_a there_b oa ob).left
