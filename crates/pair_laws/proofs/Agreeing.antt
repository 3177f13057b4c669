-- Two captures of one talker never differ.
use Rattle.std.proofs.Common.{◌≡◌, ℕ, zero, suc, ◌*◌, ◌%◌, ◌≤◌, Bool, true, false, cond, ◌&&◌, ◌||◌, ◌⊎◌, inl, inr, ℤ, ◌-ℤ◌, List, [], ◌∷◌, ◌++◌, Option, Some, None, refl, sym, ap, ◌∙◌, subst, arith, mul-le-mul_left}
use Rattle.std.specs.Prelude.{◌==◌, unsigned_abs, option_map}
use Rattle.std.specs.List.{AllByRecursion, cons_option, filter_map, find}
use Rattle.std.proofs.lemmas.Bool.{eqb-true}
use Rattle.std.proofs.lemmas.Int.{ints}
use Rattle.pcap_frames.specs.Capture.{Record}
use Rattle.stream_journal.specs.Conforming.{Conforms}
use Rattle.stream_journal.specs.Delivered.{IsAudioKind}
use Rattle.stream_journal.specs.Journal.{Am824, DenseAaf, H264, IsAt, Kind, SparseAaf}
use Rattle.stream_journal.specs.Near.{IsNear}
use Rattle.stream_journal.proofs.NearPackets.{near_packets}
use Rattle.packet_journal.specs.Packets.{PacketJournal}
use Rattle.sample_schedule.specs.Batches.{Presented, is_unit}
use Rattle.sample_schedule.specs.Verdicts.{first_instant, same_instant}
use Rattle.listener.specs.declared.plan.ListenPlan.{ListenPlan}
use Rattle.listener.specs.Heard.{shown_of}
use Rattle.listener.specs.Laws.{AreSame, HearsTalker, IsOfPacket, by_clock, presented_of, sample_count}
use Rattle.listener.proofs.TrueOnce.{first_at, one_packet, same_samples}
use Rattle.listener_pair.specs.declared.difference.Difference.{Difference}
use Rattle.listener_pair.specs.declared.difference.Which.{Which}
use Rattle.listener_pair.specs.declared.difference.Which.TheVariants.{A, B}
use Rattle.listener_pair.specs.declared.placed.Placed.{Placed}
use Rattle.listener_pair.specs.Merged.{Sided, merged}
use Rattle.listener_pair.specs.Pairs.{Paired, are_near, at_place, fits, left_by, may_pair, pair_by, pairs, pairs_from, partner_of, reaches, within_reach, without_first}
use Rattle.listener_pair.specs.Differences.{difference_by, difference_of, differ_in, differences}
use Rattle.listener_pair.specs.Laws.{IsPair}
use Rattle.listener_pair.specs.Ways.{first_way, way_of}
use Rattle.listener_pair.proofs.PairLaws.{pairs-are}
use Rattle.listener_pair.proofs.Samples.{both-left, both-right, equal-sample, first-next, first-none, no-way}
use Rattle.listener_pair.proofs.Windows.{le-of}
use Rattle.listener_pair.proofs.Sorting.{all-join}
use Rattle.pair_laws.specs.Agreeing.{HasPace, IsOneOf, IsPresentedOfTalker, KeepsPace}
use Rattle.pair_laws.proofs.Beside.{pairs-cons, pairs-nil}
use Rattle.capture_pair.proofs.Joined.{all-merged}
use Rattle.pair_laws.proofs.Paces.{presented-of-talker}
use Rattle.clock_track.proofs.LineFacts.{at_most}

-- ---- equal batches do not differ

same-first-way : (a b : Presented) (n : ℕ) → AreSame a b → n ≤ a.count → first_way a b n ≡ None
same-first-way a b zero s le = first-none a b
same-first-way a b (suc n) s le =
    let bytes = s.bytes in
    let count = s.count in
    first-next a b n (same-first-way a b n s (omega arith)) ∙ equal-sample a b n (s.instants n (omega arith)) (cc)

same-way : (a b : Presented) → AreSame a b → way_of a b ≡ None
same-way a b s = sym (no-way a b s.count (same-first-way a b a.count s (omega arith)))

same-none : (s : Which) (x y : Presented) → AreSame x y → AreSame y x → difference_by s x y ≡ None
same-none A x y s t = ap (option_map (differ_in x y)) (same-way x y s)
same-none B x y s t = ap (option_map (differ_in y x)) (same-way y x t)

-- ---- batches within reach are the same packet

-- Let a line keep the pace of `rate`. If a time `u` is at most 64 times the duration of `count` samples on this line,
-- `u` is at most 72 times the nominal duration of these samples.
paced : (u den count num rate : ℕ) → 1 ≤ den → u * den ≤ 64 * count * num → 8 * (rate * num) ≤ 9000000000 * den → u * rate ≤ 72 * (count * 1000000000)
paced u den count num rate some near pace =
    let a : (8 * rate) * (u * den) ≤ (8 * rate) * (64 * count * num) = mul-le-mul_left (8 * rate) near in
    let b : (64 * count) * (8 * (rate * num)) ≤ (64 * count) * (9000000000 * den) = mul-le-mul_left (64 * count) pace in
    let c : den * (u * rate) ≤ den * (72 * (count * 1000000000)) = omega arith in
    at_most den (u * rate) (72 * (count * 1000000000)) some c

instant-is : (x y : ℤ) → same_instant x y ≡ true → x ≡ y
instant-is x y e = grind (arith, ints)

-- if batches `a` and `b` are within reach, they have the same first instant, or they are near each other and `a` is not
-- a unit
reach-cases : (a b : Presented) → within_reach a b ≡ true → (first_instant a ≡ first_instant b) ⊎ ((is_unit a ≡ false) × (are_near a b ≡ true))
unfolding within_reach
reach-cases a b h = at (is_unit a) (is_unit b) refl h
  where
    at : (u v : Bool) → is_unit a ≡ u → cond (u || v) (u && v && same_instant (first_instant a) (first_instant b)) (are_near a b) ≡ true → (first_instant a ≡ first_instant b) ⊎ ((is_unit a ≡ false) × (are_near a b ≡ true))
    at true true e h = inl (instant-is (first_instant a) (first_instant b) h)
    at true false e h = absurd (cc)
    at false true e h = absurd (cc)
    at false false e h = inr (e, h)

near-audio : (p : PacketJournal) (a b : Presented) → a.count ≡ p.times.count → HasPace p.times.rate a → are_near a b ≡ true → IsNear p.times 72 (first_instant a) (first_instant b)
near-audio p a b count pace near =
    paced (unsigned_abs (first_instant a -ℤ first_instant b)) a.line.den p.times.count a.line.num p.times.rate pace.some
    (subst (λ (c : ℕ). unsigned_abs (first_instant a -ℤ first_instant b) * a.line.den ≤ 64 * c * a.line.num) count (le-of (unsigned_abs (first_instant a -ℤ first_instant b) * a.line.den) (64 * a.count * a.line.num) near)) pace.spacing

one-near : (by : Bool) (p : PacketJournal) (n m : ℕ) (a b : Presented) → IsAudioKind p.times.kind → Conforms p.times → IsOfPacket by p n a → IsOfPacket by p m b → n % 256 ≡ m % 256 → IsNear p.times 72 (first_instant a) (first_instant b) → n ≡ m
one-near by p n m a b heard is x y seq near = near_packets p.times by n m (first_instant a) (first_instant b) is heard x.known y.known seq (first_at by p n a is x) (first_at by p m b is y) near

one-instant : (by : Bool) (p : PacketJournal) (n m : ℕ) (a b : Presented) → Conforms p.times → IsOfPacket by p n a → IsOfPacket by p m b → n % 256 ≡ m % 256 → first_instant a ≡ first_instant b → n ≡ m
one-instant by p n m a b is x y seq e = one_packet by p n m (first_instant b) is x.known y.known seq (subst (λ (i : ℤ). IsAt by p.times n 0 i) e (first_at by p n a is x)) (first_at by p m b is y)

count-of : (kind : Kind) (p : PacketJournal) (a : Presented) → p.times.kind ≡ kind → a.count ≡ sample_count p.times.kind p.times.count → a.count ≡ sample_count kind p.times.count
count-of kind p a e c = c ∙ ap (λ (k : Kind). sample_count k p.times.count) e

audio-kind : (kind : Kind) (p : PacketJournal) → p.times.kind ≡ kind → IsAudioKind kind → IsAudioKind p.times.kind
audio-kind kind p e h = subst IsAudioKind (sym e) h

one-by-kind : (kind : Kind) (by : Bool) (p : PacketJournal) (n m : ℕ) (a b : Presented) → p.times.kind ≡ kind → KeepsPace kind p.times.rate a → Conforms p.times → IsOfPacket by p n a → IsOfPacket by p m b → n % 256 ≡ m % 256 → is_unit a ≡ false → are_near a b ≡ true → n ≡ m
one-by-kind DenseAaf by p n m a b e pace is x y seq unit near = one-near by p n m a b (audio-kind DenseAaf p e tt) is x y seq (near-audio p a b (count-of DenseAaf p a e x.count) pace near)
one-by-kind SparseAaf by p n m a b e pace is x y seq unit near = one-near by p n m a b (audio-kind SparseAaf p e tt) is x y seq (near-audio p a b (count-of SparseAaf p a e x.count) pace near)
one-by-kind (Am824 interval dbc) by p n m a b e pace is x y seq unit near = one-near by p n m a b (audio-kind (Am824 interval dbc) p e tt) is x y seq (near-audio p a b (count-of (Am824 interval dbc) p a e x.count) pace near)
one-by-kind (H264 part) by p n m a b e pace is x y seq unit near = let f : true ≡ false = sym pace ∙ unit in absurd (cc)

one-in-reach : (by : Bool) (p : PacketJournal) (n m : ℕ) (a b : Presented) → KeepsPace p.times.kind p.times.rate a → Conforms p.times → IsOfPacket by p n a → IsOfPacket by p m b → n % 256 ≡ m % 256 → (first_instant a ≡ first_instant b) ⊎ ((is_unit a ≡ false) × (are_near a b ≡ true)) → n ≡ m
one-in-reach by p n m a b pace is x y seq (inl e) = one-instant by p n m a b is x y seq e
one-in-reach by p n m a b pace is x y seq (inr (unit, near)) = one-by-kind p.times.kind by p n m a b refl pace is x y seq unit near

fits-seq : (s : Which) (x y : Presented) → fits s x y ≡ true → y.seq ≡ x.seq
unfolding fits
fits-seq s x y h = eqb-true y.seq x.seq (both-left (y.seq == x.seq) (reaches s x y) h)

fits-reach : (s : Which) (x y : Presented) → fits s x y ≡ true → reaches s x y ≡ true
unfolding fits
fits-reach s x y h = both-right (y.seq == x.seq) (reaches s x y) h

pub one-that-fits : (s : Which) (by : Bool) (p : PacketJournal) (n m : ℕ) (x y : Presented) → KeepsPace p.times.kind p.times.rate x → KeepsPace p.times.kind p.times.rate y → Conforms p.times → IsOfPacket by p n x → IsOfPacket by p m y → fits s x y ≡ true → n ≡ m
one-that-fits A by p n m x y px py is ox oy h =
    one-in-reach by p n m x y px is ox oy (sym ox.seq ∙ sym (fits-seq A x y h) ∙ oy.seq) (reach-cases x y (fits-reach A x y h))
one-that-fits B by p n m x y px py is ox oy h =
    sym (one-in-reach by p m n y x py is oy ox (sym oy.seq ∙ fits-seq B x y h ∙ ox.seq) (reach-cases y x (fits-reach B x y h)))

-- ---- all pairs are of batches of the list

find-all : (Q : Placed → Type 0) (test : Placed → Bool) (us : List Placed) → AllByRecursion Q us → (o : Option Placed) → find test us ≡ o → (x : Placed) → o ≡ Some x → Q x
find-all Q test [] all o e x f = let g : None ≡ Some x = e ∙ f in absurd (cc)
find-all Q test (u ∷ us) all o e x f = at (test u) (e ∙ f) (λ g. find-all Q test us all.1 (find test us) refl x g)
  where
    at : (v : Bool) → cond v (Some u) (find test us) ≡ Some x → (find test us ≡ Some x → Q x) → Q x
    at true g ih = let same : u ≡ x = cc in subst Q same all.0
    at false g ih = ih g

pub without-all : (Q : Placed → Type 0) (test : Placed → Bool) (us : List Placed) → AllByRecursion Q us → AllByRecursion Q (without_first test us)
without-all Q test [] all = tt
without-all Q test (u ∷ us) all = at (test u) (without-all Q test us all.1)
  where
    at : (v : Bool) → AllByRecursion Q (without_first test us) → AllByRecursion Q (cond v us (u ∷ without_first test us))
    at true ih = all.1
    at false ih = (all.0, ih)

pub left-all : (Q : Placed → Type 0) (x : Placed) (us : List Placed) (o : Option Placed) → AllByRecursion Q us → Q x → AllByRecursion Q (left_by x us o)
left-all Q x us None all h = all-join Q us (x ∷ []) all (h, tt)
left-all Q x us (Some u) all h = without-all Q (may_pair x) us all

abbrev BothOf : (Presented → Type 0) → Paired → Type 0
BothOf Q pair = Q pair.earlier.batch × Q pair.later.batch

pair-all : (Q : Presented → Type 0) (x : Placed) (us : List Placed) (o : Option Placed) → partner_of x us ≡ o → AllByRecursion (λ u. Q u.batch) us → Q x.batch → AllByRecursion (BothOf Q) (pair_by x o)
pair-all Q x us None e all h = tt
pair-all Q x us (Some u) e all h = ((find-all (λ v. Q v.batch) (may_pair x) us all (Some u) e u refl, h), tt)

pairs-all-join : (P : Paired → Type 0) (xs ys : List Paired) → AllByRecursion P xs → AllByRecursion P ys → AllByRecursion P (xs ++ ys)
pairs-all-join P [] ys p q = q
pairs-all-join P (x ∷ xs) ys p q = (p.0, pairs-all-join P xs ys p.1 q)

pairs-all : (Q : Presented → Type 0) (place : ℕ) (us : List Placed) (rest : List Sided) → AllByRecursion (λ u. Q u.batch) us → AllByRecursion (λ x. Q x.batch) rest → AllByRecursion (BothOf Q) (pairs_from place us rest)
pairs-all Q place us [] all more = subst (AllByRecursion (BothOf Q)) (sym (pairs-nil place us)) tt
pairs-all Q place us (x ∷ rest) all more =
    let p = at_place place x in
    let o = partner_of p us in
    subst (AllByRecursion (BothOf Q)) (sym (pairs-cons place us x rest))
    (pairs-all-join (BothOf Q) (pair_by p o) (pairs_from (suc place) (left_by p us o) rest) (pair-all Q p us o refl all more.0)
    (pairs-all Q (suc place) (left_by p us o) rest (left-all (λ u. Q u.batch) p us o all more.0) more.1))

-- ---- no pair differs

-- if both batches of a pair are of the talker, the pair is of one packet or unit
pair-one : (by : Bool) (p : PacketJournal) (pair : Paired) → Conforms p.times → IsPair pair → BothOf (IsPresentedOfTalker by p) pair → IsOneOf by p pair
pair-one by p pair is k h =
    let same = one-that-fits pair.later.side by p h.1.is.number h.0.is.number pair.later.batch pair.earlier.batch h.1.pace h.0.pace is h.1.is.is h.0.is.is k.fits in
    record { number = h.0.is.number; earlier = h.0.is.is; later = subst (λ (n : ℕ). IsOfPacket by p n pair.later.batch) same h.1.is.is }

pair-none : (by : Bool) (p : PacketJournal) (pair : Paired) → Conforms p.times → IsOneOf by p pair → difference_of pair ≡ None
pair-none by p pair is o = same-none pair.later.side pair.later.batch pair.earlier.batch (same_samples by p o.number pair.later.batch pair.earlier.batch is o.later o.earlier) (same_samples by p o.number pair.earlier.batch pair.later.batch is o.earlier o.later)

pairs-one : (by : Bool) (p : PacketJournal) (ps : List Paired) → Conforms p.times → AllByRecursion IsPair ps → AllByRecursion (BothOf (IsPresentedOfTalker by p)) ps → AllByRecursion (IsOneOf by p) ps
pairs-one by p [] is k h = tt
pairs-one by p (x ∷ ps) is k h = (pair-one by p x is k.0 h.0, pairs-one by p ps is k.1 h.1)

pairs-none : (by : Bool) (p : PacketJournal) (ps : List Paired) → Conforms p.times → AllByRecursion (IsOneOf by p) ps → filter_map difference_of ps ≡ []
pairs-none by p [] is h = refl
pairs-none by p (x ∷ ps) is h = ap (λ (o : Option Difference). cons_option o (filter_map difference_of ps)) (pair-none by p x is h.0) ∙ pairs-none by p ps is h.1

-- if all batches of a merged list are of one talker, each pair is of one packet or unit
pub list-one : (by : Bool) (p : PacketJournal) (list : List Sided) → Conforms p.times → AllByRecursion (λ (x : Sided). IsPresentedOfTalker by p x.batch) list → AllByRecursion (IsOneOf by p) (pairs list)
list-one by p list is h = pairs-one by p (pairs list) is (pairs-are list) (pairs-all (IsPresentedOfTalker by p) 0 [] list tt h)

pub list-none : (by : Bool) (p : PacketJournal) (list : List Sided) → Conforms p.times → AllByRecursion (λ (x : Sided). IsPresentedOfTalker by p x.batch) list → differences list ≡ []
list-none by p list is h = pairs-none by p (pairs list) is (list-one by p list is h)

-- Let two listeners hear one talker, both with the clock or both without it. Then all batches that the listeners
-- present are batches of the talker.
both-presented : (shift : ℤ) (p : PacketJournal) (plan other : ListenPlan) (records others : List Record) → HearsTalker shift p plan records → HearsTalker shift p other others → by_clock other ≡ by_clock plan
    → AllByRecursion (λ (x : Sided). IsPresentedOfTalker (by_clock plan) p x.batch) (merged (presented_of (shown_of plan records)) (presented_of (shown_of other others)))
both-presented shift p plan other records others h k e =
    all-merged (λ (x : Sided). IsPresentedOfTalker (by_clock plan) p x.batch) (presented_of (shown_of plan records)) (presented_of (shown_of other others)) (presented-of-talker shift p plan records h)
    (subst (λ (b : Bool). AllByRecursion (IsPresentedOfTalker b p) (presented_of (shown_of other others))) e (presented-of-talker shift p other others k))

pub captures-one : (shift : ℤ) (p : PacketJournal) (plan other : ListenPlan) (records others : List Record) → HearsTalker shift p plan records → HearsTalker shift p other others → by_clock other ≡ by_clock plan
    → AllByRecursion (IsOneOf (by_clock plan) p) (pairs (merged (presented_of (shown_of plan records)) (presented_of (shown_of other others))))
captures-one shift p plan other records others h k e =
    list-one (by_clock plan) p (merged (presented_of (shown_of plan records)) (presented_of (shown_of other others))) h.conforming.times (both-presented shift p plan other records others h k e)

pub captures-none : (shift : ℤ) (p : PacketJournal) (plan other : ListenPlan) (records others : List Record) → HearsTalker shift p plan records → HearsTalker shift p other others → by_clock other ≡ by_clock plan
    → differences (merged (presented_of (shown_of plan records)) (presented_of (shown_of other others))) ≡ []
captures-none shift p plan other records others h k e =
    list-none (by_clock plan) p (merged (presented_of (shown_of plan records)) (presented_of (shown_of other others))) h.conforming.times (both-presented shift p plan other records others h k e)
