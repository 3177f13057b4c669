-- `is_stretch` is true of exactly those lists of packets that the rules call a stretch.
use Rattle.std.proofs.Common.{◌≡◌, ◌+◌, ◌%◌, ◌≤◌, Bool, true, false, ◌⊎◌, inl, inr, ℤ, pos, List, [], ◌∷◌, ◌++◌, length, Option, None, Some, refl, sym, ap, subst, ◌∙◌, arith, append_assoc, eq-eqb, eqb-true}
use Rattle.std.specs.Prelude.{◌&&◌, if◌then◌else◌, map}
use Rattle.std.specs.List.{All, list_any, list_all}
use Rattle.std.specs.Option.{IfSome}
use Rattle.std.specs.Ordering.{int_eq}
use Rattle.std.proofs.lemmas.List.Elements.{All-cons, All-head, All-tail}
use Rattle.std.proofs.lemmas.List.{map-append}
use Rattle.std.proofs.lemmas.Bool.Decides.{Decides-int_eq}
use Rattle.std.proofs.lemmas.Bool.{not-true}
use Rattle.cvf_format.specs.WholeOrBroken.{Fragment, Event, packet, cut, is_cut, after_cuts, begins, completes, follows, are_linked, stamps, all_equal, is_stretch, stretch_of, last_stretch, sequence_numbers, is_within, is_complete, waiting, held, whole_of, most_fragments, longest_unit}
use Rattle.cvf_format.specs.StretchRules.{GoesOn, IsStretch, EndsWith}
use Rattle.cvf_format.proofs.StretchLemmas.{and_left, and_right}
use Rattle.cvf_format.proofs.AssemblyLemmas.{within_lengths}
use Rattle.cvf_format.proofs.SettledLemmas.{one_stretch}

-- ---- a packet and the next

goes_on_so : (x y : Fragment) → follows x y ≡ true → GoesOn x y
goes_on_so x y e =
    let three = and_left _ _ e in
    let two = and_left _ _ three in
    record {
      incomplete = not-true (completes x.part) (and_left _ _ two);
      part = and_right _ _ two;
      nal = eqb-true y.nal x.nal (and_right _ _ three);
      seq = eqb-true y.mark.seq ((x.mark.seq + 1) % sequence_numbers) (and_right _ _ e);
    }

follows_so : (x y : Fragment) → GoesOn x y → follows x y ≡ true
follows_so x y g = rw (g.incomplete, g.part, eq-eqb y.nal x.nal g.nal, eq-eqb y.mark.seq ((x.mark.seq + 1) % sequence_numbers) g.seq) refl

abbrev EachGoesOn : List Fragment → Type 0
EachGoesOn packets = (front : List Fragment) (before after : Fragment) (rest : List Fragment) → packets ≡ front ++ before ∷ (after ∷ rest) → GoesOn before after

linked_so : (f : Fragment) (rest : List Fragment) → EachGoesOn (f ∷ rest) → are_linked f rest ≡ true
linked_so f [] g = refl
linked_so f (h ∷ rest) g =
    rw (follows_so f h (g [] f h rest refl)) (linked_so h rest (λ front x y more e. g (f ∷ front) x y more (ap (λ (fs : List Fragment). f ∷ fs) e)))

none_apart : (front : List Fragment) (x : Fragment) (rest : List Fragment) → [] ≡ front ++ x ∷ rest → ⊥
none_apart [] x rest e = absurd cc
none_apart (g ∷ front) x rest e = absurd cc

each_goes_on : (f : Fragment) (rest : List Fragment) → are_linked f rest ≡ true → EachGoesOn (f ∷ rest)
each_goes_on f [] l [] x y more e = absurd cc
each_goes_on f (h ∷ rest) l [] x y more e =
    let here = goes_on_so f h (and_left (follows f h) (are_linked h rest) l) in
    let one : f ≡ x = cc in
    let two : h ≡ y = cc in
    subst (λ (z : Fragment). GoesOn x z) two (subst (λ (z : Fragment). GoesOn z h) one here)
each_goes_on f [] l (g ∷ front) x y more e =
    let none : [] ≡ front ++ x ∷ (y ∷ more) = cc in
    absurd (none_apart front x (y ∷ more) none)
each_goes_on f (h ∷ rest) l (g ∷ front) x y more e =
    let tail : h ∷ rest ≡ front ++ x ∷ (y ∷ more) = cc in
    each_goes_on h rest (and_right (follows f h) (are_linked h rest) l) front x y more tail

-- ---- one instant

abbrev HasInstant : ℤ → Fragment → Type 0
HasInstant t f = IfSome f.instant (λ stamp. stamp ≡ t)

-- the instant of a packet, if it has one, followed by the list of instants
abbrev with_stamp : Option ℤ → List ℤ → List ℤ
with_stamp None ts = ts
with_stamp (Some t) ts = t ∷ ts

stamps_first : (f : Fragment) (fs : List Fragment) (o : Option ℤ) → f.instant ≡ o → stamps (f ∷ fs) ≡ with_stamp o (stamps fs)
stamps_first f fs None is = rw is refl
stamps_first f fs (Some t) is = rw is refl

all_have : (t : ℤ) (fs : List Fragment) → list_all (int_eq t) (stamps fs) ≡ true → All (HasInstant t) fs
all_have t [] e = λ k d lt. absurd (omega arith)
all_have t (f ∷ fs) e = by (all_have t fs) f.instant refl
  where
    by : (list_all (int_eq t) (stamps fs) ≡ true → All (HasInstant t) fs) → (o : Option ℤ) → f.instant ≡ o → All (HasInstant t) (f ∷ fs)
    by more None is =
        let all : list_all (int_eq t) (stamps fs) ≡ true = ap (list_all (int_eq t)) (sym (stamps_first f fs None is)) ∙ e in
        All-cons (HasInstant t) f fs (rw is tt) (more all)
    by more (Some u) is =
        let all : (int_eq t u && list_all (int_eq t) (stamps fs)) ≡ true = ap (list_all (int_eq t)) (sym (stamps_first f fs (Some u) is)) ∙ e in
        let same : t ≡ u = (Decides-int_eq t u).0 (and_left _ _ all) in
        All-cons (HasInstant t) f fs (rw is (sym same)) (more (and_right _ _ all))

pub all_are : (t : ℤ) (fs : List Fragment) → All (HasInstant t) fs → list_all (int_eq t) (stamps fs) ≡ true
all_are t [] a = refl
all_are t (f ∷ fs) a = by (all_are t fs (All-tail (HasInstant t) f fs a)) f.instant refl
  where
    by : list_all (int_eq t) (stamps fs) ≡ true → (o : Option ℤ) → f.instant ≡ o → list_all (int_eq t) (stamps (f ∷ fs)) ≡ true
    by more None is = ap (list_all (int_eq t)) (stamps_first f fs None is) ∙ more
    by more (Some u) is =
        let here : IfSome f.instant (λ stamp. stamp ≡ t) = All-head (HasInstant t) f fs a in
        let same : u ≡ t = rw is at here in
        let equal : int_eq t u ≡ true = (Decides-int_eq t u).1 (sym same) in
        ap (list_all (int_eq t)) (stamps_first f fs (Some u) is) ∙ rw (equal, more) refl

pub equal_so : (t : ℤ) (ts : List ℤ) → list_all (int_eq t) ts ≡ true → all_equal ts ≡ true
equal_so t [] e = refl
equal_so t (u ∷ us) e =
    let same : t ≡ u = (Decides-int_eq t u).0 (and_left (int_eq t u) (list_all (int_eq t) us) e) in
    subst (λ (x : ℤ). list_all (int_eq x) us ≡ true) same (and_right (int_eq t u) (list_all (int_eq t) us) e)

one_instant : (fs : List Fragment) (ts : List ℤ) → stamps fs ≡ ts → all_equal ts ≡ true → (t : ℤ) × All (HasInstant t) fs
one_instant fs [] is e = (pos 0, all_have (pos 0) fs (ap (list_all (int_eq (pos 0))) is))
one_instant fs (t ∷ ts) is e =
    let self : int_eq t t ≡ true = (Decides-int_eq t t).1 refl in
    let all : list_all (int_eq t) (t ∷ ts) ≡ true = rw (self, e) refl in
    (t, all_have t fs (ap (list_all (int_eq t)) is ∙ all))

-- ---- the test

pub stretch_so : (run : List Fragment) → is_stretch run ≡ true → IsStretch run
unfolding is_stretch
stretch_so [] e = absurd cc
stretch_so (f ∷ rest) e =
    let two = and_left (begins f.part && are_linked f rest) (all_equal (stamps (f ∷ rest))) e in
    record {
      some = λ q. cc;
      first = λ g more q. let one : f ≡ g = cc in subst (λ (h : Fragment). begins h.part ≡ true) one (and_left (begins f.part) (are_linked f rest) two);
      others = each_goes_on f rest (and_right (begins f.part) (are_linked f rest) two);
      one_instant = one_instant (f ∷ rest) (stamps (f ∷ rest)) refl (and_right (begins f.part && are_linked f rest) (all_equal (stamps (f ∷ rest))) e);
    }

pub stretch_is : (run : List Fragment) → IsStretch run → is_stretch run ≡ true
unfolding is_stretch
stretch_is [] s = absurd (s.some refl)
stretch_is (f ∷ rest) s =
    let equal = equal_so s.one_instant.0 (stamps (f ∷ rest)) (all_are s.one_instant.0 (f ∷ rest) s.one_instant.1) in
    rw (s.first f rest refl, linked_so f rest s.others, equal) refl

-- ---- the stretch at the end of a list

pub only_stretch : (events : List Event) (run : List Fragment) → EndsWith events run → last_stretch events ≡ run
only_stretch events run e = one_stretch events run e.front e.is (stretch_is run e.stretches)

record EndsIn (fs run : List Fragment) : Type 0 where
  front : List Fragment
  is : fs ≡ front ++ run
  stretches : is_stretch run ≡ true

ends_in : (fs : List Fragment) → (stretch_of fs ≡ []) ⊎ EndsIn fs (stretch_of fs)
ends_in [] = inl refl
ends_in (f ∷ fs) = by (ends_in fs) (is_stretch (f ∷ fs)) refl
  where
    by : (stretch_of fs ≡ []) ⊎ EndsIn fs (stretch_of fs) → (b : Bool) → is_stretch (f ∷ fs) ≡ b → (stretch_of (f ∷ fs) ≡ []) ⊎ EndsIn (f ∷ fs) (stretch_of (f ∷ fs))
    by more true e = rw e (inr (record { front = []; is = refl; stretches = e }))
    by (inl none) false e = rw e (inl none)
    by (inr k) false e = rw e (inr (record { front = f ∷ k.front; is = ap (λ (xs : List Fragment). f ∷ xs) k.is; stretches = k.stretches }))

all_packets : (events : List Event) → list_any is_cut events ≡ false → events ≡ map packet (after_cuts events)
all_packets [] e = refl
all_packets (cut ∷ events) e = absurd cc
all_packets (packet f ∷ events) e = rw e (ap (λ (es : List Event). packet f ∷ es) (all_packets events e))

after_ends : (events : List Event) → (front : List Event) × (events ≡ front ++ map packet (after_cuts events))
after_ends [] = ([], refl)
after_ends (cut ∷ events) = let rest = after_ends events in (cut ∷ rest.0, ap (λ (es : List Event). cut ∷ es) rest.1)
after_ends (packet f ∷ events) = by (after_ends events) (list_any is_cut events) refl
  where
    by : ((front : List Event) × (events ≡ front ++ map packet (after_cuts events))) → (b : Bool) → list_any is_cut events ≡ b
        → (front : List Event) × (packet f ∷ events ≡ front ++ map packet (after_cuts (packet f ∷ events)))
    by rest true e = rw e (packet f ∷ rest.0, ap (λ (es : List Event). packet f ∷ es) rest.1)
    by rest false e = rw e ([], ap (λ (es : List Event). packet f ∷ es) (all_packets events e))

pub some_stretch : (events : List Event) → (last_stretch events ≡ []) ⊎ EndsWith events (last_stretch events)
unfolding last_stretch
some_stretch events =
    let here = after_ends events in
    elim (ends_in (after_cuts events)) [
      | inl none ↦ inl none
      | inr k ↦ inr (record {
        front = here.0 ++ map packet k.front;
        is =
            here.1
            ∙ ap (λ (fs : List Fragment). here.0 ++ map packet fs) k.is
            ∙ ap (λ (es : List Event). here.0 ++ es) (map-append packet k.front (stretch_of (after_cuts events)))
            ∙ sym (append_assoc here.0 (map packet k.front) (map packet (stretch_of (after_cuts events))));
        stretches = stretch_so (stretch_of (after_cuts events)) k.stretches;
      })
    ]

-- ---- the limits

pub few_wait : (stretch : List Fragment) → length (waiting stretch) ≤ most_fragments
few_wait stretch = by (is_within stretch) (is_complete stretch) refl refl
  where
    by : (w c : Bool) → is_within stretch ≡ w → is_complete stretch ≡ c → length (waiting stretch) ≤ most_fragments
    by false c p q = rw p (omega arith)
    by true true p q = rw (p, q) (omega arith)
    by true false p q = rw (p, q) ((within_lengths stretch p).1)

pub few_given_up : (before : List Event) (joined : Bool) → length (if joined then [] else held before) ≤ most_fragments
few_given_up before true = omega arith
few_given_up before false = few_wait (last_stretch before)

pub short_unit : (stretch : List Fragment) → length (whole_of stretch) ≤ longest_unit
short_unit stretch = by (is_within stretch) (is_complete stretch) refl refl
  where
    by : (w c : Bool) → is_within stretch ≡ w → is_complete stretch ≡ c → length (whole_of stretch) ≤ longest_unit
    by false c p q = rw p (omega arith)
    by true false p q = rw (p, q) (omega arith)
    by true true p q = rw (p, q) ((within_lengths stretch p).0)
