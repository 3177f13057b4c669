-- How one more event changes the stretch at the end of the events.
use Rattle.std.proofs.Common.{◌≡◌, ℕ, ◌-◌, Bool, true, false, ℤ, List, [], ◌∷◌, ◌++◌, length, Option, None, Some, refl, sym, ap, ◌∙◌, arith, length-append}
use Rattle.std.specs.Prelude.{◌&&◌, if◌then◌else◌}
use Rattle.std.specs.List.{list_any, list_all, flat_map}
use Rattle.std.specs.Ordering.{int_eq}
use mathlib.Core.Bool.{and_assoc}
use Rattle.std.proofs.lemmas.List.{append-nil}
use Rattle.std.proofs.lemmas.List.Elements.{filter_map-append}
use Rattle.std.proofs.lemmas.Grind.{flat_map-append}
use Rattle.std.proofs.Math.Seq.{take-append_seam}
use Rattle.std.proofs.Math.Bool.{and-true}
use Rattle.std.proofs.lemmas.Bool.{and_parts}
use Rattle.cvf_format.specs.declared.cvf.NalPart.{NalPart}
use Rattle.cvf_format.specs.declared.cvf.NalPart.TheVariants.{Single, First, Middle, Last}
use Rattle.cvf_format.specs.WholeOrBroken.{Fragment, Event, packet, cut, is_cut, after_cuts, begins, goes_on, completes, follows, are_linked, stamps, all_equal, is_stretch, stretch_of, last_stretch, unit_of, is_complete, before_last}
use Rattle.cvf_format.specs.Assembly.{first_stamp, last_of}
use Rattle.cvf_format.specs.state.Assembly.{agree}

-- ---- Booleans

pub and_left : (a b : Bool) → (a && b) ≡ true → a ≡ true
and_left a b e = (and_parts a b e).0

pub and_right : (a b : Bool) → (a && b) ≡ true → b ≡ true
and_right a b e = (and_parts a b e).1

regrouped : (b l f s a : Bool) → (b && (l && f) && (s && a)) ≡ ((b && l && s) && (f && a))
regrouped false l f s a = refl
regrouped true false f s a = refl
regrouped true true f true a = refl
regrouped true true false false a = refl
regrouped true true true false a = refl

-- ---- cuts

any_packet : (events : List Event) (f : Fragment) → list_any is_cut (events ++ packet f ∷ []) ≡ list_any is_cut events
any_packet [] f = refl
any_packet (cut ∷ events) f = refl
any_packet (packet g ∷ events) f = any_packet events f

any_cut : (events : List Event) → list_any is_cut (events ++ cut ∷ []) ≡ true
any_cut [] = refl
any_cut (cut ∷ events) = refl
any_cut (packet g ∷ events) = any_cut events

pub after_packet : (events : List Event) (f : Fragment) → after_cuts (events ++ packet f ∷ []) ≡ after_cuts events ++ f ∷ []
after_packet [] f = refl
after_packet (cut ∷ events) f = after_packet events f
after_packet (packet g ∷ events) f = rw (any_packet events f, after_packet events f) (same (list_any is_cut events))
  where
    same : (b : Bool) → (if b then (after_cuts events ++ f ∷ []) else (g ∷ (after_cuts events ++ f ∷ []))) ≡ (if b then after_cuts events else (g ∷ after_cuts events)) ++ f ∷ []
    same true = refl
    same false = refl

after_cut : (events : List Event) → after_cuts (events ++ cut ∷ []) ≡ []
after_cut [] = refl
after_cut (cut ∷ events) = after_cut events
after_cut (packet g ∷ events) = rw (any_cut events) (after_cut events)

-- ---- one more fragment

linked_more : (f : Fragment) (rest : List Fragment) (g : Fragment) → are_linked f (rest ++ g ∷ []) ≡ (are_linked f rest && follows (last_of f rest) g)
linked_more f [] g = and-true (follows f g)
linked_more f (h ∷ rest) g = rw (linked_more h rest g) (sym (and_assoc (follows f h) (are_linked h rest) (follows (last_of h rest) g)))

all_more : (t : ℤ) (ts : List ℤ) (u : ℤ) → list_all (int_eq t) (ts ++ u ∷ []) ≡ (list_all (int_eq t) ts && int_eq t u)
all_more t [] u = and-true (int_eq t u)
all_more t (v ∷ ts) u = rw (all_more t ts u) (sym (and_assoc (int_eq t v) (list_all (int_eq t) ts) (int_eq t u)))

equal_more : (ts : List ℤ) (u : ℤ) → all_equal (ts ++ u ∷ []) ≡ (all_equal ts && agree (first_stamp ts) (Some u))
equal_more [] u = refl
equal_more (t ∷ ts) u = all_more t ts u

agree_none : (t : Option ℤ) → agree t None ≡ true
agree_none None = refl
agree_none (Some t) = refl

pub stamps_more : (fs : List Fragment) (g : Fragment) → stamps (fs ++ g ∷ []) ≡ stamps fs ++ stamps (g ∷ [])
stamps_more fs g = filter_map-append (λ (f : Fragment). f.instant) fs (g ∷ [])

equal_stamps : (ts : List ℤ) (g : Fragment) (t : Option ℤ) → g.instant ≡ t → all_equal (ts ++ stamps (g ∷ [])) ≡ (all_equal ts && agree (first_stamp ts) g.instant)
equal_stamps ts g None e = rw (e, append-nil ts, agree_none (first_stamp ts), and-true (all_equal ts)) refl
equal_stamps ts g (Some t) e = rw e (equal_more ts t)

-- The packet continues the unit of the stretch's last packet. If both the packet and the stretch have an instant, the
-- two instants are equal.
abbrev pub continues : Fragment → List Fragment → Fragment → Bool
continues f rest g = follows (last_of f rest) g && agree (first_stamp (stamps (f ∷ rest))) g.instant

stretch_more : (f : Fragment) (rest : List Fragment) (g : Fragment) → is_stretch (f ∷ (rest ++ g ∷ [])) ≡ (is_stretch (f ∷ rest) && continues f rest g)
unfolding is_stretch
stretch_more f rest g =
    let l = linked_more f rest g in
    let s : all_equal (stamps (f ∷ (rest ++ g ∷ []))) ≡ (all_equal (stamps (f ∷ rest)) && agree (first_stamp (stamps (f ∷ rest))) g.instant) =
    ap all_equal (stamps_more (f ∷ rest) g) ∙ equal_stamps (stamps (f ∷ rest)) g g.instant refl in
    rw (l, s) (regrouped (begins f.part) (are_linked f rest) (follows (last_of f rest) g) (all_equal (stamps (f ∷ rest))) (agree (first_stamp (stamps (f ∷ rest))) g.instant))

one_equal : (g : Fragment) (t : Option ℤ) → g.instant ≡ t → all_equal (stamps (g ∷ [])) ≡ true
one_equal g None e = rw e refl
one_equal g (Some t) e = rw e refl

stretch_one : (g : Fragment) → is_stretch (g ∷ []) ≡ begins g.part
unfolding is_stretch
stretch_one g = rw (one_equal g g.instant refl) (and-true (begins g.part && true) ∙ and-true (begins g.part))

goes_not_begins : (p : NalPart) → goes_on p ≡ true → begins p ≡ false
goes_not_begins Single e = absurd cc
goes_not_begins First e = absurd cc
goes_not_begins Middle e = refl
goes_not_begins Last e = refl

not_stretch : (f : Fragment) (rest : List Fragment) → begins f.part ≡ false → is_stretch (f ∷ rest) ≡ false
unfolding is_stretch
not_stretch f rest e = rw e refl

stretch_linked : (f : Fragment) (rest : List Fragment) → is_stretch (f ∷ rest) ≡ true → are_linked f rest ≡ true
unfolding is_stretch
stretch_linked f rest e = and_right (begins f.part) (are_linked f rest) (and_left (begins f.part && are_linked f rest) (all_equal (stamps (f ∷ rest))) e)

follows_goes_on : (f g : Fragment) → follows f g ≡ true → goes_on g.part ≡ true
follows_goes_on f g e =
    and_right _ _ (and_left _ _ (and_left _ _ e))

-- if each packet of `rest` continues the unit of the packet before it, `rest` ends with no stretch
rest_none : (f : Fragment) (rest : List Fragment) → are_linked f rest ≡ true → stretch_of rest ≡ []
rest_none f [] e = refl
rest_none f (g ∷ rest) e =
    let g_goes : goes_on g.part ≡ true = follows_goes_on f g (and_left (follows f g) (are_linked g rest) e) in
    rw (not_stretch g rest (goes_not_begins g.part g_goes)) (rest_none g rest (and_right (follows f g) (are_linked g rest) e))

-- the stretch that one packet makes alone; empty if the packet does not begin a unit
abbrev pub alone : Fragment → List Fragment
alone g = if begins g.part then g ∷ [] else []

abbrev pub step : List Fragment → Fragment → List Fragment
step [] g = alone g
step (f ∷ rest) g = if continues f rest g then f ∷ (rest ++ g ∷ []) else alone g

step_more : (fs : List Fragment) (g : Fragment) → stretch_of (fs ++ g ∷ []) ≡ step (stretch_of fs) g
step_more [] g = rw (stretch_one g) refl
step_more (f ∷ rest) g = by_case (step_more rest g) (is_stretch (f ∷ rest)) (continues f rest g) refl refl
  where
    by_case : stretch_of (rest ++ g ∷ []) ≡ step (stretch_of rest) g → (b c : Bool) → is_stretch (f ∷ rest) ≡ b → continues f rest g ≡ c → stretch_of (f ∷ (rest ++ g ∷ [])) ≡ step (stretch_of (f ∷ rest)) g
    by_case more true true e k = rw (stretch_more f rest g, e, k) refl
    by_case more true false e k = rw (stretch_more f rest g, e, k) (more ∙ ap (λ (s : List Fragment). step s g) (rest_none f rest (stretch_linked f rest e)))
    by_case more false c e k = rw (stretch_more f rest g, e) more

pub last_packet : (events : List Event) (g : Fragment) → last_stretch (events ++ packet g ∷ []) ≡ step (last_stretch events) g
unfolding last_stretch
last_packet events g = ap stretch_of (after_packet events g) ∙ step_more (after_cuts events) g

pub last_cut : (events : List Event) → last_stretch (events ++ cut ∷ []) ≡ []
unfolding last_stretch
last_cut events = ap stretch_of (after_cut events)

-- ---- the last item

pub before_more : {A : Type 0} (xs : List A) (x : A) → before_last (xs ++ x ∷ []) ≡ xs
unfolding before_last
before_more xs x =
    let n : length (xs ++ x ∷ []) - 1 ≡ length xs = omega (arith, length-append xs (x ∷ [])) in
    rw n (take-append_seam xs (x ∷ []))

pub complete_more : (f : Fragment) (rest : List Fragment) (g : Fragment) → is_complete (f ∷ (rest ++ g ∷ [])) ≡ completes g.part
unfolding is_complete
complete_more f [] g = refl
complete_more f (h ∷ rest) g = complete_more h rest g

pub complete_one : (f : Fragment) → is_complete (f ∷ []) ≡ completes f.part
unfolding is_complete
complete_one f = refl

pub complete_last : (f : Fragment) (rest : List Fragment) → is_complete (f ∷ rest) ≡ completes (last_of f rest).part
unfolding is_complete
complete_last f [] = refl
complete_last f (h ∷ rest) = complete_last h rest

pub unit_more : (f : Fragment) (rest : List Fragment) (g : Fragment) → unit_of (f ∷ (rest ++ g ∷ [])) ≡ unit_of (f ∷ rest) ++ g.body
unit_more f rest g =
    let all = flat_map-append (λ (h : Fragment). h.body) (f ∷ rest) (g ∷ []) in
    ap (λ (bytes : List ℕ). f.nal ∷ bytes) (all ∙ ap (λ (b : List ℕ). flat_map (λ (h : Fragment). h.body) (f ∷ rest) ++ b) (append-nil g.body))

pub last_more : (f : Fragment) (rest : List Fragment) (g : Fragment) → last_of f (rest ++ g ∷ []) ≡ g
last_more f [] g = refl
last_more f (h ∷ rest) g = last_more h rest g
